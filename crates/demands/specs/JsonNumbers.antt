-- The numbers that a reader of JSON finds in a text: what stands in no string and is made of the bytes of numbers.
use Rattle.std.specs.Prelude.{ℕ, zero, suc, Bool, cond, ◌&&◌, ◌||◌, List, [], ◌∷◌, ◌++◌, eqb, leb, Option}
use Rattle.events.specs.Events.{event_at}
use Rattle.events.specs.Listing.{fields}
use Rattle.events.specs.declared.Reading.{Reading}
use Rattle.text.specs.declared.Line.{Line}
use Rattle.trace.specs.Slots.{event_count}
use Rattle.trace.specs.declared.Header.{Header}

-- where the reader stands: in no string; in a number, with its bytes so far; in a string; in a string, behind a backslash
pub data Stand : Type 0 where
  outside : Stand
  number : List ℕ → Stand
  string : Stand
  slashed : Stand

abbrev pub is_digit : ℕ → Bool
is_digit c = leb 48 c && leb c 57

-- a number of JSON begins with a digit or a minus sign
abbrev pub is_number_start : ℕ → Bool
is_number_start c = is_digit c || eqb c 0x2D

-- and is made of digits, + - . E e
abbrev pub is_number_byte : ℕ → Bool
is_number_byte c = is_digit c || (eqb c 0x2B || (eqb c 0x2D || (eqb c 0x2E || (eqb c 0x45 || eqb c 0x65))))

abbrev pub is_quote : ℕ → Bool
is_quote c = eqb c 0x22

abbrev pub is_slash : ℕ → Bool
is_slash c = eqb c 0x5C

-- the numbers from there on, each as its bytes: outside strings, a digit or a minus sign begins a number, bytes of numbers go on with it, and any other ends it;
-- a quote begins a string or ends it, unless it stands behind a backslash
unfoldable pub numbers_read : Stand → List ℕ → List (List ℕ)
numbers_read outside [] = []
numbers_read (number bytes) [] = bytes ∷ []
numbers_read string [] = []
numbers_read slashed [] = []
numbers_read outside (c ∷ text) = cond (is_number_start c) (numbers_read (number (c ∷ [])) text) (cond (is_quote c) (numbers_read string text) (numbers_read outside text))
numbers_read (number bytes) (c ∷ text) =
    cond (is_number_byte c) (numbers_read (number (bytes ++ (c ∷ []))) text) (bytes ∷ cond (is_quote c) (numbers_read string text) (numbers_read outside text))
numbers_read string (c ∷ text) = cond (is_quote c) (numbers_read outside text) (cond (is_slash c) (numbers_read slashed text) (numbers_read string text))
numbers_read slashed (c ∷ text) = numbers_read string text

abbrev pub json_numbers : List ℕ → List (List ℕ)
json_numbers text = numbers_read outside text

-- every number of a line, and of the first n lines of a listing, in their order
abbrev pub numbers_of : Line → List ℕ
numbers_of l =
    l.key ∷ l.ticks ∷ l.us ∷ l.id ∷ l.ptr ∷ l.field ∷ l.info.first ∷ l.info.second ∷ l.info.third ∷ l.info.fourth ∷ []

unfoldable pub numbers_to : ℕ → Option (List ℕ) → List ℕ → Header → Reading → List ℕ
numbers_to zero file s h r = []
numbers_to (suc n) file s h r = numbers_to n file s h r ++ numbers_of (fields r n (event_at file s h n))

-- every number of a listing
abbrev pub listed_numbers : Option (List ℕ) → List ℕ → Header → Reading → List ℕ
listed_numbers file s h r = numbers_to (event_count s h) file s h r
