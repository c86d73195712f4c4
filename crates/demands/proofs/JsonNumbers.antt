-- What a reader of JSON finds in a line, and in a listing, as numbers: the digits of those that are bare, in their order.
use Rattle.std.specs.Prelude.{None, Option, Some}
use Prim.Native.Nat.{ℕ, zero, suc, ◌/◌, ◌%◌}
use mathlib.Core.Bool.{Bool, true, false, cond}
use mathlib.Core.List.{List, [], ◌∷◌, ◌++◌, append_assoc, append-nil, map, map-append}
use mathlib.Core.Path.{◌≡◌, refl, ◌∙◌}
use native.Mathlib.Omega.{arith}
use Rattle.events.specs.Events.{event_at}
use Rattle.events.specs.Listing.{fields, line_at, line_of, lines_to, listing_text, title_in}
use Rattle.events.specs.declared.Reading.{Reading}
use Rattle.text.specs.Ascii.{choose}
use Rattle.text.specs.Lines.{Part, Value, event_parts, line, listed, named, numbers_in, numeric, object_text, part_text, parts, separated, truth, value_numbers, value_text, word}
use Rattle.text.specs.Names.{escape, escaped, hex_digit, name}
use Rattle.text.specs.Numbers.{digits, is_bare, number, quoted}
use Rattle.text.specs.declared.Line.{Line}
use Rattle.trace.proofs.Ring.{keep_append}
use Rattle.trace.specs.Names.{name_bytes}
use Rattle.trace.specs.Ring.{keep}
use Rattle.trace.specs.Slots.{event_count}
use Rattle.trace.specs.declared.Header.{Header}
use Rattle.words.specs.Each.{Each}
use Rattle.demands.specs.Json as json
use Rattle.demands.specs.JsonNumbers.{json_numbers, listed_numbers, numbers_of, numbers_read, numbers_to}
use Rattle.demands.proofs.Json.{Has, Passed, braces, brackets, byte_passed, colon, comma, empty, followed, joined, literal_has, number_has, quotes, string_has, whole}
use Rattle.demands.proofs.JsonTexts.{digits_number, part-text, plain_string}
use Rattle.demands.proofs.Plain.{All, Plain, PlainPart, by_escape, by_hex, digits_plain, line_plain, word_in}

abbrev bare : List ℕ → List (List ℕ)
bare ns = map digits (keep is_bare ns)

bare_append : (ms ns : List ℕ) → bare (ms ++ ns) ≡ bare ms ++ bare ns
bare_append ms ns = rw (keep_append is_bare ms ns, map-append)

-- a number is one of JSON or a string
number_read : (n : ℕ) → Has (number n) (bare (n ∷ []))
unfolding number keep
number_read n = by (is_bare n)
  where
    by : (is : Bool) → Has (choose is (digits n) (quoted (digits n))) (map digits (cond is (n ∷ []) []))
    by true = number_has (digits_number n)
    by false = string_has (plain_string (digits_plain n))

-- a name is passed over, whatever its bytes
hex_passed : (d : ℕ) → Passed (hex_digit d ∷ [])
hex_passed d = by_hex d (λ c. Passed (c ∷ [])) (λ small. byte_passed _ (omega arith) (omega arith)) (λ large. byte_passed _ (omega arith) (omega arith))

escape_passed : (b : ℕ) → Passed (escape b)
unfolding numbers_read
escape_passed b =
    by_escape b Passed (λ rest. hex_passed (b / 16) (hex_digit (b % 16) ∷ rest) ∙ hex_passed (b % 16) rest)
    (λ rest. refl) (λ rest. refl) (λ plain. byte_passed b plain.quote plain.slash)

escaped_passed : (bytes : List ℕ) → Passed (escaped bytes)
unfolding escaped
escaped_passed [] rest = refl
escaped_passed (b ∷ bytes) rest = rw (append_assoc (escape b) (escaped bytes) rest) (escape_passed b (escaped bytes ++ rest) ∙ escaped_passed bytes rest)

name_read : (n : Option (List ℕ)) → Has (name n) []
unfolding name quoted
name_read None = literal_has json.null
name_read (Some bytes) = quotes (escaped bytes) (escaped_passed bytes)

-- values, parts, and a line
numbers-read : (ns : List ℕ) → Has (separated (map number ns)) (bare ns)
unfolding keep
numbers-read [] = empty
numbers-read (n ∷ []) = number_read n
numbers-read (n ∷ m ∷ ns) = rw (append_assoc (number n), bare_append (n ∷ [])) (comma (number_read n) (numbers-read (m ∷ ns)))

value_read : (v : Value) → All Plain (word_in v) → Has (value_text v) (bare (value_numbers v))
unfolding value_text keep
value_read (numeric n) plain = number_read n
value_read (named n) plain = name_read n
value_read (word w) plain = string_has (plain_string plain)
value_read (truth true) plain = literal_has json.true
value_read (truth false) plain = literal_has json.false
value_read (listed ns) plain = brackets (numbers-read ns)

part_read : (p : Part) → PlainPart p → Has (part_text p) (bare (value_numbers p.value))
part_read p plain = rw (part-text p) (colon (string_has (plain_string plain.label)) (value_read p.value plain.word))

parts_read : (ps : List Part) → Each PlainPart ps → Has (separated (map part_text ps)) (bare (numbers_in ps))
unfolding numbers_in keep
parts_read [] plain = empty
parts_read (p ∷ []) plain = rw (append-nil (value_numbers p.value)) (part_read p plain.0)
parts_read (p ∷ q ∷ ps) plain =
    rw (append_assoc (part_text p), bare_append (value_numbers p.value)) (comma (part_read p plain.0) (parts_read (q ∷ ps) plain.1))

object_read : (ps : List Part) → Each PlainPart ps → Has (object_text ps) (bare (numbers_in ps))
unfolding object_text
object_read ps plain = braces (parts_read ps plain)

pub object_numbers : (ps : List Part) → Each PlainPart ps → json_numbers (object_text ps) ≡ map digits (keep is_bare (numbers_in ps))
object_numbers ps plain = whole (object_read ps plain)

-- the numbers of a line are those of its parts, with an event's name and without
pub numbers_are : (l : Line) (event : Option (Option (List ℕ))) (n : Option (List ℕ)) → numbers_in (parts l event n) ≡ numbers_of l
unfolding event_parts parts numbers_in
numbers_are l None n = refl
numbers_are l (Some title) n = refl

line_read : (l : Line) (event : Option (Option (List ℕ))) (n : Option (List ℕ)) → Has (line l event n) (bare (numbers_of l))
unfolding line
line_read l event n =
    rw (append-nil (bare (numbers_of l))) at
    (joined 0x0A (refl, refl, refl) (rw (numbers_are l event n) at (object_read (parts l event n) (line_plain l event n))) empty)

-- the line of an event, and lines one after another
module _ (file : Option (List ℕ)) (s : List ℕ) (h : Header) (r : Reading) where
  line_found : (position : ℕ) → Has (line_at file s h r position) (bare (numbers_of (fields r position (event_at file s h position))))
  unfolding line_of
  line_found position = let event = event_at file s h position in line_read (fields r position event) (title_in file s event) (name_bytes file s event.name)

  lines_found : (n : ℕ) → Has (lines_to n file s h r) (bare (numbers_to n file s h r))
  unfolding lines_to numbers_to keep line_of line object_text numbers_read
  lines_found zero = empty
  lines_found (suc n) = rw (bare_append (numbers_to n file s h r)) (followed (lines_found n) (line_found n) (λ rest bytes. refl))

  pub listing_numbers : json_numbers (listing_text file s h r) ≡ map digits (keep is_bare (listed_numbers file s h r))
  listing_numbers = whole (lines_found (event_count s h))

  pub line_numbers : (position : ℕ) → json_numbers (line_at file s h r position) ≡ map digits (keep is_bare (numbers_of (fields r position (event_at file s h position))))
  line_numbers position = whole (line_found position)

-- what a printer of one line or of one number writes
pub one_line_numbers : (l : Line) (event : Option (Option (List ℕ))) (named : Option (List ℕ)) → json_numbers (line l event named) ≡ map digits (keep is_bare (numbers_of l))
one_line_numbers l event n = whole (line_read l event n)

pub one_name : (n : Option (List ℕ)) → json_numbers (name n) ≡ []
one_name n = whole (name_read n)

pub one_number : (n : ℕ) → json_numbers (number n) ≡ map digits (keep is_bare (n ∷ []))
one_number n = whole (number_read n)
