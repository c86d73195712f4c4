-- What a page reads where a call wrote a number: of bare digits a double, of a string its characters; and when it takes two for one.
use Rattle.std.specs.Prelude.{ℕ, zero, suc, ◌<◌, cond, List, [], ◌∷◌, ◌≡◌, eqb, Float, pos, drop, length, take, Ok, Option}
use Rattle.std.specs.Float.{binary64}
use Rattle.std.specs.Float.Ieee.{of_int}
use Rattle.events.specs.Listing.{Gave, line_at, line_rows, listing_rows, listing_text}
use Rattle.events.specs.declared.Reading.{Reading}
use Rattle.text.specs.Ascii.{ascii}
use Rattle.text.specs.ReadBack.{decimal, inside, is_quoted}
use Rattle.trace.specs.Layout.{header_of}
use Rattle.trace.specs.Slots.{event_count}

-- A NUMBER

-- the double that a page gets for the digits of n
abbrev pub as_double : ℕ → Float
as_double n = of_int binary64 (pos n)

-- what it has of a number: a double, or the characters of a string
pub data OnPage : Type 0 where
  float : Float → OnPage
  string : List ℕ → OnPage

abbrev pub read_by_page : List ℕ → OnPage
read_by_page text = cond (is_quoted text) (string (inside text)) (float (as_double (decimal text)))

-- a page takes two for one where they are equal; between a double and a string, where the string's double is that one, as a loose comparison has it
abbrev pub TakenForOne : OnPage → OnPage → Type 0
TakenForOne (float x) (float y) = x ≡ y
TakenForOne (string s) (string t) = s ≡ t
TakenForOne (float x) (string t) = x ≡ as_double (decimal t)
TakenForOne (string s) (float y) = as_double (decimal s) ≡ y

-- A LINE, AND ITS KEY

-- what stands before the first byte c of a text, and what stands behind it
unfoldable pub up_to : ℕ → List ℕ → List ℕ
up_to c [] = []
up_to c (b ∷ text) = cond (eqb b c) [] (b ∷ up_to c text)

unfoldable pub behind : ℕ → List ℕ → List ℕ
behind c [] = []
behind c (b ∷ text) = cond (eqb b c) text (behind c text)

-- the line at a position, without the 0A that ends it
unfoldable pub line_in : List ℕ → ℕ → List ℕ
line_in text zero = up_to 0x0A text
line_in text (suc p) = line_in (behind 0x0A text) p

-- the text of a line's key, which comes first
abbrev pub key_text : List ℕ → List ℕ
key_text line = up_to 0x2C (drop (length (ascii "{\"key\":")) line)

-- a line that was written for the event at a position of a reading, with a name file or without: in a listing, or by itself
pub data WrittenLine (r : Reading) (p : ℕ) (line : List ℕ) : Type 0 where
  in_listing : (file : Option (List ℕ)) (s old new : List ℕ) (n : ℕ)
      → Gave (listing_rows file s (header_of s) r (length old)) (listing_text file s (header_of s) r) old new (Ok n)
      → p < event_count s (header_of s) → line ≡ line_in (take n new) p → WrittenLine r p line
  by_itself : (file : Option (List ℕ)) (s old new : List ℕ) (n : ℕ)
      → Gave (line_rows file s (header_of s) r p (length old)) (line_at file s (header_of s) r p) old new (Ok n)
      → line ≡ line_in (take n new) 0 → WrittenLine r p line
