-- A line ends with byte 0A and has no other: it is its parts' text and that byte, and no part has one.
use Rattle.std.specs.Prelude.{None, Option, Some}
use Prim.Native.Nat.{ℕ, ◌/◌, ◌%◌}
use mathlib.Core.Bool.{Bool, true, false}
use mathlib.Core.List.{List, [], ◌∷◌, ◌++◌, map}
use mathlib.Core.Path.{◌≡◌, refl}
use native.Mathlib.Omega.{arith}
use Rattle.events.specs.Listing.{line_at, line_of, lines_to, listing_text}
use Rattle.events.specs.declared.Reading.{Reading}
use Rattle.text.specs.Ascii.{ascii, choose}
use Rattle.text.specs.Lines.{Part, Value, line, listed, named, numeric, object_text, part_text, parts, separated, truth, value_text, word}
use Rattle.text.specs.Names.{escape, escaped, hex_digit, hexed, name}
use Rattle.text.specs.Numbers.{digits, is_bare, number, quoted}
use Rattle.text.specs.declared.Line.{Line}
use Rattle.trace.specs.Slots.{event_count}
use Rattle.trace.specs.declared.Header.{Header}
use Rattle.words.specs.Each.{Each}
use Rattle.demands.proofs.Plain.{All, Plain, PlainPart, both, by_escape, by_hex, byte, digits_plain, line_plain, no_byte, word_in}

-- no byte is 0A
abbrev Other : ℕ → Type 0
Other c = c ≡ 0x0A → ⊥

abbrev Unbroken : List ℕ → Type 0
Unbroken text = All Other text

-- as a list of facts, which `omega` proves of a text that is known
unbroken : (text : List ℕ) → Each Other text → Unbroken text
unbroken [] each = no_byte
unbroken (c ∷ text) each = byte each.0 (unbroken text each.1)

each_other : {text : List ℕ} → Unbroken text → Each Other text
each_other no_byte = tt
each_other (byte other more) = (other, each_other more)

plain_other : {c : ℕ} → Plain c → Other c
plain_other plain = omega arith

plain_unbroken : {text : List ℕ} → All Plain text → Unbroken text
plain_unbroken no_byte = no_byte
plain_unbroken (byte plain more) = byte (plain_other plain) (plain_unbroken more)

-- with a byte between two texts, and with one at both ends
joined : {c : ℕ} {a b : List ℕ} → Other c → Unbroken a → Unbroken b → Unbroken (a ++ (c ∷ []) ++ b)
joined other first second = both (both first (byte other no_byte)) second

enclosed : {c d : ℕ} {text : List ℕ} → Other c → Other d → Unbroken text → Unbroken (c ∷ text ++ (d ∷ []))
enclosed before behind inside = byte before (both inside (byte behind no_byte))

quoted_unbroken : {text : List ℕ} → Unbroken text → Unbroken (quoted text)
unfolding quoted
quoted_unbroken inside = enclosed (omega arith) (omega arith) inside

number_unbroken : (n : ℕ) → Unbroken (number n)
unfolding number
number_unbroken n = by (is_bare n)
  where
    by : (bare : Bool) → Unbroken (choose bare (digits n) (quoted (digits n)))
    by true = plain_unbroken (digits_plain n)
    by false = quoted_unbroken (plain_unbroken (digits_plain n))

hex_other : (d : ℕ) → Other (hex_digit d)
hex_other d = by_hex d Other (λ small. omega arith) (λ large. omega arith)

escape_unbroken : (b : ℕ) → Unbroken (escape b)
escape_unbroken b =
    by_escape b Unbroken (unbroken (hexed b) (omega (arith, hex_other (b / 16), hex_other (b % 16))))
    (unbroken (ascii "\\\"") (omega arith)) (unbroken (ascii "\\\\") (omega arith)) (λ plain. byte (plain_other plain) no_byte)

escaped_unbroken : (bytes : List ℕ) → Unbroken (escaped bytes)
unfolding escaped
escaped_unbroken [] = no_byte
escaped_unbroken (b ∷ bytes) = both (escape_unbroken b) (escaped_unbroken bytes)

name_unbroken : (n : Option (List ℕ)) → Unbroken (name n)
unfolding name
name_unbroken None = unbroken (ascii "null") (omega arith)
name_unbroken (Some bytes) = quoted_unbroken (escaped_unbroken bytes)

numbers_unbroken : (ns : List ℕ) → Unbroken (separated (map number ns))
numbers_unbroken [] = no_byte
numbers_unbroken (n ∷ []) = number_unbroken n
numbers_unbroken (n ∷ m ∷ ns) = joined (omega arith) (number_unbroken n) (numbers_unbroken (m ∷ ns))

value_unbroken : (v : Value) → All Plain (word_in v) → Unbroken (value_text v)
unfolding value_text
value_unbroken (numeric n) plain = number_unbroken n
value_unbroken (named n) plain = name_unbroken n
value_unbroken (word w) plain = quoted_unbroken (plain_unbroken plain)
value_unbroken (truth true) plain = unbroken (ascii "true") (omega arith)
value_unbroken (truth false) plain = unbroken (ascii "false") (omega arith)
value_unbroken (listed ns) plain = enclosed (omega arith) (omega arith) (numbers_unbroken ns)

part_unbroken : (p : Part) → PlainPart p → Unbroken (part_text p)
unfolding part_text
part_unbroken p plain = joined (omega arith) (quoted_unbroken (plain_unbroken plain.label)) (value_unbroken p.value plain.word)

parts_unbroken : (ps : List Part) → Each PlainPart ps → Unbroken (separated (map part_text ps))
parts_unbroken [] plain = no_byte
parts_unbroken (p ∷ []) plain = part_unbroken p plain.0
parts_unbroken (p ∷ q ∷ ps) plain = joined (omega arith) (part_unbroken p plain.0) (parts_unbroken (q ∷ ps) plain.1)

object_unbroken : (ps : List Part) → Each PlainPart ps → Unbroken (object_text ps)
unfolding object_text
object_unbroken ps plain = enclosed (omega arith) (omega arith) (parts_unbroken ps plain)

module _ (l : Line) (event : Option (Option (List ℕ))) (n : Option (List ℕ)) where
  pub line_unbroken : All (λ c. c ≡ 0x0A → ⊥) (object_text (parts l event n))
  line_unbroken = object_unbroken (parts l event n) (line_plain l event n)

  line_ended : (body : List ℕ) × (line l event n ≡ body ++ (0x0A ∷ [])) × Each (λ c. c ≡ 0x0A → ⊥) body
  unfolding line
  line_ended = (object_text (parts l event n), refl, each_other line_unbroken)

pub one_line : (file : Option (List ℕ)) (s : List ℕ) (h : Header) (r : Reading) (position : ℕ)
    → (body : List ℕ) × (line_at file s h r position ≡ body ++ (0x0A ∷ [])) × Each (λ c. c ≡ 0x0A → ⊥) body
unfolding line_of
one_line file s h r position = line_ended _ _ _

-- no event, no line
pub empty_ring : (file : Option (List ℕ)) (s : List ℕ) (h : Header) (r : Reading) → event_count s h ≡ 0 → listing_text file s h r ≡ []
unfolding lines_to
empty_ring file s h r empty = rw empty
