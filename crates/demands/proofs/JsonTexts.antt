-- Whatever parts are in an object, each is a member by RFC 8259, where labels and words are plain and names are of bytes.
use Rattle.std.specs.Prelude.{None, Option, Some}
use Prim.Native.Nat.{ℕ, zero, suc, ◌/◌, ◌%◌, ◌≤◌, ◌<◌}
use mathlib.Core.Bool.{Bool, true, false}
use mathlib.Core.List.{List, [], ◌∷◌, ◌++◌, append_assoc, append-nil, map}
use mathlib.Core.Logic.{inl, inr}
use mathlib.Core.Path.{◌≡◌, refl, sym, ap, ◌∙◌}
use native.Mathlib.Omega.{arith}
use Rattle.text.proofs.Digits.{by_tenths, digits_more, digits_one}
use Rattle.text.proofs.ReadBack.{digits_back}
use Rattle.text.specs.Ascii.{ascii, choose}
use Rattle.text.specs.Lines.{Part, Value, listed, named, numeric, part_text, separated, truth, value_text, word}
use Rattle.text.specs.Names.{escape, escaped, hex_digit, name}
use Rattle.text.specs.Numbers.{digit, digits, is_bare, number, quoted}
use Rattle.text.specs.ReadBack.{IsName, decimal, decimal_after}
use Rattle.words.specs.Each.{Each}
use Rattle.words.specs.Words.{AreBytes}
use Rattle.demands.specs.Json as json
use Rattle.demands.specs.Json.{Char, Chars, Digits, Int, IsHexDigit, Members, Number, Str, Values, json_text, members_text, more_members, more_values, values_text}
use Rattle.demands.specs.JsonContents.{Member, members_of}
use Rattle.demands.proofs.Plain.{All, Plain, PlainPart, by_escape, by_hex, byte, digits_plain, no_byte, word_in}

-- plain bytes are characters, and so are the escapes of bytes
plain_char : {c : ℕ} → Plain c → Char (c ∷ [])
plain_char plain = json.unescaped plain.low (omega arith) plain.quote plain.slash

plain_chars : {text : List ℕ} → All Plain text → Chars text
plain_chars no_byte = json.no_char
plain_chars (byte plain more) = json.chars (plain_char plain) (plain_chars more)

pub plain_string : {text : List ℕ} → All Plain text → Str (quoted text)
unfolding quoted
plain_string plain = json.string_of (plain_chars plain)

hex-digit : (d : ℕ) → d < 16 → IsHexDigit (hex_digit d)
hex-digit d below = by_hex d IsHexDigit (λ small. inl (omega arith)) (λ large. inr (inr (omega arith)))

escape_char : (b : ℕ) → b < 256 → Char (escape b)
escape_char b below =
    by_escape b Char
    (json.escape_hex (inl (omega arith)) (inl (omega arith)) (hex-digit (b / 16) (omega arith)) (hex-digit (b % 16) (omega arith)))
    (json.escape json.quotation) (json.escape json.reverse_solidus) plain_char

escaped_chars : (bytes : List ℕ) → AreBytes bytes → Chars (escaped bytes)
unfolding escaped
escaped_chars [] all = json.no_char
escaped_chars (b ∷ bytes) all = json.chars (escape_char b (all 0)) (escaped_chars bytes (λ i. all (suc i)))

-- digits are an integer: a number but 0 starts at a digit from 1, and goes on with a digit more
one_more : {text : List ℕ} (d : ℕ) → d < 10 → Digits text → Digits (text ++ (digit d ∷ []))
one_more d below json.no_digit = json.digit {c = digit d} (omega arith) json.no_digit
one_more d below (json.digit is more) = json.digit is (one_more d below more)

int_more : {text : List ℕ} (d : ℕ) → d < 10 → (text ≡ 0x30 ∷ [] → ⊥) → Int text → Int (text ++ (digit d ∷ []))
int_more d below other json.zero_alone = absurd (other refl)
int_more d below other (json.from_one low high more) = json.from_one low high (one_more d below more)

-- only 0 has that digit alone
not_zero : (n : ℕ) → 1 ≤ n → digits n ≡ 0x30 ∷ [] → ⊥
unfolding decimal decimal_after
not_zero n large same = omega (arith, sym (digits_back n) ∙ ap decimal same)

pub digits_integer : (n : ℕ) → Int (digits n)
digits_integer =
    by_tenths (λ n. Int (digits n)) (λ n below. rw (digits_one n below) (one_digit n below))
    (λ n large front. rw (digits_more n large) (int_more (n % 10) (omega arith) (not_zero (n / 10) (omega arith)) front))
  where
    one_digit : (n : ℕ) → n < 10 → Int (digit n ∷ [])
    one_digit zero below = json.zero_alone
    one_digit (suc n) below = json.from_one {c = digit (suc n)} (omega arith) (omega arith) json.no_digit

pub digits_number : (n : ℕ) → Number (digits n)
digits_number n = simp append-nil at (json.number_of json.no_minus (digits_integer n) json.no_frac json.no_exp)

-- a value's text is that of a value of the grammar
abbrev Written : List ℕ → Type 0
Written text = (v : json.Value) × (json_text v ≡ text)

number_written : (n : ℕ) → Written (number n)
unfolding number json_text
number_written n = by (is_bare n)
  where
    by : (bare : Bool) → Written (choose bare (digits n) (quoted (digits n)))
    by true = (json.number (digits_number n), refl)
    by false = (json.string (plain_string (digits_plain n)), refl)

name_written : (n : Option (List ℕ)) → IsName n → Written (name n)
unfolding name quoted json_text
name_written None is = (json.literal json.null, refl)
name_written (Some bytes) is = (json.string (json.string_of (escaped_chars bytes is)), refl)

number_values : List ℕ → Values
number_values [] = json.no_value
number_values (n ∷ ns) = json.value (number_written n).0 (number_values ns)

numbers_written : (ns : List ℕ) → values_text (number_values ns) ≡ separated (map number ns)
unfolding number_values values_text more_values
numbers_written [] = refl
numbers_written (n ∷ []) = rw (append-nil, (number_written n).1)
numbers_written (n ∷ m ∷ ns) = rw (append_assoc (number n), ← numbers_written (m ∷ ns), (number_written n).1)

abbrev pub IsNamed : Value → Type 0
IsNamed (numeric n) = Unit {0}
IsNamed (named n) = IsName n
IsNamed (word w) = Unit {0}
IsNamed (truth b) = Unit {0}
IsNamed (listed ns) = Unit {0}

value_written : (v : Value) → All Plain (word_in v) → IsNamed v → Written (value_text v)
unfolding value_text json_text
value_written (numeric n) plain is = number_written n
value_written (named n) plain is = name_written n is
value_written (word w) plain is = (json.string (plain_string plain), refl)
value_written (truth true) plain is = (json.literal json.true, refl)
value_written (truth false) plain is = (json.literal json.false, refl)
value_written (listed ns) plain is = (json.array (number_values ns), rw (numbers_written ns))

-- so parts are members
abbrev pub NamedPart : Part → Type 0
NamedPart p = IsNamed p.value

part_written : (p : Part) → PlainPart p → NamedPart p → Written (value_text p.value)
part_written p plain is = value_written p.value plain.word is

pub members : (ps : List Part) → Each PlainPart ps → Each NamedPart ps → Members
members [] plain are = json.no_member
members (p ∷ ps) plain are = json.member (json.string_of (plain_chars plain.0.label)) (part_written p plain.0 are.0).0 (members ps plain.1 are.1)

-- with their names and texts
abbrev pub member_of : Part → Member
member_of p = record { name = p.label; text = value_text p.value }

pub members_are : (ps : List Part) (plain : Each PlainPart ps) (are : Each NamedPart ps) → members_of (members ps plain are) ≡ map member_of ps
unfolding members
members_are [] plain are = refl
members_are (p ∷ ps) plain are = rw (members_are ps plain.1 are.1, (part_written p plain.0 are.0).1)

pub part-text : (p : Part) → part_text p ≡ quoted p.label ++ (0x3A ∷ value_text p.value)
unfolding part_text
part-text p = append_assoc (quoted p.label) (ascii ":") (value_text p.value)

pub members_written : (ps : List Part) (plain : Each PlainPart ps) (are : Each NamedPart ps) → members_text (members ps plain are) ≡ separated (map part_text ps)
unfolding members members_text more_members quoted
members_written [] plain are = refl
members_written (p ∷ []) plain are = rw (append-nil, (part_written p plain.0 are.0).1, part-text p)
members_written (p ∷ q ∷ ps) plain are =
    rw (append_assoc (part_text p), part-text p, ← members_written (q ∷ ps) plain.1 are.1, (part_written p plain.0 are.0).1)
