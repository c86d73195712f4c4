-- The numbers that a reader finds in a text of RFC 8259 are its numbers: by its tree, each piece read up to what would end a number.
use Prim.Native.Nat.{ℕ}
use mathlib.Core.Bool.{true, false}
use mathlib.Core.List.{List, [], ◌∷◌, ◌++◌, append_assoc, append-nil}
use mathlib.Core.Logic.{◌⊎◌, inl, inr}
use mathlib.Core.Path.{◌≡◌, refl, ◌∙◌}
use native.Mathlib.Omega.{arith}
use borrow.Author.Tests.{le-leb, ne_eqb}
use Rattle.demands.specs.Json as json
use Rattle.demands.specs.Json.{Char, Chars, Digits, Exp, Frac, Int, IsDigit, IsHexDigit, Literal, Members, Number, Sign, Str, Value, Values, json_text, members_text, more_members, more_values, values_text}
use Rattle.demands.specs.JsonContents.{numbers_in_members, numbers_in_value, numbers_in_values}
use Rattle.demands.specs.JsonNumbers.{is_number_byte, is_number_start, is_quote, json_numbers, number as within, numbers_read, outside, string}
use Rattle.demands.proofs.Plain.{All, both, byte, no_byte}

-- what ends a number
abbrev Ends : List ℕ → Type 0
Ends rest = (bytes : List ℕ) → numbers_read (within bytes) rest ≡ bytes ∷ numbers_read outside rest

-- a text has these numbers, whatever follows that ends one
pub record Has (text : List ℕ) (found : List (List ℕ)) : Type 0 where
  pub read : (rest : List ℕ) → Ends rest → numbers_read outside (text ++ rest) ≡ found ++ numbers_read outside rest

pub empty : Has [] []
empty = record { read = λ rest ends. refl }

pub whole : {text : List ℕ} {found : List (List ℕ)} → Has text found → json_numbers text ≡ found
unfolding numbers_read
whole {text} {found} has = rw (append-nil text, append-nil found) at (has.read [] (λ bytes. refl))

-- one after another, where the second ends a number
pub followed : {a b : List ℕ} {f g : List (List ℕ)} → Has a f → Has b g → ((rest : List ℕ) → Ends (b ++ rest)) → Has (a ++ b) (f ++ g)
followed {a} {b} {f} {g} first second end =
    record { read = λ rest ends. rw (append_assoc a b rest, append_assoc f g, first.read (b ++ rest) (end rest), second.read rest ends) }

-- a byte of no number that begins no string stands between two texts, or at both ends of one
abbrev Mark : ℕ → Type 0
Mark c = (is_number_start c ≡ false) × (is_number_byte c ≡ false) × (is_quote c ≡ false)

pub joined : (c : ℕ) {a b : List ℕ} {f g : List (List ℕ)} → Mark c → Has a f → Has b g → Has (a ++ (c ∷ b)) (f ++ g)
unfolding numbers_read
joined c (start, goes, quote) first second =
    followed first (record { read = λ rest ends. rw (start, quote) (second.read rest ends) }) (λ rest bytes. rw (start, goes))

enclosed : (c d : ℕ) {text : List ℕ} {found : List (List ℕ)} → Mark c → Mark d → Has text found → Has (c ∷ text ++ (d ∷ [])) found
enclosed c d {found = found} before behind inside = rw (append-nil found) at (joined c before empty (joined d behind inside empty))

pub comma : {a b : List ℕ} {f g : List (List ℕ)} → Has a f → Has b g → Has (a ++ (0x2C ∷ b)) (f ++ g)
comma = joined 0x2C (refl, refl, refl)

pub colon : {a b : List ℕ} {f g : List (List ℕ)} → Has a f → Has b g → Has (a ++ (0x3A ∷ b)) (f ++ g)
colon = joined 0x3A (refl, refl, refl)

pub brackets : {text : List ℕ} {found : List (List ℕ)} → Has text found → Has (0x5B ∷ text ++ (0x5D ∷ [])) found
brackets = enclosed 0x5B 0x5D (refl, refl, refl) (refl, refl, refl)

pub braces : {text : List ℕ} {found : List (List ℕ)} → Has text found → Has (0x7B ∷ text ++ (0x7D ∷ [])) found
braces = enclosed 0x7B 0x7D (refl, refl, refl) (refl, refl, refl)

-- a string is passed over
abbrev pub Passed : List ℕ → Type 0
Passed text = (rest : List ℕ) → numbers_read string (text ++ rest) ≡ numbers_read string rest

pub byte_passed : (c : ℕ) → (c ≡ 0x22 → ⊥) → (c ≡ 0x5C → ⊥) → Passed (c ∷ [])
unfolding numbers_read
byte_passed c quote slash rest = rw (ne_eqb c 0x22 quote, ne_eqb c 0x5C slash)

hex_passed : (c : ℕ) → IsHexDigit c → Passed (c ∷ [])
hex_passed c (inl digit) = byte_passed c (omega arith) (omega arith)
hex_passed c (inr (inl upper)) = byte_passed c (omega arith) (omega arith)
hex_passed c (inr (inr lower)) = byte_passed c (omega arith) (omega arith)

char_passed : {text : List ℕ} → Char text → Passed text
unfolding numbers_read
char_passed (json.unescaped {c} low high quote slash) rest = byte_passed c quote slash rest
char_passed (json.escape is) rest = refl
char_passed (json.escape_hex {a} {b} {c} {d} p q r s) rest =
    hex_passed a p (b ∷ c ∷ d ∷ rest) ∙ hex_passed b q (c ∷ d ∷ rest) ∙ hex_passed c r (d ∷ rest) ∙ hex_passed d s rest

chars_passed : {text : List ℕ} → Chars text → Passed text
chars_passed json.no_char rest = refl
chars_passed (json.chars {one} {more} first others) rest = rw (append_assoc one more rest) (char_passed first (more ++ rest) ∙ chars_passed others rest)

pub quotes : (text : List ℕ) → Passed text → Has (0x22 ∷ text ++ (0x22 ∷ [])) []
unfolding numbers_read
quotes text passed = record { read = λ rest ends. rw (append_assoc text (0x22 ∷ []) rest) (passed (0x22 ∷ rest)) }

pub string_has : {text : List ℕ} → Str text → Has text []
string_has (json.string_of {inside} all) = quotes inside (chars_passed all)

pub literal_has : {text : List ℕ} → Literal text → Has text []
unfolding numbers_read
literal_has json.false = record { read = λ rest ends. refl }
literal_has json.null = record { read = λ rest ends. refl }
literal_has json.true = record { read = λ rest ends. refl }

-- a number is all that its first byte begins: each other byte goes on with it
abbrev GoesOn : ℕ → Type 0
GoesOn c = is_number_byte c ≡ true

goes_on : {text : List ℕ} (bytes rest : List ℕ) → All GoesOn text → Ends rest → numbers_read (within bytes) (text ++ rest) ≡ (bytes ++ text) ∷ numbers_read outside rest
unfolding numbers_read
goes_on bytes rest no_byte ends = rw (append-nil bytes) (ends bytes)
goes_on bytes rest (byte {c} {text} goes more) ends = rw (goes, ← append_assoc bytes (c ∷ []) text) (goes_on (bytes ++ (c ∷ [])) rest more ends)

begins : (c : ℕ) {text : List ℕ} → is_number_start c ≡ true → All GoesOn text → Has (c ∷ text) ((c ∷ text) ∷ [])
unfolding numbers_read
begins c start more = record { read = λ rest ends. rw start (goes_on (c ∷ []) rest more ends) }

digit_goes : (c : ℕ) → IsDigit c → GoesOn c
digit_goes c is = rw (le-leb 48 c is.0, le-leb c 57 is.1)

digits_go : {text : List ℕ} → Digits text → All GoesOn text
digits_go json.no_digit = no_byte
digits_go (json.digit {c} is more) = byte (digit_goes c is) (digits_go more)

int_goes : {text : List ℕ} → Int text → All GoesOn text
int_goes json.zero_alone = byte refl no_byte
int_goes (json.from_one {c} low high more) = byte (digit_goes c (omega arith)) (digits_go more)

frac_goes : {text : List ℕ} → Frac text → All GoesOn text
frac_goes json.no_frac = no_byte
frac_goes (json.frac is more) = byte refl (digits_go (json.digit is more))

sign_goes : {text : List ℕ} → Sign text → All GoesOn text
sign_goes json.no_sign = no_byte
sign_goes json.negative = byte refl no_byte
sign_goes json.plus = byte refl no_byte

e_goes : (c : ℕ) → (c ≡ 0x65) ⊎ (c ≡ 0x45) → GoesOn c
e_goes c (inl small) = rw small
e_goes c (inr large) = rw large

exp_goes : {text : List ℕ} → Exp text → All GoesOn text
exp_goes json.no_exp = no_byte
exp_goes (json.exp {e} mark sign is more) = byte (e_goes e mark) (both (sign_goes sign) (digits_go (json.digit is more)))

pub number_has : {text : List ℕ} → Number text → Has text (text ∷ [])
number_has (json.number_of json.no_minus json.zero_alone f e) = begins 0x30 refl (both (frac_goes f) (exp_goes e))
number_has (json.number_of json.no_minus (json.from_one {c} low high more) f e) =
    begins c (rw (le-leb 48 c (omega arith), le-leb c 57 high)) (both (both (digits_go more) (frac_goes f)) (exp_goes e))
number_has (json.number_of json.minus i f e) = begins 0x2D refl (both (both (int_goes i) (frac_goes f)) (exp_goes e))

-- any value
mutual
  unfolding json_text members_text more_members more_values numbers_in_members numbers_in_value numbers_in_values values_text

  value_has : (v : Value) → Has (json_text v) (numbers_in_value v)
  value_has (json.literal l) = literal_has l
  value_has (json.object members) = braces (members_have members)
  value_has (json.array values) = brackets (values_have values)
  value_has (json.number n) = number_has n
  value_has (json.string s) = string_has s

  members_have : (ms : Members) → Has (members_text ms) (numbers_in_members ms)
  members_have json.no_member = empty
  members_have (json.member s v more) = more-members more (colon (string_has s) (value_has v))

  more-members : (ms : Members) {text : List ℕ} {found : List (List ℕ)} → Has text found → Has (text ++ more_members ms) (found ++ numbers_in_members ms)
  more-members json.no_member {text} {found} first = rw (append-nil text, append-nil found) first
  more-members (json.member s v more) first = comma first (more-members more (colon (string_has s) (value_has v)))

  values_have : (vs : Values) → Has (values_text vs) (numbers_in_values vs)
  values_have json.no_value = empty
  values_have (json.value v more) = more-values more (value_has v)

  more-values : (vs : Values) {text : List ℕ} {found : List (List ℕ)} → Has text found → Has (text ++ more_values vs) (found ++ numbers_in_values vs)
  more-values json.no_value {text} {found} first = rw (append-nil text, append-nil found) first
  more-values (json.value v more) first = comma first (more-values more (value_has v))

pub numbers_found : (value : Value) → json_numbers (json_text value) ≡ numbers_in_value value
numbers_found value = whole (value_has value)

pub numbers_found_first : (value : Value) (more : List ℕ) → json_numbers (json_text value ++ (0x0A ∷ more)) ≡ numbers_in_value value ++ json_numbers more
unfolding numbers_read
numbers_found_first value more = (value_has value).read (0x0A ∷ more) (λ bytes. refl)
