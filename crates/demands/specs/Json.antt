-- RFC 8259: the grammar of a JSON text, production by production.
-- Two things are left out that stand in no line before its last 0A, so that whatever is a text here is one there: white space, and characters above 7F.
-- So the bytes of a text are its characters.
use Rattle.std.specs.Prelude.{ℕ, ◌≤◌, List, [], ◌∷◌, ◌++◌, ◌⊎◌, ◌≡◌}

-- SECTION 6: NUMBERS

-- DIGIT = %x30-39
abbrev pub IsDigit : ℕ → Type 0
IsDigit c = (0x30 ≤ c) × (c ≤ 0x39)

-- *DIGIT
pub data Digits : List ℕ → Type 0 where
  no_digit : Digits []
  digit : {c : ℕ} {more : List ℕ} → IsDigit c → Digits more → Digits (c ∷ more)

-- [ minus ], minus = %x2D
pub data Minus : List ℕ → Type 0 where
  no_minus : Minus []
  minus : Minus (0x2D ∷ [])

-- int = zero / ( digit1-9 *DIGIT ), zero = %x30, digit1-9 = %x31-39
pub data Int : List ℕ → Type 0 where
  zero_alone : Int (0x30 ∷ [])
  from_one : {c : ℕ} {more : List ℕ} → 0x31 ≤ c → c ≤ 0x39 → Digits more → Int (c ∷ more)

-- [ frac ], frac = decimal-point 1*DIGIT, decimal-point = %x2E
pub data Frac : List ℕ → Type 0 where
  no_frac : Frac []
  frac : {c : ℕ} {more : List ℕ} → IsDigit c → Digits more → Frac (0x2E ∷ c ∷ more)

-- [ minus / plus ], plus = %x2B
pub data Sign : List ℕ → Type 0 where
  no_sign : Sign []
  negative : Sign (0x2D ∷ [])
  plus : Sign (0x2B ∷ [])

-- [ exp ], exp = e [ minus / plus ] 1*DIGIT, e = %x65 / %x45
pub data Exp : List ℕ → Type 0 where
  no_exp : Exp []
  exp : {e c : ℕ} {sign more : List ℕ} → (e ≡ 0x65) ⊎ (e ≡ 0x45) → Sign sign → IsDigit c → Digits more → Exp (e ∷ sign ++ (c ∷ more))

-- number = [ minus ] int [ frac ] [ exp ]
pub data Number : List ℕ → Type 0 where
  number_of : {m i f e : List ℕ} → Minus m → Int i → Frac f → Exp e → Number (m ++ i ++ f ++ e)

-- SECTION 7: STRINGS

-- HEXDIG, in upper or lower case
abbrev pub IsHexDigit : ℕ → Type 0
IsHexDigit c = IsDigit c ⊎ ((0x41 ≤ c) × (c ≤ 0x46)) ⊎ ((0x61 ≤ c) × (c ≤ 0x66))

-- what may stand behind a backslash: %x22 / %x5C / %x2F / %x62 / %x66 / %x6E / %x72 / %x74
pub data Escaped : ℕ → Type 0 where
  quotation : Escaped 0x22
  reverse_solidus : Escaped 0x5C
  solidus : Escaped 0x2F
  backspace : Escaped 0x62
  form_feed : Escaped 0x66
  line_feed : Escaped 0x6E
  carriage_return : Escaped 0x72
  tab : Escaped 0x74

-- char = unescaped / escape ( .. / %x75 4HEXDIG ), unescaped = %x20-21 / %x23-5B / %x5D-10FFFF, of which those up to 7F, escape = %x5C
pub data Char : List ℕ → Type 0 where
  unescaped : {c : ℕ} → 0x20 ≤ c → c ≤ 0x7F → (c ≡ 0x22 → ⊥) → (c ≡ 0x5C → ⊥) → Char (c ∷ [])
  escape : {c : ℕ} → Escaped c → Char (0x5C ∷ c ∷ [])
  escape_hex : {a b c d : ℕ} → IsHexDigit a → IsHexDigit b → IsHexDigit c → IsHexDigit d → Char (0x5C ∷ 0x75 ∷ a ∷ b ∷ c ∷ d ∷ [])

-- *char
pub data Chars : List ℕ → Type 0 where
  no_char : Chars []
  chars : {one more : List ℕ} → Char one → Chars more → Chars (one ++ more)

-- string = quotation-mark *char quotation-mark, quotation-mark = %x22
pub data Str : List ℕ → Type 0 where
  string_of : {inside : List ℕ} → Chars inside → Str (0x22 ∷ inside ++ (0x22 ∷ []))

-- SECTION 3: VALUES

-- false = %x66.61.6c.73.65, null = %x6e.75.6c.6c, true = %x74.72.75.65
pub data Literal : List ℕ → Type 0 where
  false : Literal (0x66 ∷ 0x61 ∷ 0x6C ∷ 0x73 ∷ 0x65 ∷ [])
  null : Literal (0x6E ∷ 0x75 ∷ 0x6C ∷ 0x6C ∷ [])
  true : Literal (0x74 ∷ 0x72 ∷ 0x75 ∷ 0x65 ∷ [])

-- value = false / null / true / object / array / number / string
mutual
  pub data Value : Type 0 where
    literal : {text : List ℕ} → Literal text → Value
    object : Members → Value
    array : Values → Value
    number : {text : List ℕ} → Number text → Value
    string : {text : List ℕ} → Str text → Value

  -- the members of an object, each with its name
  pub data Members : Type 0 where
    no_member : Members
    member : {name : List ℕ} → Str name → Value → Members → Members

  -- the values of an array
  pub data Values : Type 0 where
    no_value : Values
    value : Value → Values → Values

-- SECTIONS 4 AND 5: OBJECTS AND ARRAYS

unfoldable mutual
  -- object = begin-object [ member *( value-separator member ) ] end-object, which are %x7B, %x2C and %x7D
  -- array = begin-array [ value *( value-separator value ) ] end-array, which are %x5B, %x2C and %x5D
  pub json_text : Value → List ℕ
  json_text (literal {text} l) = text
  json_text (object members) = 0x7B ∷ members_text members ++ (0x7D ∷ [])
  json_text (array values) = 0x5B ∷ values_text values ++ (0x5D ∷ [])
  json_text (number {text} n) = text
  json_text (string {text} s) = text

  -- [ member *( value-separator member ) ], member = string name-separator value, which is %x3A
  pub members_text : Members → List ℕ
  members_text no_member = []
  members_text (member {name} s v more) = name ++ 0x3A ∷ json_text v ++ more_members more

  -- *( value-separator member )
  pub more_members : Members → List ℕ
  more_members no_member = []
  more_members (member {name} s v more) = 0x2C ∷ name ++ 0x3A ∷ json_text v ++ more_members more

  -- [ value *( value-separator value ) ]
  pub values_text : Values → List ℕ
  values_text no_value = []
  values_text (value v more) = json_text v ++ more_values more

  -- *( value-separator value )
  pub more_values : Values → List ℕ
  more_values no_value = []
  more_values (value v more) = 0x2C ∷ json_text v ++ more_values more
