-- What is printed reads back: digits to their number, an escaped name to its bytes. So two numbers never print alike, and neither do two names.
use Rattle.std.specs.Prelude.{None, Option, Some}
use Prim.Native.Nat.{ℕ, zero, suc, ◌+◌, ◌-◌, ◌*◌, ◌/◌, ◌%◌, ◌≤◌, ◌<◌}
use mathlib.Core.Bool.{Bool, true, false}
use mathlib.Core.List.{List, [], ◌∷◌, ◌++◌}
use mathlib.Core.Logic.{⊎_elim}
use mathlib.Core.Path.{◌≡◌, refl, sym, ap, ◌∙◌}
use native.Mathlib.Omega.{arith}
use lib.Dec.{ltb}
use lib.ListN.{length, length-append}
use lib.Seq.{take_at}
use borrow.Author.Tests.{ltb-true, lt-ltb, le-ltb, ne_eqb}
use Rattle.words.specs.Words.{AreBytes}
use Rattle.text.specs.Ascii.{ascii, choose}
use Rattle.text.specs.Names.{escape, escaped, hex_digit, name}
use Rattle.text.specs.Numbers.{digit, digits, is_bare, number, quoted}
use Rattle.text.specs.ReadBack.{IsName, decimal, decimal_after, first_byte, first_length, hex_value, inside, is_quoted, read_name, read_number, unescaped, unescaped_in}
use Rattle.text.proofs.Digits.{by_tenths, digits_one, digits_more}
use Rattle.text.proofs.Escapes.{by_kind, escape_long}

-- a digit more
decimal_next : (n d : ℕ) (ds : List ℕ) → decimal_after n (ds ++ (digit d ∷ [])) ≡ decimal_after n ds * 10 + d
unfolding decimal_after
decimal_next n d [] = omega arith
decimal_next n d (e ∷ ds) = decimal_next (n * 10 + (e - 48)) d ds

pub digits_back : (n : ℕ) → decimal (digits n) ≡ n
unfolding decimal decimal_after
digits_back = by_tenths (λ n. decimal (digits n) ≡ n) (λ n h. rw (digits_one n h) (omega arith)) (λ n h r. rw (digits_more n h, decimal_next 0 (n % 10) (digits (n / 10)), r) (omega arith))

-- what stands between quotes
pub inside_quotes : (text : List ℕ) → inside (quoted text) ≡ text
unfolding inside quoted
inside_quotes text = take_at text (ascii "\"") (suc (length (text ++ ascii "\"")) - 2) (rw length-append (omega arith))

pub quotes_seen : (text : List ℕ) → is_quoted (quoted text) ≡ true
unfolding is_quoted quoted
quotes_seen text = refl

-- hex digits read back
hex_back : (d : ℕ) → d < 16 → hex_value (hex_digit d) ≡ d
unfolding hex_value hex_digit
hex_back d h = by_size (ltb d 10) refl
  where
    by_size : (b : Bool) → ltb d 10 ≡ b → hex_value (hex_digit d) ≡ d
    by_size true e = rw (e, lt-ltb (48 + d) 58 (let u = ltb-true d 10 e in omega arith)) (omega arith)
    by_size false e = rw (e, le-ltb (87 + d) 58 (omega arith)) (omega arith)

-- a byte's escape, whatever comes after it
escape_back : (b k : ℕ) (rest : List ℕ) → b < 256 → unescaped_in (suc k) (escape b ++ rest) ≡ b ∷ unescaped_in k rest
unfolding unescaped_in first_byte first_length
escape_back b k rest h =
    by_kind b (λ t. unescaped_in (suc k) (t ++ rest) ≡ b ∷ unescaped_in k rest)
    (rw (hex_back (b / 16) (omega arith), hex_back (b % 16) (omega arith)) (ap (λ c. c ∷ unescaped_in k rest) (omega arith)))
    (⊎_elim (λ e. rw e) (λ e. rw e))
    (λ quote slash. rw (ne_eqb b 0x5C slash))

escaped_back : (k : ℕ) (s : List ℕ) → AreBytes s → length s ≤ k → unescaped_in k (escaped s) ≡ s
unfolding escaped unescaped_in
escaped_back zero [] all fits = refl
escaped_back (suc k) [] all fits = refl
escaped_back zero (b ∷ s) all fits = absurd (omega arith)
escaped_back (suc k) (b ∷ s) all fits = escape_back b k (escaped s) (all 0) ∙ ap (λ t. b ∷ t) (escaped_back k s (λ i. all (suc i)) (omega arith))

-- a name's text has at least its bytes
escaped_long : (s : List ℕ) → length s ≤ length (escaped s)
unfolding escaped
escaped_long [] = omega arith
escaped_long (b ∷ s) = rw length-append (omega (arith, escaped_long s, escape_long b))

-- an escaped name reads back to its bytes
unescaped_escaped : (s : List ℕ) → AreBytes s → unescaped (escaped s) ≡ s
unfolding unescaped
unescaped_escaped s all = escaped_back (length (escaped s)) s all (escaped_long s)

-- a name's text reads back to the name, and that of none to none
pub name_back : (n : Option (List ℕ)) → IsName n → read_name (name n) ≡ n
unfolding read_name name is_quoted
name_back None all = refl
name_back (Some s) all = rw (quotes_seen (escaped s), inside_quotes (escaped s), unescaped_escaped s all)

-- two names never print alike
pub names_differ : (m n : Option (List ℕ)) → IsName m → IsName n → name m ≡ name n → m ≡ n
names_differ m n x y e = sym (name_back m x) ∙ ap read_name e ∙ name_back n y

-- digits begin with a digit
abbrev Begins : ℕ → Type 0
Begins n = (d : ℕ) × (ds : List ℕ) × (digits n ≡ digit d ∷ ds)

first_digit : (n : ℕ) → Begins n
first_digit = by_tenths Begins (λ n h. (n, [], digits_one n h)) (λ n h r. (r.0, r.1 ++ (digit (n % 10) ∷ []), digits_more n h ∙ ap (λ ds. ds ++ (digit (n % 10) ∷ [])) r.2))

pub bare_seen : (n : ℕ) → is_quoted (digits n) ≡ false
unfolding is_quoted
bare_seen n =
    let first = first_digit n in
    rw first.2 (ne_eqb (48 + first.0) 0x22 (λ e. omega arith))

-- a number's text reads back to the number, bare or quoted
pub number_back : (n : ℕ) → read_number (number n) ≡ n
unfolding read_number number
number_back n = by_limit (is_bare n)
  where
    by_limit : (bare : Bool) → read_number (choose bare (digits n) (quoted (digits n))) ≡ n
    by_limit true = rw (bare_seen n) (digits_back n)
    by_limit false = rw (quotes_seen (digits n), inside_quotes (digits n)) (digits_back n)

-- two numbers never print alike
pub numbers_differ : (m n : ℕ) → number m ≡ number n → m ≡ n
numbers_differ m n e = sym (number_back m) ∙ ap read_number e ∙ number_back n
