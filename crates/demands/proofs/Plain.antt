-- The bytes of a line's texts: those of labels and words, by one test, and digits are plain, each standing for itself in a string; a name's is plain or escaped.
use Rattle.std.specs.Prelude.{None, Option, Some}
use Prim.Native.Nat.{ℕ, ◌+◌, ◌%◌, ◌≤◌, ◌<◌}
use mathlib.Core.Bool.{Bool, true, false, and-eq-true_iff, cond, not, ◌&&◌}
use mathlib.Core.List.{List, [], ◌∷◌, ◌++◌}
use mathlib.Core.Logic.{⊎_elim}
use mathlib.Core.Path.{◌≡◌, refl}
use native.Mathlib.Decide.{dec_lt}
use native.Mathlib.Omega.{arith}
use lib.Dec.{eqb, leb, ltb}
use borrow.Author.Tests.{eqb-false, leb-true, ltb-false, ltb-true, not-true}
use Rattle.text.proofs.Digits.{by_tenths, digits_more, digits_one}
use Rattle.text.proofs.Escapes.{by_kind, escape_hex}
use Rattle.text.specs.Lines.{Part, Value, context, event_parts, listed, named, numeric, parts, truth, word}
use Rattle.text.specs.Names.{escape, hex_digit, hexed, slashed}
use Rattle.text.specs.Numbers.{digit, digits}
use Rattle.text.specs.declared.Context.{Context}
use Rattle.text.specs.declared.Context.TheVariants.{Init, Isr, Thread}
use Rattle.text.specs.declared.Line.{Line}
use Rattle.words.specs.Each.{Each}

-- each byte of a text
pub data All (P : ℕ → Type 0) : List ℕ → Type 0 where
  no_byte : All P []
  byte : {c : ℕ} {text : List ℕ} → P c → All P text → All P (c ∷ text)

pub both : {P : ℕ → Type 0} {a b : List ℕ} → All P a → All P b → All P (a ++ b)
both no_byte second = second
both (byte is first) second = byte is (both first second)

-- bytes 20 to 7E but a quote and a backslash
pub record Plain (c : ℕ) : Type 0 where
  pub low : 0x20 ≤ c
  pub high : c ≤ 0x7E
  pub quote : c ≡ 0x22 → ⊥
  pub slash : c ≡ 0x5C → ⊥

-- what holds of every digit holds of a number's digits
pub digits_all : (P : ℕ → Type 0) → ((d : ℕ) → d < 10 → P (digit d)) → (n : ℕ) → All P (digits n)
digits_all P each =
    by_tenths (λ n. All P (digits n)) (λ n below. rw (digits_one n below) (byte (each n below) no_byte))
    (λ n large front. rw (digits_more n large) (both front (byte (each (n % 10) (omega arith)) no_byte)))

pub digits_plain : (n : ℕ) → All Plain (digits n)
digits_plain = digits_all Plain (λ d below. omega arith)

-- the test, of a text
abbrev are_plain : List ℕ → Bool
are_plain [] = true
are_plain (c ∷ text) = leb 0x20 c && leb c 0x7E && not (eqb c 0x22) && not (eqb c 0x5C) && are_plain text

plain_text : (text : List ℕ) → are_plain text ≡ true → All Plain text
plain_text [] test = no_byte
plain_text (c ∷ text) test =
    let rest = (and-eq-true_iff _ (are_plain text)).0 test in
    let slash = (and-eq-true_iff _ (not (eqb c 0x5C))).0 rest.0 in
    let quote = (and-eq-true_iff _ (not (eqb c 0x22))).0 slash.0 in
    let bounds = (and-eq-true_iff (leb 0x20 c) (leb c 0x7E)).0 quote.0 in
    let plain : Plain c = record {
      low = leb-true 0x20 c bounds.0;
      high = leb-true c 0x7E bounds.1;
      quote = eqb-false c 0x22 (not-true _ quote.1);
      slash = eqb-false c 0x5C (not-true _ slash.1);
    } in
    byte plain (plain_text text rest.1)

-- and of parts: their labels and words
abbrev pub word_in : Value → List ℕ
word_in (numeric n) = []
word_in (named n) = []
word_in (word w) = w
word_in (truth b) = []
word_in (listed ns) = []

pub record PlainPart (p : Part) : Type 0 where
  pub label : All Plain p.label
  pub word : All Plain (word_in p.value)

abbrev are_plain_parts : List Part → Bool
are_plain_parts [] = true
are_plain_parts (p ∷ ps) = are_plain p.label && are_plain (word_in p.value) && are_plain_parts ps

plain_parts : (ps : List Part) → are_plain_parts ps ≡ true → Each PlainPart ps
plain_parts [] test = tt
plain_parts (p ∷ ps) test =
    let rest = (and-eq-true_iff _ (are_plain_parts ps)).0 test in
    let part = (and-eq-true_iff (are_plain p.label) _).0 rest.0 in
    (record { label = plain_text _ part.0; word = plain_text _ part.1 }, plain_parts ps rest.1)

context_plain : (by : Context) → are_plain (context by) ≡ true
unfolding context
context_plain Init = refl
context_plain Isr = refl
context_plain Thread = refl

-- a line's parts pass it
pub line_plain : (l : Line) (event : Option (Option (List ℕ))) (name : Option (List ℕ)) → Each PlainPart (parts l event name)
unfolding event_parts parts
line_plain l None name = plain_parts (parts l None name) (rw (context_plain l.by))
line_plain l (Some title) name = plain_parts (parts l (Some title) name) (rw (context_plain l.by))

-- a hex digit is a digit or a letter
pub by_hex : (d : ℕ) (P : ℕ → Type 0) → (d < 10 → P (48 + d)) → (10 ≤ d → P (87 + d)) → P (hex_digit d)
unfolding hex_digit
by_hex d P digit letter = by (ltb d 10) refl
  where
    by : (small : Bool) → ltb d 10 ≡ small → P (cond small (48 + d) (87 + d))
    by true e = digit (ltb-true d 10 e)
    by false e = letter (ltb-false d 10 e)

-- a byte that is not plain is escaped by hex digits, or it is a quote or a backslash behind one
pub by_escape : (b : ℕ) (P : List ℕ → Type 0) → P (hexed b) → P (slashed 0x22) → P (slashed 0x5C) → (Plain b → P (b ∷ [])) → P (escape b)
by_escape b P hex quote slash self = by (dec_lt b 0x20) (dec_lt 0x7E b)
  where
    by : Dec (b < 0x20) → Dec (0x7E < b) → P (escape b)
    by (yes low) above = rw (escape_hex b (λ inside. omega arith)) hex
    by (no low) (yes high) = rw (escape_hex b (λ inside. high)) hex
    by (no low) (no high) = by_kind b P hex (⊎_elim (λ is. rw is quote) (λ is. rw is slash)) (λ quote slash. self (omega arith))
