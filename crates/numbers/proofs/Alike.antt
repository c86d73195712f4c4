-- Where a table's pairs are like the digits, a number by the table is like its text: by any relation that each text has to itself, and joined texts have where their parts do.
use Prim.Native.Nat.{ℕ, ◌/◌, ◌%◌, ◌≤◌, ◌<◌}
use mathlib.Core.Bool.{Bool, true, false}
use mathlib.Core.List.{List, ◌++◌}
use mathlib.Core.Path.{◌≡◌, refl, subst}
use native.Mathlib.Decide.{dec_lt}
use native.Mathlib.Nat.{div-div-eq-div-mul}
use native.Mathlib.Omega.{arith}
use lib.ListN.{length, length-append}
use Rattle.text.proofs.Digits.{by_tenths, digits_hundred, digits_one, digits_pair}
use Rattle.text.specs.Ascii.{ascii, choose}
use Rattle.text.specs.Numbers.{digits, is_bare, number, pair, quoted}
use Rattle.numbers.specs.Pairs.{HasPairs, digits_by, number_by, pair_by}
use Rattle.numbers.proofs.Steps.{by_hundred, by_one, by_pair}

-- such a relation
pub record Alike (R : List ℕ → List ℕ → Type 0) : Type 0 where
  pub same : (a : List ℕ) → R a a
  pub join : {a b c d : List ℕ} → R a b → R c d → R (a ++ c) (b ++ d)

-- texts that are alike stay so with the same text put before or behind them
module _ {R : List ℕ → List ℕ → Type 0} (alike : Alike R) (front : List ℕ) {a b : List ℕ} (like : R a b) where
  pub after : R (front ++ a) (front ++ b)
  after = alike.join (alike.same front) like

  pub around : (end : List ℕ) → R (front ++ a ++ end) (front ++ b ++ end)
  around end = alike.join after (alike.same end)

-- what holds of the numbers below 10 and below 100, and of any other where it holds of its hundredth, holds of all
by_hundreds : (P : ℕ → Type 0) → ((n : ℕ) → n < 10 → P n) → ((n : ℕ) → 10 ≤ n → n < 100 → P n) → ((n : ℕ) → 100 ≤ n → P (n / 100) → P n) → (n : ℕ) → P n
by_hundreds P one two more n =
    (by_tenths (λ n. P n × P (n / 10)) (λ n h. (one n h, one (n / 10) (omega arith))) (λ n h rest. (here n h (dec_lt n 100) rest.1, rest.0)) n).0
  where
    here : (n : ℕ) → 10 ≤ n → Dec (n < 100) → P (n / 10 / 10) → P n
    here n h (yes below) rest = two n h below
    here n h (no above) rest = more n (omega arith) (subst P (div-div-eq-div-mul n 10 10) rest)

module _ {R : List ℕ → List ℕ → Type 0} (alike : Alike R) (table : List ℕ) (pairs : (n : ℕ) → n < 100 → R (pair_by table n) (pair n)) where
  digits_alike : (n : ℕ) → R (digits_by table n) (digits n)
  digits_alike =
      by_hundreds (λ n. R (digits_by table n) (digits n)) (λ n h. rw (by_one table n h, digits_one n h) (alike.same _))
      (λ n h g. rw (by_pair table n h g, digits_pair n h g) (pairs n g))
      (λ n h rest. rw (by_hundred table n h, digits_hundred n h) (alike.join rest (pairs (n % 100) (omega arith))))

  pub number_alike : (n : ℕ) → R (number_by table n) (number n)
  unfolding number_by number quoted
  number_alike n = by_kind (is_bare n)
    where
      by_kind : (bare : Bool) → R (choose bare (digits_by table n) (quoted (digits_by table n))) (choose bare (digits n) (quoted (digits n)))
      by_kind true = digits_alike n
      by_kind false = around alike (ascii "\"") (digits_alike n) (ascii "\"")

-- texts of one length are alike, and so are those that are the same
pub lengths_alike : Alike (λ a b. length a ≡ length b)
lengths_alike = record { same = λ a. refl; join = λ {a} {b} {c} {d} one two. rw (length-append a c, length-append b d, one, two) }

pub texts_alike : Alike (λ a b. a ≡ b)
texts_alike = record { same = λ a. refl; join = λ one two. rw (one, two) }

-- a number by a table is as long as its text, and by a table with the rule it is its text
pub number_count : (table : List ℕ) (n : ℕ) → length (number_by table n) ≡ length (number n)
number_count table = number_alike lengths_alike table (λ n h. refl)

pub number_by_lem : (table : List ℕ) → HasPairs table → (n : ℕ) → number_by table n ≡ number n
number_by_lem = number_alike texts_alike
