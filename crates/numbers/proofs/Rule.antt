-- The rule of our table: one test, computed over the whole of it, tells the pair at each entry; and no table without the rule prints every number.
use Prim.Native.Nat.{ℕ, zero, suc, ◌+◌, ◌*◌, ◌/◌, ◌%◌, ◌^◌, ◌<◌}
use mathlib.Core.Bool.{Bool, true, false, ◌&&◌, and-eq-true_iff, true≢false}
use mathlib.Core.List.{List, [], ◌∷◌}
use mathlib.Core.Path.{◌≡◌, refl, sym, ap, ◌∙◌}
use native.Mathlib.Decide.{dec_lt}
use native.Mathlib.Nat.{zero-add}
use native.Mathlib.Omega.{arith}
use borrow.Author.Tests.{eqb-true, lt-ltb}
use lib.Dec.{eqb}
use lib.ListN.{drop, length}
use Rattle.text.proofs.Digits.{digits_hundred, digits_one, digits_pair, number_bare}
use Rattle.text.specs.Numbers.{digit, digits, is_bare, number, pair}
use Rattle.numbers.specs.Pairs.{HasPairs, digits_by, number_by, pair_by, pairs}
use Rattle.numbers.proofs.Steps.{bare_by, by_hundred, by_one, by_pair}

-- whether a table has the digits of n, those of the next number, and so on to its end
abbrev goes_on : ℕ → List ℕ → Bool
goes_on n [] = true
goes_on n (a ∷ []) = false
goes_on n (a ∷ b ∷ rest) = (eqb a (digit (n / 10)) && eqb b (digit (n % 10))) && goes_on (suc n) rest

told : (k n : ℕ) (table : List ℕ) → goes_on n table ≡ true → 2 * k + 1 < length table → pair_by table k ≡ pair (n + k)
told k n [] right within = absurd (omega arith)
told k n (a ∷ []) right within = absurd (true≢false (sym right))
told zero n (a ∷ b ∷ rest) right within =
    let here = ((and-eq-true_iff (eqb a (digit (n / 10)) && eqb b (digit (n % 10))) (goes_on (suc n) rest)).0 right).0 in
    let both = (and-eq-true_iff (eqb a (digit (n / 10))) (eqb b (digit (n % 10)))).0 here in
    let none : n + 0 ≡ n = omega arith in
    rw (none, eqb-true a (digit (n / 10)) both.0, eqb-true b (digit (n % 10)) both.1)
told (suc k) n (a ∷ b ∷ rest) right within =
    let behind = ((and-eq-true_iff (eqb a (digit (n / 10)) && eqb b (digit (n % 10))) (goes_on (suc n) rest)).0 right).1 in
    let second : 2 * suc k + 1 ≡ suc (suc (2 * k + 1)) = omega arith in
    let first : 2 * suc k ≡ suc (suc (2 * k)) = omega arith in
    let next : n + suc k ≡ suc n + k = omega arith in
    rw (second, first, next) (told k (suc n) rest behind (omega arith))

pub pairs_rule : HasPairs pairs
unfolding pairs
pairs_rule n below = rw (zero-add n) at (told n 0 pairs refl (omega arith))

-- a table by which every number is its text has the rule: a pair stands alone, or behind a first digit
pub has_pairs : (table : List ℕ) → ((n : ℕ) → number_by table n ≡ number n) → HasPairs table
unfolding is_bare
has_pairs table right n below = by (dec_lt n 10)
  where
    same : (m : ℕ) → m < 10000000000 → digits_by table m ≡ digits m
    same m small =
        let bare = lt-ltb m (2 ^ 53) (omega arith) in
        sym (bare_by table m bare) ∙ right m ∙ number_bare m bare

    by : Dec (n < 10) → pair_by table n ≡ pair n
    by (yes one) =
        let head : (100 + n) / 100 ≡ 1 = omega arith in
        let last : (100 + n) % 100 ≡ n = omega arith in
        let behind = rw (by_hundred table (100 + n) (omega arith), digits_hundred (100 + n) (omega arith), head, last, by_one table 1 (omega arith), digits_one 1 (omega arith)) at (same (100 + n) (omega arith)) in
        ap (drop 1) behind
    by (no two) = rw (by_pair table n (omega arith) below, digits_pair n (omega arith) below) at (same n (omega arith))
