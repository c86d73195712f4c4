-- Laws of numbers by a table: their digits two, four and eight less, how many there are, and the two kinds of numbers.
use Prim.Native.Nat.{ℕ, zero, suc, ◌+◌, ◌/◌, ◌%◌, ◌^◌, ◌≤◌, ◌<◌}
use mathlib.Core.Bool.{Bool, true, false}
use mathlib.Core.List.{List, [], ◌∷◌, ◌++◌, append_assoc}
use mathlib.Core.Path.{◌≡◌, refl}
use native.Mathlib.Nat.{div-div-eq-div-mul}
use native.Mathlib.Omega.{arith}
use lib.Dec.{ltb}
use lib.ListN.{length, length-append}
use borrow.Author.Tests.{le-ltb, lt-ltb, ltb-false}
use Rattle.text.proofs.Output.{behind}
use Rattle.text.proofs.Digits.{number_short}
use Rattle.text.specs.Numbers.{digit, is_bare, number, quoted}
use Rattle.text.specs.Output.{Put, Wrote}
use Rattle.numbers.specs.Pairs.{digits_by, digits_in_by, eight_by, four_by, number_by, pair_by}

module _ (table : List ℕ) where
  pub by_one : (n : ℕ) → n < 10 → digits_by table n ≡ digit n ∷ []
  unfolding digits_by digits_in_by
  by_one n h = rw (lt-ltb n 10 h)

  pub by_pair : (n : ℕ) → 10 ≤ n → n < 100 → digits_by table n ≡ pair_by table n
  unfolding digits_by digits_in_by
  by_pair n h g = rw (le-ltb n 10 h, lt-ltb n 100 g)

  -- more room changes nothing
  enough : (j k n : ℕ) → n < j → n < k → digits_in_by table j n ≡ digits_in_by table k n
  unfolding digits_in_by
  enough zero k n h g = absurd (omega arith)
  enough (suc j) zero n h g = absurd (omega arith)
  enough (suc j) (suc k) n h g = by_size (ltb n 100) refl (λ t. enough j k (n / 100) (let u : 100 ≤ n = t in omega arith) (let u : 100 ≤ n = t in omega arith))
    where
      by_size : (b : Bool) → ltb n 100 ≡ b → (100 ≤ n → digits_in_by table j (n / 100) ≡ digits_in_by table k (n / 100)) → digits_in_by table (suc j) n ≡ digits_in_by table (suc k) n
      by_size true e r = rw e
      by_size false e r = rw (e, r (ltb-false n 100 e))

  pub by_hundred : (n : ℕ) → 100 ≤ n → digits_by table n ≡ digits_by table (n / 100) ++ pair_by table (n % 100)
  unfolding digits_by digits_in_by
  by_hundred n h = rw (le-ltb n 10 (omega arith), le-ltb n 100 h, enough n (suc (n / 100)) (n / 100) (omega arith) (omega arith))

  by_myriad : (n : ℕ) → 10000 ≤ n → digits_by table n ≡ digits_by table (n / 10000) ++ four_by table (n % 10000)
  by_myriad n h =
      let high : n / 100 % 100 ≡ n % 10000 / 100 = omega arith in
      let low : n % 100 ≡ n % 10000 % 100 = omega arith in
      rw (by_hundred n (omega arith), by_hundred (n / 100) (omega arith), div-div-eq-div-mul n 100 100, high, low) (simp append_assoc)

  by_eight : (n : ℕ) → 100000000 ≤ n → digits_by table n ≡ digits_by table (n / 100000000) ++ eight_by table (n % 100000000)
  by_eight n h =
      let high : n / 10000 % 10000 ≡ n % 100000000 / 10000 = omega arith in
      let low : n % 10000 ≡ n % 100000000 % 10000 = omega arith in
      rw (by_myriad n (omega arith), by_myriad (n / 10000) (omega arith), div-div-eq-div-mul n 10000 10000, high, low) (simp append_assoc)

  pub count_one : (n : ℕ) → n < 10 → length (digits_by table n) ≡ 1
  count_one n h = rw (by_one n h)

  pub count_pair : (n : ℕ) → 10 ≤ n → n < 100 → length (digits_by table n) ≡ 2
  count_pair n h g = rw (by_pair n h g)

  pub count_hundred : (n : ℕ) → 100 ≤ n → length (digits_by table n) ≡ length (digits_by table (n / 100)) + 2
  count_hundred n h = rw (by_hundred n h, length-append)

  pub count_myriad : (n : ℕ) → 10000 ≤ n → length (digits_by table n) ≡ length (digits_by table (n / 10000)) + 4
  count_myriad n h = rw (by_myriad n h, length-append)

  pub count_eight : (n : ℕ) → 100000000 ≤ n → length (digits_by table n) ≡ length (digits_by table (n / 100000000)) + 8
  count_eight n h = rw (by_eight n h, length-append)

  -- the digits before the last four or eight, and then those, are all
  module _ (n rest : ℕ) {old mid new : List ℕ} {i j : ℕ} where
    pub with_four : 10000 ≤ n → rest ≡ n % 10000 → Put (digits_by table (n / 10000)) old mid i → Wrote i (four_by table rest) mid new j → Put (digits_by table n) old new j
    with_four h is first second = rw (by_myriad n h) (behind first (rw is at second))

    pub with_eight : 100000000 ≤ n → rest ≡ n % 100000000 → Put (digits_by table (n / 100000000)) old mid i → Wrote i (eight_by table rest) mid new j → Put (digits_by table n) old new j
    with_eight h is first second = rw (by_eight n h) (behind first (rw is at second))

  -- a bare number is its digits, any other has a quote before and after them
  pub bare_by : (n : ℕ) → is_bare n ≡ true → number_by table n ≡ digits_by table n
  unfolding number_by
  bare_by n bare = rw bare

  pub quoted_by : (n : ℕ) → is_bare n ≡ false → number_by table n ≡ quoted (digits_by table n)
  unfolding number_by
  quoted_by n big = rw big

-- no text is longer than 22 bytes
pub never_short : (room x : ℕ) → x < 2 ^ 64 → 22 ≤ room → ltb room (length (number x)) ≡ false
never_short room x fits enough = le-ltb room (length (number x)) (omega (arith, number_short x fits))
