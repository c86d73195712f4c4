-- The laws of a search for the lowest index, and of a count, for any test.
use Prim.Native.Nat.{ℕ, zero, suc, ◌+◌, ◌-◌, ◌<◌, ◌≤◌, min}
use mathlib.Core.Bool.{Bool, true, false, cond, not, and-eq-true_iff, and-false, and-true, true≢false}
use mathlib.Core.Path.{◌≡◌, refl, sym, ap, ap₂, ◌∙◌}
use native.Mathlib.Decide.{dec_lt, ℕ_discrete}
use native.Mathlib.Numerals.{add-one}
use native.Mathlib.Omega.{arith}
use borrow.Author.Tests.{eq-eqb, ne_eqb, le-leb, lt-leb, lt-ltb, le-ltb, ltb-false}
use lib.Dec.{eqb, leb, ltb}
use Rattle.rows.specs.Lowest.{but_for, lowest, lowest_on, count}

-- a search that meets no hit ends at the count
pub lowest_none : (t : ℕ → Bool) (n : ℕ) → ((k : ℕ) → k < n → t k ≡ false) → n ≡ lowest t n
unfolding lowest
lowest_none t zero miss = refl
lowest_none t (suc n) miss = rw (miss 0 (omega arith)) (ap suc (lowest_none (λ k. t (suc k)) n (λ k h. miss (suc k) (omega arith))))

-- a search ends at its first hit
pub lowest_at : (t : ℕ → Bool) (n r : ℕ) → r < n → ((k : ℕ) → k < r → t k ≡ false) → t r ≡ true → r ≡ lowest t n
unfolding lowest
lowest_at t zero r within miss hit = absurd (omega arith)
lowest_at t (suc n) zero within miss hit = rw hit
lowest_at t (suc n) (suc r) within miss hit =
    rw (miss 0 (omega arith)) (ap suc (lowest_at (λ k. t (suc k)) n r (omega arith) (λ k h. miss (suc k) (omega arith)) hit))

-- a search ends at the count at the latest
one_later : (b : Bool) (n m : ℕ) → m ≤ n → cond b 0 (suc m) ≤ suc n
one_later true n m below = omega arith
one_later false n m below = omega arith

pub lowest_le : (t : ℕ → Bool) (n : ℕ) → lowest t n ≤ n
unfolding lowest
lowest_le t zero = omega arith
lowest_le t (suc n) = one_later (t 0) n (lowest (λ k. t (suc k)) n) (lowest_le (λ k. t (suc k)) n)

-- a search meets no hit before its end
missed : (b : Bool) (k m : ℕ) → k < cond b 0 (suc m) → (b ≡ false) × (k ≤ m)
missed true k m below = absurd (omega arith)
missed false k m below = (refl, omega arith)

pub lowest_before : (t : ℕ → Bool) (n k : ℕ) → k < lowest t n → t k ≡ false
unfolding lowest
lowest_before t zero k below = absurd (omega arith)
lowest_before t (suc n) zero below = (missed (t 0) 0 (lowest (λ k. t (suc k)) n) below).0
lowest_before t (suc n) (suc k) below = lowest_before (λ k. t (suc k)) n k (missed (t 0) (suc k) (lowest (λ k. t (suc k)) n) below).1

-- a search ends not below the count just where there is no hit
pub none_hit : (t : ℕ → Bool) (n : ℕ) → ltb (lowest t n) n ≡ false → (k : ℕ) → k < n → t k ≡ false
none_hit t n ended k below = lowest_before t n k (omega (arith, ltb-false (lowest t n) n ended))

pub none_lowest : (t : ℕ → Bool) (n : ℕ) → ((k : ℕ) → k < n → t k ≡ false) → ltb (lowest t n) n ≡ false
none_lowest t n miss = le-ltb (lowest t n) n (omega (arith, lowest_none t n miss))

-- a search that ends below the count ends at a hit
hit_at : (t : ℕ → Bool) (n m : ℕ) (b : Bool) → t 0 ≡ b → (m < n → t (suc m) ≡ true) → cond b 0 (suc m) < suc n → t (cond b 0 (suc m)) ≡ true
hit_at t n m true first later found = first
hit_at t n m false first later found = later (omega arith)

pub lowest_hit : (t : ℕ → Bool) (n : ℕ) → lowest t n < n → t (lowest t n) ≡ true
unfolding lowest
lowest_hit t zero found = absurd (omega arith)
lowest_hit t (suc n) found = hit_at t n (lowest (λ k. t (suc k)) n) (t 0) refl (lowest_hit (λ k. t (suc k)) n) found

-- a search of one index more
pub lowest-on : (t : ℕ → Bool) (n : ℕ) → lowest_on (lowest t n) n (t n) ≡ lowest t (n + 1)
lowest-on t n = by (dec_lt (lowest t n) n)
  where
    here : (b : Bool) → t n ≡ b → lowest t n ≡ n → cond b n (n + 1) ≡ lowest t (n + 1)
    here true hit none = lowest_at t (n + 1) n (omega arith) (λ k below. lowest_before t n k (omega arith)) hit
    here false miss none = lowest_none t (n + 1) (λ k below. on k below (ℕ_discrete k n))
      where
        on : (k : ℕ) → k < n + 1 → Dec (k ≡ n) → t k ≡ false
        on k below (yes e) = rw e miss
        on k below (no other) = lowest_before t n k (omega arith)

    by : Dec (lowest t n < n) → lowest_on (lowest t n) n (t n) ≡ lowest t (n + 1)
    by (yes ended) = rw (lt-ltb (lowest t n) n ended) (lowest_at t (n + 1) (lowest t n) (omega arith) (lowest_before t n) (lowest_hit t n ended))
    by (no none) = rw (le-ltb (lowest t n) n (omega arith)) (here (t n) refl (omega (arith, lowest_le t n)))

-- searches with tests that agree end at one place
pub lowest_same : (t u : ℕ → Bool) (n : ℕ) → ((k : ℕ) → k < n → t k ≡ u k) → lowest t n ≡ lowest u n
unfolding lowest
lowest_same t u zero agree = refl
lowest_same t u (suc n) agree =
    ap₂ (λ (b : Bool) (m : ℕ). cond b 0 (suc m)) (agree 0 (omega arith)) (lowest_same (λ k. t (suc k)) (λ k. u (suc k)) n (λ k below. agree (suc k) (omega arith)))

-- with one hit more a search ends there at the latest
pub lowest_more : (t u : ℕ → Bool) (n i : ℕ) → i < n → ((k : ℕ) → (k ≡ i → ⊥) → u k ≡ t k) → u i ≡ true → lowest u n ≡ min (lowest t n) i
lowest_more t u n i within same hit =
    sym (lowest_at u n (min (lowest t n) i) (omega arith) (λ k below. same k (omega arith) ∙ lowest_before t n k (omega arith)) (by (dec_lt (lowest t n) i)))
  where
    by : Dec (lowest t n < i) → u (min (lowest t n) i) ≡ true
    by (yes first) = let e : min (lowest t n) i ≡ lowest t n = omega arith in rw e (same (lowest t n) (omega arith) ∙ lowest_hit t n (omega arith))
    by (no later) = let e : min (lowest t n) i ≡ i = omega arith in rw e hit

-- and with one hit less, where it ends but for that one
pub lowest_but : (t u : ℕ → Bool) (n i : ℕ) → ((k : ℕ) → (k ≡ i → ⊥) → u k ≡ t k) → u i ≡ false → lowest u n ≡ lowest (but_for t i) n
lowest_but t u n i same miss = lowest_same u (but_for t i) n (λ k below. by k (ℕ_discrete k i))
  where
    by : (k : ℕ) → Dec (k ≡ i) → u k ≡ but_for t i k
    by k (yes here) = rw here (miss ∙ rw (eq-eqb i i refl, and-false))
    by k (no other) = same k other ∙ rw (ne_eqb k i other, and-true)

pub but_hit : (t : ℕ → Bool) (i k : ℕ) → but_for t i k ≡ true → (t k ≡ true) × (k ≡ i → ⊥)
but_hit t i k hit =
    let both = (and-eq-true_iff (t k) (not (eqb k i))).0 hit in
    (both.0, λ here. true≢false (sym both.1 ∙ rw (eq-eqb k i here)))

-- one index more
pub count_more : (t : ℕ → Bool) (n : ℕ) → count t (n + 1) ≡ count t n + cond (t n) 1 0
unfolding count
count_more t n = rw add-one

-- counts with tests that agree are the same
pub count_same : (t u : ℕ → Bool) (n : ℕ) → ((k : ℕ) → k < n → t k ≡ u k) → count t n ≡ count u n
unfolding count
count_same t u zero agree = refl
count_same t u (suc n) agree =
    ap₂ (λ (m : ℕ) (b : Bool). m + cond b 1 0) (count_same t u n (λ k below. agree k (omega arith))) (agree n (omega arith))

one_at_most : (b : Bool) → cond {A = ℕ} b 1 0 ≤ 1
one_at_most true = omega arith
one_at_most false = omega arith

pub count_le : (t : ℕ → Bool) (n : ℕ) → count t n ≤ n
unfolding count
count_le t zero = omega arith
count_le t (suc n) = omega (arith, count_le t n, one_at_most (t n))

-- where none passes nothing is counted
pub count_none : (t : ℕ → Bool) (n : ℕ) → ((i : ℕ) → i < n → t i ≡ false) → count t n ≡ 0
unfolding count
count_none t zero none = refl
count_none t (suc n) none = rw (none n (omega arith), count_none t n (λ i below. none i (omega arith)))

-- where all are counted, each passes
pub count_all : (t : ℕ → Bool) (n : ℕ) → count t n ≡ n → (i : ℕ) → i < n → t i ≡ true
unfolding count
count_all t zero all i below = absurd (omega arith)
count_all t (suc n) all i below = by (t n) refl (ℕ_discrete i n) all (λ rest less. count_all t n rest i less)
  where
    by : (b : Bool) → t n ≡ b → Dec (i ≡ n) → count t n + cond b 1 0 ≡ suc n → (count t n ≡ n → i < n → t i ≡ true) → t i ≡ true
    by true e (yes last) all rest = rw last e
    by true e (no before) all rest = rest (omega arith) (omega arith)
    by false e last all rest = absurd (omega (arith, count_le t n))

-- a test that the first m pass and no others counts them
pub count_first : (t : ℕ → Bool) (n m : ℕ) → ((i : ℕ) → i < n → t i ≡ ltb i m) → count t n ≡ min m n
unfolding count
count_first t zero m first = omega arith
count_first t (suc n) m first = rw (first n (omega arith)) (by (dec_lt n m) (count_first t n m (λ i below. first i (omega arith))))
  where
    by : Dec (n < m) → count t n ≡ min m n → count t n + cond (ltb n m) 1 0 ≡ min m (suc n)
    by (yes below) counted = rw (lt-ltb n m below) (omega arith)
    by (no past) counted = rw (le-ltb n m (omega arith)) (omega arith)

-- and one that all pass but the first m counts the others
pub count_rest : (t : ℕ → Bool) (n m : ℕ) → ((i : ℕ) → i < n → t i ≡ leb m i) → count t n ≡ n - m
unfolding count
count_rest t zero m rest = omega arith
count_rest t (suc n) m rest = rw (rest n (omega arith)) (by (dec_lt n m) (count_rest t n m (λ i below. rest i (omega arith))))
  where
    by : Dec (n < m) → count t n ≡ n - m → count t n + cond (leb m n) 1 0 ≡ suc n - m
    by (yes below) counted = rw (lt-leb m n below) (omega arith)
    by (no past) counted = rw (le-leb m n (omega arith)) (omega arith)
