-- Records follow one another: each starts at least four bytes behind the one before, and those that start within the file are those that are counted.
use Prim.Native.Nat.{ℕ, zero, suc, ◌+◌, ◌-◌, ◌*◌, ◌≤◌, ◌<◌}
use mathlib.Core.Bool.{false, true, true≢false}
use mathlib.Core.List.{List}
use mathlib.Core.Path.{◌≡◌, sym, ◌∙◌}
use native.Mathlib.Decide.{dec_lt}
use native.Mathlib.Omega.{arith}
use borrow.Author.Tests.{le-leb, leb-true}
use lib.Dec.{leb}
use lib.ListN.{length}
use Rattle.rows.proofs.Lowest.{lowest_at, lowest_before, lowest_hit, lowest_le, none_lowest}
use Rattle.naming.specs.Records.{first_record, has_record, is_sought_at, record_at, record_count}
use Rattle.naming.specs.declared.Sought.{Sought}

module _ (f : List ℕ) where
  -- each takes four bytes at least
  pub records_apart : (i : ℕ) → 4 * i ≤ record_at f i
  unfolding record_at
  records_apart zero = omega arith
  records_apart (suc i) = omega (arith, records_apart i)

  records_rise : (i more : ℕ) → record_at f i ≤ record_at f (i + more)
  unfolding record_at
  records_rise i zero = rw (unary i) (omega arith)
    where
      unary : (i : ℕ) → i + 0 ≡ i
      unary i = omega arith
  records_rise i (suc more) = rw (unary i more) (omega (arith, records_rise i more))
    where
      unary : (i more : ℕ) → i + suc more ≡ suc (i + more)
      unary i more = omega arith

  pub records_order : (i k : ℕ) → i ≤ k → record_at f i ≤ record_at f k
  records_order i k before =
      let on : i + (k - i) ≡ k = omega arith in
      rw on at (records_rise i (k - i))

  -- one that would start at the end or past it is not counted, and one that starts within the file is
  pub count_past : (i : ℕ) → length f ≤ record_at f i → record_count f ≤ i
  count_past i past = by (dec_lt i (record_count f))
    where
      by : Dec (i < record_count f) → record_count f ≤ i
      by (yes inside) = absurd (true≢false (sym (le-leb (length f) (record_at f i) past) ∙ lowest_before _ (length f) i inside))
      by (no beyond) = omega arith

  pub count_inside : (i : ℕ) → record_at f i < length f → i < record_count f
  count_inside i starts = by (dec_lt i (record_count f)) (dec_lt (record_count f) (length f))
    where
      n : ℕ
      n = record_count f

      back : n ≤ i → length f ≤ record_at f n → i < n
      back beyond past = absurd (omega (arith, records_order n i beyond))

      by : Dec (i < n) → Dec (n < length f) → i < n
      by (yes inside) any = inside
      by (no beyond) (yes few) = back (omega arith) (leb-true (length f) (record_at f n) (lowest_hit _ (length f) few))
      by (no beyond) (no all) = back (omega arith) (omega (arith, records_apart n, lowest_le (λ k. leb (length f) (record_at f k)) (length f)))

  pub inside_count : (i : ℕ) → i < record_count f → record_at f i < length f
  inside_count i inside = by (dec_lt (record_at f i) (length f))
    where
      by : Dec (record_at f i < length f) → record_at f i < length f
      by (yes starts) = starts
      by (no past) = absurd (omega (arith, count_past i (omega arith)))

  -- a search that has come to a record without a hit, or past all
  module _ (sought : Sought) (i : ℕ) (missed : (k : ℕ) → k < i → is_sought_at sought f (record_at f k) ≡ false) where
    pub first_here : record_at f i < length f → is_sought_at sought f (record_at f i) ≡ true → i ≡ first_record sought f
    first_here starts hit = lowest_at _ (record_count f) i (count_inside i starts) missed hit

    pub none_there : length f ≤ record_at f i → has_record sought f ≡ false
    none_there past = none_lowest _ (record_count f) (λ k below. missed k (omega (arith, count_past i past)))
