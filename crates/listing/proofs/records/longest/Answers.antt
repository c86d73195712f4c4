-- `listing::records::longest` meets its contract. The loop's invariant: no record before `at` is longer than `most`.
use Rattle.std.specs.Ordering.{nat_cmp, ord_max}
use Prim.Native.Nat.{ℕ, suc, ◌^◌, ◌≤◌, ◌<◌}
use mathlib.Core.List.{List}
use mathlib.Core.Path.{◌≡◌, ap, refl}
use native.Mathlib.Decide.{ℕ_discrete}
use native.Mathlib.Omega.{arith}
use lib.ListN.{length}
use Rattle.naming.proofs.Records.{count_past}
use Rattle.naming.specs.Records.{end_at, length_at, record_at}
use Rattle.listing.proofs.records.longest.Invariants.{Come}
use Rattle.listing.proofs.records.longest.Goals as goal

-- one record more
onward : (f : List ℕ) (at most more length : ℕ) → Come f at most → length ≡ length_at f at → most ≤ more → length ≤ more → more < 2 ^ 16 → Come f (end_at f at) more
unfolding record_at
onward f at most more length come is grown covers small = record {
  index = suc come.index;
  starts = ap (end_at f) come.starts;
  small = small;
  none-longer = λ k below. by k below (ℕ_discrete k come.index);
}
  where
    by : (k : ℕ) → k < suc come.index → Dec (k ≡ come.index) → length_at f (record_at f k) ≤ more
    by k below (yes here) = rw (here, ← come.starts, ← is) covers
    by k below (no before) = omega (arith, come.none-longer k (omega arith))

pub loop-at-init : goal.loop-at-init
unfolding record_at
loop-at-init c = record { index = 0; starts = refl; small = omega arith; none-longer = λ k below. absurd (omega arith) }

pub overflow_add-at : goal.overflow_add-at
overflow_add-at c = omega (arith, c.loop-at-test.true, c.requires)

pub overflow_add-at-in-loop-at : goal.overflow_add-at-in-loop-at
overflow_add-at-in-loop-at c = omega (arith, c.loop-at-test.true, c.requires)

pub loop-at-smaller : goal.loop-at-smaller
loop-at-smaller c = omega (arith, c.loop-at-test.true)

longer : (a b : ℕ) → (a ≤ ord_max nat_cmp a b) × (b ≤ ord_max nat_cmp a b) × ((n : ℕ) → a < n → b < n → ord_max nat_cmp a b < n)
longer a b = grind arith

pub loop-at-preserved : goal.loop-at-preserved
loop-at-preserved c =
    let turn = c.loop-at in
    let length = c.half-length in
    let most = longer turn.most length.result in
    rw (length.ensures, c.max-most.ensures)
    (onward c.args.names.now turn.at turn.most _ length.result turn.invariant length.ensures most.0 most.1 (most.2 (2 ^ 16) turn.invariant.small (omega (arith, length.type_inv))))

pub returns : goal.returns
returns c =
    let turn = c.loop-at in
    (turn.invariant.small, λ i below. turn.invariant.none-longer i (omega (arith, count_past c.args.names.now turn.invariant.index (omega (arith, turn.invariant.starts, c.loop-at-test.false)))))
