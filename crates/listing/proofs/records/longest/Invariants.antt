-- `listing::records::longest` meets its contract. The loop's invariant: no record before `at` is longer than `most`.
use Prim.Native.Nat.{ℕ, ◌-◌, ◌^◌, ◌≤◌, ◌<◌}
use mathlib.Core.List.{List}
use mathlib.Core.Path.{◌≡◌}
use lib.ListN.{length}
use Rattle.naming.specs.Records.{length_at, record_at}
use Rattle.listing.proofs.records.longest.Given as goal

-- the pass has come to a record, by its index
pub record Come (f : List ℕ) (at most : ℕ) : Type 0 where
  pub index : ℕ
  pub starts : at ≡ record_at f index
  pub small : most < 2 ^ 16
  pub none-longer : (k : ℕ) → k < index → length_at f (record_at f k) ≤ most

abbrev pub invariant-loop-at : goal.invariant-loop-at
invariant-loop-at l = Come l.names l.at l.most

abbrev pub decreases-loop-at : goal.decreases-loop-at
decreases-loop-at l = length l.names - l.at
