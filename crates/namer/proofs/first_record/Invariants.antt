-- `namer::first_record` meets its contract. The loop's invariant: a record starts at `at`, or the file ends there or before, and none before it is sought.
use Prim.Native.Nat.{ℕ, ◌-◌, ◌<◌}
use mathlib.Core.Bool.{false}
use mathlib.Core.List.{List}
use mathlib.Core.Path.{◌≡◌}
use lib.ListN.{length}
use Rattle.naming.specs.Records.{is_sought_at, record_at}
use Rattle.naming.specs.declared.Sought.{Sought}
use Rattle.namer.proofs.first_record.Given as goal

-- the search has come to a record, by its index
pub record Come (f : List ℕ) (sought : Sought) (at : ℕ) : Type 0 where
  pub index : ℕ
  pub starts : at ≡ record_at f index
  pub missed : (k : ℕ) → k < index → is_sought_at sought f (record_at f k) ≡ false

abbrev pub invariant-loop-at : goal.invariant-loop-at
invariant-loop-at l = Come l.names l.sought l.at

abbrev pub decreases-loop-at : goal.decreases-loop-at
decreases-loop-at l = length l.names - l.at
