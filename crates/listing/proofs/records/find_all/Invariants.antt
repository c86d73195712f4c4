-- `listing::records::find_all` meets its contract. The loop's invariant: where the records before `at` start is noted, and all links lead nowhere.
use Prim.Native.Nat.{◌-◌}
use mathlib.Core.Path.{◌≡◌}
use lib.ListN.{length}
use Rattle.naming.specs.Records.{record_at}
use Rattle.listing.proofs.RecordIndex.{Found}
use Rattle.listing.proofs.records.find_all.Given as goal

abbrev pub invariant-loop-at : goal.invariant-loop-at
invariant-loop-at l = (l.at ≡ record_at l.names l.i) × Found l.names l.i l.records

abbrev pub decreases-loop-at : goal.decreases-loop-at
decreases-loop-at l = length l.names - l.at
