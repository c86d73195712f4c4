-- `listing::records::index_all` meets its contract. The loop's invariant: the records from `i` on are linked.
use Rattle.listing.specs.RecordIndex.{Records}
use Rattle.listing.proofs.records.index_all.Given as goal

abbrev pub invariant-loop-i : goal.invariant-loop-i
invariant-loop-i l = Records l.names l.i l.records
