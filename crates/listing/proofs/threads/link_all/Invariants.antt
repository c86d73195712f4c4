-- `listing::threads::link_all` meets its contract. The loop's invariant: the entries from `entry` on are linked.
use Rattle.listing.specs.ThreadIndex.{Threads}
use Rattle.listing.proofs.threads.link_all.Given as goal

abbrev pub invariant-loop-entry : goal.invariant-loop-entry
invariant-loop-entry l = Threads l.dump l.header l.entry l.links
