-- `listing::threads::link_all` meets its contract. The loop's invariant: the entries from `entry` on are linked.
use Rattle.listing.proofs.ThreadIndex.{threads_start}
use Rattle.listing.proofs.threads.link_all.Goals as goal

pub loop-entry-init : goal.loop-entry-init
loop-entry-init c = rw (c.geometry_of-entry.ensures, c.requires.1) (threads_start c.args.dump.now c.args.header c.requires.0)
