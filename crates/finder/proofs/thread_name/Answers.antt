-- `finder::thread_name` meets its contract: the search ends at the lowest thread of the kind with the pointer.
use Rattle.trace.specs.Names.{thread_name}
use Rattle.finder.proofs.thread_name.Goals as goal

pub returns : goal.returns
unfolding thread_name
returns c = rw c.lowest_entry-entry.ensures at c.name_if_entry.ensures
