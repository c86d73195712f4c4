-- `listing::threads::ThreadIndex::thread_name` meets its contract: the entry that is found has the name.
use Rattle.listing.proofs.ThreadIndex.{thread_found}
use Rattle.listing.proofs.threads.ThreadIndex.thread_name.Goals as goal

pub returns : goal.returns
returns c =
    let a = c.args in
    rw (thread_found a.self.now.dump.now a.self.now.header a.kind a.pointer, ← c.is_gone_kind.ensures, ← c.find.ensures, c.in_ok-entry.was, c.entry_name.ensures)
