-- `listing::records::RecordIndex::name_in` meets its contract: the record that is found lies in the file, and has the name.
use mathlib.Core.Path.{sym, ◌∙◌}
use Rattle.listing.proofs.Follows.{lowest_in_below}
use Rattle.listing.proofs.RecordIndex.{record_found}
use Rattle.listing.proofs.records.RecordIndex.name_in.Goals as goal

pub returns : goal.returns
returns c =
    let a = c.args in
    let starts = a.self.now.linked.found.starts c.in_ok-i.i (lowest_in_below _ _ c.in_ok-i.i (sym c.find.ensures ∙ c.in_ok-i.was)) in
    rw (record_found a.self.now.names.now a.subject a.number, ← c.is_thread_subject.ensures, ← c.find.ensures, c.in_ok-i.was, ← starts, c.name_at.ensures)
