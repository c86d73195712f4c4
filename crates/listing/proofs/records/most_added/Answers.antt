-- `listing::records::most_added` meets its contract: an event's name and its thread's may both be the longest.
use native.Mathlib.Nat.{add-zero}
use native.Mathlib.Omega.{arith}
use Rattle.listing.proofs.Fitting.{file_short}
use Rattle.listing.proofs.Naming.{most_with, most_without}
use Rattle.listing.proofs.records.most_added.Goals as goal

pub longest-requires : goal.longest-requires
longest-requires c = file_short _ (rw c.in-Some.is at c.requires)

pub returns-in-None : goal.returns-in-None
returns-in-None c = rw c.in-None.is ((λ h. rw (add-zero h.name_size) (most_without h)), omega arith)

pub returns-in-Some : goal.returns-in-Some
returns-in-Some c =
    let longest = c.longest in
    rw c.in-Some.is ((λ h. most_with _ longest.result longest.ensures.1 h), omega (arith, longest.ensures.0))
