-- `listing::index::find` meets its contract. The loop's invariant: nothing below `i` is sought, and the thing there has the place.
use Rattle.std.proofs.Common.{◌-◌}
use Rattle.listing.proofs.Follows.{Reached}
use Rattle.listing.specs.Index.{place_of}
use Rattle.listing.proofs.index.find.Given as goal

abbrev pub invariant-loop-i : goal.invariant-loop-i
invariant-loop-i g l =
    let index = g.I.ByNumber in
    Reached (index.has l.index) (index.number_at l.index) (index.count l.index) (place_of l.second l.number) l.number l.i

abbrev pub decreases-loop-i : goal.decreases-loop-i
decreases-loop-i g l = 65535 - l.i
