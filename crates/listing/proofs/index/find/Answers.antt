-- `listing::index::find` meets its contract. The loop's invariant: nothing below `i` is sought, and the thing there has the place.
use mathlib.Core.Path.{sym, ◌∙◌}
use native.Mathlib.Omega.{arith}
use Rattle.listing.proofs.Follows.{comes_hit, comes_inside, comes_past}
use Rattle.listing.proofs.index.find.Goals as goal

pub returns-then-number : goal.returns-then-number
returns-then-number g c =
    let come = c.loop-i.invariant in
    comes_hit c.loop-i.i come (comes_inside c.loop-i.i come c.loop-i-test.true) (sym c.number.ensures ∙ c.if-number.true)

pub returns : goal.returns
returns g c = comes_past c.loop-i.i c.loop-i.invariant (omega (arith, c.loop-i-test.false))
