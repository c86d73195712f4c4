-- `doubles::double_of` meets its contract: both ways to the double give the cast's, whose value is the rule's.
use Rattle.std.proofs.Common.{false, sym, refl, subst}
use lib.Ieee.{Float}
use lib.Ieee.Exact.{HasValue}
use Rattle.doubles.specs.Doubles.{double}
use Rattle.doubles.proofs.Values.{cast_value, in_range}
use Rattle.doubles.proofs.double_of.Goals as goal

pub int_to_float-result : goal.int_to_float-result
int_to_float-result c = in_range c.args.x c.if-x-le-EXACT.true

pub returns-then-x-le-EXACT : goal.returns-then-x-le-EXACT
returns-then-x-le-EXACT c =
    let s = c.before.before in
    (refl, cast_value s.args.x s.ranges.x.fits)

pub returns : goal.returns
returns c =
    let s = c.before.before in
    let cast = c.nearest_u64_to_f64.ensures in
    (cast, subst (λ (d : Float). HasValue d false (double s.args.x) 1) (sym cast) (cast_value s.args.x s.ranges.x.fits))
