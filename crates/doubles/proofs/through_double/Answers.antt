-- `doubles::through_double` meets its contract: up to the limit a number is its own double.
use Rattle.std.proofs.Common.{arith}
use Rattle.doubles.proofs.Values.{double_same}
use Rattle.doubles.proofs.through_double.Goals as goal

pub returns-then-x-le-EXACT : goal.returns-then-x-le-EXACT
returns-then-x-le-EXACT c = omega (arith, c.exact_back.ensures, double_same c.args.x c.if-x-le-EXACT.true)
