-- `doubles::exact_back` meets its contract: up to two to the fifty-third both casts lose nothing.
use lib.Ieee.{binary64}
use lib.Ieee.Back.{unsigned_back}
use Rattle.doubles.proofs.Values.{in_range}
use Rattle.doubles.proofs.exact_back.Goals as goal

pub int_to_float-double : goal.int_to_float-double
int_to_float-double c = in_range c.args.x c.requires

pub float_to_int-result : goal.float_to_int-result
float_to_int-result c =
    let s = c.before.before in
    (unsigned_back binary64 64 s.args.x (in_range s.args.x s.requires) s.ranges.x.fits).0

pub returns : goal.returns
returns c =
    let s = c.before.before in
    (unsigned_back binary64 64 s.args.x (in_range s.args.x s.requires) s.ranges.x.fits).1
