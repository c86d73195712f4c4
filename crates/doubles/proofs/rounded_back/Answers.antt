-- `doubles::rounded_back` meets its contract: the double's value comes back, brought down where it is two to the 64.
use Rattle.std.proofs.Common.{T, sym, ◌∙◌, subst, arith}
use lib.Ieee.{of_bits}
use Rattle.doubles.proofs.Values.{value_back, above_minus_one, too_large}
use Rattle.doubles.proofs.rounded_back.Goals as goal

pub truncating_f64_to_u64-requires : goal.truncating_f64_to_u64-requires
unfolding of_bits
truncating_f64_to_u64-requires c = record { lower_bound = above_minus_one _ _ c.double_of-double.ensures.1; upper_bound = subst T (sym c.if-double.true) tt }

pub returns-then-double : goal.returns-then-double
returns-then-double c = c.truncating_f64_to_u64.ensures ∙ value_back _ _ c.double_of-double.ensures.1

pub returns : goal.returns
unfolding of_bits
returns c = omega (arith, too_large _ _ c.double_of-double.ensures.1 c.if-double.false)
