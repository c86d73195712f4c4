-- `namer::end_of` meets its contract.
use native.Mathlib.Omega.{arith}
use Rattle.namer.proofs.end_of.Goals as goal

pub overflow_add-result-2 : goal.overflow_add-result-2
overflow_add-result-2 c = omega (arith, c.length_at.ensures.1)

pub returns : goal.returns
returns c = rw c.length_at.ensures.0
