-- `arguments::number_in` meets its contract, digit by digit.
use Rattle.arguments.proofs.Digits.{SoFar}
use Rattle.arguments.proofs.number_in.Given as goal

abbrev pub invariant-loop-b : goal.invariant-loop-b
invariant-loop-b l = SoFar l.text l.value l.b-index
