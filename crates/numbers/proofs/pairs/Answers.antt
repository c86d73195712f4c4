-- `numbers::pairs` meets its contract: the constant has the bytes of the definition.
use mathlib.Core.Path.{refl}
use Rattle.numbers.specs.Pairs.{pairs}
use Rattle.numbers.proofs.pairs.Goals as goal

pub returns : goal.returns
unfolding pairs
returns c = refl
