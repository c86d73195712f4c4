-- `numbers::is_bare` meets its contract: its test is the definition's.
use mathlib.Core.Path.{refl}
use Rattle.text.specs.Numbers.{is_bare}
use Rattle.numbers.proofs.is_bare.Goals as goal

pub returns : goal.returns
unfolding is_bare
returns c = refl
