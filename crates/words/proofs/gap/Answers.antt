-- `words::gap` meets its contract: the difference is the one around the circle.
use Rattle.std.proofs.Common.{ℕ, ap, arith}
use lib.Bits.{bit_and}
use Rattle.words.specs.Offsets.{minus}
use Rattle.words.proofs.gap.Goals as goal

pub returns : goal.returns
unfolding minus
returns c = ap (λ (difference : ℕ). bit_and difference c.args.mask) (omega arith)
