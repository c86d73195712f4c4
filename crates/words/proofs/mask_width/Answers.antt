-- `words::mask_width` meets its contract: the two counts agree exactly at a mask.
use Rattle.std.proofs.Common.{sym, arith}
use lib.Count.{leading_le}
use Rattle.words.proofs.Masks.{counted, uncounted}
use Rattle.words.proofs.mask_width.Goals as goal

pub overflow_sub-mask : goal.overflow_sub-mask
overflow_sub-mask c = leading_le 32 c.args.mask

pub returns-then-ones-mask : goal.returns-then-ones-mask
returns-then-ones-mask c = counted c.args.mask (omega arith) (omega (arith, c.if-ones-mask.true))

pub returns-else-ones-mask : goal.returns-else-ones-mask
returns-else-ones-mask c = sym (uncounted c.args.mask (λ e. omega (arith, c.if-ones-mask.false)))
