-- `words::in_order` meets its contract, by the case of the order.
use Rattle.std.proofs.Common.{sym, arith}
use Rattle.words.specs.Words.{joined, lowest_first, number_bytes, split}
use Rattle.words.proofs.Laws.{joined_split}
use Rattle.words.proofs.in_order.Goals as goal

pub returns-in-Big : goal.returns-in-Big
unfolding number_bytes lowest_first split joined
returns-in-Big c = rw c.in-Big.is (omega (arith, c.swap_bytes.ensures))

pub returns-in-Little : goal.returns-in-Little
unfolding number_bytes lowest_first
returns-in-Little c = rw c.in-Little.is (sym (joined_split 4 c.args.v (omega arith)))
