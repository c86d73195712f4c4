-- `words::byte` meets its contract: past the end, the list's default is 0.
use Rattle.std.proofs.Common.{sym, arith}
use lib.ListN.{get_or-eq_default}
use Rattle.words.proofs.byte.Goals as goal

pub returns-then-bytes-at : goal.returns-then-bytes-at
returns-then-bytes-at c = sym (get_or-eq_default c.args.bytes.now 0 (omega arith))

pub returns-then-bytes-at-2 : goal.returns-then-bytes-at-2
returns-then-bytes-at-2 c = sym (get_or-eq_default c.args.bytes.now 0 (omega arith))
