-- `words::put_byte` meets its contract: past the end, a store changes nothing.
use Rattle.std.proofs.Common.{sym, arith}
use lib.Seq.{set_out}
use Rattle.words.proofs.put_byte.Goals as goal

pub returns-then-buffer-at : goal.returns-then-buffer-at
returns-then-buffer-at c = sym (set_out c.args.buffer.now _ _ (omega arith))

pub returns-then-buffer-at-2 : goal.returns-then-buffer-at-2
returns-then-buffer-at-2 c = sym (set_out c.args.buffer.now _ _ (omega arith))
