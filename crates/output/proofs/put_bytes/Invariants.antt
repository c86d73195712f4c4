-- `output::put_bytes` meets its contract: the bytes copied so far stand at the front.
use Rattle.std.proofs.Common.{◌≡◌, ◌++◌, drop, take}
use Rattle.output.proofs.put_bytes.Given as goal

abbrev pub invariant-loop-i : goal.invariant-loop-i
invariant-loop-i l = l.out ≡ take l.i l.bytes ++ drop l.i l.initial.out
