-- `names::escaped_length` meets its contract: the length of the bytes so far, then that of the next.
use Rattle.std.proofs.Common.{◌≡◌, length, take}
use Rattle.text.specs.Names.{escaped}
use Rattle.text.specs.Output.{capped}
use Rattle.names.proofs.escaped_length.Given as goal

abbrev pub invariant-loop-b : goal.invariant-loop-b
invariant-loop-b l = l.length ≡ capped (length (escaped (take l.b-index l.bytes)))
