-- `names::put_escaped` meets its contract: the text of the bytes so far, then that of the next into the rest.
use Rattle.std.proofs.Common.{take}
use Rattle.text.specs.Names.{escaped}
use Rattle.text.specs.Output.{Put}
use Rattle.names.proofs.put_escaped.Given as goal

abbrev pub invariant-loop-b : goal.invariant-loop-b
invariant-loop-b l = Put (escaped (take l.b-index l.bytes)) l.initial.out l.out l.at
