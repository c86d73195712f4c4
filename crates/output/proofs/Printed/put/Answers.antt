-- `output::Printed::put` meets its contract: the length tells whether the text was written.
use Rattle.std.proofs.Common.{arith}
use Rattle.text.proofs.Output.{fitted_put}
use Rattle.output.proofs.Printed.put.Goals as goal

pub returns : goal.returns
returns g c = fitted_put _ (omega arith) c.fit-length.ensures c.if_room.ensures
