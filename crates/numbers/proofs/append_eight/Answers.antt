-- `numbers::append_eight` meets its contract: what is put into the rest stands in the whole.
use Rattle.text.proofs.Output.{in_rest}
use Rattle.numbers.proofs.append_eight.Goals as goal

pub returns : goal.returns
returns c = in_rest _ c.put_eight.ensures
