-- `finder::length_to_zero` meets its contract: the first zero byte of the part is the name's end.
use Rattle.finder.proofs.Ends.{ends_at_found}
use Rattle.finder.proofs.length_to_zero.Goals as goal

pub returns : goal.returns
returns c =
    let a = c.args in
    rw (c.unwrap_or.ensures, c.first_zero.ensures) (ends_at_found a.dump.now _ a.at a.size c.part-name.ensures.bytes)
