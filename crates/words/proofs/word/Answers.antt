-- `words::word` meets its contract: the number of the bytes, the lowest first, is read in its order.
use Rattle.std.proofs.Common.{◌∙◌}
use Rattle.words.proofs.Chunks.{four_read}
use Rattle.words.proofs.word.Goals as goal

pub returns-in-Some : goal.returns-in-Some
returns-in-Some c =
    let a = c.args in
    c.in_order.ensures ∙ four_read a.order c.in-Some.four.now a.bytes.now a.at (λ i. (c.type_inv.bytes i).fits) c.from_le_bytes.result c.from_le_bytes.ensures c.in-Some.ensures

pub returns : goal.returns
returns c =
    let a = c.args in
    c.in_order-2.ensures ∙ four_read a.order c.padded.result a.bytes.now a.at (λ i. (c.type_inv.bytes i).fits) c.from_le_bytes-2.result c.from_le_bytes-2.ensures c.padded.ensures
