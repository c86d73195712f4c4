-- `words::put_word` meets its contract: the bytes of the number in its order are stored the lowest first.
use Rattle.std.proofs.Common.{ap, ◌∙◌, arith}
use lib.Seq.{sets}
use Rattle.words.specs.Words.{joined, number_bytes, put_number, split}
use Rattle.words.proofs.Chunks.{four_bytes}
use Rattle.words.proofs.Laws.{split_order}
use Rattle.words.proofs.put_word.Goals as goal

pub returns : goal.returns
unfolding put_number
returns c =
    let a = c.args in
    c.put_bytes.ensures
    ∙ ap (sets a.buffer.now a.at) (c.to_le_bytes.ensures ∙ four_bytes c.in_order.result ∙ ap (split 4) (c.in_order.ensures ∙ ap (λ v. joined (number_bytes a.order 4 v)) (omega arith)) ∙ split_order a.order 4 a.v)
