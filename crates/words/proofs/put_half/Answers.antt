-- `words::put_half` meets its contract: the bytes of the number in its order are stored the lowest first.
use Rattle.std.proofs.Common.{ap, ◌∙◌}
use lib.Seq.{sets}
use Rattle.words.specs.Words.{put_number, split}
use Rattle.words.proofs.Chunks.{two_bytes}
use Rattle.words.proofs.Laws.{split_order}
use Rattle.words.proofs.put_half.Goals as goal

pub returns : goal.returns
unfolding put_number
returns c =
    let a = c.args in
    c.put_bytes.ensures
    ∙ ap (sets a.buffer.now a.at) (c.to_le_bytes.ensures ∙ two_bytes c.half_in_order.result ∙ ap (split 2) c.half_in_order.ensures ∙ split_order a.order 2 a.v)
