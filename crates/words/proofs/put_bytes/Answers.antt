-- `words::put_bytes` meets its contract: stored in one piece or one by one, the bytes stand one after another.
use Rattle.std.proofs.Common.{◌+◌, ◌-◌, ap, ◌∙◌, arith}
use lib.Seq.{sets}
use Rattle.words.proofs.Chunks.{all_bytes, stored_whole}
use Rattle.words.proofs.put_bytes.Goals as goal

pub returns-then-at-buffer : goal.returns-then-at-buffer
returns-then-at-buffer g c =
    let a = c.args in
    rw c.copy_from_slice.ensures.after (stored_whole a.bytes.now a.buffer.now a.at (a.at + g.row.N - a.at) (omega arith) (omega arith))

pub returns : goal.returns
returns g c =
    let a = c.args in
    c.put_padded.ensures ∙ ap (sets a.buffer.now a.at) (all_bytes g.row.N a.bytes.now c.told-bytes)
