-- `words::put_padded` meets its contract. The loop's invariant: the first k bytes are stored.
use Rattle.std.proofs.Common.{◌≡◌, ℕ, refl, ap, ◌∙◌, arith}
use lib.Seq.{sets}
use Rattle.words.proofs.Runs.{run_more}
use Rattle.words.specs.Words.{bytes_at}
use Rattle.words.proofs.put_padded.Goals as goal

pub loop-k-init : goal.loop-k-init
unfolding bytes_at
loop-k-init c = refl

pub loop-k-preserved : goal.loop-k-preserved
loop-k-preserved c =
    let a = c.args in
    rw (c.byte.ensures, c.loop-k.invariant) at c.put_byte.ensures ∙ run_more a.bytes.now a.buffer.now a.at c.loop-k.k

pub returns : goal.returns
returns c =
    let a = c.args in
    let all : c.loop-k.k ≡ a.size = omega arith in
    c.loop-k.invariant ∙ ap (λ (k : ℕ). sets a.buffer.now a.at (bytes_at a.bytes.now 0 k)) all
