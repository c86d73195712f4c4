-- `output::put_bytes` meets its contract: the bytes copied so far stand at the front.
use Rattle.std.proofs.Common.{◌≡◌, refl, ◌∙◌, length, arith}
use lib.Seq.{take-length}
use Rattle.text.proofs.Output.{copy_next, put_all, put_none}
use Rattle.output.proofs.put_bytes.Goals as goal

pub returns-then-out-length : goal.returns-then-out-length
returns-then-out-length c = put_none c.args.bytes.now c.args.out.now c.if-out-length.true

pub loop-i-preserved : goal.loop-i-preserved
loop-i-preserved c =
    let l = c.loop-i in
    rw l.invariant (copy_next c.args.bytes.now c.args.out.now l.i (omega arith) (omega arith))

pub returns : goal.returns
returns c =
    let bytes = c.args.bytes.now in
    let all : c.loop-i.i ≡ length bytes = omega arith in
    put_all bytes c.args.out.now c.if-out-length.false record { count = refl; bytes = c.loop-i.invariant ∙ rw (all, take-length bytes) }
