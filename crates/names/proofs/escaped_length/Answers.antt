-- `names::escaped_length` meets its contract: the length of the bytes so far, then that of the next.
use Rattle.std.proofs.Common.{refl, arith, length-append}
use Rattle.text.proofs.Escapes.{escaped_next}
use Rattle.text.specs.Names.{escaped}
use Rattle.names.proofs.escaped_length.Goals as goal

pub loop-b-init : goal.loop-b-init
unfolding escaped
loop-b-init c = refl

pub loop-b-preserved : goal.loop-b-preserved
loop-b-preserved c =
    rw (escaped_next c.args.bytes.now c.loop-b.b-index c.loop-b-test.true, length-append) (omega (arith, c.loop-b.invariant, c.escape_length.ensures, c.sum-length.ensures))
