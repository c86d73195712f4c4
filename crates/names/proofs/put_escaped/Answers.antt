-- `names::put_escaped` meets its contract: the text of the bytes so far, then that of the next into the rest.
use Rattle.std.proofs.Common.{refl, arith, length-take, length-drop}
use Rattle.text.proofs.Escapes.{escaped_fits, escaped_next}
use Rattle.text.proofs.Output.{on_from}
use Rattle.text.specs.Names.{escaped}
use Rattle.names.proofs.put_escaped.Goals as goal

pub loop-b-init : goal.loop-b-init
unfolding escaped
loop-b-init c = record { count = refl; bytes = refl }

pub put_escape-at-requires : goal.put_escape-at-requires
put_escape-at-requires c = simp (length-take, length-drop) (omega (arith, escaped_fits c.args.bytes.now c.loop-b.b-index c.loop-b-test.true))

pub loop-b-preserved : goal.loop-b-preserved
loop-b-preserved c = rw (escaped_next c.args.bytes.now c.loop-b.b-index c.loop-b-test.true) (on_from _ _ c.loop-b.invariant c.put_escape-at.ensures)
