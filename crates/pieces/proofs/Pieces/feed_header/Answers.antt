-- `pieces::Pieces::feed_header` meets its contract.
use mathlib.Core.Path.{◌∙◌, ap, sym}
use native.Mathlib.Omega.{arith}
use borrow.Author.Tests.{eqb-false, eqb-true}
use lib.Seq.{sets}
use Rattle.pieces.specs.Pieces.{pushed}
use Rattle.pieces.proofs.Fed.{fed_none}
use Rattle.pieces.proofs.Filled.{all_bytes}
use Rattle.pieces.proofs.States.{fed_header}
use Rattle.pieces.proofs.Pieces.feed_header.Goals as goal

pub returns-then-is_empty : goal.returns-then-is_empty
returns-then-is_empty c = sym (fed_none pushed _ _ (omega (arith, eqb-true _ _ (sym c.is_empty.ensures ∙ c.if-is_empty.true))))

pub returns : goal.returns
returns c =
    let p = c.args.self in
    let bytes = c.args.bytes.now in
    let held = c.put_padded.ensures ∙ ap (sets p.header p.total) (all_bytes bytes) in
    let some = eqb-false _ _ (sym c.is_empty.ensures ∙ c.if-is_empty.false) in
    rw (c.begin.ensures, held) (sym (fed_header p bytes (omega (arith, some)) (c.requires (omega (arith, some)))))
