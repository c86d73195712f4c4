-- `names::fit_some` meets its contract: the whole text where there is room, otherwise only its length.
use Rattle.std.specs.Prelude.{Some}
use mathlib.Core.Path.{sym, ◌∙◌}
use native.Mathlib.Omega.{arith}
use lib.ListN.{length}
use borrow.Author.Tests.{leb-true, leb-false}
use Rattle.text.proofs.Output.{none_fitted, put_fitted}
use Rattle.text.specs.Names.{name}
use Rattle.names.proofs.fit_some.Goals as goal

pub returns-then-has_room : goal.returns-then-has_room
returns-then-has_room c =
    let text = name (Some c.args.bytes.now) in
    let out = c.args.out.now in
    put_fitted text (omega arith) (leb-true (length text) (length out) (sym c.has_room.ensures ∙ c.if-has_room.true)) c.put_quoted.ensures

pub returns : goal.returns
returns c =
    let text = name (Some c.args.bytes.now) in
    none_fitted text (leb-false (length text) (length c.args.out.now) (sym c.has_room.ensures ∙ c.if-has_room.false)) c.name_length.ensures
