-- `registrar::registering::object_verdict` meets its contract: three rows after those of the header.
use mathlib.Core.List.{[], ◌∷◌}
use native.Mathlib.Omega.{arith}
use lib.ListN.{length}
use Rattle.rows.proofs.Rows.{row_passed, row_refused, rows_passed, then_refused}
use Rattle.trace.specs.Table.{header_rows}
use Rattle.writing.specs.Table.{row19, row20, row23}
use Rattle.registrar.proofs.registering.object_verdict.Goals as goal

pub returns-in_err-header_verdict : goal.returns-in_err-header_verdict
returns-in_err-header_verdict c =
    let a = c.args in
    grind (arith, then_refused (header_rows a.header (length a.buffer.now)) (row19 a.object.object_type ∷ row23 a.name.now ∷ row20 a.buffer.now a.header a.object.pointer ∷ []))

pub returns-in_err-row19 : goal.returns-in_err-row19
returns-in_err-row19 c = rows_passed (header_rows c.args.header (length c.args.buffer.now)) _ c.in_ok-header_verdict.ensures (grind (arith, row_refused))

pub returns-in_err-row23 : goal.returns-in_err-row23
returns-in_err-row23 c = rows_passed (header_rows c.args.header (length c.args.buffer.now)) _ c.in_ok-header_verdict.ensures (grind (arith, row_passed, row_refused))

pub returns : goal.returns
returns c = rows_passed (header_rows c.args.header (length c.args.buffer.now)) _ c.in_ok-header_verdict.ensures (grind (arith, row_passed))
