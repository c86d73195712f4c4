-- `mender::mend_verdict` meets its contract: row 16 after those that say where the registry and the slots lie.
use mathlib.Core.List.{[], ◌∷◌}
use native.Mathlib.Omega.{arith}
use Rattle.rows.proofs.Rows.{rows_passed, then_refused}
use Rattle.trace.specs.Layout.{buffer_end}
use Rattle.trace.specs.Table.{layout_rows, row16}
use Rattle.mender.proofs.mend_verdict.Goals as goal

pub returns-in_err-layout_verdict : goal.returns-in_err-layout_verdict
returns-in_err-layout_verdict c =
    let a = c.args in
    grind (arith, then_refused (layout_rows a.header a.len) (row16 (buffer_end a.header) a.room ∷ []))

pub returns : goal.returns
returns c =
    rows_passed (layout_rows c.args.header c.args.len) _ c.in_ok-layout_verdict.ensures (rw c.offset_from.ensures at c.row16.ensures)
