-- `filer::record_verdict` meets its contract: the end decides both rows, capped or not.
use Prim.Native.Nat.{◌+◌}
use mathlib.Core.List.{[], ◌∷◌}
use mathlib.Core.Path.{◌≡◌, ◌∙◌}
use native.Mathlib.Omega.{arith}
use Rattle.naming.specs.Writing.{record_rows, row28}
use Rattle.rows.proofs.Rows.{row_passed, row_refused}
use Rattle.rows.specs.Rows.{first_broken}
use Rattle.trace.specs.Table.{row16}
use Rattle.filer.proofs.Ends.{rows_capped}
use Rattle.filer.proofs.record_verdict.Goals as goal

pub returns-in_err-row28 : goal.returns-in_err-row28
returns-in_err-row28 c =
    let a = c.args in
    let end = c.saturating_add-end.result in
    let refused : c.from_residual.result ≡ first_broken (record_rows end a.room) = grind (arith, row_refused) in
    refused ∙ rw c.saturating_add-end.ensures (rows_capped (a.offset + a.size) a.room (omega (arith, c.requires)))

pub returns : goal.returns
returns c =
    let a = c.args in
    let end = c.saturating_add-end.result in
    row_passed (row28 end) (row16 end a.room ∷ []) c.in_ok-row28.ensures c.row16.ensures
    ∙ rw c.saturating_add-end.ensures (rows_capped (a.offset + a.size) a.room (omega (arith, c.requires)))
