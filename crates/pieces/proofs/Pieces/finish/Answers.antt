-- `pieces::Pieces::finish` meets its contract: rows 11 to 13 follow those of the header.
use Rattle.std.proofs.Common.{rules}
use mathlib.Core.Path.{sym, ◌∙◌}
use Rattle.rows.proofs.Rows.{then_refused, then_rest}
use Rattle.trace.specs.Layout.{header_of}
use Rattle.trace.specs.Table.{header_rows}
use Rattle.pieces.specs.Body.{body_rows}
use Rattle.pieces.specs.Pieces.{finished}
use Rattle.pieces.proofs.Pieces.finish.Goals as goal

pub returns-in_err-header_verdict : goal.returns-in_err-header_verdict
unfolding finished
returns-in_err-header_verdict c =
    let p = c.args.self in
    let refused = rw c.header_of-header.ensures at (sym c.header_verdict.ensures ∙ c.in_err-header_verdict.was) in
    rw (← then_refused (header_rows (header_of p.header) p.total) (body_rows p.body) _ refused) (search rules)

pub returns-in_err-verdict : goal.returns-in_err-verdict
unfolding finished
returns-in_err-verdict c =
    let p = c.args.self in
    let passed = rw c.header_of-header.ensures at (sym c.header_verdict.ensures ∙ c.in_ok-header_verdict.was) in
    rw (← then_rest (header_rows (header_of p.header) p.total) (body_rows p.body) passed, ← c.verdict.ensures, c.in_err-verdict.was) (search rules)

pub returns : goal.returns
unfolding finished
returns c =
    let p = c.args.self in
    let passed = rw c.header_of-header.ensures at (sym c.header_verdict.ensures ∙ c.in_ok-header_verdict.was) in
    rw (← then_rest (header_rows (header_of p.header) p.total) (body_rows p.body) passed, ← c.verdict.ensures, c.in_ok-verdict.was, c.header_of-header.ensures)
