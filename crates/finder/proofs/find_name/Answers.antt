-- `finder::find_name` meets its contract, by the verdict.
use Rattle.std.specs.Prelude.{Err, Ok, option_copied}
use mathlib.Core.Path.{◌≡◌, sym, ◌∙◌}
use native.Mathlib.Omega.{arith}
use Rattle.naming.specs.Finding.{find_name_with, finding_rows}
use Rattle.rows.specs.Rows.{first_broken}
use Rattle.trace.specs.Layout.{header_of}
use Rattle.finder.proofs.find_name.Goals as goal

pub returns-in_err-finding_verdict : goal.returns-in_err-finding_verdict
unfolding find_name_with
returns-in_err-finding_verdict c =
    let a = c.args in
    let f = c.in_err-finding_verdict.field-0.0 in
    let same : c.from_residual.result ≡ Err f = grind arith in
    let verdict : first_broken (finding_rows (option_copied a.names) a.dump.now (header_of a.dump.now)) ≡ Err f =
    rw c.header_of-header.ensures at (sym c.finding_verdict.ensures ∙ c.in_err-finding_verdict.was) in
    rw verdict same

pub returns : goal.returns
unfolding find_name_with
returns c =
    let a = c.args in
    let verdict : first_broken (finding_rows (option_copied a.names) a.dump.now (header_of a.dump.now)) ≡ Ok tt =
    rw c.header_of-header.ensures at (sym c.finding_verdict.ensures ∙ c.in_ok-finding_verdict.was) in
    rw (verdict, c.name_with.ensures, c.header_of-header.ensures)
