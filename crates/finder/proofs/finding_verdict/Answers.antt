-- `finder::finding_verdict` meets its contract: the name file's rows follow those of the registry.
use Rattle.std.specs.Prelude.{Err, option_copied}
use mathlib.Core.Path.{◌≡◌, sym, ◌∙◌}
use native.Mathlib.Omega.{arith}
use Rattle.naming.specs.Records.{file_rows}
use Rattle.rows.proofs.Rows.{then_refused, then_rest}
use Rattle.trace.specs.Table.{registry_rows}
use Rattle.finder.proofs.finding_verdict.Goals as goal

pub returns-in_err-registry_verdict : goal.returns-in_err-registry_verdict
returns-in_err-registry_verdict c =
    let a = c.args in
    let f = c.in_err-registry_verdict.field-0.0 in
    let same : c.from_residual.result ≡ Err f = grind arith in
    same ∙ then_refused (registry_rows a.dump.now a.header) (file_rows (option_copied a.names)) f (sym c.registry_verdict.ensures ∙ c.in_err-registry_verdict.was)

pub returns : goal.returns
returns c =
    let a = c.args in
    c.file_verdict.ensures ∙ then_rest (registry_rows a.dump.now a.header) (file_rows (option_copied a.names)) (sym c.registry_verdict.ensures ∙ c.in_ok-registry_verdict.was)
