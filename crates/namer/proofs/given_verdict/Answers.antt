-- `namer::given_verdict` meets its contract: 27 goes by where the search for a damaged record ends.
use mathlib.Core.List.{[], ◌∷◌}
use mathlib.Core.Path.{◌∙◌}
use native.Mathlib.Omega.{arith}
use lib.ListN.{length}
use Rattle.rows.proofs.Rows.{row_passed, row_refused}
use Rattle.trace.specs.Table.{row2}
use Rattle.naming.specs.Records.{row27}
use Rattle.namer.proofs.Searches.{row27_by}
use Rattle.namer.proofs.given_verdict.Goals as goal

pub returns-in_err-row : goal.returns-in_err-row
unfolding row2
returns-in_err-row c = grind (arith, row_refused)

pub returns : goal.returns
unfolding row2
returns c =
    let names = c.args.names.now in
    row_passed (row2 (length names)) (row27 names ∷ []) c.in_ok-row.ensures (rw c.first_record-at.ensures at c.row-2.ensures ∙ row27_by names)
