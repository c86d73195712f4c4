-- `registrar::registering::row23` meets its contract: the name has a zero where a search for one ends before it does.
use mathlib.Core.Path.{◌≡◌, ◌∙◌}
use lib.Dec.{ltb}
use lib.ListN.{length}
use Rattle.rows.specs.Lowest.{lowest}
use Rattle.trace.specs.Names.{is_zero_at}
use Rattle.writing.specs.Table.{row23}
use Rattle.registrar.proofs.Zeros.{zero_found}
use Rattle.registrar.proofs.registering.row23.Goals as goal

pub returns : goal.returns
unfolding row23
returns c =
    let name = c.args.name.now in
    let found : c.contains.result ≡ ltb (lowest (is_zero_at name 0) (length name)) (length name) = c.contains.ensures.value ∙ zero_found name in
    rw found at c.row.ensures
