-- `namer::record_name` meets its contract, by where the search for the record ends.
use Rattle.std.specs.Prelude.{Some}
use mathlib.Core.Path.{ap, sym, ◌∙◌}
use native.Mathlib.Omega.{arith}
use lib.ListN.{length}
use borrow.Author.Tests.{le-ltb, lt-ltb}
use Rattle.namer.proofs.Searches.{name_nowhere, name_there}
use Rattle.namer.proofs.record_name.Goals as goal

pub returns-then-at-names : goal.returns-then-at-names
returns-then-at-names c =
    let a = c.args in
    let there = rw c.first_record-at.ensures at (lt-ltb c.first_record-at.result (length a.names.now) c.if-at-names.true) in
    ap Some (rw c.first_record-at.ensures at c.name_from.ensures) ∙ sym (name_there a.names.now a.subject a.number there)

pub returns : goal.returns
returns c =
    let a = c.args in
    let nowhere = rw c.first_record-at.ensures at (le-ltb c.first_record-at.result (length a.names.now) (omega (arith, c.if-at-names.false))) in
    sym (name_nowhere a.names.now a.subject a.number nowhere)
