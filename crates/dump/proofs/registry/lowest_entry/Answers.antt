-- `dump::registry::lowest_entry` meets its contract: where the search ends early, it ends at an entry that is wanted.
use mathlib.Core.Path.{◌∙◌, sym}
use native.Mathlib.Omega.{arith}
use Rattle.header.proofs.Steps.{entries_are}
use Rattle.rows.proofs.Lowest.{lowest_at}
use Rattle.dump.proofs.registry.lowest_entry.Goals as goal

pub returns-then-is_wanted : goal.returns-then-is_wanted
returns-then-is_wanted c =
    let g = c.geometry_of-geometry in
    let hit = sym c.is_wanted.ensures ∙ c.if-is_wanted.true in
    lowest_at _ _ _ (omega (arith, entries_are c.args.header g.result g.ensures)) c.loop-i.invariant (rw g.ensures at hit)
