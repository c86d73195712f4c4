-- `namer::first_record` meets its contract. The loop's invariant: a record starts at `at`, or the file ends there or before, and none before it is sought.
use Prim.Native.Nat.{suc, ◌<◌}
use mathlib.Core.Path.{refl, sym, ◌∙◌}
use native.Mathlib.Numerals.{add-one}
use native.Mathlib.Omega.{arith}
use lib.ListN.{length}
use borrow.Author.Count.{below_more, below_none}
use borrow.Author.Tests.{lt-ltb}
use Rattle.naming.proofs.Records.{count-inside, first-here, none-there}
use Rattle.naming.specs.Records.{record_at, record_count}
use Rattle.namer.specs.Searches.{sought_at}
use Rattle.namer.proofs.first_record.Goals as goal

pub loop-at-init : goal.loop-at-init
unfolding record_at
loop-at-init c = record { index = 0; starts = refl; missed = below_none _ }

pub loop-at-smaller : goal.loop-at-smaller
loop-at-smaller c = omega (arith, c.end_of-at.ensures)

pub loop-at-preserved : goal.loop-at-preserved
unfolding record_at
loop-at-preserved c =
    let come = c.loop-at.invariant in
    let miss = sym c.is_sought.ensures ∙ c.if-is_sought.false in
    record {
      index = suc come.index;
      starts = rw come.starts at c.end_of-at.ensures;
      missed = rw add-one at (below_more _ come.index come.missed (rw come.starts at miss));
    }

pub returns-then-at-names : goal.returns-then-at-names
unfolding sought_at
returns-then-at-names c =
    let a = c.args in
    let come = c.loop-at.invariant in
    rw (none-there a.names.now a.sought come.index come.missed (omega (arith, come.starts)))

pub returns-then-is_sought : goal.returns-then-is_sought
unfolding sought_at
returns-then-is_sought c =
    let a = c.args in
    let come = c.loop-at.invariant in
    let starts : record_at a.names.now come.index < length a.names.now = omega (arith, come.starts) in
    let hit = sym c.is_sought.ensures ∙ c.if-is_sought.true in
    let first = first-here a.names.now a.sought come.index come.missed starts (rw come.starts at hit) in
    rw (← first, lt-ltb come.index (record_count a.names.now) (count-inside a.names.now come.index starts)) come.starts
