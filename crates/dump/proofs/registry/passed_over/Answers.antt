-- `dump::registry::passed_over` meets its contract: what is read of a part is so of the whole.
use Prim.Native.Nat.{◌+◌, ◌-◌}
use mathlib.Core.Path.{◌∙◌, sym}
use native.Mathlib.Omega.{arith}
use borrow.Author.Count.{below_more}
use Rattle.trace.proofs.SameBytes.{part_wanted}
use Rattle.trace.specs.Layout.{entry_at}
use Rattle.dump.proofs.registry.passed_over.Goals as goal

pub loop-i-preserved : goal.loop-i-preserved
loop-i-preserved c =
    let a = c.args in
    let at = entry_at a.header c.loop-i.i in
    let miss = rw c.geometry_of-geometry.ensures at (sym c.is_wanted.ensures ∙ c.if-is_wanted.false) in
    below_more _ _ c.loop-i.invariant (sym (part_wanted a.wanted a.header.order a.dump.now at (at + 8 - at) (omega arith)) ∙ miss)
