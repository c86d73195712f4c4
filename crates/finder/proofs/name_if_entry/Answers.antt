-- `finder::name_if_entry` meets its contract: no registry has more entries than 32 bits count.
use Rattle.std.specs.Prelude.{Some}
use Prim.Native.Nat.{◌-◌}
use native.Mathlib.Nat.{div-le_self}
use mathlib.Core.Path.{ap}
use native.Mathlib.Omega.{arith}
use borrow.Author.Tests.{lt-ltb, le-ltb}
use Rattle.words.proofs.Circles.{minus_below}
use Rattle.trace.specs.Layout.{entry_count, entry_size, header_size, registry_end}
use Rattle.trace.specs.Names.{name_if_entry}
use Rattle.finder.proofs.name_if_entry.Goals as goal

pub overflow_cast-entry : goal.overflow_cast-entry
overflow_cast-entry c =
    let h = c.args.header in
    record { fits = omega (arith, rw c.geometry_of.ensures at c.if-entry-geometry_of.true, div-le_self (registry_end h - header_size) (entry_size h), minus_below 32 h.registry_end h.base) }

pub returns-then-entry-geometry_of : goal.returns-then-entry-geometry_of
unfolding name_if_entry
returns-then-entry-geometry_of c =
    let a = c.args in
    let within = rw c.geometry_of.ensures at c.if-entry-geometry_of.true in
    rw (lt-ltb a.entry (entry_count a.header) within) (ap Some c.entry_name.ensures)

pub returns : goal.returns
unfolding name_if_entry
returns c =
    let a = c.args in
    let none = rw c.geometry_of.ensures at c.if-entry-geometry_of.false in
    rw (le-ltb a.entry (entry_count a.header) none)
