-- `dump::registry::lowest_entry` meets its contract. The loop's invariant: no entry below `i` is wanted.
use Prim.Native.Nat.{ℕ, ◌<◌}
use mathlib.Core.Bool.{false}
use mathlib.Core.Path.{◌≡◌}
use Rattle.trace.specs.Registry.{is_wanted}
use Rattle.dump.proofs.registry.lowest_entry.Given as goal

abbrev pub invariant-loop-i : goal.invariant-loop-i
invariant-loop-i l = (k : ℕ) → k < l.i → is_wanted l.wanted l.dump l.fn.header k ≡ false
