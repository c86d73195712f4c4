-- `console::count_changed` meets its contract. The loop's invariant: so many of the bytes that were seen are not a dot.
use Rattle.std.specs.List.{count_by}
use mathlib.Core.Path.{◌≡◌}
use lib.ListN.{take}
use Rattle.console.specs.Changed.{is_no_dot}
use Rattle.console.proofs.count_changed.Given as goal

abbrev pub invariant-loop-b : goal.invariant-loop-b
invariant-loop-b l = l.changed ≡ count_by is_no_dot (take l.b-index l.b-items)
