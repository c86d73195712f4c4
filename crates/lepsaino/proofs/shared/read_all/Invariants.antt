-- `lepsaino::shared::read_all` ends: each turn reads a byte at least.
use Rattle.std.proofs.Common.{◌≤◌, ◌-◌, length}
use Rattle.lepsaino.proofs.shared.read_all.Given as goal

abbrev pub invariant-loop-done : goal.invariant-loop-done
invariant-loop-done g l = l.done ≤ length l.space

abbrev pub decreases-loop-done : goal.decreases-loop-done
decreases-loop-done g l = length l.initial.space - l.done
