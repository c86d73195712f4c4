-- `console::read_full` ends: each turn reads a byte at least. What lies at the front is what came.
use Rattle.std.proofs.Common.{length, ◌-◌, ◌≤◌, ◌≡◌, take}
use Rattle.std.specs.Io.KnownBytes.{Consumes}
use Rattle.console.proofs.read_full.Given as goal

abbrev pub invariant-loop-done : goal.invariant-loop-done
invariant-loop-done g l = record {
  same : length l.bytes ≡ length l.initial.bytes;
  within : l.done ≤ length l.bytes;
  came : Consumes (g.R.Read.remaining l.initial.file) (g.R.Read.remaining l.file) (take l.done l.bytes);
}

abbrev pub decreases-loop-done : goal.decreases-loop-done
decreases-loop-done g l = length l.initial.bytes - l.done
