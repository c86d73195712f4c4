-- `text_cases::print_cases` ends: each case has a byte at least.
use Rattle.std.proofs.Common.{length, ◌-◌}
use Rattle.text_cases.proofs.print_cases.Given as goal

abbrev pub invariant-loop-at : goal.invariant-loop-at
invariant-loop-at l = Unit {0}

abbrev pub decreases-loop-at : goal.decreases-loop-at
decreases-loop-at l = length l.cases - l.at
