-- By a table with the rule, as the library's is, and by no other, numbers are their texts, and then lines are; by any table both are as long.
use Rattle.lines.proofs.Pairs.{line-by, line_count}
use Rattle.numbers.proofs.Alike.{number_by_lem, number_count}
use Rattle.numbers.proofs.Rule.{has_pairs, pairs_rule}
use Rattle.contracts.specs.Pairs.{ByPairs}

pub by_pairs : ByPairs
by_pairs = record { rule = pairs_rule; numbers = number_by_lem; lines = line-by; only = has_pairs; number_lengths = number_count; line_lengths = line_count }
