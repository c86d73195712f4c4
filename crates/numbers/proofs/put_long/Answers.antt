-- `numbers::put_long` meets its contract: sixteen digits at most, or four at most and twice eight behind them.
use Prim.Native.Nat.{◌+◌, ◌/◌}
use mathlib.Core.Path.{◌≡◌}
use native.Mathlib.Omega.{arith}
use lib.ListN.{length}
use Rattle.numbers.specs.Pairs.{digits_by}
use Rattle.numbers.proofs.Steps.{count_eight, with_eight}
use Rattle.numbers.proofs.put_long.Goals as goal
use Rattle.numbers.proofs.put_long.Goals.{Else-x-lt10000000000000000, Start}

counted : (s : Start) → length (digits_by s.args.pairs.now s.args.x) ≡ length (digits_by s.args.pairs.now (s.args.x / 100000000)) + 8
counted s = count_eight s.args.pairs.now s.args.x (omega arith)

counted-head : (c : Else-x-lt10000000000000000)
    → let a = c.args in
    length (digits_by a.pairs.now (a.x / 100000000)) ≡ length (digits_by a.pairs.now (a.x / 100000000 / 100000000)) + 8
counted-head c = let a = c.args in count_eight a.pairs.now (a.x / 100000000) (omega (arith, c.if-x-lt10000000000000000.false))

pub put_few-few-requires : goal.put_few-few-requires
put_few-few-requires c = (omega arith, omega (arith, counted (goal.at.put_few-few-requires c).Start, counted-head (goal.at.put_few-few-requires c).Else-x-lt10000000000000000))

pub append_eight-at-requires : goal.append_eight-at-requires
append_eight-at-requires c = (omega arith, omega (arith, counted (goal.at.append_eight-at-requires c).Start, counted-head (goal.at.append_eight-at-requires c).Else-x-lt10000000000000000))

pub append_eight-requires : goal.append_eight-requires
append_eight-requires c = (omega arith, omega (arith, counted (goal.at.append_eight-requires c).Start, counted-head (goal.at.append_eight-requires c).Else-x-lt10000000000000000))

pub returns : goal.returns
returns c =
    let a = c.args in
    with_eight a.pairs.now a.x _ (omega arith) (omega arith)
    (with_eight a.pairs.now (a.x / 100000000) _ (omega (arith, c.if-x-lt10000000000000000.false)) (omega arith) c.put_few-few.ensures c.append_eight-at.ensures)
    c.append_eight.ensures
