-- `numbers::put_high` meets its contract: four digits at most, or such and four behind them, and eight behind these.
use Prim.Native.Nat.{◌+◌, ◌/◌}
use mathlib.Core.Path.{◌≡◌}
use native.Mathlib.Omega.{arith}
use lib.ListN.{length}
use Rattle.numbers.specs.Pairs.{digits_by}
use Rattle.numbers.proofs.Steps.{count_eight, count_myriad, with_eight, with_four}
use Rattle.numbers.proofs.put_high.Goals as goal
use Rattle.numbers.proofs.put_high.Goals.{Else-x-lt1000000000000, Start}

counted : (s : Start) → length (digits_by s.args.pairs.now s.args.x) ≡ length (digits_by s.args.pairs.now (s.args.x / 100000000)) + 8
counted s = count_eight s.args.pairs.now s.args.x (omega arith)

counted-head : (c : Else-x-lt1000000000000)
    → let a = c.args in
    length (digits_by a.pairs.now (a.x / 100000000)) ≡ length (digits_by a.pairs.now (a.x / 100000000 / 10000)) + 4
counted-head c = let a = c.args in count_myriad a.pairs.now (a.x / 100000000) (omega (arith, c.if-x-lt1000000000000.false))

pub put_few-at-requires : goal.put_few-at-requires
put_few-at-requires c = (omega (arith, c.if-x-lt1000000000000.true), omega (arith, counted (goal.at.put_few-at-requires c).Start))

pub append_eight-requires : goal.append_eight-requires
append_eight-requires c = (omega arith, omega (arith, counted (goal.at.append_eight-requires c).Start))

pub returns-then-x-lt1000000000000 : goal.returns-then-x-lt1000000000000
returns-then-x-lt1000000000000 c =
    let a = c.args in
    with_eight a.pairs.now a.x _ (omega arith) (omega arith) c.put_few-at.ensures c.append_eight.ensures

pub put_few-few-requires : goal.put_few-few-requires
put_few-few-requires c = (omega arith, omega (arith, counted (goal.at.put_few-few-requires c).Start, counted-head (goal.at.put_few-few-requires c).Else-x-lt1000000000000))

pub append_four-at-requires : goal.append_four-at-requires
append_four-at-requires c = (omega arith, omega (arith, counted (goal.at.append_four-at-requires c).Start, counted-head (goal.at.append_four-at-requires c).Else-x-lt1000000000000))

pub append_eight-requires-2 : goal.append_eight-requires-2
append_eight-requires-2 c = (omega arith, omega (arith, counted (goal.at.append_eight-requires-2 c).Start, counted-head (goal.at.append_eight-requires-2 c).Else-x-lt1000000000000))

pub returns : goal.returns
returns c =
    let a = c.args in
    with_eight a.pairs.now a.x _ (omega arith) (omega arith)
    (with_four a.pairs.now (a.x / 100000000) _ (omega (arith, c.if-x-lt1000000000000.false)) (omega arith) c.put_few-few.ensures c.append_four-at.ensures)
    c.append_eight-2.ensures
