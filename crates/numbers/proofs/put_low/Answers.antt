-- `numbers::put_low` meets its contract: four digits at most, or such and four behind them.
use Prim.Native.Nat.{◌+◌, ◌/◌}
use mathlib.Core.Path.{◌≡◌, refl}
use native.Mathlib.Omega.{arith}
use lib.ListN.{length}
use Rattle.numbers.specs.Pairs.{digits_by}
use Rattle.numbers.proofs.Steps.{count_myriad, with_four}
use Rattle.numbers.proofs.put_low.Goals as goal
use Rattle.numbers.proofs.put_low.Goals.{Else-x-lt10000}

counted : (c : Else-x-lt10000) → let a = c.args in length (digits_by a.pairs.now a.x) ≡ length (digits_by a.pairs.now (a.x / 10000)) + 4
counted c = let a = c.args in count_myriad a.pairs.now a.x c.if-x-lt10000.false

pub put_few-at-requires : goal.put_few-at-requires
put_few-at-requires c = (omega arith, omega (arith, counted (goal.at.put_few-at-requires c).Else-x-lt10000))

pub append_four-requires : goal.append_four-requires
append_four-requires c = (omega arith, omega (arith, counted (goal.at.append_four-requires c).Else-x-lt10000))

pub returns : goal.returns
returns c =
    let a = c.args in
    with_four a.pairs.now a.x _ c.if-x-lt10000.false refl c.put_few-at.ensures c.append_four.ensures
