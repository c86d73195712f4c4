-- `numbers::put_few` meets its contract: two digits at most, or such and a pair into the rest.
use Prim.Native.Nat.{◌+◌, ◌/◌}
use mathlib.Core.Path.{◌≡◌}
use native.Mathlib.Omega.{arith}
use lib.ListN.{length}
use Rattle.text.proofs.Output.{on_from}
use Rattle.numbers.specs.Pairs.{digits_by}
use Rattle.numbers.proofs.Steps.{by_hundred, count_hundred}
use Rattle.numbers.proofs.put_few.Goals as goal
use Rattle.numbers.proofs.put_few.Goals.{Else-x-lt100}

counted : (c : Else-x-lt100) → let a = c.args in length (digits_by a.pairs.now a.x) ≡ length (digits_by a.pairs.now (a.x / 100)) + 2
counted c = let a = c.args in count_hundred a.pairs.now a.x c.if-x-lt100.false

pub put_short-at-requires : goal.put_short-at-requires
put_short-at-requires c = (omega arith, omega (arith, counted (goal.at.put_short-at-requires c).Else-x-lt100))

pub put_pair-requires : goal.put_pair-requires
put_pair-requires c = omega (arith, counted (goal.at.put_pair-requires c).Else-x-lt100)

pub returns : goal.returns
returns c =
    let a = c.args in
    rw (by_hundred a.pairs.now a.x c.if-x-lt100.false) (on_from _ _ c.put_short-at.ensures c.put_pair.ensures)
