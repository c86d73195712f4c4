-- `numbers::put_middle` meets its contract: two digits at most, and eight behind them.
use Prim.Native.Nat.{◌+◌, ◌/◌}
use mathlib.Core.Path.{◌≡◌, refl}
use native.Mathlib.Omega.{arith}
use lib.ListN.{length}
use Rattle.numbers.specs.Pairs.{digits_by}
use Rattle.numbers.proofs.Steps.{count_eight, with_eight}
use Rattle.numbers.proofs.put_middle.Goals as goal
use Rattle.numbers.proofs.put_middle.Goals.{Start}

counted : (s : Start) → length (digits_by s.args.pairs.now s.args.x) ≡ length (digits_by s.args.pairs.now (s.args.x / 100000000)) + 8
counted s = count_eight s.args.pairs.now s.args.x (omega arith)

pub put_short-at-requires : goal.put_short-at-requires
put_short-at-requires c = (omega arith, omega (arith, counted (goal.at.put_short-at-requires c).Start))

pub append_eight-requires : goal.append_eight-requires
append_eight-requires c = (omega arith, omega (arith, counted (goal.at.append_eight-requires c).Start))

pub returns : goal.returns
returns c =
    let a = c.args in
    with_eight a.pairs.now a.x _ (omega arith) refl c.put_short-at.ensures c.append_eight.ensures
