-- `numbers::put_short` meets its contract: a digit or a pair.
use mathlib.Core.List.{[], ◌∷◌}
use native.Mathlib.Omega.{arith}
use Rattle.text.proofs.Output.{stores}
use Rattle.text.specs.Numbers.{digit}
use Rattle.numbers.proofs.Steps.{by_one, by_pair, count_one, count_pair}
use Rattle.numbers.proofs.put_short.Goals as goal

pub bounds-out-0 : goal.bounds-out-0
bounds-out-0 c = let a = c.args in omega (arith, count_one a.pairs.now a.x c.if-x-lt10.true)

pub returns-then-x-lt10 : goal.returns-then-x-lt10
returns-then-x-lt10 c =
    let a = c.args in
    rw (by_one a.pairs.now a.x c.if-x-lt10.true) (stores (digit a.x ∷ []) a.out.now (omega (arith, count_one a.pairs.now a.x c.if-x-lt10.true)))

pub put_pair-requires : goal.put_pair-requires
put_pair-requires c =
    (c.requires.0, omega (arith, count_pair c.args.pairs.now c.args.x c.if-x-lt10.false c.requires.0))

pub returns : goal.returns
returns c =
    rw (by_pair c.args.pairs.now c.args.x c.if-x-lt10.false c.requires.0) c.put_pair.ensures
