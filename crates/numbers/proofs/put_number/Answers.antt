-- `numbers::put_number` meets its contract: where there is room, by our table.
use mathlib.Core.Path.{sym, ◌∙◌}
use native.Mathlib.Omega.{arith}
use lib.ListN.{length}
use borrow.Author.Tests.{ltb-false, ltb-true}
use Rattle.text.proofs.Output.{fitted_all, put_all, put_none}
use Rattle.text.specs.Numbers.{number}
use Rattle.numbers.specs.Pairs.{pairs}
use Rattle.numbers.proofs.Alike.{number_by_lem}
use Rattle.numbers.proofs.Rule.{pairs_rule}
use Rattle.numbers.proofs.put_number.Goals as goal

pub returns-then-is_short : goal.returns-then-is_short
returns-then-is_short c =
    let a = c.args in
    put_none (number a.x) a.out.now (ltb-true (length a.out.now) (length (number a.x)) (sym c.is_short.ensures ∙ c.if-is_short.true))

pub returns : goal.returns
returns c =
    let a = c.args in
    let fits = ltb-false (length a.out.now) (length (number a.x)) (sym c.is_short.ensures ∙ c.if-is_short.false) in
    put_all (number a.x) a.out.now fits (fitted_all (number a.x) (omega arith) fits (rw (c.pairs-table.ensures, number_by_lem pairs pairs_rule a.x) at c.fit_number.ensures))
