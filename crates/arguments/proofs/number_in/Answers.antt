-- `arguments::number_in` meets its contract, digit by digit.
use mathlib.Core.Path.{sym, ◌∙◌}
use Rattle.arguments.proofs.Digits.{one_more}
use Rattle.arguments.proofs.number_in.Goals as goal

pub loop-b-preserved : goal.loop-b-preserved
loop-b-preserved c =
    let l = c.loop-b in
    let digit = sym c.is_ascii_digit.ensures.value ∙ c.if-not-is_ascii_digit.false in
    rw (c.in_ok-value.ensures.1, c.in_ok-checked_mul.ensures.1, c.from.ensures) (one_more c.args.text.now c.args.most l.value l.b-index l.invariant c.loop-b-test.true digit)
