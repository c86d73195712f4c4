-- `numbers::number_length` meets its contract: the digits, and two more for quotes.
use mathlib.Core.Path.{sym, ◌∙◌}
use native.Mathlib.Omega.{arith}
use Rattle.text.proofs.Digits.{number_bare, count_quoted, count_word}
use Rattle.numbers.proofs.number_length.Goals as goal

pub returns-then-is_bare : goal.returns-then-is_bare
returns-then-is_bare c =
    rw (number_bare c.args.x (sym c.is_bare.ensures ∙ c.if-is_bare.true)) (omega (arith, c.digit_count-count.ensures, count_word c.args.x c.ranges.x.fits))

pub overflow_add-result : goal.overflow_add-result
overflow_add-result c = omega (arith, c.digit_count-count.ensures, count_word c.args.x c.ranges.x.fits)

pub returns : goal.returns
returns c =
    omega (arith, c.digit_count-count.ensures, count_word c.args.x c.ranges.x.fits, count_quoted c.args.x (sym c.is_bare.ensures ∙ c.if-is_bare.false))
