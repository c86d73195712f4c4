-- `names::hex_digit` meets its contract: a numeral, or a letter from a on.
use mathlib.Core.Path.{refl}
use borrow.Author.Tests.{le-ltb, lt-ltb}
use Rattle.text.specs.Names.{hex_digit}
use Rattle.names.proofs.hex_digit.Goals as goal

pub returns-then-d-lt10 : goal.returns-then-d-lt10
unfolding hex_digit
returns-then-d-lt10 c = rw (lt-ltb c.args.d 10 c.if-d-lt10.true) refl

pub returns : goal.returns
unfolding hex_digit
returns c = rw (le-ltb c.args.d 10 c.if-d-lt10.false) refl
