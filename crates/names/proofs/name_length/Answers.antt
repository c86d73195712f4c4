-- `names::name_length` meets its contract: the escaped bytes, and two quotes.
use Rattle.std.proofs.Common.{refl, arith}
use Rattle.text.proofs.Escapes.{count_name}
use Rattle.text.specs.Names.{name}
use Rattle.names.proofs.name_length.Goals as goal

pub returns-in-Some : goal.returns-in-Some
returns-in-Some c = rw (c.in-Some.is, count_name) (omega (arith, c.escaped_length.ensures, c.sum.ensures))

pub returns-in-None : goal.returns-in-None
unfolding name
returns-in-None c = rw c.in-None.is refl
