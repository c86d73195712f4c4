-- `names::escape_length` meets its contract: the length of the byte's kind of text.
use Rattle.std.proofs.Common.{arith}
use Rattle.text.proofs.Escapes.{escape_hex, escape_mark, escape_self}
use Rattle.names.proofs.escape_length.Goals as goal

pub returns-then-b-gt126 : goal.returns-then-b-gt126
returns-then-b-gt126 c = rw (escape_hex c.args.b (λ low. omega arith))

pub returns-then-b-eq92 : goal.returns-then-b-eq92
returns-then-b-eq92 c = rw (escape_mark c.args.b (λ other. omega arith))

pub returns-else-b-eq92 : goal.returns-else-b-eq92
returns-else-b-eq92 c = rw (escape_self c.args.b (omega arith) (omega arith) (λ is. absurd (omega arith)) (λ is. absurd (omega arith)))
