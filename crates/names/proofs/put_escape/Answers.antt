-- `names::put_escape` meets its contract, by the kind of byte.
use Rattle.std.proofs.Common.{◌≡◌, [], ◌∷◌, arith}
use Rattle.text.proofs.Escapes.{escape_hex, escape_mark, escape_self}
use Rattle.text.proofs.Output.{stores}
use Rattle.text.specs.Names.{escape}
use Rattle.names.proofs.put_escape.Goals as goal
use Rattle.names.proofs.put_escape.Goals.{Else-b-eq92}

pub put_hexed-requires : goal.put_hexed-requires
put_hexed-requires c = rw (escape_hex c.args.b (λ low. omega arith)) at c.requires

pub returns-then-b-gt126 : goal.returns-then-b-gt126
returns-then-b-gt126 c = rw (escape_hex c.args.b (λ low. omega arith)) c.put_hexed.ensures

pub put_slashed-requires : goal.put_slashed-requires
put_slashed-requires c = rw (escape_mark c.args.b (λ other. omega arith)) at c.requires

pub returns-then-b-eq92 : goal.returns-then-b-eq92
returns-then-b-eq92 c = rw (escape_mark c.args.b (λ other. omega arith)) c.put_slashed.ensures

plain : (c : Else-b-eq92) → escape c.args.b ≡ c.args.b ∷ []
plain c = escape_self c.args.b (omega arith) (omega arith) (λ is. absurd (omega arith)) (λ is. absurd (omega arith))

pub bounds-out-0 : goal.bounds-out-0
bounds-out-0 c = rw (plain c) at c.requires

pub returns-else-b-eq92 : goal.returns-else-b-eq92
returns-else-b-eq92 c = rw (plain c) (stores (c.args.b ∷ []) c.args.out.now (rw (plain c) at c.requires))
