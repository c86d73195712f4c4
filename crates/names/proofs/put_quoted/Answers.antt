-- `names::put_quoted` meets its contract: a quote, the escaped bytes, a quote, each into the rest.
use native.Mathlib.Omega.{arith}
use Rattle.text.proofs.Escapes.{count_name}
use Rattle.text.proofs.Output.{at_most, is_put, on_from, on_to}
use Rattle.text.specs.Ascii.{ascii}
use Rattle.text.specs.Names.{name}
use Rattle.text.specs.Numbers.{quoted}
use Rattle.names.proofs.put_quoted.Goals as goal

pub put_escaped-at-requires : goal.put_escaped-at-requires
put_escaped-at-requires c = omega (arith, at_most _ c.put_bytes-at.ensures, count_name c.args.bytes.now)

pub returns : goal.returns
unfolding name quoted
returns c =
    let two-more = count_name c.args.bytes.now in
    let first = is_put (ascii "\"") c.args.out.now (omega arith) c.put_bytes-at.ensures in
    on_to _ (ascii "\"") (on_from _ _ first c.put_escaped-at.ensures) c.put_bytes.ensures (omega (arith, first.count))
