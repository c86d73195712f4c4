-- `words::padded` meets its contract: the bytes of the rest are those at the place, and past its end there are zeros.
use Rattle.std.proofs.Common.{◌≡◌, ℕ, List, length, replicate, ◌∙◌, arith}
use Rattle.std.proofs.lemmas.List.{length-replicate}
use Rattle.words.specs.Words.{bytes_at}
use Rattle.words.proofs.Chunks.{bytes_of_rest, rest_from, stored_over}
use Rattle.words.proofs.Laws.{bytes_length}
use Rattle.words.proofs.padded.Goals as goal

pub returns : goal.returns
returns g c =
    let n = g.row.N in
    let rest = rest_from c.args.bytes.now c.min.result in
    let zeros : List ℕ = replicate n 0 in
    let room : length zeros ≡ n = length-replicate n _ in
    c.put_padded.ensures ∙ stored_over (bytes_at rest 0 n) zeros (omega (arith, bytes_length n rest 0))
    ∙ bytes_of_rest n c.args.bytes.now c.args.at c.min.result c.min.ensures
