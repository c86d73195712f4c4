-- `words::put_padded` meets its contract. The loop's invariant: the first k bytes are stored.
use Rattle.std.proofs.Common.{◌≡◌}
use lib.Seq.{sets}
use Rattle.words.specs.Words.{bytes_at}
use Rattle.words.proofs.put_padded.Given as goal

abbrev pub invariant-loop-k : goal.invariant-loop-k
invariant-loop-k l = l.buffer ≡ sets l.initial.buffer l.at (bytes_at l.bytes 0 l.k)
