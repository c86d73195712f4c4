-- The id reads right in an order exactly if the first four bytes are that order's pattern.
use Prim.Native.Nat.{ℕ}
use mathlib.Core.Bool.{false}
use mathlib.Core.List.{List}
use mathlib.Core.Path.{◌≡◌, sym, ap, ◌∙◌}
use lib.Dec.{eqb}
use borrow.Author.Tests.{ne_eqb}
use Rattle.trace.specs.Layout.{trace_id, header_in}
use Rattle.trace.specs.Table.{row3}
use Rattle.words.proofs.Laws.{read_bytes}
use Rattle.words.specs.Words.{AreBytes, bytes_at, lowest_first, joined, split, number_at, number_bytes, word_at}
use Rattle.words.specs.declared.Order.{Order}
use Rattle.words.specs.declared.Order.TheVariants.{Big, Little}
use Rattle.demands.specs.Patterns.{Patterns}

-- an id that reads right has that order's bytes
id_bytes : (o : Order) (s : List ℕ) → AreBytes s → word_at o s 0 ≡ trace_id → bytes_at s 0 4 ≡ number_bytes o 4 trace_id
id_bytes o s bytes e = sym (read_bytes o 4 s 0 bytes) ∙ ap (λ (v : ℕ). number_bytes o 4 v) e

pub patterns : (s : List ℕ) → AreBytes s → Patterns s
unfolding number_at number_bytes lowest_first joined split header_in row3
patterns s bytes = record {
  big = λ e. let right : word_at Big s 0 ≡ trace_id = rw e in (rw right, rw right (rw right));
  little = λ e.
      let wrong : word_at Big s 0 ≡ 0x42545854 = rw e in
      let right : word_at Little s 0 ≡ trace_id = rw e in
      (rw wrong, rw wrong (rw right));
  neither = λ b l.
      let wrong : eqb (word_at Big s 0) trace_id ≡ false = ne_eqb (word_at Big s 0) trace_id (λ e. b (id_bytes Big s bytes e)) in
      let wrong-too : eqb (word_at Little s 0) trace_id ≡ false = ne_eqb (word_at Little s 0) trace_id (λ e. l (id_bytes Little s bytes e)) in
      rw wrong (rw wrong-too);
}
