-- However a dump is cut, the finish gives what the whole check gives: by what the state holds after each byte.
use Rattle.std.specs.Prelude.{Err, Ok}
use Prim.Native.Nat.{ℕ, zero, suc, ◌+◌, ◌≤◌, ◌<◌}
use mathlib.Core.List.{List, [], ◌∷◌, ◌++◌}
use mathlib.Core.Path.{◌≡◌, refl, sym, ap, ◌∙◌}
use native.Mathlib.Decide.{dec_lt, ℕ_discrete}
use native.Mathlib.Nat.{zero-add}
use native.Mathlib.Numerals.{add-one}
use native.Mathlib.Omega.{arith}
use borrow.Author.Tests.{le-ltb, lt-ltb}
use lib.ListN.{get_or, length, set, take, length-set}
use lib.Seq.{get_or-set_other, get_or-set_same, take-length, take-suc}
use Rattle.pieces.proofs.Fed.{fed_joined, fed_none}
use Rattle.pieces.specs.Body.{body_begun, body_pushed, body_rows, front_size}
use Rattle.pieces.specs.Fed.{fed_by}
use Rattle.pieces.specs.Pieces.{begun, counted, fed, finished, pushed, with_body, with_header}
use Rattle.pieces.specs.declared.Pieces.{Pieces}
use Rattle.rows.proofs.Rows.{then_refused}
use Rattle.rows.specs.Rows.{first_broken, Verdict, answer_by}
use Rattle.trace.proofs.SameBytes.{same_header}
use Rattle.trace.specs.Check.{check_of, sound_dump}
use Rattle.trace.specs.Layout.{geometry_of, header_of, header_size, most_bytes}
use Rattle.trace.specs.Slots.{event_count}
use Rattle.trace.specs.Table.{dump_rows, header_rows, row1, row2}
use Rattle.trace.specs.declared.Header.{Header}
use Rattle.demands.specs.Pieces.{InPieces, fed_all, joined_all}
use Rattle.demands.proofs.Bodies.{After, byte_after, geometry_stays, none_after}
use Rattle.demands.proofs.Finished.{whole_answer}

-- the state after the first n bytes of a dump
record Holds (d : List ℕ) (p : Pieces) (n : ℕ) : Type 0 where
  total : p.total ≡ counted 0 n
  room : length p.header ≡ header_size
  header : (k : ℕ) → k < n → k < header_size → get_or p.header k 0 ≡ get_or d k 0
  front : length p.body.front ≡ front_size
  geometry : p.body.geometry ≡ geometry_of (header_of p.header)
  body : header_size ≤ n → After (header_of d).order d p.body n

-- before any byte
holds_none : (d : List ℕ) → Holds d begun 0
unfolding begun body_begun
holds_none d = record {
  total = refl;
  room = refl;
  header = λ k below. absurd (omega arith);
  front = refl;
  geometry = refl;
  body = λ long. absurd (omega arith);
}

-- where its bytes are the same, of which the first 36 are read, so is the header
header_is : (d header : List ℕ) → ((k : ℕ) → k < header_size → get_or header k 0 ≡ get_or d k 0) → header_of header ≡ header_of d
header_is d header same = same_header d header (λ k below aside. rw zero-add (same k (omega arith)))

module _ (d : List ℕ) (p : Pieces) (n : ℕ) (holds : Holds d p n) where
  -- a byte of the header
  module _ (short : n < header_size) where
    abbrev header : List ℕ
    header = set p.header p.total (get_or d n 0)

    counts : p.total ≡ n
    counts = omega (arith, holds.total)

    header_on : (k : ℕ) → k < n + 1 → k < header_size → get_or header k 0 ≡ get_or d k 0
    header_on k below within = by (ℕ_discrete k p.total)
      where
        by : Dec (k ≡ p.total) → get_or header k 0 ≡ get_or d k 0
        by (yes last) = rw last (get_or-set_same p.header p.total (get_or d n 0) 0 (omega (arith, holds.room, counts)) ∙ ap (λ (i : ℕ). get_or d i 0) (sym counts))
        by (no other) = get_or-set_other p.header p.total k (get_or d n 0) 0 other ∙ holds.header k (omega (arith, counts)) within

    in_header : Holds d (with_header p header) (n + 1)
    unfolding body_begun
    in_header = record {
      total = omega (arith, holds.total);
      room = length-set p.header p.total (get_or d n 0) ∙ holds.room;
      header = header_on;
      front = refl;
      geometry = refl;
      body = λ long. let e : n + 1 ≡ header_size = omega arith in rw e (none_after (header_of d).order d header);
    }

  behind_header : header_size ≤ n → Holds d (with_body p (body_pushed p.body (get_or d n 0))) (n + 1)
  behind_header long =
      let after = byte_after (header_of d).order d p.body n (holds.body long) in
      record {
        total = omega (arith, holds.total);
        room = holds.room;
        header = λ k below within. holds.header k (omega arith) within;
        front = after.room;
        geometry = geometry_stays p.body (get_or d n 0) ∙ holds.geometry;
        body = λ longer. after;
      }

  -- one byte more
  holds_more : Holds d (pushed p (get_or d n 0)) (n + 1)
  unfolding pushed
  holds_more = by (dec_lt n header_size)
    where
      by : Dec (n < header_size) → Holds d (pushed p (get_or d n 0)) (n + 1)
      by (yes short) = rw (lt-ltb p.total header_size (omega (arith, holds.total))) (in_header short)
      by (no long) = rw (le-ltb p.total header_size (omega (arith, holds.total))) (behind_header (omega arith))

-- after the first bytes, and after all
holds_first : (d : List ℕ) (n : ℕ) → n ≤ length d → Holds d (fed begun (take n d)) n
unfolding fed_by
holds_first d zero within = holds_none d
holds_first d (suc n) within =
    rw (take-suc d n 0 within, ← fed_joined pushed begun (take n d) (get_or d n 0 ∷ []), ← add-one) (holds_more d (fed begun (take n d)) n (holds_first d n (omega arith)))

holds_all : (d : List ℕ) → Holds d (fed begun d) (length d)
holds_all d = rw (take-length d) at (holds_first d (length d) (omega arith))

-- 1 and 2 are given by the count alone
module _ (d : List ℕ) (p : Pieces) (holds : Holds d p (length d)) where
  too_short : length d < header_size → finished p ≡ check_of d
  unfolding finished check_of first_broken row1
  too_short short = let counts : p.total ≡ length d = omega (arith, holds.total) in rw (counts, lt-ltb (length d) header_size short)

  too_long : most_bytes < length d → finished p ≡ check_of d
  unfolding finished check_of first_broken row1 row2
  too_long long =
      let counts : p.total ≡ most_bytes + 1 = omega (arith, holds.total) in
      rw (counts, le-ltb (length d) header_size (omega arith), lt-ltb most_bytes (length d) long)

  -- with another length the header is that of the dump, and what it refuses is refused
  module _ (long : header_size ≤ length d) (short : length d ≤ most_bytes) where
    abbrev h : Header
    h = header_of d

    same : header_of p.header ≡ h
    same = header_is d p.header (λ k below. holds.header k (omega arith) below)

    by_rows : (v : Verdict) → first_broken (header_rows h (length d)) ≡ v
        → answer_by (first_broken (header_rows h (length d) ++ body_rows p.body)) (sound_dump h p.body.slots.unused) ≡ answer_by (first_broken (dump_rows d h)) (sound_dump h (event_count d h))
    by_rows (Err f) said =
        rw (← then_refused (header_rows h (length d)) (body_rows p.body) f said, ← then_refused (header_rows h (length d)) _ f said)
    by_rows (Ok tt) said = whole_answer d h p.body (holds.geometry ∙ ap geometry_of same) (holds.body long) said

    sized : finished p ≡ check_of d
    unfolding finished check_of
    sized =
        let counts : p.total ≡ length d = omega (arith, holds.total) in
        rw (counts, same) (by_rows (first_broken (header_rows h (length d))) refl)

  finish_is : finished p ≡ check_of d
  finish_is = by (dec_lt (length d) header_size) (dec_lt most_bytes (length d))
    where
      by : Dec (length d < header_size) → Dec (most_bytes < length d) → finished p ≡ check_of d
      by (yes short) other = too_short short
      by (no long) (yes more) = too_long more
      by (no long) (no most) = sized (omega arith) (omega arith)

-- pieces fed one after another are their joined bytes
pieces_joined : (p : Pieces) (pieces : List (List ℕ)) → fed_all p pieces ≡ fed p (joined_all pieces)
unfolding fed_by
pieces_joined p [] = refl
pieces_joined p (piece ∷ pieces) = pieces_joined (fed p piece) pieces ∙ fed_joined pushed p piece (joined_all pieces)

holds_pieces : (pieces : List (List ℕ)) → Holds (joined_all pieces) (fed_all begun pieces) (length (joined_all pieces))
holds_pieces pieces = rw (pieces_joined begun pieces) (holds_all (joined_all pieces))

pub in_pieces : InPieces
in_pieces = record {
  answers = λ pieces. finish_is (joined_all pieces) (fed_all begun pieces) (holds_pieces pieces);
  cuts = λ p pieces others same. pieces_joined p pieces ∙ ap (fed p) same ∙ sym (pieces_joined p others);
  empty = λ p. fed_none pushed p [] (omega arith);
  counts = λ pieces. (holds_pieces pieces).total ∙ omega arith;
  holds = λ pieces. omega (arith, (holds_pieces pieces).room, (holds_pieces pieces).front);
  worked_out = λ pieces. (holds_pieces pieces).geometry;
}
