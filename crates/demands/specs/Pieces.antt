-- Document 02, A4: a dump in pieces, in the request's words.
use Rattle.std.specs.Prelude.{ℕ, ◌+◌, ◌≤◌, min, List, [], ◌∷◌, ◌++◌, ◌≡◌, length}
use Rattle.pieces.specs.Pieces.{begun, fed, finished}
use Rattle.pieces.specs.declared.Pieces.{Pieces}
use Rattle.trace.specs.Check.{check_of}
use Rattle.trace.specs.Layout.{geometry_of, header_of, most_bytes}

-- "a checker fed with pieces, [..] whose state is handed in and handed back each time"; no answer comes before the finish
abbrev pub fed_all : Pieces → List (List ℕ) → Pieces
fed_all p [] = p
fed_all p (piece ∷ pieces) = fed_all (fed p piece) pieces

-- "the joined bytes"
abbrev pub joined_all : List (List ℕ) → List ℕ
joined_all [] = []
joined_all (piece ∷ pieces) = piece ++ joined_all pieces

pub record InPieces : Type 0 where
  -- "At the end it gives the answer that the whole check gives on the joined bytes."
  pub answers : (pieces : List (List ℕ)) → finished (fed_all begun pieces) ≡ check_of (joined_all pieces)
  -- "cut anywhere": from any state on, two ways of cutting the same bytes lead to the same state
  pub cuts : (p : Pieces) (pieces others : List (List ℕ)) → joined_all pieces ≡ joined_all others → fed_all p pieces ≡ fed_all p others
  -- "some empty"
  pub empty : (p : Pieces) → fed p [] ≡ p
  -- the count of bytes is their number up to 65,537, so that any longer dump is told apart from one of 65,536, and never wraps
  pub counts : (pieces : List (List ℕ)) → (fed_all begun pieces).total ≡ min (length (joined_all pieces)) (most_bytes + 1)
  -- "The state may hold at most 96 dump bytes": the header's, and the first of the entry or slot under way. Where things lie is worked out of the header's; all
  -- other fields are counts and indices
  pub holds : (pieces : List (List ℕ)) → let p = fed_all begun pieces in length p.header + length p.body.front ≤ 96
  pub worked_out : (pieces : List (List ℕ)) → let p = fed_all begun pieces in p.body.geometry ≡ geometry_of (header_of p.header)
