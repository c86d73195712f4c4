-- What the contracts allow, piece by piece, is the state after all pieces; so the finish gives what the whole check gives.
use Prim.Native.Nat.{ℕ}
use mathlib.Core.List.{List}
use mathlib.Core.Path.{◌≡◌, refl, ap, ◌∙◌}
use Rattle.demands.proofs.Pieces.{in_pieces}
use Rattle.demands.specs.Pieces.{fed_all, joined_all}
use Rattle.lepsaino_c.specs.Answers.{check_answer}
use Rattle.pieces.specs.Pieces.{begun, fed, finished}
use Rattle.pieces.specs.declared.Pieces.{Pieces}
use Rattle.trace.specs.Check.{check_of}
use Rattle.contracts.specs.Pieces.{ChecksInPieces, Feeds, FeedsForC, OneByOne, feeds, feeds_for_c, next, none}
use Rattle.contracts.proofs.Calls.{calls}
use Rattle.contracts.proofs.Interface.{interface_gives}

by_library : (p : Pieces) (piece : List ℕ) (q : Pieces) → Feeds p piece q → q ≡ fed p piece
by_library _ _ _ (feeds κs a p) = calls.feed κs a p

for_c : (p : Pieces) (piece : List ℕ) (q : Pieces) → FeedsForC p piece q → q ≡ fed p piece
for_c _ _ _ (feeds_for_c κs a p) = interface_gives.feed κs a p

module _ (Step : Pieces → List ℕ → Pieces → Type 0) (is-fed : (p : Pieces) (piece : List ℕ) (q : Pieces) → Step p piece q → q ≡ fed p piece) where
  fed_is : {p r : Pieces} {all : List (List ℕ)} → OneByOne Step p all r → r ≡ fed_all p all
  fed_is none = refl
  fed_is (next {more = more} one rest) = fed_is rest ∙ ap (λ (q : Pieces). fed_all q more) (is-fed _ _ _ one)

  answer_is : (p first last : Pieces) (all : List (List ℕ)) → first ≡ begun → OneByOne Step first all last → p ≡ last → finished p ≡ check_of (joined_all all)
  answer_is p first last all begins run ends =
      ap finished (ends ∙ fed_is run ∙ ap (λ (q : Pieces). fed_all q all) begins) ∙ in_pieces.answers all

pub checks_in_pieces : ChecksInPieces
checks_in_pieces = record {
  library = λ κs a first all last run κs' b answer ends.
      calls.finish κs' b answer ∙ answer_is Feeds by_library b.0 first.result last all (calls.begin κs a first) run ends;
  interface = λ κs a first all last run κs' b answer ends.
      interface_gives.finish κs' b answer ∙ ap check_answer (answer_is FeedsForC for_c b.0 first.result last all (interface_gives.begin κs a first) run ends);
}
