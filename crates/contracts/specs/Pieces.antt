-- A dump in pieces, of the functions themselves: whatever states and whatever answer their contracts allow, from the beginning to the finish.
use Rattle.std.specs.Prelude.{ℕ, List, [], ◌∷◌, ◌≡◌}
use Rattle.demands.specs.Pieces.{joined_all}
use Rattle.lepsaino_c.proofs as calls
use Rattle.lepsaino_c.specs.contracts as calls-contracts
use Rattle.lepsaino_c.specs.Answers.{check_answer}
use Rattle.pieces.proofs.Pieces as pieces
use Rattle.pieces.specs.contracts.Pieces as pieces-contracts
use Rattle.pieces.specs.declared.Pieces.{Pieces}
use Rattle.trace.specs.Check.{check_of}
use Rattle.contracts.specs.Settled.{Answer, Arguments, Lives}

-- a state, a piece, and a state that is handed back for them, by the library and by its call for C
pub data Feeds : Pieces → List ℕ → Pieces → Type 0 where
  feeds : (κs : Lives pieces-contracts.feed.ended) (a : Arguments pieces-contracts.feed.ended κs) (p : Answer pieces-contracts.feed.ended pieces.feed.Reads.Learnt κs a)
      → Feeds a.0 a.1.0.now p.result

pub data FeedsForC : Pieces → List ℕ → Pieces → Type 0 where
  feeds-for-c : (κs : Lives calls-contracts.lepsaino_feed.ended) (a : Arguments calls-contracts.lepsaino_feed.ended κs)
      (p : Answer calls-contracts.lepsaino_feed.ended calls.lepsaino_feed.Reads.Learnt κs a) → FeedsForC a.0 a.1.0.now p.result

-- pieces one after another
pub data OneByOne (Step : Pieces → List ℕ → Pieces → Type 0) : Pieces → List (List ℕ) → Pieces → Type 0 where
  none : {p : Pieces} → OneByOne Step p [] p
  next : {p q r : Pieces} {piece : List ℕ} {more : List (List ℕ)} → Step p piece q → OneByOne Step q more r → OneByOne Step p (piece ∷ more) r

-- the answer at the finish, of which the last state is the argument, is that of the whole check on the joined bytes
pub record ChecksInPieces : Type 0 where
  pub library : (κs : Lives pieces-contracts.begin.ended) (a : Arguments pieces-contracts.begin.ended κs) (first : Answer pieces-contracts.begin.ended pieces.begin.Reads.Learnt κs a)
      (all : List (List ℕ)) (last : Pieces) → OneByOne Feeds first.result all last
      → (κs' : Lives pieces-contracts.finish.ended) (b : Arguments pieces-contracts.finish.ended κs') (answer : Answer pieces-contracts.finish.ended pieces.finish.Reads.Learnt κs' b)
      → b.0 ≡ last → answer.result ≡ check_of (joined_all all)
  pub interface : (κs : Lives calls-contracts.lepsaino_begin.ended) (a : Arguments calls-contracts.lepsaino_begin.ended κs)
      (first : Answer calls-contracts.lepsaino_begin.ended calls.lepsaino_begin.Reads.Learnt κs a)
      (all : List (List ℕ)) (last : Pieces) → OneByOne FeedsForC first.result all last
      → (κs' : Lives calls-contracts.lepsaino_finish.ended) (b : Arguments calls-contracts.lepsaino_finish.ended κs')
      (answer : Answer calls-contracts.lepsaino_finish.ended calls.lepsaino_finish.Reads.Learnt κs' b)
      → b.0 ≡ last → answer.result ≡ check_answer (check_of (joined_all all))
