-- When a contract asks nothing of a caller, and allows one answer.
use Rattle.std.specs.Prelude.{ℕ, List, ◌≡◌}
use contract.Lifetimes.{Lfts}
use Rattle.std.specs.Borrow.{Bor}
use denote.Triple.Clauses.{AtExit, Ended, Lasts, at_exit}
use denote.Triple.Entry.{Args, Res}

-- T is a signature, and which of the references in it are over at exit
module _ (T : Ended) where
  abbrev pub Lives : Type 0
  Lives = Lfts T.signature.lifetimes

  abbrev pub Arguments : Lives → Type 0
  Arguments = Args T.signature

  abbrev pub Result : Lives → Type 0
  Result = Res T.signature

  -- a contract as a caller has it: what it must show of the arguments, and what it learns of them, of the result and of the parameters at exit
  abbrev pub Asking : Type 1
  Asking = (κs : Lives) → Arguments κs → Type 0

  abbrev pub Telling : Type 1
  Telling = (κs : Lives) → Arguments κs → Result κs → AtExit T κs → Type 0

  -- an answer that a contract allows: a result, and what each buffer that is lent to be written holds at exit
  pub record Answer (learnt : Telling) (κs : Lives) (a : Arguments κs) : Type 0 where
    pub result : Result κs
    pub left : Lasts T κs a
    pub allowed : learnt κs a result (at_exit T κs a left)

  -- any two are equal, in so far as the result is seen
  pub record SettledAs (asked : Asking) (learnt : Telling) {Seen : Lives → Type 0} (seen : (κs : Lives) → Result κs → Seen κs) : Type 0 where
    pub asks-nothing : (κs : Lives) (a : Arguments κs) → asked κs a
    pub one-answer : (κs : Lives) (a : Arguments κs) (p q : Answer learnt κs a) → (seen κs p.result ≡ seen κs q.result) × (p.left ≡ q.left)

  -- the whole result is seen
  abbrev pub Settled : Asking → Telling → Type 0
  Settled asked learnt = SettledAs asked learnt (λ κs x. x)

-- of a part that is handed back its block and offset, and its bytes
abbrev pub unnamed : Bor (List ℕ) → Bor (List ℕ)
unnamed x = record { ref_ptr = x.ref_ptr; now = x.now }
