-- An answer tells whether the rows have passed, and what was given.
use Rattle.std.specs.Prelude.{Err, Ok}
use Prim.Native.Nat.{ℕ}
use mathlib.Core.List.{List, ◌++◌}
use mathlib.Core.Path.{◌≡◌, refl, sym, ap, ◌∙◌}
use lib.ListN.{drop, length, take}
use lib.Seq.{take_at}
use Rattle.events.specs.Listing.{Gave}
use Rattle.rows.proofs.Rows.{passed_before, then_rest}
use Rattle.rows.specs.Rows.{Accepted, Row, first_broken, Verdict, answer_by}
use Rattle.rows.specs.declared.Refusal.{Refusal}

-- rows behind others have passed where all have
pub passed_behind : (rows more : List Row) → Accepted (rows ++ more) → Accepted more
passed_behind rows more passed = then_rest rows more (passed_before rows more passed) ∙ passed

-- an accepted answer: the rows have passed, and its value is what the definitions give
pub answer_is : {A : Type 0} (v : Verdict) (given x : A) → answer_by v given ≡ Ok x → (v ≡ Ok tt) × (x ≡ given)
answer_is (Err f) given x e = (cc, cc)
answer_is (Ok tt) given x e = (refl, cc)

pub refused_is : {A : Type 0} (v : Verdict) (given : A) (f : Refusal) → answer_by v given ≡ Err f → v ≡ Err f
refused_is (Err g) given f e = cc
refused_is (Ok tt) given f e = cc

-- what was written is the text: its length is given, it stands in front of the old bytes past it, and no row is broken
module _ (rows : List Row) (text old new : List ℕ) (n : ℕ) (gave : Gave rows text old new (Ok n)) where
  pub gave_accepted : Accepted rows
  gave_accepted = (answer_is (first_broken rows) (length text) n (sym gave.answered)).0

  pub wrote : (n ≡ length text) × (new ≡ text ++ drop n old)
  wrote =
      let written = answer_is (first_broken rows) (length text) n (sym gave.answered) in
      (written.1, gave.output ∙ rw (written.0, written.1))

  pub wrote_front : take n new ≡ text
  wrote_front = ap (take n) wrote.1 ∙ take_at text (drop n old) n (sym wrote.0)
