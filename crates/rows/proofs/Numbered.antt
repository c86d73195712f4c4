-- A refusal hangs on the rows of its number: these alone refuse alike, and rows without it neither give nor hide it.
use Rattle.std.specs.Prelude.{Err, Ok}
use Prim.Native.Nat.{ℕ}
use mathlib.Core.Bool.{Bool, true, false, cond}
use mathlib.Core.List.{List, [], ◌∷◌, ◌++◌}
use mathlib.Core.Path.{◌≡◌, refl, sym, ap, ◌∙◌}
use lib.Dec.{eqb}
use borrow.Author.Tests.{eqb-false}
use Rattle.rows.specs.Rows.{Row, first_broken, refusal, Verdict}
use Rattle.rows.specs.declared.Refusal.{Refusal}
use Rattle.rows.proofs.Rows.{then_refused, then_rest}

-- the rows that have a number
abbrev pub numbered : ℕ → List Row → List Row
numbered n [] = []
numbered n (r ∷ rs) = cond (eqb r.number n) (r ∷ numbered n rs) (numbered n rs)

pub by_number : (rs : List Row) (f : Refusal) → first_broken rs ≡ Err f → first_broken (numbered f.number rs) ≡ Err f
unfolding first_broken
by_number [] f e = e
by_number (r ∷ rs) f e = by r.broken (eqb r.number f.number) refl refl e (by_number rs f)
  where
    by : (b same : Bool) → r.broken ≡ b → eqb r.number f.number ≡ same → cond b (Err (refusal r)) (first_broken rs) ≡ Err f
        → (first_broken rs ≡ Err f → first_broken (numbered f.number rs) ≡ Err f)
        → first_broken (cond same (r ∷ numbered f.number rs) (numbered f.number rs)) ≡ Err f
    by true true broken is e rest = rw broken e
    by true false broken other e rest =
        let same : refusal r ≡ f = cc in
        absurd (eqb-false r.number f.number other (ap (λ (g : Refusal). g.number) same))
    by false true kept is e rest = rw kept (rest e)
    by false false kept other e rest = rest e

-- of rows of which some refuse
module _ (rs more : List Row) (f : Refusal) (refused : first_broken (rs ++ more) ≡ Err f) where
  -- those in front have passed where none of them with that number is broken
  pub front_passed : first_broken (numbered f.number rs) ≡ Ok tt → first_broken rs ≡ Ok tt
  front_passed none = by (first_broken rs) refl
    where
      by : (v : Verdict) → first_broken rs ≡ v → v ≡ Ok tt
      by (Ok tt) e = refl
      by (Err g) e =
          let same : Err g ≡ Err f = then_refused rs more g e ∙ refused in
          same ∙ sym (by_number rs f (e ∙ same)) ∙ none

  -- as where none of them has it
  pub front_without : numbered f.number rs ≡ [] → first_broken rs ≡ Ok tt
  unfolding first_broken
  front_without none = front_passed (ap first_broken none)

  -- and they are those that refuse where none of the others has it
  pub front_refused : numbered f.number more ≡ [] → first_broken rs ≡ Err f
  unfolding first_broken
  front_refused none = by (first_broken rs) refl
    where
      by : (v : Verdict) → first_broken rs ≡ v → v ≡ Err f
      by (Ok tt) e = sym (ap first_broken none) ∙ by_number more f (then_rest rs more e ∙ refused)
      by (Err g) e = then_refused rs more g e ∙ refused
