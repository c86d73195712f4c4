-- Rows one after another give the first that is broken.
use Rattle.std.specs.Prelude.{ℕ, Err, Ok}
use mathlib.Core.Bool.{Bool, true, false, cond}
use mathlib.Core.List.{List, [], ◌∷◌, ◌++◌}
use mathlib.Core.Path.{◌≡◌, refl, sym, ap₂, ◌∙◌}
use Rattle.rows.specs.Rows.{Row, row_at, refusal, first_broken, after_row, after_rows, Verdict}
use Rattle.rows.specs.declared.Refusal.{Refusal}

-- an earlier refusal stays
pub refused_stays : (f : Refusal) (rs : List Row) → after_rows (Err f) rs ≡ Err f
unfolding after_row
refused_stays f [] = refl
refused_stays f (r ∷ rs) = refused_stays f rs

chosen : (b : Bool) (f : Refusal) (more : List Row) (v w : Verdict) → after_rows v more ≡ w → after_rows (cond b (Err f) v) more ≡ cond b (Err f) w
chosen true f more v w e = refused_stays f more
chosen false f more v w e = e

-- rows in order, and then further rows, are all of them in order
pub in_order : (rs more : List Row) → after_rows (first_broken rs) more ≡ first_broken (rs ++ more)
unfolding first_broken after_row
in_order [] [] = refl
in_order [] (r ∷ more) = chosen r.broken (refusal r) more _ _ (in_order [] more)
in_order (r ∷ rs) more = chosen r.broken (refusal r) more _ _ (in_order rs more)

-- rows in order, from the start
pub from_start : (rs : List Row) → after_rows (Ok tt) rs ≡ first_broken rs
unfolding first_broken
from_start rs = in_order [] rs

-- rows that say the same say the same with further rows behind them
pub then_same : (rs others : List Row) {more further : List Row} → first_broken rs ≡ first_broken others → more ≡ further → first_broken (rs ++ more) ≡ first_broken (others ++ further)
then_same rs others {more} {further} say same = sym (in_order rs more) ∙ ap₂ after_rows say same ∙ in_order others further

-- further rows change no refusal, and decide where the rows before them have passed
module _ (rs more : List Row) where
  pub then_refused : (f : Refusal) → first_broken rs ≡ Err f → Err f ≡ first_broken (rs ++ more)
  then_refused f e = sym (refused_stays f more) ∙ rw e at (in_order rs more)

  pub then_rest : first_broken rs ≡ Ok tt → first_broken more ≡ first_broken (rs ++ more)
  then_rest e = sym (from_start more) ∙ rw e at (in_order rs more)

  pub then_kept : first_broken more ≡ Ok tt → first_broken (rs ++ more) ≡ first_broken rs
  then_kept kept = by (first_broken rs) refl
    where
      by : (v : Verdict) → first_broken rs ≡ v → first_broken (rs ++ more) ≡ v
      by (Ok tt) e = sym (then_rest e) ∙ kept
      by (Err f) e = sym (then_refused f e)

  -- rows have passed where they and further rows have
  pub passed_before : first_broken (rs ++ more) ≡ Ok tt → first_broken rs ≡ Ok tt
  passed_before passed = by (first_broken rs) refl
    where
      by : (v : Verdict) → first_broken rs ≡ v → v ≡ Ok tt
      by (Ok tt) e = refl
      by (Err f) e = then_refused f e ∙ passed

-- rows that have passed, and then one that is broken
pub then_broken : (rs : List Row) (r : Row) (more : List Row) → first_broken rs ≡ Ok tt → r.broken ≡ true → first_broken (rs ++ (r ∷ more)) ≡ Err (refusal r)
unfolding first_broken
then_broken rs r more passed broken = sym (then_rest rs (r ∷ more) passed) ∙ rw broken

past : (b : Bool) (f : Refusal) (v : Verdict) → cond b (Err f) v ≡ Ok tt → (b ≡ false) × (v ≡ Ok tt)
past true f v e = (cc, cc)
past false f v e = (refl, e)

-- a row stands in a list, wherever that is
pub data Among (r : Row) : List Row → Type 0 where
  here : {rs : List Row} → Among r (r ∷ rs)
  further : {other : Row} {rs : List Row} → Among r rs → Among r (other ∷ rs)

pub ruleset among = (here, further)

-- of rows that passed none is broken
kept_among : (r : Row) {rs : List Row} → Among r rs → first_broken rs ≡ Ok tt → r.broken ≡ false
unfolding first_broken
kept_among r (here {rs}) passed = (past r.broken (refusal r) (first_broken rs) passed).0
kept_among r (further {other} {rs} behind) passed = kept_among r behind (past other.broken (refusal other) (first_broken rs) passed).1

pub unbroken : {rs : List Row} → first_broken rs ≡ Ok tt → (r : Row) → Among r rs → r.broken ≡ false
unbroken passed r stands = kept_among r stands passed

-- and rows of which none is broken pass: one row more
pub kept_too : (r : Row) (rs : List Row) → r.broken ≡ false → first_broken rs ≡ Ok tt → first_broken (r ∷ rs) ≡ Ok tt
unfolding first_broken
kept_too r rs e passed = rw e passed

-- a single row passes or refuses
module _ (r : Row) where
  pub one_kept : r.broken ≡ false → first_broken (r ∷ []) ≡ Ok tt
  unfolding first_broken
  one_kept e = rw e

  pub one_broken : r.broken ≡ true → first_broken (r ∷ []) ≡ Err (refusal r)
  unfolding first_broken
  one_broken e = rw e

-- the row that a number, a test and a place make
pub row_keeps : (n : ℕ) (b : Bool) (p : ℕ) → b ≡ false → Ok tt ≡ first_broken (row_at n b p ∷ [])
row_keeps n b p kept = sym (one_kept (row_at n b p) kept)

pub row_refuses : (n : ℕ) (b : Bool) (p : ℕ) → b ≡ true → Err (refusal (row_at n b p)) ≡ first_broken (row_at n b p ∷ [])
row_refuses n b p broken = sym (one_broken (row_at n b p) broken)

-- a chain of checks: rows that pass leave the rest to decide
pub rows_passed : {v : Verdict} (rs more : List Row) → Ok tt ≡ first_broken rs → v ≡ first_broken more → v ≡ first_broken (rs ++ more)
rows_passed rs more passed rest = rest ∙ then_rest rs more (sym passed)

-- and a single row does, or it decides
pub row_passed : {v : Verdict} (r : Row) (more : List Row) → Ok tt ≡ first_broken (r ∷ []) → v ≡ first_broken more → v ≡ first_broken (r ∷ more)
row_passed r = rows_passed (r ∷ [])

pub row_refused : {f : Refusal} (r : Row) (more : List Row) → Err f ≡ first_broken (r ∷ []) → Err f ≡ first_broken (r ∷ more)
row_refused {f} r more refused = then_refused (r ∷ []) more f (sym refused)
