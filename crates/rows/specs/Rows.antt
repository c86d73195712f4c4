-- Rows of the table of refusals, and what an order of checks gives: the first row that is broken.
use Rattle.std.specs.Prelude.{ℕ, Bool, cond, List, [], ◌∷◌, ◌≡◌, ltb, Err, Ok, Result}
use Rattle.rows.specs.Lowest.{lowest}
use Rattle.rows.specs.declared.Refusal.{Refusal}

-- a row of the table: its number, whether it is broken, and the place that it then gives
pub record Row : Type 0 where
  pub number : ℕ
  pub broken : Bool
  pub place : ℕ

abbrev pub row_at : ℕ → Bool → ℕ → Row
row_at n b p = record { number = n; broken = b; place = p }

-- a row whose place is 0
abbrev pub row : ℕ → Bool → Row
row n b = row_at n b 0

-- a row that is broken where some index below a count is at fault; its place is the lowest such index
abbrev pub row_of_lowest : ℕ → (ℕ → Bool) → ℕ → Row
row_of_lowest n fault count = row_at n (ltb (lowest fault count) count) (lowest fault count)

abbrev pub refusal : Row → Refusal
refusal r = record { number = r.number; place = r.place }

-- what checking gives: a refusal, or nothing
abbrev pub Verdict : Type 0
Verdict = Result Unit Refusal

-- what rows give in their order: the refusal of the first that is broken
unfoldable pub first_broken : List Row → Verdict
first_broken [] = Ok tt
first_broken (r ∷ rs) = cond r.broken (Err (refusal r)) (first_broken rs)

-- what a call answers that checks first: the refusal, or what it gives
abbrev pub answer_by : {A : Type 0} → Verdict → A → Result A Refusal
answer_by (Err f) x = Err f
answer_by (Ok tt) x = Ok x

-- no row is broken
abbrev pub Accepted : List Row → Type 0
Accepted rows = first_broken rows ≡ Ok tt

-- the same as code goes that hands a verdict on: one row after another, where an earlier refusal stays
unfoldable pub after_row : Verdict → Row → Verdict
after_row (Err f) r = Err f
after_row (Ok tt) r = cond r.broken (Err (refusal r)) (Ok tt)

abbrev pub after_rows : Verdict → List Row → Verdict
after_rows v [] = v
after_rows v (r ∷ rs) = after_rows (after_row v r) rs
