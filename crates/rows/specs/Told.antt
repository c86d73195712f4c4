-- An answer in numbers: a refusal's number and place, both 0 where nothing is refused, and then the values that are given.
use Rattle.std.specs.Prelude.{ℕ, List, [], ◌∷◌, get_or, Err, Ok, Result}
use Rattle.rows.specs.declared.Refusal.{Refusal}

pub record Told : Type 0 where
  pub number : ℕ
  pub place : ℕ
  pub values : List ℕ

-- a refusal gives no value
abbrev pub told_refusal : Refusal → Told
told_refusal f = record { number = f.number; place = f.place; values = [] }

abbrev pub told_values : List ℕ → Told
told_values values = record { number = 0; place = 0; values = values }

-- a value by its index, 0 where there is none
abbrev pub value_at : Told → ℕ → ℕ
value_at t i = get_or t.values i 0

-- an answer whose value is told as numbers
abbrev pub told_as : {A : Type 0} → (A → List ℕ) → Result A Refusal → Told
told_as numbers (Err f) = told_refusal f
told_as numbers (Ok x) = told_values (numbers x)

-- as one number: a text's length, a number of slots, an index, a record's length
unfoldable pub number_told : Result ℕ Refusal → Told
number_told x = told_as (λ n. n ∷ []) x
