-- An index of things by their numbers, which may be of two sorts: each number has a place, one for either sort, from each place a link leads to the lowest thing with it, and from each thing to the next.
use Rattle.std.specs.Prelude.{ℕ, suc, ◌+◌, ◌*◌, ◌/◌, ◌%◌, ◌^◌, ◌≤◌, ◌<◌, Bool, true, false, cond, ◌≡◌, ltb, None, Option, Some}
use Rattle.rows.specs.Lowest.{lowest}

-- bits 21 to 31 of a product, which all bits of the number move
unfoldable pub spread_of : ℕ → ℕ
spread_of number = number * 2654435769 / 2097152 % 2048

-- the place of a number: those of the second sort stand behind those of the first
unfoldable pub place_of : Bool → ℕ → ℕ
place_of false number = spread_of number
place_of true number = 2048 + spread_of number

-- a link leads from one thing on to the lowest that has the place, or to 65535, past all things
pub record Leads (has : ℕ → ℕ → Bool) (count place from to : ℕ) : Type 0 where
  pub few : count ≤ 65535
  pub on : from ≤ to
  pub fits : to < 2 ^ 16
  pub skips : (k : ℕ) → from ≤ k → k < to → k < count → has place k ≡ false
  pub lands : to < count → has place to ≡ true
  pub past : count ≤ to → to ≡ 65535

-- the things from one on are linked: where each place leads, and where each thing does
pub record Linked (has : ℕ → ℕ → Bool) (count from : ℕ) (first next : ℕ → ℕ) : Type 0 where
  pub firsts : (place : ℕ) → place < 4096 → Leads has count place from (first place)
  pub nexts : (i place : ℕ) → from ≤ i → i < count → has place i ≡ true → Leads has count place (suc i) (next i)

-- the lowest index below n that passes the test, if one does
unfoldable pub lowest_in : (ℕ → Bool) → ℕ → Option ℕ
lowest_in t n = cond (ltb (lowest t n) n) (Some (lowest t n)) None
