-- To follow the links is to miss nothing that is wanted.
use Prim.Native.Nat.{ℕ, ◌+◌, ◌^◌, ◌≤◌, ◌<◌}
use mathlib.Core.Bool.{Bool, true, false, cond, not, ◌&&◌}
use mathlib.Core.Path.{◌≡◌, refl}
use native.Mathlib.Decide.{dec_lt}
use native.Mathlib.Omega.{arith}
use borrow.Author.Tests.{eq-eqb, le-ltb, lt-ltb, ne_eqb}
use lib.Dec.{eqb, ltb}
use Rattle.std.specs.Prelude.{None, Some, option_map}
use Rattle.rows.proofs.Lowest.{lowest_at, lowest_none, lowest_same}
use Rattle.rows.specs.Lowest.{lowest}
use Rattle.listing.specs.Index.{lowest_in, place_of, spread_of}

-- whether two are of one sort
abbrev pub same : Bool → Bool → Bool
same false other = not other
same true other = other

-- the two sorts have places of their own, so a number's place tells the sort
pub place_tells : (one other : Bool) (number : ℕ) → eqb (place_of one number) (place_of other number) ≡ same one other
unfolding place_of spread_of
place_tells false false number = eq-eqb (spread_of number) (spread_of number) refl
place_tells true false number = ne_eqb (2048 + spread_of number) (spread_of number) (omega arith)
place_tells false true number = ne_eqb (spread_of number) (2048 + spread_of number) (omega arith)
place_tells true true number = eq-eqb (2048 + spread_of number) (2048 + spread_of number) refl

-- the things of a sort with a number: those that have its place, and the number
abbrev pub is_found : (ℕ → ℕ → Bool) → (ℕ → ℕ) → ℕ → ℕ → ℕ → Bool
is_found has numbers place number k = has place k && eqb (numbers k) number

-- a search has come to a thing, or past all: none below is sought, and it has the place
pub record Reached (has : ℕ → ℕ → Bool) (numbers : ℕ → ℕ) (count place number i : ℕ) : Type 0 where
  pub few : count ≤ 65535
  pub fits : i < 2 ^ 16
  pub missed : (k : ℕ) → k < i → k < count → is_found has numbers place number k ≡ false
  pub placed : i < count → has place i ≡ true
  pub past : count ≤ i → i ≡ 65535

module _ {has : ℕ → ℕ → Bool} {numbers : ℕ → ℕ} {count place number : ℕ} where
  module _ (i : ℕ) (come : Reached has numbers count place number i) where
    pub comes_inside : (i ≡ 65535 → ⊥) → i < count
    comes_inside other = by (dec_lt i count)
      where
        by : Dec (i < count) → i < count
        by (yes inside) = inside
        by (no beyond) = absurd (other (come.past (omega arith)))

    -- at a hit, and past the things, it has come to the end
    pub comes_hit : i < count → numbers i ≡ number → Some i ≡ lowest_in (is_found has numbers place number) count
    unfolding lowest_in
    comes_hit inside hit =
        let end = lowest_at (is_found has numbers place number) count i inside (λ k below. come.missed k below (omega arith)) (rw (come.placed inside, eq-eqb (numbers i) number hit)) in
        rw (← end, lt-ltb i count inside)

    pub comes_past : i ≡ 65535 → None ≡ lowest_in (is_found has numbers place number) count
    unfolding lowest_in
    comes_past past =
        let end = lowest_none (is_found has numbers place number) count (λ k below. come.missed k (omega (arith, come.few)) below) in
        rw (← end, le-ltb count count (omega arith))

-- what such a search finds lies below the count
pub lowest_in_below : (t : ℕ → Bool) (n i : ℕ) → lowest_in t n ≡ Some i → i < n
unfolding lowest_in
lowest_in_below t n i found = by (dec_lt (lowest t n) n)
  where
    by : Dec (lowest t n < n) → i < n
    by (yes below) = let same : lowest t n ≡ i = (let e = rw (lt-ltb (lowest t n) n below) at found in cc) in omega arith
    by (no past) = let e = rw (le-ltb (lowest t n) n (omega arith)) at found in absurd cc

-- what is made of the lowest index, if there is one
pub lowest_map : {A : Type 0} (f : ℕ → A) (t u : ℕ → Bool) (n : ℕ) → ((k : ℕ) → k < n → t k ≡ u k) → cond (ltb (lowest u n) n) (Some (f (lowest u n))) None ≡ option_map f (lowest_in t n)
unfolding lowest_in
lowest_map f t u n same = rw (lowest_same t u n same) (by (ltb (lowest u n) n))
  where
    by : (b : Bool) → cond b (Some (f (lowest u n))) None ≡ option_map f (cond b (Some (lowest u n)) None)
    by true = refl
    by false = refl
