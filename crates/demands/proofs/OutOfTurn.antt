-- The lowest slot that breaks the used/unused rule is known without going back: the lowest unused one, but where that is the one at current, the lowest used one behind it.
use Prim.Native.Nat.{ℕ, ◌≤◌, ◌<◌}
use mathlib.Core.Bool.{Bool, true, false, not, cond, ◌&&◌, ◌||◌, true≢false}
use mathlib.Core.Path.{◌≡◌, refl, sym, ◌∙◌}
use native.Mathlib.Decide.{dec_lt, ℕ_discrete}
use native.Mathlib.Omega.{arith}
use borrow.Author.Tests.{eq-eqb, le-ltb, lt-ltb, ne_eqb, not-false, not-true}
use lib.Dec.{eqb, ltb}
use Rattle.rows.proofs.Lowest.{count_first, lowest_at, lowest_before, lowest_hit, lowest_le, lowest_same}
use Rattle.rows.specs.Lowest.{count, lowest}
use Rattle.trace.specs.Slots.{is_fault}
use Rattle.trace.specs.declared.Fault.TheVariants.{OutOfTurn}

-- a slot is out of turn by whether it is used and whether it must be
out_full : (used : Bool) (id : ℕ) → is_fault OutOfTurn used true id ≡ not used
unfolding is_fault
out_full true id = refl
out_full false id = refl

out_past : (used : Bool) (id : ℕ) → is_fault OutOfTurn used false id ≡ used
unfolding is_fault
out_past true id = refl
out_past false id = refl

and-true : (b : Bool) → (b && true) ≡ b
and-true true = refl
and-true false = refl

module _ (used : ℕ → Bool) (id : ℕ → ℕ) (n c : ℕ) (inside : c < n) where
  abbrev unused : ℕ
  unused = lowest (λ i. not (used i)) n

  abbrev behind : ℕ
  behind = lowest (λ i. used i && ltb c i) n

  abbrev is_out : ℕ → Bool
  is_out i = is_fault OutOfTurn (used i) (used c || ltb i c) (id i)

  -- slots below the lowest unused one are used, and that one is not
  used_before : (i : ℕ) → i < unused → used i ≡ true
  used_before i below = not-false (used i) (lowest_before (λ i. not (used i)) n i below)

  unused_there : unused < n → used unused ≡ false
  unused_there below = not-true (used unused) (lowest_hit (λ i. not (used i)) n below)

  -- all must be used
  where_full : used c ≡ true → lowest is_out n ≡ cond (eqb unused c) behind unused
  where_full full = rw (ne_eqb unused c other) (lowest_same is_out (λ i. not (used i)) n (λ i below. rw full (out_full (used i) (id i))))
    where
      other : unused ≡ c → ⊥
      other e = true≢false (sym full ∙ rw e at (unused_there (omega arith)))

  module _ (empty : used c ≡ false) where
    reached : unused ≤ c
    reached = by (dec_lt c unused)
      where
        by : Dec (c < unused) → unused ≤ c
        by (yes later) = absurd (true≢false (sym (used_before c later) ∙ empty))
        by (no here) = omega arith

    -- one before current is unused
    where_gap : unused < c → lowest is_out n ≡ cond (eqb unused c) behind unused
    where_gap gap =
        rw (ne_eqb unused c (λ e. omega arith))
        (sym (lowest_at is_out n unused (omega arith) (λ i below. rw (used_before i below, empty, lt-ltb i c (omega arith)) (out_full true (id i))) (rw (unused_there (omega arith), empty, lt-ltb unused c gap) (out_full false (id unused)))))

    -- those before current are used
    where_turn : unused ≡ c → lowest is_out n ≡ cond (eqb unused c) behind unused
    where_turn here = rw (eq-eqb unused c here) (lowest_same is_out (λ i. used i && ltb c i) n (λ i below. rw empty (by i (dec_lt i c) (dec_lt c i))))
      where
        by : (i : ℕ) → Dec (i < c) → Dec (c < i) → is_fault OutOfTurn (used i) (ltb i c) (id i) ≡ (used i && ltb c i)
        by i (yes before) later = rw (lt-ltb i c before, used_before i (omega arith), le-ltb c i (omega arith)) (out_full true (id i))
        by i (no past) (yes later) = rw (le-ltb i c (omega arith), lt-ltb c i later) (out_past (used i) (id i) ∙ sym (and-true (used i)))
        by i (no past) (no none) = let e : i ≡ c = omega arith in rw (e, empty, le-ltb c c (omega arith)) (out_past false (id c))

  pub turn_is : lowest is_out n ≡ cond (eqb unused c) behind unused
  turn_is = by (used c) refl
    where
      before : used c ≡ false → Dec (unused < c) → lowest is_out n ≡ cond (eqb unused c) behind unused
      before empty (yes gap) = where_gap empty gap
      before empty (no none) = where_turn empty (omega (arith, reached empty))

      by : (full : Bool) → used c ≡ full → lowest is_out n ≡ cond (eqb unused c) behind unused
      by true full = where_full full
      by false empty = before empty (dec_lt unused c)

  -- where none is, the used ones are those below the lowest unused one
  used_is : n ≤ cond (eqb unused c) behind unused → (i : ℕ) → i < n → used i ≡ ltb i unused
  used_is none i below = by (dec_lt i unused) (ℕ_discrete unused c)
    where
      by : Dec (i < unused) → Dec (unused ≡ c) → used i ≡ ltb i unused
      by (yes first) at = rw (lt-ltb i unused first) (used_before i first)
      by (no past) (no other) = absurd (omega (arith, rw (ne_eqb unused c other) at none))
      by (no past) (yes here) = rw (le-ltb i unused (omega arith)) (on (dec_lt c i))
        where
          on : Dec (c < i) → used i ≡ false
          on (yes later) =
              sym (and-true (used i)) ∙ rw (lt-ltb c i later) at (lowest_before (λ i. used i && ltb c i) n i (omega (arith, rw (eq-eqb unused c here) at none)))
          on (no none) = let e : i ≡ unused = omega arith in rw e (unused_there (omega arith))

  pub count_is : n ≤ lowest is_out n → count used n ≡ unused
  count_is none = count_first used n unused (used_is (rw turn_is at none)) ∙ omega (arith, lowest_le (λ i. not (used i)) n)
