-- A sound dump of which only slots are missing: the slots that are kept are those of its events that came whole, in their order.
use Rattle.std.specs.Prelude.{Ok}
use Prim.Native.Nat.{ℕ, ◌+◌, ◌≤◌, ◌<◌}
use mathlib.Core.Bool.{Bool, true, false, cond, not, ◌&&◌}
use mathlib.Core.List.{List, [], ◌∷◌}
use mathlib.Core.Path.{◌≡◌, refl, sym, ap, ◌∙◌}
use native.Mathlib.Omega.{arith}
use borrow.Author.Tests.{leb-true}
use lib.Dec.{eqb, leb}
use lib.ListN.{get_or, length, take, length-take}
use lib.Seq.{get_or-take}
use Rattle.rows.proofs.Lowest.{none_hit}
use Rattle.rows.proofs.Rows.{among, unbroken}
use Rattle.rows.specs.Rows.{first_broken}
use Rattle.trace.proofs.Passed.{current_within, dump_short, registry_sized, registry_within, slot_some}
use Rattle.trace.proofs.Ring.{from_below}
use Rattle.trace.proofs.SameBytes.{same_header, same_slot}
use Rattle.trace.proofs.SameDumps.{keep_same}
use Rattle.trace.specs.Layout.{header_of, registry_end, slot_at, slot_count, slot_size}
use Rattle.trace.specs.Ring.{from_current, keep, oldest_first}
use Rattle.trace.specs.Slots.{event_id, is_at_fault, is_fault, is_used, slot_in}
use Rattle.trace.specs.Table.{dump_rows, layout_rows, row13}
use Rattle.trace.specs.declared.Fault.TheVariants.{NoId}
use Rattle.mending.specs.Kept.{is_kept, kept_slots}
use Rattle.mending.specs.Steps.{current_mended}
use Rattle.mending.proofs.Headers.{layout_passed}
use Rattle.mending.proofs.Sound.{same_current}

-- what is kept by two tests is kept by one after the other
keep_both : (t u : ℕ → Bool) (is : List ℕ) → keep (λ i. u i && t i) is ≡ keep u (keep t is)
unfolding keep
keep_both t u [] = refl
keep_both t u (i ∷ is) = by (t i) (u i) refl (keep_both t u is)
  where
    by : (a b : Bool) → u i ≡ b → keep (λ j. u j && t j) is ≡ keep u (keep t is)
        → cond (b && a) (i ∷ keep (λ j. u j && t j) is) (keep (λ j. u j && t j) is) ≡ keep u (cond a (i ∷ keep t is) (keep t is))
    by true true is-u e = rw is-u (ap (λ (js : List ℕ). i ∷ js) e)
    by true false is-u e = rw is-u e
    by false true is-u e = e
    by false false is-u e = e

-- of the first n bytes of a sound dump, up to the registry's end at least
module _ (s : List ℕ) (n : ℕ) (passed : first_broken (dump_rows s (header_of s)) ≡ Ok tt) (there : registry_end (header_of s) ≤ n) where
  reach : registry_end (header_of s) ≤ length (take n s)
  reach = rw length-take (omega (arith, registry_within (header_of s) (length s) _ passed))

  -- they have the header
  pub cut_header : header_of (take n s) ≡ header_of s
  cut_header = same_header s (take n s) (λ k below aside. get_or-take n s (0 + k) 0 (omega (arith, registry_sized (header_of s) (length s) _ passed)))

  -- and their layout is accepted
  pub cut_layout : first_broken (layout_rows (header_of s) (length (take n s))) ≡ Ok tt
  cut_layout = layout_passed (header_of s) (length s) _ passed (length (take n s)) reach (rw length-take (omega (arith, dump_short (header_of s) (length s) _ passed)))

  -- a slot is kept that came whole and is used: then it has an id
  module _ (i : ℕ) (below : i < slot_count (header_of s)) where
    whole_words : slot_at (header_of s) i + slot_size (header_of s) ≤ length (take n s)
        → slot_in (header_of s).order (take n s) (slot_at (header_of s) i) ≡ slot_in (header_of s).order s (slot_at (header_of s) i)
    whole_words fits =
        same_slot (header_of s).order s (take n s) (slot_at (header_of s) i)
        (λ k within. get_or-take n s (slot_at (header_of s) i + k) 0 (omega (arith, length-take n s, slot_some (header_of s))))

    has_id : (is_used s (header_of s) i && eqb (event_id s (header_of s) i) 0) ≡ false
    unfolding row13 is_fault
    has_id = none_hit (is_at_fault NoId s (header_of s)) (slot_count (header_of s)) (unbroken passed (row13 s (header_of s)) (search among depth 20)) i below

    cut_kept : is_kept (take n s) (header_of s) i ≡ (leb (slot_at (header_of s) i + slot_size (header_of s)) (length (take n s)) && is_used s (header_of s) i)
    unfolding slot_in
    cut_kept = by (leb (slot_at (header_of s) i + slot_size (header_of s)) (length (take n s))) refl
      where
        used_with_id : (used none : Bool) → (used && none) ≡ false → (used && not none) ≡ used
        used_with_id true true e = sym e
        used_with_id true false e = refl
        used_with_id false none e = refl

        by : (b : Bool) → leb (slot_at (header_of s) i + slot_size (header_of s)) (length (take n s)) ≡ b
            → (b && is_used (take n s) (header_of s) i && not (eqb (event_id (take n s) (header_of s) i) 0)) ≡ (b && is_used s (header_of s) i)
        by false e = refl
        by true e =
            let words = whole_words (leb-true _ _ e) in
            (λ k. not (eqb (words k).pointer 0) && not (eqb (words k).id 0)) ∙ used_with_id (is_used s (header_of s) i) (eqb (event_id s (header_of s) i) 0) has_id

  pub cut_slots : kept_slots (take n s) (current_mended (header_of s))
      ≡ keep (λ i. leb (slot_at (header_of s) i + slot_size (header_of s)) (length (take n s))) (oldest_first s (header_of s))
  unfolding kept_slots oldest_first
  cut_slots =
      rw (same_current s (header_of s) passed)
      (keep_same (is_kept (take n s) (header_of s)) (λ i. leb (slot_at (header_of s) i + slot_size (header_of s)) (length (take n s)) && is_used s (header_of s) i) (from_current (header_of s))
      (λ p. cut_kept (get_or (from_current (header_of s)) p 0) (from_below (header_of s) (current_within (header_of s) (length s) _ passed) p))
      ∙ keep_both (is_used s (header_of s)) (λ i. leb (slot_at (header_of s) i + slot_size (header_of s)) (length (take n s))) (from_current (header_of s)))
