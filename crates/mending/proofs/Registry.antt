-- The registry of a copy: entries with a bad type have flag 1 and else their bytes, others all of theirs; so no type is bad, and every name is found as before.
use Rattle.std.specs.Prelude.{Ok}
use Prim.Native.Nat.{ℕ, ◌+◌, ◌≤◌, ◌<◌}
use mathlib.Core.Bool.{Bool, true, false, cond, not, and-eq-true_iff, not-eq-not, true≢false}
use mathlib.Core.List.{List, ◌++◌}
use mathlib.Core.Logic.{inr}
use mathlib.Core.Path.{◌≡◌, refl, sym, ◌∙◌}
use native.Mathlib.Nat.{add-zero}
use native.Mathlib.Omega.{arith}
use borrow.Author.Tests.{not-true}
use lib.ListN.{get_or, length, set}
use lib.Seq.{get_or-set_other, get_or-set_same}
use Rattle.rows.proofs.Lowest.{count_same, lowest_hit, lowest_same}
use Rattle.rows.specs.Lowest.{count}
use Rattle.rows.specs.Rows.{Row, first_broken}
use Rattle.trace.proofs.Passed.{buffer_sized, entry_in_registry, registry_within, slots_start}
use Rattle.trace.proofs.SameBytes.{Same, same_wanted}
use Rattle.trace.proofs.Threads.{thread_missed}
use Rattle.trace.specs.Layout.{buffer_end, buffer_start, entry_at, entry_count, entry_size, header_size}
use Rattle.trace.specs.Names.{name_of, thread_entry}
use Rattle.trace.specs.Registry.{is_allowed_type, is_in_use, is_wanted, is_wanted_at, type_at}
use Rattle.trace.specs.Table.{layout_rows}
use Rattle.trace.specs.declared.Header.{Header}
use Rattle.trace.specs.declared.ThreadKind.{ThreadKind}
use Rattle.trace.specs.declared.Wanted.TheVariants.{BadType, Thread}
use Rattle.writing.proofs.SameNames.{SameNamed, names_agree}
use Rattle.mending.specs.Mending.{after_current, after_missing, after_types}
use Rattle.mending.specs.Steps.{free_entry, without_bad_types}
use Rattle.mending.proofs.Each.{each_part, free_parts}
use Rattle.mending.proofs.Slots.{current_aside, current_length, missing_front, missing_length}

-- type 1 is allowed, so an entry with a bad type is no thread's, live or gone; and a free one has none
typed_no_thread : (s : List ℕ) (h : Header) (i : ℕ) → is_allowed_type (type_at s (entry_at h i)) ≡ false → (kind : ThreadKind) (p : ℕ) → is_wanted (Thread kind p) s h i ≡ false
unfolding is_allowed_type
typed_no_thread s h i bad kind p = thread_missed kind _ _ _ _ (λ is. true≢false (rw is.1 at bad))

bad_typed : (s : List ℕ) (h : Header) (i : ℕ) → is_wanted BadType s h i ≡ true → is_allowed_type (type_at s (entry_at h i)) ≡ false
unfolding is_wanted_at
bad_typed s h i bad = not-true _ ((and-eq-true_iff (is_in_use s (entry_at h i)) (not (is_allowed_type (type_at s (entry_at h i))))).0 bad).1

free_typed : (s : List ℕ) (h : Header) (i : ℕ) → get_or s (entry_at h i) 0 ≡ 1 → is_wanted BadType s h i ≡ false
unfolding is_wanted_at is_in_use
free_typed s h i free = rw (add-zero (entry_at h i), free)

module _ (s : List ℕ) (h : Header) (more : List Row) (passed : first_broken (layout_rows h (length s) ++ more) ≡ Ok tt) where
  -- an entry ends where the slots begin, at the latest
  entry_front : (i : ℕ) → i < entry_count h → entry_at h i + entry_size h ≤ buffer_start h
  entry_front i below = omega (arith, entry_in_registry h i below, slots_start h (length s) more passed)

  -- before types are looked at, entries have the dump's bytes
  entry_before : (i : ℕ) → i < entry_count h → Same s (after_current s h) (entry_at h i) (entry_size h)
  entry_before i below k within =
      current_aside (after_missing s h) h (entry_at h i + k) (inr (omega arith)) ∙ missing_front s h more passed (entry_at h i + k) (omega (arith, entry_front i below))

  bad_is : (i : ℕ) → i < entry_count h → is_wanted BadType (after_current s h) h i ≡ is_wanted BadType s h i
  bad_is i below = same_wanted BadType h.order s (after_current s h) (entry_at h i) (λ k near aside. entry_before i below k (omega arith))

  pub types_counted : count (is_wanted BadType (after_current s h) h) (entry_count h) ≡ count (is_wanted BadType s h) (entry_count h)
  types_counted = count_same (is_wanted BadType (after_current s h) h) (is_wanted BadType s h) (entry_count h) bad_is

  module _ (i : ℕ) (below : i < entry_count h) where
    changed : (k : ℕ) → k < entry_size h
        → get_or (after_types s h) (entry_at h i + k) 0 ≡ get_or (cond (is_wanted BadType s h i) (set (after_current s h) (entry_at h i) 1) (after_current s h)) (entry_at h i + k) 0
    unfolding without_bad_types
    changed k within = rw (bad_is i below) at (each_part (is_wanted BadType (after_current s h) h) (free_entry h) (free_parts h) (entry_count h) i (after_current s h) k below within)

    pub entry_same : is_wanted BadType s h i ≡ false → Same s (after_types s h) (entry_at h i) (entry_size h)
    entry_same right k within = rw right at (changed k within) ∙ entry_before i below k within

    pub entry_freed : is_wanted BadType s h i ≡ true → get_or (after_types s h) (entry_at h i) 0 ≡ 1
    entry_freed bad =
        let room : entry_at h i < length (after_current s h) = rw (current_length (after_missing s h) h, missing_length s h) (omega (arith, entry_front i below, buffer_sized h (length s) more passed)) in
        rw (bad, add-zero (entry_at h i)) at (changed 0 (omega arith)) ∙ get_or-set_same (after_current s h) (entry_at h i) 1 0 room

    pub entry_rest : (k : ℕ) → 1 ≤ k → k < entry_size h → get_or (after_types s h) (entry_at h i + k) 0 ≡ get_or s (entry_at h i + k) 0
    entry_rest k behind within = by (is_wanted BadType s h i) (changed k within)
      where
        by : (b : Bool) → get_or (after_types s h) (entry_at h i + k) 0 ≡ get_or (cond b (set (after_current s h) (entry_at h i) 1) (after_current s h)) (entry_at h i + k) 0
            → get_or (after_types s h) (entry_at h i + k) 0 ≡ get_or s (entry_at h i + k) 0
        by true e = e ∙ get_or-set_other (after_current s h) (entry_at h i) (entry_at h i + k) 1 0 (λ here. omega arith) ∙ entry_before i below k within
        by false e = e ∙ entry_before i below k within

-- a list that has the same registry as that
module _ (s : List ℕ) (h : Header) (more : List Row) (passed : first_broken (layout_rows h (length s) ++ more) ≡ Ok tt)
    (t : List ℕ) (long : buffer_end h ≤ length t) (same : (k : ℕ) → header_size ≤ k → k < buffer_start h → get_or t k 0 ≡ get_or (after_types s h) k 0) where
  module _ (i : ℕ) (below : i < entry_count h) where
    in-registry : Same (after_types s h) t (entry_at h i) (entry_size h)
    in-registry k within = same (entry_at h i + k) (omega arith) (omega (arith, entry_front s h more passed i below))

    pub copy_entry : is_wanted BadType s h i ≡ false → Same s t (entry_at h i) (entry_size h)
    copy_entry right k within = in-registry k within ∙ entry_same s h more passed i below right k within

    pub copy_freed : is_wanted BadType s h i ≡ true → get_or t (entry_at h i) 0 ≡ 1
    copy_freed bad = rw (add-zero (entry_at h i)) at (in-registry 0 (omega arith)) ∙ entry_freed s h more passed i below bad

    pub copy_rest : (k : ℕ) → 1 ≤ k → k < entry_size h → get_or t (entry_at h i + k) 0 ≡ get_or s (entry_at h i + k) 0
    copy_rest k behind within = in-registry k within ∙ entry_rest s h more passed i below k behind within

    -- no type is bad, and a thread's entry is one as before
    pub copy_types : is_wanted BadType t h i ≡ false
    copy_types = by (is_wanted BadType s h i) refl
      where
        by : (b : Bool) → is_wanted BadType s h i ≡ b → is_wanted BadType t h i ≡ false
        by true bad = free_typed t h i (copy_freed bad)
        by false right = same_wanted BadType h.order s t (entry_at h i) (λ k near aside. copy_entry right k (omega arith)) ∙ right

    copy_thread : (kind : ThreadKind) (p : ℕ) → is_wanted (Thread kind p) t h i ≡ is_wanted (Thread kind p) s h i
    copy_thread kind p = by (is_wanted BadType s h i) refl
      where
        by : (bad : Bool) → is_wanted BadType s h i ≡ bad → is_wanted (Thread kind p) t h i ≡ is_wanted (Thread kind p) s h i
        by false right = same_wanted (Thread kind p) h.order s t (entry_at h i) (λ k near aside. copy_entry right k (omega arith))
        by true bad =
            let wrong = bad_typed s h i bad in
            typed_no_thread t h i (rw (copy_rest 1 (omega arith) (omega arith)) wrong) kind p ∙ sym (typed_no_thread s h i wrong kind p)

    thread-entry : (kind : ThreadKind) (p : ℕ) → is_wanted (Thread kind p) s h i ≡ true → Same s t (entry_at h i) (entry_size h)
    thread-entry kind p thread = copy_entry ((not-eq-not {b = false}).0 (λ bad. true≢false (sym thread ∙ typed_no_thread s h i (bad_typed s h i bad) kind p)))

  -- so every name is found as before, with its bytes
  pub copy_names : (p : ℕ) → SameNamed s t (name_of s h p) (name_of t h p)
  copy_names p =
      names_agree s t h (omega (arith, registry_within h (length s) more passed, slots_start h (length s) more passed, buffer_sized h (length s) more passed)) p
      (λ kind. lowest_same (is_wanted (Thread kind p) t h) (is_wanted (Thread kind p) s h) (entry_count h) (λ i below. copy_thread i below kind p))
      (λ kind found k near aside. thread-entry (thread_entry kind s h p) found kind p (lowest_hit (is_wanted (Thread kind p) s h) (entry_count h) found) k near)
