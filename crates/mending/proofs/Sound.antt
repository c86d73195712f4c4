-- A dump that passes is its own copy, up to the buffer end, and nothing is counted; so a copy that is mended again stays as it is.
use Rattle.std.specs.Prelude.{Ok}
use Prim.Native.Nat.{ℕ, ◌+◌, ◌≤◌, ◌<◌}
use mathlib.Core.Bool.{false, cond}
use mathlib.Core.List.{List, ◌++◌, append-nil}
use mathlib.Core.Path.{◌≡◌, ◌∙◌}
use native.Mathlib.Nat.{sub-eq-zero_of_le}
use native.Mathlib.Omega.{arith}
use borrow.Author.Tests.{le-ltb}
use lib.Dec.{ltb}
use lib.ListN.{length, take}
use lib.Seq.{get_or-take, take_all}
use Rattle.rows.proofs.Lowest.{count_none, none_hit}
use Rattle.rows.proofs.Rows.{among, unbroken}
use Rattle.rows.specs.Lowest.{count, lowest}
use Rattle.rows.specs.Rows.{Row, first_broken}
use Rattle.trace.proofs.Passed.{current_within, entry_in_registry, slot_some, slot_within, slots_start, slots_within, buffer_sized}
use Rattle.trace.proofs.SameBytes.{Same, same_slot, same_wanted}
use Rattle.trace.proofs.SameDumps.{fault_same}
use Rattle.trace.specs.Layout.{buffer_end, entry_at, entry_count, entry_size, header_of, slot_at, slot_count, slot_size}
use Rattle.trace.specs.Registry.{is_wanted}
use Rattle.trace.specs.Ring.{oldest_first}
use Rattle.trace.specs.Slots.{is_at_fault, slot_in}
use Rattle.trace.specs.Table.{dump_rows, layout_rows, row10, row11, row12, row13}
use Rattle.trace.specs.declared.Fault.{Fault}
use Rattle.trace.specs.declared.Fault.TheVariants.{NoId, OutOfTurn}
use Rattle.trace.specs.declared.Header.{Header}
use Rattle.trace.specs.declared.Wanted.TheVariants.{BadType}
use Rattle.words.proofs.Runs.{cut_bytes}
use Rattle.words.specs.Words.{bytes_at}
use Rattle.mending.specs.Mending.{after_current, after_ids, after_missing, after_types, copy_of, repairs_of}
use Rattle.mending.specs.Steps.{current_mended, free_entry, has_bad_current, in_turn, is_missing, is_out_of_turn, moved_of, without_bad_current, without_bad_types, without_missing, without_no_ids, zero_slot}
use Rattle.mending.specs.declared.Repairs.{Repairs}
use Rattle.mending.proofs.Copied.{copy_header, copy_rows}
use Rattle.mending.proofs.Each.{each_none}
use Rattle.mending.proofs.Packed.{copy_length}

-- nothing was mended
abbrev pub no_repairs : Repairs
no_repairs = record { missing = 0; current = 0; types = 0; ids = 0; packed = 0; moved = 0 }

module _ (s : List ℕ) (h : Header) (passed : first_broken (dump_rows s h) ≡ Ok tt) where
  whole : buffer_end h ≤ length s
  whole = slots_within h (length s) _ passed

  right : has_bad_current h ≡ false
  right = unbroken passed (row10 h) (search among depth 20)

  -- the header has the current that it had
  pub same_current : current_mended h ≡ h
  same_current = rw right

  -- no slot is missing
  none_missing : (i : ℕ) → i < slot_count h → is_missing h (length s) i ≡ false
  none_missing i below = le-ltb (length s) (slot_at h i + slot_size h) (omega (arith, whole, slot_within h (length s) _ passed i below))

  first_step : after_missing s h ≡ take (buffer_end h) s
  unfolding without_missing
  first_step =
      each_none (is_missing h (length s)) (zero_slot h) (slot_count h) (bytes_at s 0 (buffer_end h)) none_missing
      ∙ cut_bytes (buffer_end h) s
      ∙ rw (sub-eq-zero_of_le whole) (append-nil (take (buffer_end h) s))

  second_step : after_current s h ≡ take (buffer_end h) s
  unfolding without_bad_current
  second_step = rw (right, first_step)

  -- entries and slots lie before the end
  entry_same : (i : ℕ) → i < entry_count h → Same s (take (buffer_end h) s) (entry_at h i) (entry_size h)
  entry_same i below k within =
      get_or-take (buffer_end h) s (entry_at h i + k) 0 (omega (arith, entry_in_registry h i below, slots_start h (length s) _ passed, buffer_sized h (length s) _ passed))

  none_bad : (i : ℕ) → i < entry_count h → is_wanted BadType (take (buffer_end h) s) h i ≡ false
  unfolding row11
  none_bad i below =
      same_wanted BadType h.order s (take (buffer_end h) s) (entry_at h i) (λ k near aside. entry_same i below k (omega arith))
      ∙ none_hit (is_wanted BadType s h) (entry_count h) (unbroken passed (row11 s h) (search among depth 20)) i below

  third_step : after_types s h ≡ take (buffer_end h) s
  unfolding without_bad_types
  third_step = rw second_step (each_none (is_wanted BadType (take (buffer_end h) s) h) (free_entry h) (entry_count h) (take (buffer_end h) s) none_bad)

  words_same : (i : ℕ) → i < slot_count h → slot_in h.order (take (buffer_end h) s) (slot_at h i) ≡ slot_in h.order s (slot_at h i)
  words_same i below =
      same_slot h.order s (take (buffer_end h) s) (slot_at h i)
      (λ k within. get_or-take (buffer_end h) s (slot_at h i + k) 0 (omega (arith, slot_some h, slot_within h (length s) _ passed i below)))

  fault_none : (f : Fault) → ltb (lowest (is_at_fault f s h) (slot_count h)) (slot_count h) ≡ false → ltb (lowest (is_at_fault f (take (buffer_end h) s) h) (slot_count h)) (slot_count h) ≡ false
  fault_none f none = rw (fault_same s (take (buffer_end h) s) h (current_within h (length s) _ passed) words_same f) none

  none_without : (i : ℕ) → i < slot_count h → is_at_fault NoId (take (buffer_end h) s) h i ≡ false
  unfolding row13
  none_without = none_hit (is_at_fault NoId (take (buffer_end h) s) h) (slot_count h) (fault_none NoId (unbroken passed (row13 s h) (search among depth 20)))

  fourth_step : after_ids s h ≡ take (buffer_end h) s
  unfolding without_no_ids
  fourth_step = rw third_step (each_none (is_at_fault NoId (take (buffer_end h) s) h) (zero_slot h) (slot_count h) (take (buffer_end h) s) none_without)

  in-turn : is_out_of_turn (after_ids s h) (current_mended h) ≡ false
  unfolding row12
  in-turn = rw (fourth_step, same_current) (fault_none OutOfTurn (unbroken passed (row12 s h) (search among depth 20)))

  pub sound_copy : copy_of s h ≡ take (buffer_end h) s
  unfolding copy_of in_turn
  sound_copy = rw in-turn fourth_step

  pub sound_repairs : repairs_of s h ≡ no_repairs
  unfolding repairs_of
  sound_repairs = λ i. record {
    missing = count_none (is_missing h (length s)) (slot_count h) none_missing i;
    current = cond (right i) 1 0;
    types = types_none i;
    ids = ids_none i;
    packed = cond (in-turn i) 1 0;
    moved = cond (in-turn i) (moved_of (oldest_first (after_ids s h) (current_mended h))) 0;
  }
    where
      types_none : count (is_wanted BadType (after_current s h) h) (entry_count h) ≡ 0
      types_none = rw second_step (count_none (is_wanted BadType (take (buffer_end h) s) h) (entry_count h) none_bad)

      ids_none : count (is_at_fault NoId (after_types s h) h) (slot_count h) ≡ 0
      ids_none = rw third_step (count_none (is_at_fault NoId (take (buffer_end h) s) h) (slot_count h) none_without)

-- a copy that is mended again
module _ (s : List ℕ) (more : List Row) (passed : first_broken (layout_rows (header_of s) (length s) ++ more) ≡ Ok tt) where
  pub copy_passes : first_broken (dump_rows (copy_of s (header_of s)) (header_of (copy_of s (header_of s)))) ≡ Ok tt
  copy_passes = rw (copy_header s more passed) (copy_rows s (header_of s) more passed)

  pub again_copy : copy_of (copy_of s (header_of s)) (header_of (copy_of s (header_of s))) ≡ copy_of s (header_of s)
  again_copy =
      sound_copy (copy_of s (header_of s)) (header_of (copy_of s (header_of s))) copy_passes
      ∙ rw (copy_header s more passed) (take_all (buffer_end (header_of s)) (copy_of s (header_of s)) (omega (arith, copy_length s (header_of s))))

  pub again_repairs : repairs_of (copy_of s (header_of s)) (header_of (copy_of s (header_of s))) ≡ no_repairs
  again_repairs = sound_repairs (copy_of s (header_of s)) (header_of (copy_of s (header_of s))) copy_passes
