-- What is said of mending holds, by the laws of its steps (`mending`): of each slot and entry of the copy, of its rows and its events.
use Rattle.std.specs.Prelude.{Ok}
use Prim.Native.Nat.{ℕ, ◌+◌, ◌-◌, ◌*◌, ◌/◌, ◌≤◌, ◌<◌}
use mathlib.Core.Bool.{Bool, true, false, cond, not, ◌&&◌, ◌||◌, and-eq-true_iff}
use mathlib.Core.List.{List, [], ◌∷◌, ◌++◌}
use mathlib.Core.Path.{◌≡◌, refl, sym, ap, ap₂, ◌∙◌}
use native.Mathlib.Decide.{dec_lt}
use native.Mathlib.Omega.{arith}
use borrow.Author.Tests.{le-leb, le-ltb, lt-leb, lt-ltb}
use lib.Dec.{ltb}
use lib.ListN.{get_or, length, take}
use Rattle.mending.proofs.Copied.{before_passed, behind, copy_count, copy_header, copy_slot, copy_current, header-bytes, if_in_turn, if_packed, kept_count, packed-from, registry_bytes}
use Rattle.mending.proofs.Cut.{cut_header, cut_layout, cut_slots}
use Rattle.mending.proofs.Headers.{mended_within, some_slot}
use Rattle.mending.proofs.Packed.{copy_length, kept_is, used_mended}
use Rattle.mending.proofs.Registry.{copy_entry, copy_freed, copy_names, copy_rest, types_counted}
use Rattle.mending.proofs.Slots.{after_length, gone_fault, missing_zeros, no_id_zeros, same_bytes, there_fault}
use Rattle.mending.proofs.Sound.{again_copy, again_repairs, copy_passes, sound_copy, sound_repairs}
use Rattle.mending.proofs.Turned.{packed_zeros}
use Rattle.mending.specs.Kept.{is_kept_at, kept_slots}
use Rattle.mending.specs.Mending.{after_ids, after_types, copy_of, mend_of, mended_told, mending_rows, repairs_of, mended_copy}
use Rattle.mending.specs.Steps.{current_mended, is_missing, is_out_of_turn, moved_of, sound_current}
use Rattle.rows.proofs.Lowest.{count_same, lowest_same}
use Rattle.rows.proofs.Rows.{one_kept, passed_before, then_rest}
use Rattle.rows.specs.Lowest.{lowest}
use Rattle.rows.specs.Rows.{Accepted, Row, first_broken}
use Rattle.trace.proofs.Checks.{check_passed}
use Rattle.trace.proofs.Passed.{registry_passed, slot_some}
use Rattle.trace.proofs.SameBytes.{alike_slot}
use Rattle.trace.specs.Check.{check_of, sound_dump}
use Rattle.trace.specs.Layout.{buffer_end, buffer_start, current_slot, header_of, slot_at, slot_count, slot_size, with_current}
use Rattle.trace.specs.Names.{find_name, name_if_entry, name_of, thread_name}
use Rattle.trace.specs.Ring.{from_current, keep, numbers_from, oldest_first, slot_of}
use Rattle.trace.specs.Slots.{event_id, is_at_fault, is_fault, is_used}
use Rattle.trace.specs.Table.{layout_rows, row10, row12, row16}
use Rattle.trace.specs.declared.Fault.TheVariants.{NoId, OutOfTurn}
use Rattle.trace.specs.declared.Header.{Header}
use Rattle.writing.proofs.Moved.{current_size, moved_slot}
use Rattle.writing.specs.Keeping.{KeepsBytes}
use Rattle.demands.proofs.Answers.{answer_is}
use Rattle.mending.specs.declared.Mended.{Mended}
use Rattle.demands.specs.Mending.{InPlace, Mending, Mends, Packed, are_out, came_of, first_slot, is_whole, lacks_id, no_repairs}

module _ (s : List ℕ) (more : List Row) (passed : first_broken (layout_rows (header_of s) (length s) ++ more) ≡ Ok tt) where
  abbrev h : Header
  h = header_of s

  abbrev g : Header
  g = current_mended h

  abbrev t : List ℕ
  t = copy_of s h

  -- slots have one size whatever current is, and the order begins at the mended one
  same_size : slot_size g ≡ slot_size h
  same_size = current_size h (sound_current h)

  first_is : current_slot g ≡ first_slot h
  first_is = by (row10 h).broken refl
    where
      by : (bad : Bool) → (row10 h).broken ≡ bad → current_slot g ≡ cond bad 0 (current_slot h)
      by true bad = rw bad (moved_slot h (length s) more passed 0 (some_slot h (length s) more passed))
      by false right = rw right

  -- so the slots that came are those that are kept: both hang on the size and on where the order begins alone
  abbrev comes : ℕ → ℕ → Bool
  comes size i = is_kept_at h.order s (buffer_start h + i * size) size

  abbrev slots : ℕ → ℕ
  slots size = (buffer_end h - buffer_start h) / size

  pub came_is : kept_slots s g ≡ came_of s
  unfolding kept_slots from_current came_of
  came_is = ap₂ (λ (size first : ℕ). keep (comes size) (numbers_from first (slots size - first) ++ numbers_from 0 first)) same_size first_is

  came : oldest_first (after_ids s h) g ≡ came_of s
  came = kept_is s h more passed ∙ came_is

  -- the rule fails of the slots that came just where it fails of the copy before packing
  out_is : is_out_of_turn (after_ids s h) g ≡ are_out s h
  unfolding row12 is_fault
  out_is =
      ap (λ (n : ℕ). ltb n (slot_count g))
      (lowest_same (λ i. is_fault OutOfTurn (is_used (after_ids s h) g i) (is_used (after_ids s h) g (current_slot g) || ltb i (current_slot g)) (event_id (after_ids s h) g i)) (out (slot_size g) (current_slot g)) (slot_count g)
      (λ i below k. is_fault OutOfTurn (used_mended s h more passed i below k) (used_mended s h more passed (current_slot g) (mended_within h (length s) more passed) k || ltb i (current_slot g)) 0))
      ∙ ap₂ (λ (size first : ℕ). ltb (lowest (out size first) (slots size)) (slots size)) same_size first_is
    where
      out : ℕ → ℕ → ℕ → Bool
      out size first i = is_fault OutOfTurn (comes size i) (comes size first || ltb i first) 0

  -- as many came as the copy has events, and its header is the dump's but for current
  count_is : kept_count s h ≡ length (came_of s)
  count_is = ap length came

  header_is : header_of t ≡ with_current h (copy_current s h)
  header_is = copy_header s more passed

  -- a slot is missing where it is not whole
  missing_is : (i : ℕ) → is_missing h (length s) i ≡ not (is_whole s h i)
  missing_is i = by (dec_lt (length s) (slot_at h i + slot_size h))
    where
      by : Dec (length s < slot_at h i + slot_size h) → is_missing h (length s) i ≡ not (is_whole s h i)
      by (yes short) = rw (lt-ltb (length s) (slot_at h i + slot_size h) short, lt-leb (slot_at h i + slot_size h) (length s) short)
      by (no fits) = rw (le-ltb (length s) (slot_at h i + slot_size h) (omega arith), le-leb (slot_at h i + slot_size h) (length s) (omega arith))

  -- where slots are in turn, the copy is what the steps before packing left
  in_place : are_out s h ≡ false → InPlace s t h
  in_place turn =
      let kept = out_is ∙ turn in
      record {
        missing = λ i below gone.
            if_in_turn s h more passed kept (λ r f. (k : ℕ) → k < slot_size h → get_or r (slot_at h i + k) 0 ≡ 0) (missing_zeros s h more passed i below (missing_is i ∙ ap not gone));
        ids = λ i below lacks.
            let both = (and-eq-true_iff (is_whole s h i) (is_at_fault NoId s h i)).0 lacks in
            if_in_turn s h more passed kept (λ r f. (k : ℕ) → k < slot_size h → get_or r (slot_at h i + k) 0 ≡ 0) (no_id_zeros s h more passed i below (missing_is i ∙ ap not both.0) both.1);
        others = λ i below there has.
            if_in_turn s h more passed kept (λ r f. (k : ℕ) → k < slot_size h → get_or r (slot_at h i + k) 0 ≡ get_or s (slot_at h i + k) 0)
            (same_bytes s h more passed i below (missing_is i ∙ ap not there) (rw there at has));
        current = λ right. rw header_is (if_in_turn s h more passed kept (λ r f. f.current ≡ h.current) (rw right));
        start = λ bad. rw header_is (if_in_turn s h more passed kept (λ r f. current_slot f ≡ 0) (rw bad (moved_slot h (length s) more passed 0 (some_slot h (length s) more passed))));
      }

  -- where they are not, it is packed
  packed : are_out s h ≡ true → Packed s t h
  packed out =
      let turned = out_is ∙ out in
      record {
        slots = λ p below.
            if_packed s h more passed turned (λ r f. (k : ℕ) → k < slot_size h → get_or r (slot_at h p + k) 0 ≡ get_or s (slot_at h (get_or (came_of s) p 0) + k) 0)
            (rw came_is at (packed-from s h more passed turned p (rw count_is below)));
        rest = λ i past below.
            if_packed s h more passed turned (λ r f. (k : ℕ) → k < slot_size h → get_or r (slot_at h i + k) 0 ≡ 0)
            (rw same_size at (packed_zeros (after_ids s h) g (after_length s h) (before_passed s h more passed) turned i (rw count_is past) (rw same_size below)));
        current = rw header_is (behind s h more passed turned ∙ count_is);
      }

  -- the counts, in words of the dump
  lacks_is : (i : ℕ) → i < slot_count h → is_at_fault NoId (after_types s h) h i ≡ lacks_id s h i
  lacks_is i below = by (is_whole s h i) refl
    where
      by : (b : Bool) → is_whole s h i ≡ b → is_at_fault NoId (after_types s h) h i ≡ (b && is_at_fault NoId s h i)
      by true whole = there_fault s h more passed i below (missing_is i ∙ ap not whole)
      by false short = gone_fault s h more passed i below (missing_is i ∙ ap not short)

  room : buffer_end h ≤ length t
  room = omega (arith, copy_length s h)

  passes : check_of t ≡ Ok (sound_dump (header_of t) (length (came_of s)))
  unfolding check_of
  passes = rw (copy_passes s more passed, header_is) (ap (λ (n : ℕ). Ok (sound_dump (with_current h (copy_current s h)) n)) (copy_count s h more passed ∙ count_is))

  same_event : (p : ℕ) → p < length (came_of s) → (k : ℕ) → k < slot_size h → get_or t (slot_at h (slot_of t (header_of t) p) + k) 0 ≡ get_or s (slot_at h (get_or (came_of s) p 0) + k) 0
  same_event p below k within = rw header_is (rw came_is at (copy_slot s h more passed p (rw count_is below) k within))

  names : (pointer : ℕ) → (find_name t pointer ≡ Ok (name_of s h pointer)) × KeepsBytes s t (name_of s h pointer)
  unfolding find_name name_of name_if_entry thread_name
  names pointer =
      let same = copy_names s h more passed t room (registry_bytes s h more passed) pointer in
      (rw (registry_passed t (header_of t) (copy_passes s more passed)) (ap Ok (ap (λ (f : Header). name_of t f pointer) header_is ∙ same.0)), same.1)

  pub mends : Mends s t h (repairs_of s h)
  unfolding repairs_of moved_of
  mends = record {
    ends = copy_length s h;
    passes = passes;
    header = λ k below aside. header-bytes s h more passed k below aside;
    types = copy_freed s h more passed t room (registry_bytes s h more passed);
    rest = copy_rest s h more passed t room (registry_bytes s h more passed);
    entries = copy_entry s h more passed t room (registry_bytes s h more passed);
    in_place = in_place;
    packed = packed;
    missing_count = count_same (is_missing h (length s)) (λ i. not (is_whole s h i)) (slot_count h) (λ i below. missing_is i);
    current_count = refl;
    types_count = types_counted s h more passed;
    ids_count = count_same (is_at_fault NoId (after_types s h) h) (lacks_id s h) (slot_count h) lacks_is;
    packed_count = ap (λ (b : Bool). cond b 1 0) out_is;
    moved_count = ap₂ (λ (b : Bool) (is : List ℕ). cond b (moved_of is) 0) out_is came;
    events = same_event;
    words = λ p below. alike_slot h.order s (slot_at h (get_or (came_of s) p 0)) t (slot_at h (slot_of t (header_of t) p)) (λ k within. same_event p below k (omega (arith, slot_some h)));
    names = names;
  }

-- where the rows before 16 have passed and there is room, all have
with_room : (s : List ℕ) (h : Header) (room : ℕ) → first_broken (layout_rows h (length s)) ≡ Ok tt → buffer_end h ≤ room → Accepted (mending_rows s h room)
unfolding row16
with_room s h room passed fits =
    sym (then_rest (layout_rows h (length s)) (row16 (buffer_end h) room ∷ []) passed) ∙ one_kept (row16 (buffer_end h) room) (le-ltb room (buffer_end h) fits)

pub mending : Mending
unfolding mend_of mended_told
mending = record {
  reports = λ n r. refl;
  gives = λ s old n r copied.
      let is = answer_is (first_broken (mending_rows s (header_of s) (length old))) (mended_copy (buffer_end (header_of s)) (repairs_of s (header_of s))) (mended_copy n r) copied in
      let long : n ≡ buffer_end (header_of s) = ap (λ (m : Mended). m.length) is.1 in
      (long ∙ sym (copy_length s (header_of s)), ap (λ (m : Mended). m.repairs) is.1, rw (is.0, long, copy_length s (header_of s)));
  mends = λ s room accepted. mends s (row16 (buffer_end (header_of s)) room ∷ []) accepted;
  sound = λ s h n room sound fits.
      let passed = check_passed s h n sound in
      let rows = with_room s (header_of s) room (passed_before (layout_rows (header_of s) (length s)) _ passed) fits in
      (rw (rows, sound_repairs s (header_of s) passed), sound_copy s (header_of s) passed);
  again = λ s room more accepted fits.
      let rest = row16 (buffer_end (header_of s)) room ∷ [] in
      let copy = copy_of s (header_of s) in
      let end : buffer_end (header_of copy) ≡ length copy = rw (copy_header s rest accepted) (sym (copy_length s (header_of s))) in
      let rows = with_room copy (header_of copy) more (passed_before (layout_rows (header_of copy) (length copy)) _ (copy_passes s rest accepted)) (rw end fits) in
      (rw (rows, again_repairs s rest accepted) (ap (λ (n : ℕ). Ok (mended_copy n no_repairs)) end), again_copy s rest accepted);
  cut = λ s h m n room sound there fits.
      let passed = check_passed s h m sound in
      let header = cut_header s n passed there in
      let came = take n s in
      let rows : Accepted (mending_rows came (header_of came) room) = rw header (with_room came (header_of s) room (cut_layout s n passed there) fits) in
      (rows, header, sym (came_is came (row16 (buffer_end (header_of came)) room ∷ []) rows) ∙ rw header (cut_slots s n passed there));
}
