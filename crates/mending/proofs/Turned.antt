-- Slots that are packed: the used ones stand first, in the order from current, zeros follow, and current is behind them; so they are in turn.
use Rattle.std.specs.Prelude.{Ok}
use Prim.Native.Nat.{ℕ, ◌+◌, ◌-◌, ◌*◌, ◌≤◌, ◌<◌}
use mathlib.Core.Bool.{true, false, not, ◌&&◌, true≢false}
use mathlib.Core.List.{List, []}
use mathlib.Core.Logic.{◌⊎◌, inl, inr}
use mathlib.Core.Path.{◌≡◌, sym, ap, ◌∙◌}
use native.Mathlib.Decide.{dec_lt}
use native.Mathlib.Nat.{add_assoc, mul-le-mul_right, suc-mul}
use native.Mathlib.Omega.{arith}
use borrow.Author.Tests.{le-ltb, lt-ltb}
use lib.Dec.{eqb, ltb}
use lib.ListN.{get_or, length, get_or-replicate, length-append, length-replicate, get_or-append}
use lib.Seq.{get_or-append-add}
use Rattle.rows.proofs.Lowest.{count_all, count_le, none_lowest}
use Rattle.rows.specs.Rows.{first_broken}
use Rattle.trace.proofs.InTurn.{InTurn}
use Rattle.trace.proofs.Passed.{agreed, current_within, entries_before, slot_some, slots_end}
use Rattle.trace.proofs.Ring.{keep_below, keep_test, kept-count, from_below}
use Rattle.trace.proofs.SameBytes.{alike_slot}
use Rattle.trace.specs.Layout.{buffer_end, buffer_start, current_slot, header_size, moved_to, slot_at, slot_count, slot_size}
use Rattle.trace.specs.Ring.{from_current, oldest_first, slot_of}
use Rattle.trace.specs.Slots.{event_count, event_id, is_at_fault, is_fault, is_used, slot_in}
use Rattle.trace.specs.Table.{header_rows, row12}
use Rattle.trace.specs.declared.Fault.TheVariants.{NoId, OutOfTurn}
use Rattle.trace.specs.declared.Header.{Header}
use Rattle.words.proofs.Laws.{put_byte_other, sets_other}
use Rattle.words.proofs.Runs.{run_byte}
use Rattle.writing.proofs.Moved.{moved_size, moved_slot}
use Rattle.mending.specs.Steps.{is_out_of_turn, packed, packed_slots, slots_of}
use Rattle.mending.proofs.Packed.{parts_byte, parts_length, rest_size}
use Rattle.mending.proofs.Slots.{zeros_unused}

module _ (s : List ℕ) (h : Header) (long : length s ≡ buffer_end h) (passed : first_broken (header_rows h (length s)) ≡ Ok tt) where
  inside : current_slot h < slot_count h
  inside = current_within h (length s) [] passed

  -- as many slots are packed as are used
  used_count : event_count s h ≡ length (oldest_first s h)
  unfolding oldest_first
  used_count = kept-count h inside (is_used s h)

  pub used_below : (p : ℕ) → slot_of s h p < slot_count h
  unfolding oldest_first
  used_below = keep_below (is_used s h) (from_current h) (slot_count h) (from_below h inside)

  pub used_hit : (p : ℕ) → p < length (oldest_first s h) → is_used s h (slot_of s h p) ≡ true
  unfolding oldest_first
  used_hit = keep_test (is_used s h) (from_current h)

  -- where all are used none is out of turn, so a slot is left
  module _ (out : is_out_of_turn s h ≡ true) where
    pub slot_left : length (oldest_first s h) < slot_count h
    unfolding row12
    slot_left = by (dec_lt (length (oldest_first s h)) (slot_count h))
      where
        turns : (all : event_count s h ≡ slot_count h) (i : ℕ) → i < slot_count h → is_at_fault OutOfTurn s h i ≡ false
        turns all i below =
            rw (count_all (is_used s h) (slot_count h) all i below, count_all (is_used s h) (slot_count h) all (current_slot h) inside) (agreed true (event_id s h i))

        by : Dec (length (oldest_first s h) < slot_count h) → length (oldest_first s h) < slot_count h
        by (yes less) = less
        by (no all) =
            let every : event_count s h ≡ slot_count h = omega (arith, used_count, count_le (is_used s h) (slot_count h)) in
            absurd (true≢false (sym out ∙ none_lowest (is_at_fault OutOfTurn s h) (slot_count h) (turns every)))

    -- the bytes that are packed fill the slots
    filled : length (packed_slots s h) ≡ slot_count h * slot_size h
    filled =
        rw (length-append, length-replicate, parts_length s (buffer_start h) (slot_size h) (oldest_first s h))
        (rest_size (slot_count h) (length (oldest_first s h)) (slot_size h) (omega (arith, slot_left)))

    behind_header : header_size ≤ buffer_start h
    behind_header = omega (arith, entries_before h (length s) _ passed)

    -- bytes before the slots stay, but for current
    pub packed_front : (k : ℕ) → k < buffer_start h → (k < 32) ⊎ (36 ≤ k) → get_or (packed s h) k 0 ≡ get_or s k 0
    unfolding packed
    packed_front k front aside = put_byte_other h.order 4 _ 32 _ k aside ∙ sets_other (packed_slots s h) s (buffer_start h) k (inl front)

    -- a byte of a slot is one of those that are packed
    packed_byte : (i k : ℕ) → i < slot_count h → k < slot_size h → get_or (packed s h) (slot_at h i + k) 0 ≡ get_or (packed_slots s h) (i * slot_size h + k) 0
    unfolding packed
    packed_byte i k below within =
        put_byte_other h.order 4 _ 32 _ (slot_at h i + k) (inr (omega (arith, behind_header)))
        ∙ rw (add_assoc (buffer_start h) (i * slot_size h) k)
        (run_byte (packed_slots s h) s (buffer_start h) (i * slot_size h + k)
        (omega (arith, filled, mul-le-mul_right (slot_size h) below, suc-mul i (slot_size h))) (omega (arith, filled, long, slots_end h (length s) _ passed)))

    -- the first slots are the used ones, in the order from current
    pub packed_slot : (i : ℕ) → i < length (oldest_first s h) → (k : ℕ) → k < slot_size h → get_or (packed s h) (slot_at h i + k) 0 ≡ get_or s (slot_at h (slot_of s h i) + k) 0
    packed_slot i below k within =
        let size = parts_length s (buffer_start h) (slot_size h) (oldest_first s h) in
        packed_byte i k (omega (arith, slot_left)) within
        ∙ get_or-append (slots_of s h (oldest_first s h)) _ 0 (i * slot_size h + k) (omega (arith, size, mul-le-mul_right (slot_size h) below, suc-mul i (slot_size h)))
        ∙ parts_byte s (buffer_start h) (slot_size h) (oldest_first s h) i k below within

    -- and the others are zeros
    pub packed_zeros : (i : ℕ) → length (oldest_first s h) ≤ i → i < slot_count h → (k : ℕ) → k < slot_size h → get_or (packed s h) (slot_at h i + k) 0 ≡ 0
    packed_zeros i past below k within =
        let some = length (oldest_first s h) in
        let size = parts_length s (buffer_start h) (slot_size h) (oldest_first s h) in
        let on = (i - some) * slot_size h + k in
        let apart = rest_size i some (slot_size h) past in
        let rest = rest_size (slot_count h) some (slot_size h) (omega (arith, slot_left)) in
        packed_byte i k below within
        ∙ ap (λ (n : ℕ). get_or (packed_slots s h) n 0) (omega (arith, size, apart))
        ∙ get_or-append-add (slots_of s h (oldest_first s h)) _ on 0
        ∙ get_or-replicate ((slot_count h - some) * slot_size h) on 0 0 (omega (arith, apart, rest, mul-le-mul_right (slot_size h) below, suc-mul i (slot_size h)))

    -- the words of a slot that is packed
    pub packed_words : (i : ℕ) → i < length (oldest_first s h) → slot_in h.order (packed s h) (slot_at h i) ≡ slot_in h.order s (slot_at h (slot_of s h i))
    packed_words i below =
        alike_slot h.order s (slot_at h (slot_of s h i)) (packed s h) (slot_at h i) (λ k within. packed_slot i below k (omega (arith, slot_some h)))

    packed_used : (i : ℕ) → i < slot_count h → is_used (packed s h) h i ≡ ltb i (length (oldest_first s h))
    unfolding slot_in
    packed_used i below = by (dec_lt i (length (oldest_first s h)))
      where
        by : Dec (i < length (oldest_first s h)) → is_used (packed s h) h i ≡ ltb i (length (oldest_first s h))
        by (yes first) = (λ k. not (eqb (packed_words i first k).pointer 0)) ∙ used_hit i first ∙ sym (lt-ltb i (length (oldest_first s h)) first)
        by (no past) = zeros_unused (packed s h) h i (packed_zeros i (omega arith) below) ∙ sym (le-ltb i (length (oldest_first s h)) (omega arith))

    packed_ids : ((i : ℕ) → i < slot_count h → is_at_fault NoId s h i ≡ false) → (i : ℕ) → i < slot_count h → (is_used (packed s h) h i && eqb (event_id (packed s h) h i) 0) ≡ false
    unfolding slot_in is_fault
    packed_ids ids i below = by (dec_lt i (length (oldest_first s h)))
      where
        by : Dec (i < length (oldest_first s h)) → (is_used (packed s h) h i && eqb (event_id (packed s h) h i) 0) ≡ false
        by (yes first) = (λ k. not (eqb (packed_words i first k).pointer 0) && eqb (packed_words i first k).id 0) ∙ ids (slot_of s h i) (used_below i)
        by (no past) = rw (zeros_unused (packed s h) h i (packed_zeros i (omega arith) below))

    -- current stands behind those that are used
    pub packed_turn : ((i : ℕ) → i < slot_count h → is_at_fault NoId s h i ≡ false) → InTurn (packed s h) (moved_to h (length (oldest_first s h))) (length (oldest_first s h))
    packed_turn ids =
        let size = moved_size h (length (oldest_first s h)) in
        record { behind = inl (sym (moved_slot h (length s) _ passed (length (oldest_first s h)) slot_left)); used = rw size packed_used; ids = rw size (packed_ids ids) }
