-- The copy: its header is the dump's but for current, all rows pass, and its events are the slots that are kept, in their order, with their bytes.
use Rattle.std.specs.Prelude.{Ok}
use Prim.Native.Nat.{ℕ, ◌+◌, ◌*◌, ◌≤◌, ◌<◌}
use mathlib.Core.Bool.{Bool, true, false, cond}
use mathlib.Core.List.{List, [], ◌∷◌, ◌++◌}
use mathlib.Core.Logic.{◌⊎◌, inl, inr}
use mathlib.Core.Path.{◌≡◌, refl, sym, ap, ◌∙◌, subst}
use native.Mathlib.Nat.{zero-add}
use native.Mathlib.Omega.{arith}
use borrow.Author.Tests.{le-ltb}
use lib.ListN.{get_or, length}
use lib.Seq.{sets, length-sets}
use Rattle.rows.proofs.Lowest.{none_lowest}
use Rattle.rows.proofs.Rows.{kept_too, one_kept, then_rest}
use Rattle.rows.specs.Rows.{Row, first_broken}
use Rattle.trace.proofs.InTurn.{InTurn, turn_passed}
use Rattle.trace.proofs.Passed.{buffer_sized, current_within, entries_before}
use Rattle.trace.proofs.Ring.{count_is, first_count, first_slot}
use Rattle.trace.proofs.SameBytes.{moved_header}
use Rattle.trace.specs.Layout.{buffer_end, buffer_start, current_slot, entry_count, header_in, header_of, header_size, moved_to, slot_at, slot_count, slot_size, with_current}
use Rattle.trace.specs.Registry.{is_wanted}
use Rattle.trace.specs.Ring.{oldest_first, slot_of}
use Rattle.trace.specs.Slots.{event_count, is_at_fault, is_fault, is_used}
use Rattle.trace.specs.Table.{dump_rows, header_rows, layout_rows, registry_rows, row10, row11, row12, row13}
use Rattle.trace.specs.declared.Fault.TheVariants.{NoId}
use Rattle.trace.specs.declared.Header.{Header}
use Rattle.trace.specs.declared.Wanted.TheVariants.{BadType}
use Rattle.words.proofs.Circles.{pointer_below}
use Rattle.words.proofs.Laws.{put_read}
use Rattle.words.proofs.Runs.{same_number}
use Rattle.words.specs.Offsets.{pointer_to}
use Rattle.words.specs.Words.{word_at}
use Rattle.writing.proofs.Moved.{current_size, moved_slot, moved_unbroken}
use Rattle.mending.specs.Kept.{kept_slots}
use Rattle.mending.specs.Mending.{after_current, after_ids, after_missing, after_types, copy_of}
use Rattle.mending.specs.Steps.{current_mended, has_bad_current, in_turn, is_out_of_turn, packed, packed_slots, put_current, sound_current, without_bad_current}
use Rattle.mending.proofs.Headers.{copy_passed, mended_passed, mended_right}
use Rattle.mending.proofs.Packed.{copy_length, kept_below, kept_hit, kept_is}
use Rattle.mending.proofs.Registry.{copy_types}
use Rattle.mending.proofs.Slots.{after-ids, after_length, current_aside, ids_front, kept_bytes, missing_front, missing_length, types_aside}
use Rattle.mending.proofs.Turned.{packed_front, packed_slot, packed_turn, slot_left}

-- how many slots are kept, and where current is then
abbrev pub kept_count : List ℕ → Header → ℕ
kept_count s h = length (oldest_first (after_ids s h) (current_mended h))

abbrev pub copy_current : List ℕ → Header → ℕ
copy_current s h = cond (is_out_of_turn (after_ids s h) (current_mended h)) (pointer_to h.base (slot_at (current_mended h) (kept_count s h))) (sound_current h)

module _ (s : List ℕ) (h : Header) (more : List Row) (passed : first_broken (layout_rows h (length s) ++ more) ≡ Ok tt) where
  behind_header : header_size ≤ buffer_start h
  behind_header = omega (arith, entries_before h (length s) more passed)

  -- the rows of the header with current as it is mended, of the copy before packing
  pub before_passed : first_broken (header_rows (current_mended h) (length (after_ids s h))) ≡ Ok tt
  before_passed = rw (after_length s h) (mended_passed h (length s) more passed)

  no_fault : (i : ℕ) → i < slot_count (current_mended h) → is_at_fault NoId (after_ids s h) (current_mended h) i ≡ false
  unfolding is_fault
  no_fault = rw (current_size h (sound_current h)) (after-ids s h more passed)

  -- bytes before the slots, but for current
  front_is : (k : ℕ) → k < buffer_start h → (k < 32) ⊎ (36 ≤ k) → get_or (copy_of s h) k 0 ≡ get_or (after_types s h) k 0
  unfolding copy_of in_turn
  front_is k front aside = by (is_out_of_turn (after_ids s h) (current_mended h)) refl ∙ ids_front (after_types s h) h k front
    where
      by : (b : Bool) → is_out_of_turn (after_ids s h) (current_mended h) ≡ b → get_or (cond b (packed (after_ids s h) (current_mended h)) (after_ids s h)) k 0 ≡ get_or (after_ids s h) k 0
      by true out = packed_front (after_ids s h) (current_mended h) (after_length s h) before_passed out k front aside
      by false turn = refl

  pub header-bytes : (k : ℕ) → k < header_size → (k < 32) ⊎ (36 ≤ k) → get_or (copy_of s h) k 0 ≡ get_or s k 0
  header-bytes k front aside =
      front_is k (omega (arith, behind_header)) aside
      ∙ types_aside (after_current s h) h k (inl front)
      ∙ current_aside (after_missing s h) h k aside
      ∙ missing_front s h more passed k (omega (arith, behind_header))

  pub registry_bytes : (k : ℕ) → header_size ≤ k → k < buffer_start h → get_or (copy_of s h) k 0 ≡ get_or (after_types s h) k 0
  registry_bytes k behind front = front_is k front (inr (omega arith))

  -- current in the bytes
  room : 36 ≤ buffer_end h
  room = omega (arith, behind_header, buffer_sized h (length s) more passed)

  before_word : word_at h.order s 32 ≡ h.current → word_at h.order (after_ids s h) 32 ≡ sound_current h
  unfolding without_bad_current
  before_word stored =
      same_number h.order 4 (after_ids s h) (after_current s h) 32 32
      (λ j below. ids_front (after_types s h) h (32 + j) (omega (arith, behind_header)) ∙ types_aside (after_current s h) h (32 + j) (inl (omega arith)))
      ∙ by (has_bad_current h)
    where
      by : (b : Bool) → word_at h.order (cond b (put_current (after_missing s h) h 0) (after_missing s h)) 32 ≡ cond b (pointer_to h.base (slot_at h 0)) h.current
      by true = put_read h.order 4 (after_missing s h) 32 (pointer_to h.base (slot_at h 0)) (rw (missing_length s h) room) (pointer_below h.base (slot_at h 0))
      by false = same_number h.order 4 (after_missing s h) s 32 32 (λ j below. missing_front s h more passed (32 + j) (omega (arith, behind_header))) ∙ stored

  packed_word : word_at h.order (packed (after_ids s h) (current_mended h)) 32 ≡ pointer_to h.base (slot_at (current_mended h) (kept_count s h))
  unfolding packed
  packed_word = put_read h.order 4 (sets (after_ids s h) (buffer_start h) (packed_slots (after_ids s h) (current_mended h))) 32 _ (rw (length-sets, after_length s h) room) (pointer_below _ _)

  current_word : word_at h.order s 32 ≡ h.current → word_at h.order (copy_of s h) 32 ≡ copy_current s h
  unfolding copy_of in_turn
  current_word stored = by (is_out_of_turn (after_ids s h) (current_mended h))
    where
      by : (b : Bool) → word_at h.order (cond b (packed (after_ids s h) (current_mended h)) (after_ids s h)) 32
          ≡ cond b (pointer_to h.base (slot_at (current_mended h) (kept_count s h))) (sound_current h)
      by true = packed_word
      by false = before_word stored

  -- where rows 1 to 11 pass, and slots are in turn and have ids, all pass
  all_pass : (t : List ℕ) (g : Header) → first_broken (registry_rows t g) ≡ Ok tt → is_out_of_turn t g ≡ false → ((i : ℕ) → i < slot_count g → is_at_fault NoId t g i ≡ false)
      → first_broken (dump_rows t g) ≡ Ok tt
  unfolding row13
  all_pass t g rows turn ids =
      sym (then_rest (registry_rows t g) (row12 t g ∷ row13 t g ∷ []) rows)
      ∙ kept_too (row12 t g) (row13 t g ∷ []) turn (one_kept (row13 t g) (none_lowest (is_at_fault NoId t g) (slot_count g) ids))

  -- the rows of the registry
  registry_passed : (current : ℕ) → (row10 (with_current h current)).broken ≡ false → first_broken (registry_rows (copy_of s h) (with_current h current)) ≡ Ok tt
  unfolding row11
  registry_passed current right =
      let header : first_broken (header_rows (with_current h current) (length (copy_of s h))) ≡ Ok tt = rw (copy_length s h) (copy_passed h (length s) more passed current right) in
      sym (then_rest (header_rows (with_current h current) (length (copy_of s h))) (row11 (copy_of s h) (with_current h current) ∷ []) header)
      ∙ one_kept (row11 (copy_of s h) (with_current h current))
      (none_lowest (is_wanted BadType (copy_of s h) h) (entry_count h) (copy_types s h more passed (copy_of s h) (omega (arith, copy_length s h)) registry_bytes))

  -- so all rows pass of the copy with its header
  right : (row10 (with_current h (copy_current s h))).broken ≡ false
  right = by (is_out_of_turn (after_ids s h) (current_mended h)) refl
    where
      by : (b : Bool) → is_out_of_turn (after_ids s h) (current_mended h) ≡ b
          → (row10 (with_current h (cond b (pointer_to h.base (slot_at (current_mended h) (kept_count s h))) (sound_current h)))).broken ≡ false
      by true out =
          let below = rw (current_size h (sound_current h)) at (slot_left (after_ids s h) (current_mended h) (after_length s h) before_passed out) in
          rw (current_size h (sound_current h)) (moved_unbroken h (length s) more passed (kept_count s h) below)
      by false turn = mended_right h (length s) more passed

  -- what is so of the copy and its header, by whether slots are packed
  pub if_packed : is_out_of_turn (after_ids s h) (current_mended h) ≡ true → (Fact : List ℕ → Header → Type 0)
      → Fact (packed (after_ids s h) (current_mended h)) (moved_to (current_mended h) (kept_count s h)) → Fact (copy_of s h) (with_current h (copy_current s h))
  unfolding copy_of in_turn
  if_packed out Fact fact = rw out fact

  pub if_in_turn : is_out_of_turn (after_ids s h) (current_mended h) ≡ false → (Fact : List ℕ → Header → Type 0)
      → Fact (after_ids s h) (current_mended h) → Fact (copy_of s h) (with_current h (copy_current s h))
  unfolding copy_of in_turn
  if_in_turn turn Fact fact = rw turn fact

  turned : is_out_of_turn (after_ids s h) (current_mended h) ≡ true → InTurn (copy_of s h) (with_current h (copy_current s h)) (kept_count s h)
  turned out = if_packed out (λ t g. InTurn t g (kept_count s h)) (packed_turn (after_ids s h) (current_mended h) (after_length s h) before_passed out no_fault)

  pub copy_rows : first_broken (dump_rows (copy_of s h) (with_current h (copy_current s h))) ≡ Ok tt
  copy_rows = by (is_out_of_turn (after_ids s h) (current_mended h)) refl (registry_passed (copy_current s h) right)
    where
      by : (b : Bool) → is_out_of_turn (after_ids s h) (current_mended h) ≡ b → first_broken (registry_rows (copy_of s h) (with_current h (copy_current s h))) ≡ Ok tt
          → first_broken (dump_rows (copy_of s h) (with_current h (copy_current s h))) ≡ Ok tt
      by true out rows = turn_passed (copy_of s h) (with_current h (copy_current s h)) (kept_count s h) (turned out) rows
      by false turn rows =
          if_in_turn turn (λ t g. first_broken (registry_rows t g) ≡ Ok tt → first_broken (dump_rows t g) ≡ Ok tt)
          (λ rest. all_pass (after_ids s h) (current_mended h) rest turn no_fault) rows

  -- its events are as many as slots are kept
  pub behind : is_out_of_turn (after_ids s h) (current_mended h) ≡ true → current_slot (with_current h (copy_current s h)) ≡ kept_count s h
  behind out =
      if_packed out (λ t g. current_slot g ≡ kept_count s h)
      (moved_slot (current_mended h) (length (after_ids s h)) _ before_passed (kept_count s h) (slot_left (after_ids s h) (current_mended h) (after_length s h) before_passed out))

  unused : is_out_of_turn (after_ids s h) (current_mended h) ≡ true → is_used (copy_of s h) (with_current h (copy_current s h)) (current_slot (with_current h (copy_current s h))) ≡ false
  unused out =
      let g = with_current h (copy_current s h) in
      (turned out).used (current_slot g) (current_within g (length (copy_of s h)) _ copy_rows) ∙ le-ltb (current_slot g) (kept_count s h) (omega (arith, behind out))

  pub copy_count : event_count (copy_of s h) (with_current h (copy_current s h)) ≡ kept_count s h
  copy_count = by (is_out_of_turn (after_ids s h) (current_mended h)) refl
    where
      by : (b : Bool) → is_out_of_turn (after_ids s h) (current_mended h) ≡ b → event_count (copy_of s h) (with_current h (copy_current s h)) ≡ kept_count s h
      by true out = first_count (copy_of s h) (with_current h (copy_current s h)) copy_rows (unused out) ∙ behind out
      by false turn =
          count_is (copy_of s h) (with_current h (copy_current s h)) copy_rows ∙ if_in_turn turn (λ t g. length (oldest_first t g) ≡ kept_count s h) refl

  -- each has the bytes of a slot before packing
  copied_from : (p : ℕ) → p < kept_count s h → (k : ℕ) → k < slot_size (current_mended h)
      → get_or (copy_of s h) (slot_at (current_mended h) (slot_of (copy_of s h) (with_current h (copy_current s h)) p) + k) 0
      ≡ get_or (after_ids s h) (slot_at (current_mended h) (slot_of (after_ids s h) (current_mended h) p) + k) 0
  copied_from p below k within = by (is_out_of_turn (after_ids s h) (current_mended h)) refl
    where
      by : (b : Bool) → is_out_of_turn (after_ids s h) (current_mended h) ≡ b
          → get_or (copy_of s h) (slot_at (current_mended h) (slot_of (copy_of s h) (with_current h (copy_current s h)) p) + k) 0
          ≡ get_or (after_ids s h) (slot_at (current_mended h) (slot_of (after_ids s h) (current_mended h) p) + k) 0
      by true out =
          let here = first_slot (copy_of s h) (with_current h (copy_current s h)) copy_rows (unused out) p (rw copy_count below) in
          rw here
          (if_packed out (λ t g. get_or t (slot_at (current_mended h) p + k) 0 ≡ get_or (after_ids s h) (slot_at (current_mended h) (slot_of (after_ids s h) (current_mended h) p) + k) 0)
          (packed_slot (after_ids s h) (current_mended h) (after_length s h) before_passed out p below k within))
      by false turn =
          if_in_turn turn
          (λ t g. get_or t (slot_at (current_mended h) (slot_of t g p) + k) 0 ≡ get_or (after_ids s h) (slot_at (current_mended h) (slot_of (after_ids s h) (current_mended h) p) + k) 0) refl

  -- which is the dump's
  kept_from : (p : ℕ) → p < kept_count s h → (k : ℕ) → k < slot_size h
      → get_or (after_ids s h) (slot_at h (slot_of (after_ids s h) (current_mended h) p) + k) 0 ≡ get_or s (slot_at h (get_or (kept_slots s (current_mended h)) p 0) + k) 0
  kept_from p below k within =
      let hit = rw (current_size h (sound_current h)) at (kept_hit s h more passed p (rw (kept_is s h more passed) at below)) in
      rw (kept_is s h more passed) (kept_bytes s h more passed (get_or (kept_slots s (current_mended h)) p 0) (kept_below s h more passed p) hit k within)

  pub copy_slot : (p : ℕ) → p < kept_count s h → (k : ℕ) → k < slot_size h
      → get_or (copy_of s h) (slot_at h (slot_of (copy_of s h) (with_current h (copy_current s h)) p) + k) 0 ≡ get_or s (slot_at h (get_or (kept_slots s (current_mended h)) p 0) + k) 0
  copy_slot p below k within =
      subst (λ (n : ℕ). k < n → get_or (copy_of s h) (buffer_start h + slot_of (copy_of s h) (with_current h (copy_current s h)) p * n + k) 0
      ≡ get_or (after_ids s h) (buffer_start h + slot_of (after_ids s h) (current_mended h) p * n + k) 0)
      (current_size h (sound_current h)) (copied_from p below k) within
      ∙ kept_from p below k within

  pub packed-from : is_out_of_turn (after_ids s h) (current_mended h) ≡ true → (p : ℕ) → p < kept_count s h → (k : ℕ) → k < slot_size h
      → get_or (packed (after_ids s h) (current_mended h)) (slot_at h p + k) 0 ≡ get_or s (slot_at h (get_or (kept_slots s (current_mended h)) p 0) + k) 0
  packed-from out p below k within =
      subst (λ (n : ℕ). k < n → get_or (packed (after_ids s h) (current_mended h)) (buffer_start h + p * n + k) 0
      ≡ get_or (after_ids s h) (buffer_start h + slot_of (after_ids s h) (current_mended h) p * n + k) 0)
      (current_size h (sound_current h)) (packed_slot (after_ids s h) (current_mended h) (after_length s h) before_passed out p below k) within
      ∙ kept_from p below k within

-- the header of the copy of a dump
pub copy_header : (s : List ℕ) (more : List Row) → first_broken (layout_rows (header_of s) (length s) ++ more) ≡ Ok tt
    → header_of (copy_of s (header_of s)) ≡ with_current (header_of s) (copy_current s (header_of s))
unfolding header_in
copy_header s more passed =
    moved_header s (copy_of s (header_of s)) (λ k below aside. rw zero-add (header-bytes s (header_of s) more passed k (omega arith) (inl below)))
    ∙ ap (with_current (header_of s)) (current_word s (header_of s) more passed refl)
