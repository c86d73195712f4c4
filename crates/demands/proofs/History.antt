-- A history leaves a sound buffer: write number j is in slot j modulo the number of slots, until the ring comes round to it again.
use Rattle.std.specs.Prelude.{Err, Ok}
use Prim.Native.Nat.{ℕ, suc, ◌+◌, ◌/◌, ◌%◌, ◌≤◌, ◌<◌, min}
use mathlib.Core.Bool.{Bool, true, false, cond}
use mathlib.Core.List.{List, [], ◌∷◌, ◌++◌, append_assoc, append-nil}
use mathlib.Core.Path.{◌≡◌, refl, sym, ap, ◌∙◌}
use native.Mathlib.Decide.{dec_lt, ℕ_discrete}
use native.Mathlib.Nat.{add-zero, div-add-mod', mod-add-mod, mod-eq_of_lt, mod-lt, mod_self, mul-le-mul_right, suc-mul}
use native.Mathlib.Omega.{arith}
use borrow.Author.Tests.{eqb-true, eqb-false}
use lib.Dec.{eqb}
use lib.ListN.{get_or, length, length-append, get_or-append}
use lib.Seq.{get_or-append-add}
use Rattle.rows.specs.Rows.{first_broken, Verdict, answer_by}
use Rattle.trace.specs.Check.{check_of, sound_dump}
use Rattle.trace.specs.Layout.{header_of, current_slot, slot_at, slot_count}
use Rattle.trace.specs.Slots.{slot_in}
use Rattle.words.specs.Each.{Each}
use Rattle.writing.proofs.Moved.{moved_size}
use Rattle.writing.specs.Keeping.{SameEvents}
use Rattle.writing.specs.Writing.{altered, cut, formatting, next_slot, recording, registering, removing}
use Rattle.demands.specs.History.{Call, DoesNotFormat, NoneFormats, Typed, Write, accepted_writes, after, format, given, if_accepted, left_by, read, register, remove, write, writes_by}
use Rattle.demands.specs.Writings.{Recorded}
use Rattle.demands.proofs.Answers.{refused_is}
use Rattle.demands.proofs.Writings.{recording_leaves, registering_leaves, removing_leaves}

-- one slot on is one more, modulo the number of slots
next_is : (k n : ℕ) → 0 < n → cond (eqb (suc (k % n)) n) 0 (suc (k % n)) ≡ suc k % n
next_is k n some = by (eqb (suc (k % n)) n) refl
  where
    step : suc (k % n) % n ≡ suc k % n
    step = ap (λ (i : ℕ). i % n) (omega arith) ∙ mod-add-mod k n 1 ∙ ap (λ (i : ℕ). i % n) (omega arith)

    by : (last : Bool) → eqb (suc (k % n)) n ≡ last → cond last 0 (suc (k % n)) ≡ suc k % n
    by true e = sym (mod_self n) ∙ ap (λ (i : ℕ). i % n) (sym (eqb-true (suc (k % n)) n e)) ∙ step
    by false e = sym (mod-eq_of_lt (omega (arith, mod-lt k some, eqb-false (suc (k % n)) n e))) ∙ step

-- two numbers less than n apart are not the same modulo n
apart : (j k n : ℕ) → j < k → k < j + n → j % n ≡ k % n → ⊥
apart j k n less near same = by (dec_lt (j / n) (k / n))
  where
    by : Dec (j / n < k / n) → ⊥
    by (yes more) = omega (arith, div-add-mod' j n, div-add-mod' k n, mul-le-mul_right n more, suc-mul (j / n) n)
    by (no most) =
        let fewer : k / n ≤ j / n = omega arith in
        omega (arith, div-add-mod' j n, div-add-mod' k n, mul-le-mul_right n fewer)

-- what stands for a write where there is none
unfoldable pub no_write : Write
no_write = record { pointer = 0; field = 0; id = 0; time = 0; first = 0; second = 0; third = 0; fourth = 0 }

-- a buffer of n slots after writes
pub record Holds (n mask : ℕ) (ws : List Write) (t : List ℕ) : Type 0 where
  pub slots : slot_count (header_of t) ≡ n
  pub mask_is : (header_of t).mask ≡ mask
  pub sound : check_of t ≡ Ok (sound_dump (header_of t) (min (length ws) n))
  pub current : current_slot (header_of t) ≡ length ws % n
  pub words : (j : ℕ) → j < length ws → length ws ≤ j + n → slot_in (header_of t).order t (slot_at (header_of t) (j % n)) ≡ cut (header_of t) (given (get_or ws j no_write))

module _ (n mask : ℕ) (some : 0 < n) where
  -- a call that keeps the header and the events
  events_hold : (ws : List Write) (s t : List ℕ) → header_of t ≡ header_of s → SameEvents s t (header_of s)
      → (check_of s ≡ Ok (sound_dump (header_of s) (min (length ws) n)) → check_of t ≡ Ok (sound_dump (header_of s) (min (length ws) n)))
      → Holds n mask ws s → Holds n mask ws t
  events_hold ws s t header events sound holds = record {
    slots = rw header holds.slots;
    mask_is = rw header holds.mask_is;
    sound = rw header (sound holds.sound);
    current = rw header holds.current;
    words = λ j below near. rw header (events.words (j % n) ∙ holds.words j below near);
  }

  -- a write
  module _ (ws : List Write) (w : Write) (s t : List ℕ) (leaves : Recorded (given w) s t (header_of s)) (holds : Holds n mask ws s) where
    one_longer : length (ws ++ (w ∷ [])) ≡ suc (length ws)
    one_longer = length-append ws (w ∷ []) ∙ omega arith

    newest : (j : ℕ) → j ≡ length ws → get_or (ws ++ (w ∷ [])) j no_write ≡ w
    newest j last = ap (λ (i : ℕ). get_or (ws ++ (w ∷ [])) i no_write) (last ∙ sym (add-zero (length ws))) ∙ get_or-append-add ws (w ∷ []) 0 no_write

    words_now : (j : ℕ) → j < suc (length ws) → suc (length ws) ≤ j + n
        → slot_in (header_of s).order t (slot_at (header_of s) (j % n)) ≡ cut (header_of s) (given (get_or (ws ++ (w ∷ [])) j no_write))
    words_now j below near = by (ℕ_discrete j (length ws))
      where
        by : Dec (j ≡ length ws) → slot_in (header_of s).order t (slot_at (header_of s) (j % n)) ≡ cut (header_of s) (given (get_or (ws ++ (w ∷ [])) j no_write))
        by (yes last) = rw (newest j last, last, ← holds.current) leaves.this
        by (no older) =
            rw (get_or-append ws (w ∷ []) no_write j (omega arith))
            (leaves.others (j % n) (λ same. apart j (length ws) n (omega arith) (omega arith) (same ∙ holds.current)) ∙ holds.words j (omega arith) (omega arith))

    write_holds : Holds n mask (ws ++ (w ∷ [])) t
    unfolding cut
    write_holds = record {
      slots = rw (leaves.header, moved_size (header_of s) (next_slot (header_of s))) holds.slots;
      mask_is = rw leaves.header holds.mask_is;
      sound = leaves.sound (min (length ws) n) holds.sound ∙ ap (λ (n : ℕ). Ok (sound_dump (header_of t) n)) (rw (one_longer, holds.slots) (omega arith));
      current = leaves.moved ∙ rw (holds.current, holds.slots, one_longer) (next_is (length ws) n some);
      words = λ j below near. rw (leaves.header, moved_size (header_of s) (next_slot (header_of s))) (words_now j (rw one_longer at below) (rw one_longer at near));
    }

  -- any call, accepted or refused
  call_holds : (c : Call) (ws : List Write) (s : List ℕ) → Typed c → DoesNotFormat c s → Holds n mask ws s
      → Holds n mask (ws ++ writes_by recording c s) (left_by recording c s)
  call_holds (write w) ws s words none holds = by (first_broken (recording (given w) s).rows) refl
    where
      by : (v : Verdict) → first_broken (recording (given w) s).rows ≡ v
          → Holds n mask (ws ++ if_accepted (answer_by v (recording (given w) s).gives) w) (altered v (recording (given w) s).leaves s)
      by (Err f) e = rw append-nil holds
      by (Ok tt) e = write_holds ws w s (recording (given w) s).leaves (rw e at (recording_leaves (given w) s words e)) holds
  call_holds (register object name) ws s word none holds = rw append-nil (by (first_broken (registering object name s).rows) refl)
    where
      by : (v : Verdict) → first_broken (registering object name s).rows ≡ v → Holds n mask ws (altered v (registering object name s).leaves s)
      by (Err f) e = holds
      by (Ok tt) e =
          let leaves = registering_leaves object name s word e in
          events_hold ws s (registering object name s).leaves (rw e at leaves.header) (rw e at leaves.events) (rw e at (leaves.sound (min (length ws) n))) holds
  call_holds (remove pointer) ws s typed none holds = rw append-nil (by (first_broken (removing pointer s).rows) refl)
    where
      by : (v : Verdict) → first_broken (removing pointer s).rows ≡ v → Holds n mask ws (altered v (removing pointer s).leaves s)
      by (Err f) e = holds
      by (Ok tt) e =
          let leaves = removing_leaves pointer s e in
          events_hold ws s (removing pointer s).leaves (rw e at leaves.header) (rw e at leaves.events) (rw e at (leaves.sound (min (length ws) n))) holds
  call_holds (format f) ws s typed (fault, refused) holds = rw (append-nil, refused_is (first_broken (formatting f s).rows) _ fault refused) holds
  call_holds (read q) ws s typed none holds = rw append-nil holds

  -- so do all calls, one after another
  pub calls_hold : (cs : List Call) (ws : List Write) (s : List ℕ) → Each Typed cs → NoneFormats recording cs s → Holds n mask ws s
      → Holds n mask (ws ++ accepted_writes recording cs s) (after recording cs s)
  calls_hold [] ws s typed none holds = rw append-nil holds
  calls_hold (c ∷ cs) ws s typed none holds =
      rw (← append_assoc ws (writes_by recording c s) (accepted_writes recording cs (left_by recording c s)))
      (calls_hold cs (ws ++ writes_by recording c s) (left_by recording c s) typed.1 none.1 (call_holds c ws s typed.0 none.0 holds))
