-- What a buffer shows after a history: the event at a position is the write of that place among the last ones, so the listing's text is their lines.
use Rattle.std.specs.Prelude.{Ok, None, Option, Some}
use Prim.Native.Nat.{ℕ, suc, ◌+◌, ◌-◌, ◌%◌, ◌≤◌, ◌<◌, min}
use mathlib.Core.Bool.{Bool, true, false}
use mathlib.Core.List.{List, [], ◌∷◌, ◌++◌, append_assoc, append-nil}
use mathlib.Core.Path.{◌≡◌, refl, sym, ap, ◌∙◌}
use native.Mathlib.Nat.{add-mod_right, add-zero, mod-add-mod, mod-eq_of_lt, mod-lt, zero-add}
use native.Mathlib.Omega.{arith}
use lib.ListN.{get_or, length, length-drop}
use lib.Seq.{get_or-drop}
use Rattle.events.specs.Events.{context_of, event_in, name_for}
use Rattle.events.specs.Listing.{fields, line_at, line_of, lines_to, listing_text, title_in}
use Rattle.events.specs.declared.Reading.{Reading}
use Rattle.rows.specs.Rows.{first_broken}
use Rattle.text.specs.declared.Context.{Context}
use Rattle.text.specs.declared.Context.TheVariants.{Init, Isr, Thread}
use Rattle.trace.proofs.Checks.{check_events, check_passed}
use Rattle.trace.proofs.Ring.{first_count, first_slot, round_count, round_slot}
use Rattle.trace.specs.Layout.{header_of, current_slot, slot_at}
use Rattle.trace.specs.Ring.{slot_of}
use Rattle.trace.specs.Slots.{event_count, is_used, slot_in}
use Rattle.trace.specs.Table.{dump_rows}
use Rattle.trace.specs.declared.Header.{Header}
use Rattle.trace.specs.declared.Slot.{Slot}
use Rattle.writing.specs.Writing.{cut}
use Rattle.demands.specs.History.{Write, given, last_of}
use Rattle.demands.specs.Shown.{line_for, lines_from, lines_of}
use Rattle.demands.proofs.History.{Holds, no_write}

-- a name is sought by words that the cut leaves alone
name_cut : (by : Context) (file : Option (List ℕ)) (t : List ℕ) (h : Header) (slot : Slot) → name_for by file t h (cut h slot) ≡ name_for by file t h slot
unfolding name_for cut
name_cut Init file t h slot = refl
name_cut Isr file t h slot = refl
name_cut Thread file t h slot = refl

-- the line of an event whose slot has a write's words, the stamp cut, is that write's
line_is : (file : Option (List ℕ)) (t : List ℕ) (r : Reading) (position : ℕ) (w : Write)
    → slot_in (header_of t).order t (slot_at (header_of t) (slot_of t (header_of t) position)) ≡ cut (header_of t) (given w)
    → line_at file t (header_of t) r position ≡ line_for file t r position w
unfolding line_of fields title_in event_in cut given
line_is None t r position w slot = rw (slot, ← name_cut (context_of w.pointer) None t (header_of t) (given w))
line_is (Some f) t r position w slot = rw (slot, ← name_cut (context_of w.pointer) (Some f) t (header_of t) (given w))

-- lines one after another, from a position on
lines_join : (file : Option (List ℕ)) (t : List ℕ) (r : Reading) (q : ℕ) (ws : List Write) → ((i : ℕ) → i < length ws → line_at file t (header_of t) r (q + i) ≡ line_for file t r (q + i) (get_or ws i no_write))
    → lines_to (q + length ws) file t (header_of t) r ≡ lines_to q file t (header_of t) r ++ lines_from file t r q ws
unfolding lines_to
lines_join file t r q [] each = rw (add-zero, append-nil)
lines_join file t r q (w ∷ ws) each =
    let first : line_at file t (header_of t) r q ≡ line_for file t r q w = rw add-zero at (each 0 (omega arith)) in
    let rest = lines_join file t r (suc q) ws (λ i below. let on : q + suc i ≡ suc q + i = omega arith in rw on at (each (suc i) (omega arith))) in
    let longer : q + suc (length ws) ≡ suc q + length ws = omega arith in
    ap (λ (k : ℕ). lines_to k file t (header_of t) r) longer ∙ rest
    ∙ append_assoc (lines_to q file t (header_of t) r) (line_at file t (header_of t) r q) (lines_from file t r (suc q) ws)
    ∙ ap (λ (line : List ℕ). lines_to q file t (header_of t) r ++ (line ++ lines_from file t r (suc q) ws)) first

module _ {n mask : ℕ} {ws : List Write} {t : List ℕ} (Some : 0 < n) (holds : Holds n mask ws t) where
  abbrev header : Header
  header = header_of t

  passed : first_broken (dump_rows t header) ≡ Ok tt
  passed = check_passed t header (min (length ws) n) holds.sound

  pub count_is : event_count t (header_of t) ≡ min (length ws) n
  count_is = sym (check_events t header (min (length ws) n) holds.sound)

  pub last_length : length (last_of n ws) ≡ min (length ws) n
  last_length = length-drop (length ws - n) ws ∙ omega arith

  -- the slot of the event at a position
  slot_is : (p : ℕ) → p < min (length ws) n → slot_of t header p ≡ (length ws - n + p) % n
  slot_is p below = by (is_used t header (current_slot header)) refl
    where
      inside : p < event_count t header
      inside = rw count_is below

      by : (round : Bool) → is_used t header (current_slot header) ≡ round → slot_of t header p ≡ (length ws - n + p) % n
      by true used =
          let all : n ≤ length ws = omega (arith, round_count t header passed used, count_is, holds.slots) in
          let turn : length ws + p ≡ length ws - n + p + n = omega arith in
          round_slot t header passed used p inside ∙ rw (holds.slots, holds.current) (mod-add-mod (length ws) n p ∙ ap (λ (i : ℕ). i % n) turn ∙ add-mod_right (length ws - n + p) n)
      by false unused =
          let few : length ws < n = omega (arith, first_count t header passed unused, count_is, holds.current, mod-lt (length ws) Some) in
          let from : length ws - n + p ≡ p = omega arith in
          first_slot t header passed unused p inside ∙ sym (rw from (mod-eq_of_lt (omega arith)))

  -- it has the words of the write of that place among the last n
  pub words_are : (p : ℕ) → p < min (length ws) n → slot_in (header_of t).order t (slot_at (header_of t) (slot_of t (header_of t) p)) ≡ cut (header_of t) (given (get_or (last_of n ws) p no_write))
  words_are p below = rw (slot_is p below, get_or-drop (length ws - n) ws p no_write) (holds.words (length ws - n + p) (omega arith) (omega arith))

  pub text_is : (file : Option (List ℕ)) (r : Reading) → listing_text file t (header_of t) r ≡ lines_of file t r (last_of n ws)
  unfolding lines_to
  text_is file r =
      let each = lines_join file t r 0 (last_of n ws) (λ i below. rw zero-add (line_is file t r i (get_or (last_of n ws) i no_write) (words_are i (rw last_length at below)))) in
      ap (λ (k : ℕ). lines_to k file t (header_of t) r) (count_is ∙ sym last_length ∙ sym (zero-add (length (last_of n ws)))) ∙ each
