-- The third demand: a fresh buffer holds no write, a history holds its accepted writes, and what is held is shown.
use Rattle.std.specs.Prelude.{Ok, Result, Option}
use Rattle.rows.specs.declared.Refusal.{Refusal}
use Prim.Native.Nat.{ℕ, zero, suc, ◌+◌, ◌-◌, ◌*◌, ◌%◌, ◌^◌, ◌≤◌, ◌<◌, min}
use mathlib.Core.List.{List, [], ◌∷◌, ◌++◌}
use mathlib.Core.Logic.{⊎_elim}
use mathlib.Core.Path.{◌≡◌, refl, sym, ap, ◌∙◌, subst}
use native.Mathlib.Nat.{add-suc, suc-add, zero-add, zero-min, zero-mod}
use native.Mathlib.Omega.{arith}
use borrow.Author.Tests.{le-ltb, lt-leb, ne_eqb}
use lib.ListN.{drop, get_or, length, length-drop}
use Rattle.events.specs.Listing.{Gave, listing_more, listing_rows, listing_text, reading_rows}
use Rattle.events.specs.declared.Reading.{Reading}
use Rattle.naming.specs.Records.{file_rows}
use Rattle.rows.proofs.Rows.{one_kept, then_rest}
use Rattle.rows.specs.Rows.{Accepted, first_broken}
use Rattle.trace.proofs.Checks.{check_passed}
use Rattle.trace.proofs.InTurn.{sound_turn}
use Rattle.trace.proofs.Passed.{mask_wide}
use Rattle.trace.specs.Check.{sound_dump}
use Rattle.trace.specs.Layout.{header_of, current_slot}
use Rattle.trace.specs.Slots.{event_count, slot_in}
use Rattle.trace.specs.Table.{dump_rows, row14, row15, row16}
use Rattle.trace.specs.Times.{stamp_of}
use Rattle.trace.specs.declared.Slot.{Slot}
use Rattle.writing.proofs.Fresh.{fresh-header}
use Rattle.writing.specs.Writing.{cut, formatting, fresh_end, fresh_header, fresh_slots, left, recording, said}
use Rattle.writing.specs.declared.Format.{Format}
use Rattle.demands.specs.Demands.{Shows, ThirdDemand}
use Rattle.demands.specs.History.{NeverBack, Write, accepted_writes, after, given, last_of, time_at, whole_ranges}
use Rattle.demands.specs.Masks.{range}
use Rattle.demands.specs.Shown.{ReadingAccepted, lines_of, shown_ticks}
use Rattle.demands.specs.Writings.{Formatted}
use Rattle.demands.proofs.Answers.{answer_is}
use Rattle.demands.proofs.History.{Holds, calls_hold, no_write}
use Rattle.demands.proofs.OrderAndTime.{not_above, not_below}
use Rattle.demands.proofs.Shown.{count_is, last_length, text_is, words_are}
use Rattle.demands.proofs.TrueTimes.{stamp_cut, ticks_exact, ticks_gone}
use Rattle.demands.proofs.Writings.{formatting_makes}

fresh_holds : (f : Format) (s : List ℕ) (n : ℕ) → f.base < 2 ^ 32 → said (formatting f s) ≡ Ok n → (0 < n) × Holds n f.mask [] (left (formatting f s) s)
unfolding formatting fresh_header
fresh_holds f s n word done = (
  rw (← slots) makes.one,
  record {
    slots = rw header (makes.slots ∙ slots);
    mask_is = rw header;
    sound = rw (header, zero-min) makes.sound;
    current = rw (header, zero-mod) first;
    words = λ j below near. absurd (omega arith);
  },
)
  where
    passed : Accepted (formatting f s).rows
    passed = (answer_is (first_broken (formatting f s).rows) (formatting f s).gives n done).0

    slots : fresh_slots f (length s) ≡ n
    slots = sym (answer_is (first_broken (formatting f s).rows) (formatting f s).gives n done).1

    makes : Formatted f s (left (formatting f s) s) (fresh_header f (fresh_end f (length s)))
    makes = formatting_makes f s word passed

    header : header_of (left (formatting f s) s) ≡ fresh_header f (fresh_end f (length s))
    header = fresh-header f s passed word

    first : current_slot (fresh_header f (fresh_end f (length s))) ≡ 0
    first =
        ⊎_elim (λ here. sym here) (λ none. absurd (omega (arith, makes.slots, makes.one)))
        (rw header at (sound_turn (left (formatting f s) s) _ 0 makes.sound).behind)

-- true times of the last ones, and that they never go back either
time_of : (ws : List Write) (i : ℕ) → (get_or ws i no_write).time ≡ time_at ws i
unfolding no_write
time_of [] i = refl
time_of (w ∷ ws) zero = refl
time_of (w ∷ ws) (suc i) = time_of ws i

time_later : (k : ℕ) (ws : List Write) (i : ℕ) → time_at (drop k ws) i ≡ time_at ws (k + i)
time_later zero ws i = rw zero-add
time_later (suc k) [] i = refl
time_later (suc k) (w ∷ ws) i = rw suc-add (time_later k ws i)

last_back : (n : ℕ) (ws : List Write) → NeverBack ws → NeverBack (last_of n ws)
last_back n ws back i below =
    let before = length ws - n in
    rw (time_later before ws i, time_later before ws (suc i), add-suc before i) (back (before + i) (omega (arith, length-drop before ws)))

-- what is held is shown
module _ (mask k n : ℕ) (ws : List Write) (t : List ℕ) (some : 0 < n) (many : length ws ≡ k) (holds : Holds n mask ws t) where
  passed : first_broken (dump_rows t (header_of t)) ≡ Ok tt
  passed = check_passed t (header_of t) (min (length ws) n) holds.sound

  listed_length : length (last_of n ws) ≡ min k n
  listed_length = last_length some holds ∙ ap (λ (k : ℕ). min k n) many

  -- a stamp is the true time modulo the range
  stamps : (p : ℕ) → p < length (last_of n ws) → stamp_of t (header_of t) p ≡ time_at (last_of n ws) p % range (header_of t).mask
  unfolding slot_in cut given
  stamps p below =
      ap (λ (slot : Slot). slot.stamp) (words_are some holds p (rw (last_length some holds) at below))
      ∙ stamp_cut (header_of t).mask (get_or (last_of n ws) p no_write).time (mask_wide (header_of t) (length t) _ passed)
      ∙ ap (λ (time : ℕ). time % range (header_of t).mask) (time_of (last_of n ws) p)

  reading_accepts : (r : Reading) → ReadingAccepted r (min (length ws) n) → Accepted (reading_rows r (event_count t (header_of t)))
  unfolding first_broken row14 row15
  reading_accepts r reading =
      rw (count_is some holds, ne_eqb r.rate 0 (λ none. omega (arith, reading.rate)), lt-leb (2 ^ 24) r.unit reading.unit, le-ltb (2 ^ 40) _ reading.serial)

  module _ (file : Option (List ℕ)) (r : Reading) where
    abbrev text : List ℕ
    text = lines_of file t r (last_of n ws)

    accepts : (room : ℕ) → ReadingAccepted r (min (length ws) n) → Accepted (file_rows file) → length text ≤ room → Accepted (listing_rows file t (header_of t) r room)
    unfolding row16
    accepts room reading right fits =
        let last = row16 (length (listing_text file t (header_of t) r)) room in
        sym (then_rest (dump_rows t (header_of t)) (listing_more file t (header_of t) r room) passed)
        ∙ sym (then_rest (reading_rows r (event_count t (header_of t))) (file_rows file ++ (last ∷ [])) (reading_accepts r reading))
        ∙ sym (then_rest (file_rows file) (last ∷ []) right) ∙ one_kept last (rw (text_is some holds file r) (le-ltb room _ fits))

    lists : (old new : List ℕ) (answer : Result ℕ Refusal) → ReadingAccepted r (min k n) → Accepted (file_rows file) → length text ≤ length old
        → Gave (listing_rows file t (header_of t) r (length old)) (listing_text file t (header_of t) r) old new answer
        → (answer ≡ Ok (length text)) × (new ≡ text ++ drop (length text) old)
    lists old new answer reading right fits gave =
        let all = accepts (length old) (subst (λ (k : ℕ). ReadingAccepted r (min k n)) (sym many) reading) right fits in
        (gave.answered ∙ rw (all, text_is some holds file r), gave.output ∙ rw (all, text_is some holds file r))

  pub shows : Shows mask k n ws t
  shows = record {
    passes = holds.sound ∙ ap (λ (k : ℕ). Ok (sound_dump (header_of t) (min k n))) many;
    lists = lists;
    ticks = λ back p below.
        ap (λ (mask : ℕ). shown_ticks t p + range mask * whole_ranges (range mask) (last_of n ws) p) (sym holds.mask_is)
        ∙ ticks_gone t (header_of t) (last_of n ws) (last_back n ws back) stamps p (rw listed_length below);
    exact = λ back short p below.
        ticks_exact t (header_of t) (last_of n ws) (last_back n ws back) stamps (λ i inside. rw holds.mask_is (short i (rw listed_length at inside))) p (rw listed_length below);
    not_above = λ r p rate. not_above (shown_ticks t p) r.rate;
    one_more = λ r p rate. not_below (shown_ticks t p) r.rate rate;
  }

pub third_demand : ThirdDemand recording
third_demand k n f s calls word done typed none many =
    let fresh = fresh_holds f s n word done in
    shows f.mask k n (accepted_writes recording calls (left (formatting f s) s)) (after recording calls (left (formatting f s) s)) fresh.0 many
    (calls_hold n f.mask fresh.0 calls [] (left (formatting f s) s) typed none fresh.1)
