-- Dumps that differ only where nothing is read get the same answers: their headers are the same, and so is what rows 1 to 10 say and, where these pass, what is read of entries and slots.
use Rattle.std.specs.Prelude.{Err, Ok, Result, Option}
use Prim.Native.Nat.{ℕ, ◌+◌, ◌≤◌, ◌<◌, min}
use mathlib.Core.Bool.{not}
use mathlib.Core.List.{List, [], ◌∷◌, ◌++◌}
use mathlib.Core.Logic.{◌⊎◌, inl, inr, ⊎_elim}
use mathlib.Core.Path.{◌≡◌, refl, sym, ap, ap₂, ◌∙◌}
use native.Mathlib.Decide.{dec_lt, ℕ_discrete}
use native.Mathlib.Nat.{mul-le-mul_right, zero-add}
use native.Mathlib.Omega.{arith}
use lib.Dec.{ltb}
use lib.ListN.{get_or-append, get_or, length, length-append}
use borrow.Author.Tests.{le-ltb}
use Rattle.events.specs.Events.{event_at, event_of, event_rows}
use Rattle.events.specs.Listing.{Gave, line_at, listing_text, term_rows}
use Rattle.events.specs.declared.Reading.{Reading}
use Rattle.naming.specs.Finding.{find_name_with, finding_rows, name_with}
use Rattle.naming.specs.Records.{file_rows}
use Rattle.rows.proofs.Rows.{then_same}
use Rattle.rows.specs.Rows.{Row, first_broken, row, row_at, Verdict, answer_by}
use Rattle.rows.specs.declared.Refusal.{Refusal}
use Rattle.trace.proofs.Passed.{current_within, entries_before, parts_apart, slot_some, slot_within, slots_end}
use Rattle.trace.proofs.SameDumps.{dump_same, events_same}
use Rattle.trace.proofs.Opened.{open_rows}
use Rattle.trace.specs.Check.{check_of, sound_dump}
use Rattle.trace.specs.Layout.{current_slot, entry_at, entry_count, entry_size, header_of, header_size, most_bytes, registry_end, slot_at, slot_count, slot_size}
use Rattle.trace.specs.Names.{name_bytes, name_found, name_of, thread_entry}
use Rattle.trace.specs.Slots.{event_count, slot_in}
use Rattle.trace.specs.Table.{dump_rows, header_rows, row16, row25}
use Rattle.trace.specs.declared.Header.{Header}
use Rattle.trace.specs.declared.Wanted.{Wanted}
use Rattle.trace.specs.declared.Wanted.TheVariants.{Free, InUse, Thread}
use Rattle.writing.proofs.SameNames.{SameNamed, SameReach, names_agree}
use Rattle.writing.proofs.SameRegistry.{RegistryKept, lowest_wanted, registry_kept}
use Rattle.trace.proofs.SameBytes.{SameBut, same_header, same_slot}
use Rattle.writing.specs.Table.{lowest_entry, row19, row20, row21, row22, row23}
use Rattle.writing.specs.Writing.{recording, registering, removing, said}
use Rattle.demands.specs.EveryCall.{AllRefused}
use Rattle.demands.specs.Names.{name_shown}
use Rattle.demands.specs.NotRead.{DifferOnlyThere, NotRead, SameAnswers, Whole}
use Rattle.demands.proofs.EveryCall.{all_refused}
use Rattle.demands.proofs.SameLines.{event_name_same, event_same, line_same, listing_same, with_same}

-- places that are read: of the header, and, where it passes, of an entry and of a slot
header_read : (h : Header) (i : ℕ) → i < 36 → (i < 16) ⊎ (18 ≤ i) → NotRead h i → ⊥
header_read h i below aside (inl (inl two)) = ⊎_elim (λ p. omega arith) (λ p. omega arith) aside
header_read h i below aside (inl (inr last)) = omega arith
header_read h i below aside (inr (inl (entry, inside, two))) = omega arith
header_read h i below aside (inr (inr past)) = omega arith

module _ (h : Header) (n : ℕ) (passed : first_broken (header_rows h n) ≡ Ok tt) where
  entry_read : (i k : ℕ) → i < entry_count h → k < entry_size h → (k < 2) ⊎ (4 ≤ k) → NotRead h (entry_at h i + k) → ⊥
  entry_read i k below near aside (inl (inl two)) = omega arith
  entry_read i k below near aside (inl (inr last)) = omega arith
  entry_read i k below near aside (inr (inl (other, inside, two))) = by (ℕ_discrete i other)
    where
      by : Dec (i ≡ other) → ⊥
      by (yes same) = let at : entry_at h i ≡ entry_at h other = ap (entry_at h) same in ⊎_elim (λ p. omega arith) (λ p. omega arith) aside
      by (no differs) = ⊎_elim (λ p. omega arith) (λ p. omega arith) (parts_apart header_size (entry_size h) i other differs)
  entry_read i k below near aside (inr (inr past)) = omega (arith, entries_before h n _ passed, slots_end h n _ passed, mul-le-mul_right (entry_size h) below)

  slot_read : (i k : ℕ) → i < slot_count h → k < slot_size h → NotRead h (slot_at h i + k) → ⊥
  slot_read i k below near (inl (inl two)) = omega (arith, entries_before h n _ passed)
  slot_read i k below near (inl (inr last)) = omega (arith, entries_before h n _ passed)
  slot_read i k below near (inr (inl (entry, inside, two))) = omega (arith, entries_before h n _ passed, mul-le-mul_right (entry_size h) inside)
  slot_read i k below near (inr (inr past)) = omega (arith, slot_within h n _ passed i below)

-- rows 1 to 10 say the same of two lengths that are whole, since no test of the length is met
whole_same : (h : Header) (m n : ℕ) → Whole h m → Whole h n → first_broken (header_rows h m) ≡ first_broken (header_rows h n)
unfolding first_broken open_rows
whole_same h m n (long, registry, buffer, short) (other-long, other-registry, other-buffer, other-short) = simp le-ltb

-- of two calls that say the same and have the same text, what one gives the other gives
gave_same : (rows more : List Row) (text other old new : List ℕ) (said : Result ℕ Refusal) → first_broken more ≡ first_broken rows → other ≡ text
    → Gave rows text old new said → Gave more other old new said
gave_same rows more text other old new said say same gave = record { answered = rw (say, same) gave.answered; output = rw (say, same) gave.output }

-- of two dumps on which every call is refused alike
both_refused : (s t : List ℕ) (f : Refusal) → AllRefused s f → AllRefused t f → SameAnswers s t
unfolding name_bytes
both_refused s t f here there = record {
  check = there.check ∙ sym here.check;
  name = λ pointer. record { found = there.name pointer ∙ sym (here.name pointer); bytes = λ file. rw (here.name pointer) };
  name-with = λ file pointer. there.name-with file pointer ∙ sym (here.name-with file pointer);
  name_with_bytes = λ file pointer. rw (here.name-with file pointer);
  event = λ file position. there.event file position ∙ sym (here.event file position);
  event_name = λ file position. rw (here.event file position);
  listing = λ file r old new said gave. (there.listing file r old new said).1 ((here.listing file r old new said).0 gave);
  line = λ file r position old new said gave. (there.line file r position old new said).1 ((here.line file r position old new said).0 gave);
  recording = λ slot. (there.recording slot).0 ∙ sym (here.recording slot).0;
  registering = λ object name. (there.registering object name).0 ∙ sym (here.registering object name).0;
  removing = λ pointer. (there.removing pointer).0 ∙ sym (here.removing pointer).0;
}

module _ (s t : List ℕ) (there : DifferOnlyThere s t) where
  header_same : header_of t ≡ header_of s
  header_same = same_header s t (λ k below aside. rw zero-add (there.same k (header_read (header_of s) k below aside)))

  -- rows 1 to 10 say the same, and both reach as far into the registry
  rows_same : first_broken (header_rows (header_of t) (length t)) ≡ first_broken (header_rows (header_of s) (length s))
  rows_same = rw header_same (⊎_elim (λ long. rw long) (λ whole. whole_same (header_of s) (length t) (length s) whole.1 whole.0) there.size)

  reach_same : SameReach s t (registry_end (header_of s))
  reach_same = ⊎_elim (ap (min _)) (λ whole. omega arith) there.size

  module _ (passed : first_broken (header_rows (header_of s) (length s)) ≡ Ok tt) where
    inside : current_slot (header_of s) < slot_count (header_of s)
    inside = current_within (header_of s) (length s) _ passed

    entries_same : (i : ℕ) → i < entry_count (header_of s) → SameBut 2 s t (entry_at (header_of s) i) (entry_size (header_of s))
    entries_same i below k near aside = there.same (entry_at (header_of s) i + k) (entry_read (header_of s) (length s) passed i k below near aside)

    words_same : (i : ℕ) → i < slot_count (header_of s) → slot_in (header_of s).order t (slot_at (header_of s) i) ≡ slot_in (header_of s).order s (slot_at (header_of s) i)
    words_same i below =
        same_slot (header_of s).order s t (slot_at (header_of s) i)
        (λ k near. there.same (slot_at (header_of s) i + k) (slot_read (header_of s) (length s) passed i k below (omega (arith, slot_some (header_of s)))))

    names_same : (pointer : ℕ) → SameNamed s t (name_of s (header_of s) pointer) (name_of t (header_of s) pointer)
    names_same pointer =
        names_agree s t (header_of s) reach_same pointer (λ kind. lowest_wanted s t (header_of s) entries_same (Thread kind pointer)) (λ kind. entries_same (thread_entry kind s (header_of s) pointer))

    -- what the calls go by, of the headers that are read
    registry : RegistryKept s t
    registry = registry_kept s t (header_of s).current header_same entries_same reach_same rows_same

    all_same : first_broken (dump_rows t (header_of t)) ≡ first_broken (dump_rows s (header_of s))
    all_same = rw header_same (dump_same s t (header_of s) inside words_same (rw header_same at registry.rows))

    events : event_count t (header_of t) ≡ event_count s (header_of s)
    events = ap (event_count t) header_same ∙ events_same s t (header_of s) inside words_same

    event-at : (file : Option (List ℕ)) (p : ℕ) → event_at file t (header_of t) p ≡ event_at file s (header_of s) p
    event-at file p = ap (λ (h : Header). event_at file t h p) header_same ∙ event_same file s t (header_of s) inside words_same names_same p

    name-with : (file : Option (List ℕ)) (pointer : ℕ) → name_with file t (header_of t) pointer ≡ name_with file s (header_of s) pointer
    name-with file pointer = ap (λ (h : Header). name_with file t h pointer) header_same ∙ (with_same file s t (header_of s) inside words_same names_same pointer).0

    listing-text : (file : Option (List ℕ)) (r : Reading) → listing_text file t (header_of t) r ≡ listing_text file s (header_of s) r
    listing-text file r = ap (λ (h : Header). listing_text file t h r) header_same ∙ listing_same file s t (header_of s) inside words_same names_same r

    line_text : (file : Option (List ℕ)) (r : Reading) (p : ℕ) → line_at file t (header_of t) r p ≡ line_at file s (header_of s) r p
    line_text file r p = ap (λ (h : Header). line_at file t h r p) header_same ∙ line_same file s t (header_of s) inside words_same names_same r p

    -- a search of the registry ends at the same entry
    entry_same : (w : Wanted) → lowest_entry w t (header_of t) ≡ lowest_entry w s (header_of s)
    entry_same w = ap (lowest_entry w t) header_same ∙ lowest_wanted s t (header_of s) entries_same w

    both_passed : SameAnswers s t
    unfolding check_of find_name_with event_of name_bytes recording registering removing row20 row21 row22
    both_passed = record {
      check = λ k. (answer_by (all_same k) (sound_dump (header_same k) (events k)));
      name = registry.names;
      name-with = λ file pointer. ap₂ answer_by (then_same _ _ {more = file_rows file} registry.rows refl) (name-with file pointer);
      name_with_bytes = λ file pointer. found_bytes file pointer (first_broken (finding_rows file s (header_of s)));
      event = λ file p. ap₂ answer_by (then_same _ _ all_same (λ k. file_rows file ++ (row25 p (events k) ∷ []))) (event-at file p);
      event_name = λ file p. name-bytes file p (first_broken (event_rows file s (header_of s) p));
      listing = λ file r old new said.
          gave_same _ _ _ _ old new said
          (then_same _ _ all_same (λ k. term_rows file r (events k) ++ (row16 (length (listing-text file r k)) (length old) ∷ []))) (listing-text file r);
      line = λ file r p old new said.
          gave_same _ _ _ _ old new said
          (then_same _ _ all_same (λ k. term_rows file r (events k) ++ (row25 p (events k) ∷ row16 (length (line_text file r p k)) (length old) ∷ []))) (line_text file r p);
      recording = λ slot. ap₂ answer_by (then_same _ _ rows_same refl) (ap current_slot header_same);
      registering = λ object name.
          ap₂ answer_by (then_same _ _ rows_same (λ k.
          let used : ℕ = entry_same (InUse object.pointer) k in
          let count = entry_count (header_same k) in
          row19 object.object_type ∷ row23 name ∷ row_at 20 (ltb used count) used ∷ row 21 (not (ltb (entry_same Free k) count)) ∷ [])) (entry_same Free);
      removing = λ pointer.
          ap₂ answer_by (then_same _ _ rows_same (λ k. row 22 (not (ltb (entry_same (InUse pointer) k) (entry_count (header_same k)))) ∷ [])) (entry_same (InUse pointer));
    }
      where
        found_bytes : (file : Option (List ℕ)) (pointer : ℕ) (v : Verdict)
            → let was = name_found (answer_by v (name_with file s (header_of s) pointer)) in name_bytes file t was ≡ name_bytes file s was
        found_bytes file pointer (Err f) = refl
        found_bytes file pointer (Ok tt) = (with_same file s t (header_of s) inside words_same names_same pointer).1 file

        name-bytes : (file : Option (List ℕ)) (p : ℕ) (v : Verdict)
            → let was = name_shown (answer_by v (event_at file s (header_of s) p)) in name_bytes file t was ≡ name_bytes file s was
        name-bytes file p (Err f) = refl
        name-bytes file p (Ok tt) = event_name_same file s t (header_of s) inside words_same names_same p

pub not_read : (s t : List ℕ) → DifferOnlyThere s t → SameAnswers s t
not_read s t there = by (first_broken (header_rows (header_of s) (length s))) refl
  where
    by : (v : Verdict) → first_broken (header_rows (header_of s) (length s)) ≡ v → SameAnswers s t
    by (Err f) refused = both_refused s t f (all_refused s f refused) (all_refused t f (rows_same s t there ∙ refused))
    by (Ok tt) passed = both_passed s t there passed

-- bytes appended to a dump that is whole lie past both ends
pub appended : (s more : List ℕ) → Whole (header_of s) (length s) → length (s ++ more) ≤ most_bytes → SameAnswers s (s ++ more)
appended s more whole short = not_read s (s ++ more) (record { size = inr (whole, omega (arith, length-append s more)); same = λ i read. by i read (dec_lt i (length s)) })
  where
    by : (i : ℕ) → (NotRead (header_of s) i → ⊥) → Dec (i < length s) → get_or (s ++ more) i 0 ≡ get_or s i 0
    by i read (yes before) = get_or-append s more 0 i before
    by i read (no past) = absurd (read (inr (inr (omega arith))))
