-- A name is that of the lowest live thread with the pointer, or else of the lowest that is gone; in a dump whose rows 1 to 11 have passed it lies within, as its entry does. One of a name file that is accepted lies within that, as its record does.
use Rattle.std.specs.Prelude.{Err, None, Ok, Option, Result, Some}
use Rattle.rows.specs.declared.Refusal.{Refusal}
use Prim.Native.Nat.{ℕ, ◌+◌, ◌≤◌, ◌<◌}
use mathlib.Core.Bool.{Bool, true, false, cond, true≢false}
use mathlib.Core.List.{List, [], ◌∷◌, ◌++◌}
use mathlib.Core.Logic.{◌⊎◌, inl, inr, ⊎_elim}
use mathlib.Core.Path.{◌≡◌, refl, sym, ap, ◌∙◌}
use native.Mathlib.Decide.{dec_lt}
use native.Mathlib.Omega.{arith}
use borrow.Author.Tests.{eq-eqb, eqb-false, eqb-true, ltb-true, ne_eqb, not-true}
use lib.Dec.{ltb}
use lib.ListN.{get_or, length}
use Rattle.events.specs.Events.{context_of, event_at, event_in, event_of, event_rows, name_for}
use Rattle.events.specs.Listing.{fields}
use Rattle.events.specs.declared.Event.{Event}
use Rattle.naming.proofs.Named.{has_name, name_within}
use Rattle.naming.specs.Finding.{find_name_with, finding_rows, name_with}
use Rattle.naming.specs.Records as records
use Rattle.naming.specs.Records.{file_rows, first_record, has_record, name_in, record_at, record_name}
use Rattle.naming.specs.declared.Sought.TheVariants.{Naming}
use Rattle.naming.specs.declared.Subject.{Subject}
use Rattle.naming.specs.declared.Subject.TheVariants as subject
use Rattle.rows.proofs.Lowest.{lowest_before, lowest_hit, lowest_le, none_hit}
use Rattle.rows.proofs.Rows.{passed_before}
use Rattle.rows.specs.Rows.{Accepted, Row, first_broken, Verdict, answer_by}
use Rattle.text.specs.declared.Context.{Context}
use Rattle.text.specs.declared.Context.TheVariants.{Init, Isr, Thread}
use Rattle.trace.proofs.Passed.{entry_within, registry_passed}
use Rattle.trace.proofs.Threads.{thread_hit}
use Rattle.trace.specs.Layout.{entry_at, entry_count, header_of}
use Rattle.trace.specs.Names.{entry_name, find_name, is_gone, is_named, is_zero_at, name_at, name_found, length_to_zero, name_if_entry, name_of, or_else, thread_entry, thread_name}
use Rattle.trace.specs.Registry.{is_wanted, is_wanted_at}
use Rattle.trace.specs.Slots.{event_count}
use Rattle.trace.specs.Table.{dump_rows, registry_rows, row25}
use Rattle.trace.specs.declared.Header.{Header}
use Rattle.trace.specs.declared.Name.TheVariants.{Filed, Named}
use Rattle.trace.specs.declared.Name.{Name}
use Rattle.trace.specs.declared.Slot.{Slot}
use Rattle.trace.specs.declared.ThreadKind.{ThreadKind}
use Rattle.trace.specs.declared.ThreadKind.TheVariants.{Gone, Live}
use Rattle.trace.specs.declared.Wanted.TheVariants as wanted
use Rattle.demands.specs.Names.{Extends, IsThread, LiesThere, LiesWithin, Lowest, Names, name_shown}
use Rattle.demands.proofs.Answers.{answer_is, passed_behind}

-- a name of the name file, which the registry has none of
abbrev is_filed : Option Name → Bool
is_filed None = false
is_filed (Some (Named kind at length)) = false
is_filed (Some (Filed at length)) = true

module _ (s : List ℕ) (h : Header) where
  -- a search for a thread hits an entry that is one, and misses no such entry
  hit_is : (kind : ThreadKind) (pointer i : ℕ) → is_wanted (wanted.Thread kind pointer) s h i ≡ true → IsThread kind s h pointer i
  hit_is Live pointer i hit = thread_hit Live h.order s (entry_at h i) pointer hit
  hit_is Gone pointer i hit =
      let is = thread_hit Gone h.order s (entry_at h i) pointer hit in
      (not-true _ is.0, is.1, is.2)

  missed : (kind : ThreadKind) (pointer i : ℕ) → is_wanted (wanted.Thread kind pointer) s h i ≡ false → IsThread kind s h pointer i → ⊥
  unfolding is_wanted_at
  missed Live pointer i miss is = true≢false (rw (is.0, eq-eqb _ _ is.1, eq-eqb _ _ is.2) at miss)
  missed Gone pointer i miss is = true≢false (rw (is.0, eq-eqb _ _ is.1, eq-eqb _ _ is.2) at miss)

  lowest_is : (kind : ThreadKind) (pointer : ℕ) → thread_entry kind s h pointer < entry_count h → Lowest kind s h pointer (thread_entry kind s h pointer)
  lowest_is kind pointer below = record {
    below = below;
    is = hit_is kind pointer (thread_entry kind s h pointer) (lowest_hit (is_wanted (wanted.Thread kind pointer) s h) (entry_count h) below);
    no_lower = λ j lower. missed kind pointer j (lowest_before (is_wanted (wanted.Thread kind pointer) s h) (entry_count h) j lower);
  }

  extends : (i : ℕ) → Extends s h i (name_at h i) (length_to_zero s (name_at h i) h.name_size)
  extends i = record {
    begins = refl;
    no_zero = λ k below. eqb-false (get_or s (name_at h i + k) 0) 0 (lowest_before zero_at h.name_size k below);
    ends = by (dec_lt size h.name_size);
  }
    where
      zero_at : ℕ → Bool
      zero_at = is_zero_at s (name_at h i)

      size : ℕ
      size = length_to_zero s (name_at h i) h.name_size

      by : Dec (size < h.name_size) → (size ≡ h.name_size) ⊎ ((size < h.name_size) × (get_or s (name_at h i + size) 0 ≡ 0))
      by (yes short) = inr (short, eqb-true (get_or s (name_at h i + size) 0) 0 (lowest_hit zero_at h.name_size short))
      by (no full) = inl (omega (arith, lowest_le zero_at h.name_size))

  -- among the threads of a kind
  module _ (kind : ThreadKind) (pointer : ℕ) where
    named_of : (other : ThreadKind) (at size : ℕ) → thread_name kind s h pointer ≡ Some (Named other at size)
        → (other ≡ kind) × ((i : ℕ) × Lowest kind s h pointer i × Extends s h i at size)
    unfolding name_if_entry thread_name
    named_of other at size = by (ltb (thread_entry kind s h pointer) (entry_count h)) refl
      where
        by : (hit : Bool) → ltb (thread_entry kind s h pointer) (entry_count h) ≡ hit → cond hit (Some (entry_name kind s h (thread_entry kind s h pointer))) None ≡ Some (Named other at size)
            → (other ≡ kind) × ((i : ℕ) × Lowest kind s h pointer i × Extends s h i at size)
        by true below e =
            let same : other ≡ kind = cc in
            let start : name_at h (thread_entry kind s h pointer) ≡ at = cc in
            let long : length_to_zero s (name_at h (thread_entry kind s h pointer)) h.name_size ≡ size = cc in
            (same, (thread_entry kind s h pointer, lowest_is kind pointer (ltb-true _ _ below), rw (← start, ← long) (extends (thread_entry kind s h pointer))))
        by false none e = absurd (true≢false (ap is_named (sym e)))

    nameless_of : thread_name kind s h pointer ≡ None → (i : ℕ) → i < entry_count h → IsThread kind s h pointer i → ⊥
    unfolding name_if_entry thread_name
    nameless_of = by (ltb (thread_entry kind s h pointer) (entry_count h)) refl
      where
        by : (hit : Bool) → ltb (thread_entry kind s h pointer) (entry_count h) ≡ hit → cond hit (Some (entry_name kind s h (thread_entry kind s h pointer))) None ≡ None
            → (i : ℕ) → i < entry_count h → IsThread kind s h pointer i → ⊥
        by true below e i inside is = true≢false (ap is_named e)
        by false none e i inside is = missed kind pointer i (none_hit (is_wanted (wanted.Thread kind pointer) s h) (entry_count h) none i inside) is

    none_filed : is_filed (thread_name kind s h pointer) ≡ false
    unfolding name_if_entry thread_name
    none_filed = by (ltb (thread_entry kind s h pointer) (entry_count h))
      where
        by : (hit : Bool) → is_filed (cond hit (Some (entry_name kind s h (thread_entry kind s h pointer))) None) ≡ false
        by true = refl
        by false = refl

  -- and among all: by whether a live one has the pointer
  module _ (pointer : ℕ) where
    not_filed : (at size : ℕ) → name_of s h pointer ≡ Some (Filed at size) → ⊥
    unfolding name_of
    not_filed at size = by (thread_name Live s h pointer) refl
      where
        by : (live : Option Name) → thread_name Live s h pointer ≡ live → or_else live (thread_name Gone s h pointer) ≡ Some (Filed at size) → ⊥
        by None none e = true≢false (sym (ap is_filed e) ∙ none_filed Gone pointer)
        by (Some (Named kind start long)) is e = true≢false (sym (ap is_filed e))
        by (Some (Filed start long)) is e = true≢false (sym (ap is_filed is) ∙ none_filed Live pointer)

    named : (kind : ThreadKind) (at size : ℕ) → name_of s h pointer ≡ Some (Named kind at size) → (i : ℕ) × Lowest kind s h pointer i × Extends s h i at size
    unfolding name_of
    named kind at size = by (thread_name Live s h pointer) refl
      where
        by : (live : Option Name) → thread_name Live s h pointer ≡ live → or_else live (thread_name Gone s h pointer) ≡ Some (Named kind at size) → (i : ℕ) × Lowest kind s h pointer i × Extends s h i at size
        by None none e = let found = named_of Gone pointer kind at size e in rw (found).0 (found).1
        by (Some (Named other start long)) is e = let found = named_of Live pointer kind at size (is ∙ e) in rw (found).0 (found).1
        by (Some (Filed start long)) is e = absurd (true≢false (ap is_filed e))

    live_wins : (i : ℕ) → i < entry_count h → IsThread Live s h pointer i → (at : ℕ) × (size : ℕ) × (name_of s h pointer ≡ Some (Named Live at size))
    unfolding name_of
    live_wins i below is = by (thread_name Live s h pointer) refl
      where
        by : (live : Option Name) → thread_name Live s h pointer ≡ live → (at : ℕ) × (size : ℕ) × (or_else live (thread_name Gone s h pointer) ≡ Some (Named Live at size))
        by None none = absurd (nameless_of Live pointer none i below is)
        by (Some (Named kind at size)) found = (at, size, ap (λ (k : ThreadKind). Some (Named k at size)) (named_of Live pointer kind at size found).0)
        by (Some (Filed at size)) found = absurd (true≢false (sym (ap is_filed found) ∙ none_filed Live pointer))

    gone_alone : (at size : ℕ) → name_of s h pointer ≡ Some (Named Gone at size) → (i : ℕ) → i < entry_count h → IsThread Live s h pointer i → ⊥
    gone_alone at size gone i below is = let (start, long, live) = live_wins i below is in true≢false (ap is_gone (sym gone ∙ live))

    nameless : name_of s h pointer ≡ None → (kind : ThreadKind) (i : ℕ) → i < entry_count h → IsThread kind s h pointer i → ⊥
    unfolding name_of
    nameless = by (thread_name Live s h pointer) refl
      where
        by : (live : Option Name) → thread_name Live s h pointer ≡ live → or_else live (thread_name Gone s h pointer) ≡ None → (kind : ThreadKind) (i : ℕ) → i < entry_count h → IsThread kind s h pointer i → ⊥
        by None none e Live = nameless_of Live pointer none
        by None none e Gone = nameless_of Gone pointer e
        by (Some (Named other at size)) is e kind = absurd (true≢false (ap is_named e))
        by (Some (Filed at size)) is e kind = absurd (true≢false (ap is_named e))

  module _ (passed : first_broken (registry_rows s h) ≡ Ok tt) where
    lies_within : (pointer : ℕ) → LiesWithin (name_of s h pointer) s
    lies_within pointer = by (name_of s h pointer) refl
      where
        by : (name : Option Name) → name_of s h pointer ≡ name → LiesWithin name s
        by None e = omega arith
        by (Some (Named kind at size)) e =
            let entry = named pointer kind at size e in
            let most : size ≤ h.name_size = ⊎_elim (λ full. omega arith) (λ short. omega arith) entry.2.ends in
            omega (arith, entry_within h (length s) _ passed entry.0 entry.1.below, entry.2.begins)
        by (Some (Filed at size)) e = absurd (not_filed pointer at size e)

-- a name of a file that is accepted lies there
module _ (file : Option (List ℕ)) (s : List ℕ) (right : Accepted (file_rows file)) where
  filed_there : (subject : Subject) (number : ℕ) → LiesThere file s (name_in subject file number)
  unfolding name_in record_name
  filed_there subject number = by file right
    where
      found : (f : List ℕ) → Accepted (file_rows (Some f)) → (has : Bool) → has_record (Naming subject number) f ≡ has
          → LiesThere (Some f) s (cond has (Some (records.name_at f (record_at f (first_record (Naming subject number) f)))) None)
      found f accepted true has = name_within f subject number _ _ (has_name f subject number has) accepted
      found f accepted false has = omega arith

      by : (given : Option (List ℕ)) → Accepted (file_rows given) → LiesThere given s (name_in subject given number)
      by None accepted = omega arith
      by (Some f) accepted = found f accepted (has_record (Naming subject number) f) refl

  module _ (h : Header) (passed : first_broken (registry_rows s h) ≡ Ok tt) where
    with_there : (pointer : ℕ) → LiesThere file s (name_with file s h pointer)
    unfolding name_with
    with_there pointer = by (name_of s h pointer) refl
      where
        by : (name : Option Name) → name_of s h pointer ≡ name → LiesThere file s (or_else name (name_in subject.Thread file pointer))
        by None e = filed_there subject.Thread pointer
        by (Some (Named kind at size)) e = rw e at (lies_within s h passed pointer)
        by (Some (Filed at size)) e = absurd (not_filed s h pointer at size e)

    by_context : (by : Context) (slot : Slot) → LiesThere file s (name_for by file s h slot)
    unfolding name_for
    by_context Init slot = omega arith
    by_context Isr slot = with_there slot.field
    by_context Thread slot = with_there slot.pointer

others_thread : (pointer : ℕ) → (pointer ≡ 0xF0F0F0F0 → ⊥) → (pointer ≡ 0xFFFFFFFF → ⊥) → context_of pointer ≡ Thread
unfolding context_of
others_thread pointer not-init not-isr = rw (ne_eqb pointer 0xF0F0F0F0 not-init, ne_eqb pointer 0xFFFFFFFF not-isr)

module _ (s : List ℕ) where
  abbrev h : Header
  h = header_of s

  find_is : (pointer : ℕ) (name : Option Name) → find_name s pointer ≡ Ok name → (first_broken (registry_rows s h) ≡ Ok tt) × (name ≡ name_of s h pointer)
  unfolding find_name
  find_is pointer = answer_is (first_broken (registry_rows s h)) (name_of s h pointer)

  find_within : (pointer : ℕ) → LiesWithin (name_found (find_name s pointer)) s
  find_within pointer = by (find_name s pointer) refl
    where
      by : (answer : Result (Option Name) Refusal) → find_name s pointer ≡ answer → LiesWithin (name_found answer) s
      by (Err f) e = omega arith
      by (Ok name) e = rw (find_is pointer name e).1 (lies_within s h (find_is pointer name e).0 pointer)

  find_with_is : (file : Option (List ℕ)) (pointer : ℕ) (name : Option Name) → find_name_with file s pointer ≡ Ok name → name ≡ name_with file s h pointer
  unfolding find_name_with
  find_with_is file pointer name e = (answer_is (first_broken (finding_rows file s h)) (name_with file s h pointer) name e).1

  find_with_within : (file : Option (List ℕ)) (pointer : ℕ) → LiesThere file s (name_found (find_name_with file s pointer))
  unfolding find_name_with
  find_with_within file pointer = by (first_broken (finding_rows file s h)) refl
    where
      by : (v : Verdict) → first_broken (finding_rows file s h) ≡ v → LiesThere file s (name_found (answer_by v (name_with file s h pointer)))
      by (Err f) e = omega arith
      by (Ok tt) e = with_there file s (passed_behind (registry_rows s h) (file_rows file) e) h (passed_before (registry_rows s h) (file_rows file) e) pointer

  -- an event that is given
  module _ (file : Option (List ℕ)) (position : ℕ) (e : Event) (answer : event_of file s position ≡ Ok e) where
    event_is : Accepted (event_rows file s h position) × (e ≡ event_at file s h position)
    unfolding event_of
    event_is = answer_is (first_broken (event_rows file s h position)) (event_at file s h position) e answer

    event_by : e.by ≡ context_of e.slot.pointer
    unfolding event_in
    event_by = rw event_is.1

    event_name : (by : Context) → e.by ≡ by → e.name ≡ name_for by file s h e.slot
    unfolding event_in
    event_name by is = rw (← is, event_is.1)

    event_title : e.title ≡ name_in subject.Event file e.slot.id
    unfolding event_in
    event_title = rw event_is.1

    -- the dump and the file were accepted
    abbrev last : List Row
    last = row25 position (event_count s h) ∷ []

    sound : Accepted (dump_rows s h)
    sound = passed_before (dump_rows s h) (file_rows file ++ last) event_is.0

    right : Accepted (file_rows file)
    right = passed_before (file_rows file) last (passed_behind (dump_rows s h) (file_rows file ++ last) event_is.0)

    given_within : LiesThere file s e.name
    given_within = rw (event_name e.by refl) (by_context file s right h (registry_passed s h sound) e.by e.slot)

    title_within : LiesThere file s e.title
    title_within = rw event_title (filed_there file s right subject.Event e.slot.id)

  event_within : (file : Option (List ℕ)) (position : ℕ) → LiesThere file s (name_shown (event_of file s position))
  event_within file position = by (event_of file s position) refl
    where
      by : (answer : Result Event Refusal) → event_of file s position ≡ answer → LiesThere file s (name_shown answer)
      by (Err f) e = omega arith
      by (Ok event) e = given_within file position event e

  pub names : Names s
  unfolding context_of fields name_for
  names = record {
    named = named s h;
    live_wins = live_wins s h;
    gone_alone = gone_alone s h;
    nameless = nameless s h;
    searched = λ pointer name e. (find_is pointer name e).1;
    within = find_within;
    none_empty = λ pointer none. rw none;
    refused_empty = λ pointer f refused. rw refused;
    searched_with = find_with_is;
    within_with = find_with_within;
    init = refl;
    isr = refl;
    thread = others_thread;
    event_by = event_by;
    thread-name = λ file position e answer. event_name file position e answer Thread;
    isr_name = λ file position e answer. event_name file position e answer Isr;
    init_name = λ file position e answer. event_name file position e answer Init;
    title = event_title;
    says_gone = λ r position e at size name. rw name;
    says_live = λ r position e at size name. rw name;
    says_filed = λ r position e at size name. rw name;
    says_none = λ r position e name. rw name;
    event_within = event_within;
    title_within = title_within;
  }
