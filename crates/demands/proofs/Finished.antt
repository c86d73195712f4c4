-- Where rows 1 to 10 pass and all entries and slots have come, what they have shown says the same as rows 11 to 13, and the event count.
use Rattle.std.specs.Prelude.{Err, Ok}
use Prim.Native.Nat.{ℕ, ◌+◌, ◌*◌, ◌≤◌, ◌<◌}
use mathlib.Core.Bool.{Bool, true, false, not, cond, ◌&&◌}
use mathlib.Core.List.{List, [], ◌∷◌, ◌++◌}
use mathlib.Core.Path.{◌≡◌, refl, sym, ap, ap₂, subst, ◌∙◌}
use native.Mathlib.Omega.{arith}
use borrow.Author.Tests.{leb-false, leb-true, ltb-false, ltb-true}
use lib.Dec.{eqb, leb, ltb}
use lib.ListN.{length}
use Rattle.pieces.specs.Body.{body_rows, in_registry, out_of_turn}
use Rattle.pieces.specs.declared.parts.Body.{Body}
use Rattle.rows.proofs.Rows.{among, unbroken}
use Rattle.rows.specs.Lowest.{lowest}
use Rattle.rows.specs.Rows.{Row, first_broken, row_at, Verdict, answer_by}
use Rattle.trace.proofs.Passed.{current_within, entries_end, entry_within, slot_within, slots_start, slots_within}
use Rattle.trace.specs.Check.{sound_dump}
use Rattle.trace.specs.Layout.{buffer_start, current_slot, entry_count, geometry_of, slot_count, slot_size}
use Rattle.trace.specs.Registry.{is_wanted, is_wanted_at}
use Rattle.trace.specs.Slots.{event_count, event_id_at, is_at_fault, is_fault, is_used, is_used_at}
use Rattle.trace.specs.Table.{dump_rows, header_rows, row11, row12, row13}
use Rattle.trace.specs.declared.Fault.TheVariants.{NoId, OutOfTurn}
use Rattle.trace.specs.declared.Geometry.{Geometry}
use Rattle.trace.specs.declared.Header.{Header}
use Rattle.trace.specs.declared.Wanted.TheVariants.{BadType}
use Rattle.demands.proofs.Bodies.{After, Shown, entry_here, entry_place, slot_here, slot_place}
use Rattle.demands.proofs.OutOfTurn.{count_is, turn_is}

module _ (d : List ℕ) (h : Header) (b : Body) (same : b.geometry ≡ geometry_of h) (after : After h.order d b (length d))
    (passed : first_broken (header_rows h (length d)) ≡ Ok tt) where
  -- the slots start where the entries end
  starts : entry_place (geometry_of h) (entry_count h) ≡ buffer_start h
  starts = entries_end h (length d) _ passed ∙ sym (slots_start h (length d) _ passed)

  -- entries and slots lie within, so all have come
  entry_fits : (i : ℕ) → i < b.geometry.entries → entry_place b.geometry i + b.geometry.entry_size ≤ length d
  entry_fits = subst (λ (g : Geometry). (i : ℕ) → i < g.entries → entry_place g i + g.entry_size ≤ length d) (sym same) (entry_within h (length d) _ passed)

  slot_fits : (i : ℕ) → i < b.geometry.slots → slot_place b.geometry i + b.geometry.slot_size ≤ length d
  slot_fits =
      subst (λ (g : Geometry). (i : ℕ) → i < g.slots → slot_place g i + g.slot_size ≤ length d) (sym same)
      (λ i below. omega (arith, starts, slot_within h (length d) _ passed i below, slots_within h (length d) [] passed))

  past_registry : in_registry b ≡ false
  past_registry = by (in_registry b) refl
    where
      by : (entry : Bool) → in_registry b ≡ entry → entry ≡ false
      by false e = refl
      by true registry = absurd (
          let under = after.under-way (rw registry refl) in
          let fits = entry_fits b.entries.passed (ltb-true b.entries.passed b.geometry.entries registry) in
          omega (arith, entry_here h.order d b after.shown registry, under.0, rw registry at under.1, fits))

  all_entries : b.entries.passed ≡ b.geometry.entries
  all_entries = omega (arith, after.shown.entries_most, ltb-false b.entries.passed b.geometry.entries past_registry)

  all_slots : b.slots.passed ≡ b.geometry.slots
  all_slots = by (leb b.geometry.slots b.slots.passed) refl
    where
      by : (all : Bool) → leb b.geometry.slots b.slots.passed ≡ all → b.slots.passed ≡ b.geometry.slots
      by true all = omega (arith, after.shown.slots_most, leb-true b.geometry.slots b.slots.passed all)
      by false few = absurd (
          let under = after.under-way (rw (past_registry, few) refl) in
          let fits = slot_fits b.slots.passed (leb-false b.geometry.slots b.slots.passed few) in
          omega (arith, slot_here h.order d b after.shown past_registry, under.0, rw past_registry at under.1, fits))

  -- what they have shown
  shown : Shown h.order d (geometry_of h) b.entries b.slots
  shown = subst (λ (g : Geometry). Shown h.order d g b.entries b.slots) same after.shown

  entries : b.entries.passed ≡ entry_count h
  entries = all_entries ∙ ap (λ (g : Geometry). g.entries) same

  slots : b.slots.passed ≡ slot_count h
  slots = all_slots ∙ ap (λ (g : Geometry). g.slots) same

  bad_type : b.entries.bad_type ≡ lowest (is_wanted BadType d h) (entry_count h)
  unfolding is_wanted_at
  bad_type = rw entries at shown.bad_type

  -- a search among the slots, by a test of the slot's place
  over_all : (t : ℕ → ℕ → Bool) {found : ℕ}
      → found ≡ lowest (λ i. t i (slot_place (geometry_of h) i)) b.slots.passed
      → found ≡ lowest (λ i. t i (buffer_start h + i * slot_size h)) (slot_count h)
  over_all t so = so ∙ ap₂ (λ (start n : ℕ). lowest (λ i. t i (start + i * slot_size h)) n) starts slots

  unused : b.slots.unused ≡ lowest (λ i. not (is_used d h i)) (slot_count h)
  unused = over_all (λ i at. not (is_used_at h.order d at)) shown.unused

  behind : b.slots.behind ≡ lowest (λ i. is_used d h i && ltb (current_slot h) i) (slot_count h)
  behind = over_all (λ i at. is_used_at h.order d at && ltb (current_slot h) i) shown.behind

  no_id : b.slots.no_id ≡ lowest (is_at_fault NoId d h) (slot_count h)
  unfolding is_fault
  no_id = over_all (λ i at. is_used_at h.order d at && eqb (event_id_at h.order d at) 0) shown.no_id

  turn : out_of_turn b ≡ lowest (is_at_fault OutOfTurn d h) (slot_count h)
  turn =
      (λ i. cond (eqb (unused i) (same i).current) (behind i) (unused i))
      ∙ sym (turn_is (is_used d h) (λ i. event_id_at h.order d (buffer_start h + i * slot_size h)) (slot_count h) (current_slot h) (current_within h (length d) [] passed))

  rows_are : body_rows b ≡ row11 d h ∷ row12 d h ∷ row13 d h ∷ []
  unfolding row11 row12 row13
  rows_are = λ i.
      row_at 11 (ltb (bad_type i) (same i).entries) (bad_type i)
      ∷ row_at 12 (ltb (turn i) (same i).slots) (turn i)
      ∷ row_at 13 (ltb (no_id i) (same i).slots) (no_id i)
      ∷ []

  events : first_broken (dump_rows d h) ≡ Ok tt → b.slots.unused ≡ event_count d h
  unfolding row12
  events sound =
      unused
      ∙ sym (count_is (is_used d h) (λ i. event_id_at h.order d (buffer_start h + i * slot_size h)) (slot_count h) (current_slot h) (current_within h (length d) [] passed) (ltb-false (lowest (is_at_fault OutOfTurn d h) (slot_count h)) (slot_count h) (unbroken sound (row12 d h) (search among depth 20))))

  pub whole_answer : answer_by (first_broken (header_rows h (length d) ++ body_rows b)) (sound_dump h b.slots.unused) ≡ answer_by (first_broken (dump_rows d h)) (sound_dump h (event_count d h))
  whole_answer = ap (λ (rows : List Row). answer_by (first_broken (header_rows h (length d) ++ rows)) (sound_dump h b.slots.unused)) rows_are ∙ by (first_broken (dump_rows d h)) refl
    where
      by : (v : Verdict) → first_broken (dump_rows d h) ≡ v → answer_by v (sound_dump h b.slots.unused) ≡ answer_by v (sound_dump h (event_count d h))
      by (Err f) said = refl
      by (Ok tt) said = ap (λ (n : ℕ). answer_by (Ok tt) (sound_dump h n)) (events said)
