-- What a checker that is fed with a dump knows of the entries and slots after so many bytes: those that came whole are judged, and of the one under way the first bytes are held.
use Prim.Native.Nat.{ℕ, ◌+◌, ◌*◌, ◌≤◌, ◌<◌}
use mathlib.Core.Bool.{Bool, true, false, not, cond, ◌&&◌, true≢false}
use mathlib.Core.List.{List}
use mathlib.Core.Path.{◌≡◌, refl, sym, ap, ap₂, ◌∙◌}
use native.Mathlib.Decide.{dec_lt, ℕ_discrete}
use native.Mathlib.Nat.{add-zero, zero-mul}
use native.Mathlib.Omega.{arith}
use borrow.Author.Tests.{le-ltb, lt-ltb, ltb-true, ltb-false}
use lib.Dec.{eqb, ltb}
use lib.ListN.{get_or, length, replicate, set, length-set}
use lib.Seq.{get_or-set_other, get_or-set_same}
use Rattle.header.proofs.Steps.{step_more}
use Rattle.pieces.proofs.Filled.{slots_left}
use Rattle.pieces.specs.Body.{body_begun, body_pushed, entry_passed, front_size, in_registry, is_done, part_passed, part_size, slot_passed, under_way, with_byte}
use Rattle.pieces.specs.declared.parts.Body.{Body}
use Rattle.pieces.specs.declared.parts.Entries.{Entries}
use Rattle.pieces.specs.declared.parts.Slots.{Slots}
use Rattle.rows.proofs.Lowest.{lowest-on}
use Rattle.rows.specs.Lowest.{lowest, lowest_on}
use Rattle.trace.proofs.Passed.{slot_some}
use Rattle.trace.proofs.SameBytes.{alike_wanted}
use Rattle.trace.specs.Layout.{header_of, header_size}
use Rattle.trace.specs.Registry.{is_wanted_at}
use Rattle.trace.specs.Slots.{event_id_at, is_used_at}
use Rattle.trace.specs.declared.Geometry.{Geometry}
use Rattle.trace.specs.declared.Wanted.TheVariants.{BadType}
use Rattle.words.proofs.Laws.{zero_word}
use Rattle.words.proofs.Runs.{same_number}
use Rattle.words.specs.Words.{word_at}
use Rattle.words.specs.declared.Order.{Order}
use Rattle.words.specs.declared.Order.TheVariants.{Little}

-- where entries and slots start that lie behind the header, one after another
abbrev pub entry_place : Geometry → ℕ → ℕ
entry_place g i = header_size + i * g.entry_size

abbrev pub slot_place : Geometry → ℕ → ℕ
slot_place g i = entry_place g g.entries + i * g.slot_size

-- what is looked for among them
abbrev pub is_bad_entry : List ℕ → Geometry → ℕ → Bool
is_bad_entry d g i = is_wanted_at BadType Little d (entry_place g i)

abbrev pub is_used_slot : Order → List ℕ → Geometry → ℕ → Bool
is_used_slot o d g i = is_used_at o d (slot_place g i)

abbrev pub is_used_behind : Order → List ℕ → Geometry → ℕ → Bool
is_used_behind o d g i = is_used_slot o d g i && ltb g.current i

abbrev pub has_no_id : Order → List ℕ → Geometry → ℕ → Bool
has_no_id o d g i = is_used_slot o d g i && eqb (event_id_at o d (slot_place g i)) 0

-- all that is read of a part lies among so many bytes, its first: of an entry up to its pointer's end, of a slot up to its id's
abbrev read_size : Bool → ℕ
read_size true = 8
read_size false = 12

read_held : (entry : Bool) → read_size entry ≤ front_size
read_held true = omega arith
read_held false = omega arith

-- what those that came whole have shown
pub record Shown (o : Order) (d : List ℕ) (g : Geometry) (e : Entries) (s : Slots) : Type 0 where
  pub entry_long : read_size true ≤ g.entry_size
  pub slot_long : read_size false ≤ g.slot_size
  pub entries_most : e.passed ≤ g.entries
  pub slots_most : s.passed ≤ g.slots
  pub in_order : ltb e.passed g.entries ≡ true → s.passed ≡ 0
  pub bad_type : e.bad_type ≡ lowest (is_bad_entry d g) e.passed
  pub unused : s.unused ≡ lowest (λ i. not (is_used_slot o d g i)) s.passed
  pub behind : s.behind ≡ lowest (is_used_behind o d g) s.passed
  pub no_id : s.no_id ≡ lowest (has_no_id o d g) s.passed

-- where the part under way starts
abbrev pub part_place : Body → ℕ
part_place b = entry_place b.geometry b.entries.passed + b.slots.passed * b.geometry.slot_size

module _ (o : Order) (d : List ℕ) (b : Body) (shown : Shown o d b.geometry b.entries b.slots) where
  pub entry_here : in_registry b ≡ true → part_place b ≡ entry_place b.geometry b.entries.passed
  entry_here registry = rw (shown.in_order registry, zero-mul, add-zero)

  pub slot_here : in_registry b ≡ false → part_place b ≡ slot_place b.geometry b.slots.passed
  slot_here past =
      ap (λ (e : ℕ). entry_place b.geometry e + b.slots.passed * b.geometry.slot_size)
      {x = b.entries.passed}
      {y = b.geometry.entries}
      (omega (arith, shown.entries_most, ltb-false b.entries.passed b.geometry.entries past))

-- after the first n bytes
pub record After (o : Order) (d : List ℕ) (b : Body) (n : ℕ) : Type 0 where
  pub shown : Shown o d b.geometry b.entries b.slots
  pub past : part_place b ≤ n
  pub room : length b.front ≡ front_size
  pub under-way : is_done b ≡ false → (part_place b + b.came ≡ n) × (b.came < part_size b)
  pub held : is_done b ≡ false → (k : ℕ) → k < b.came → k < front_size → get_or b.front k 0 ≡ get_or d (part_place b + k) 0

-- a part is at least as long as what is read of it
part_long : (g : Geometry) → read_size true ≤ g.entry_size → read_size false ≤ g.slot_size → (entry : Bool)
    → (1 ≤ read_size entry) × (read_size entry ≤ cond entry g.entry_size g.slot_size)
part_long g long-entry long-slot true = (omega arith, long-entry)
part_long g long-entry long-slot false = (omega arith, long-slot)

-- behind a header, before any byte
pub none_after : (o : Order) (d header : List ℕ) → After o d (body_begun header) header_size
unfolding body_begun lowest
none_after o d header = record {
  shown = record {
    entry_long = omega arith;
    slot_long = omega (arith, slot_some (header_of header));
    entries_most = omega arith;
    slots_most = omega arith;
    in_order = λ registry. refl;
    bad_type = refl;
    unused = refl;
    behind = refl;
    no_id = refl;
  };
  past = rw (zero-mul, zero-mul) (omega arith);
  room = refl;
  under-way = λ more. (rw (zero-mul, zero-mul) refl, omega (arith, part_long (body_begun header).geometry (omega arith) (omega (arith, slot_some (header_of header))) (in_registry (body_begun header))));
  held = λ more k below. absurd (omega arith);
}

module _ (o : Order) (d : List ℕ) (b : Body) (n : ℕ) (after : After o d b n) where
  abbrev shown : Shown o d b.geometry b.entries b.slots
  shown = after.shown

  long : (entry : Bool) → (1 ≤ read_size entry) × (read_size entry ≤ cond entry b.geometry.entry_size b.geometry.slot_size)
  long = part_long b.geometry shown.entry_long shown.slot_long

  nothing_more : is_done b ≡ true → After o d b (n + 1)
  nothing_more done = record {
    shown = shown;
    past = omega (arith, after.past);
    room = after.room;
    under-way = λ more. absurd (true≢false (sym done ∙ more));
    held = after.held;
  }

  module _ (more : is_done b ≡ false) where
    abbrev front : List ℕ
    front = set b.front b.came (get_or d n 0)

    -- the byte that comes is held with those before it
    held_on : (k : ℕ) → k < b.came + 1 → k < front_size → get_or front k 0 ≡ get_or d (part_place b + k) 0
    held_on k below short = by (ℕ_discrete k b.came)
      where
        by : Dec (k ≡ b.came) → get_or front k 0 ≡ get_or d (part_place b + k) 0
        by (yes last) =
            rw last (get_or-set_same b.front b.came (get_or d n 0) 0 (omega (arith, after.room)) ∙ ap (λ (i : ℕ). get_or d i 0) (sym (after.under-way more).0))
        by (no earlier) = get_or-set_other b.front b.came k (get_or d n 0) 0 earlier ∙ after.held more k (omega arith) short

    one_more : b.came + 1 < part_size b → After o d (under_way b front (b.came + 1)) (n + 1)
    one_more room = record {
      shown = shown;
      past = omega (arith, after.past);
      room = length-set b.front b.came (get_or d n 0) ∙ after.room;
      under-way = λ still. (omega (arith, after.under-way more), room);
      held = λ still. held_on;
    }

    -- the part is whole, and its first bytes are those of the dump from its place on
    module _ (whole : b.came + 1 ≡ part_size b) where
      part_ends : part_place b + part_size b ≡ n + 1
      part_ends = omega (arith, (after.under-way more).0)

      front_held : (place at k : ℕ) → part_place b ≡ place → at + k < read_size (in_registry b) → get_or front (0 + at + k) 0 ≡ get_or d (place + at + k) 0
      front_held place at k here short =
          ap (λ (i : ℕ). get_or front i 0) {x = 0 + at + k} {y = at + k} (omega arith)
          ∙ held_on (at + k) (omega (arith, long (in_registry b))) (omega (arith, read_held (in_registry b)))
          ∙ ap (λ (i : ℕ). get_or d i 0) {x = part_place b + (at + k)} {y = place + at + k} (omega arith)

      -- an entry
      module _ (registry : in_registry b ≡ true) where
        abbrev entry_after : Body
        entry_after = record { geometry = b.geometry; front = replicate front_size 0; came = 0; entries = entry_passed b.entries front; slots = b.slots }

        same_entry : is_wanted_at BadType Little front 0 ≡ is_bad_entry d b.geometry b.entries.passed
        same_entry =
            alike_wanted BadType Little d (entry_place b.geometry b.entries.passed) front 0
            (λ k below aside. rw (add-zero (entry_place b.geometry b.entries.passed)) at (front_held (entry_place b.geometry b.entries.passed) 0 k (entry_here o d b shown registry) (rw registry (omega arith))))

        entry_ends : part_place entry_after ≡ n + 1
        unfolding entry_passed
        entry_ends = omega (arith, step_more b.entries.passed b.geometry.entry_size, rw registry at part_ends)

        entry_shown : Shown o d b.geometry entry_after.entries b.slots
        unfolding entry_passed
        entry_shown = record {
          entry_long = shown.entry_long;
          slot_long = shown.slot_long;
          entries_most = omega (arith, ltb-true b.entries.passed b.geometry.entries registry);
          slots_most = shown.slots_most;
          in_order = λ still. shown.in_order registry;
          bad_type =
              ap₂ (λ (found : ℕ) (hit : Bool). lowest_on found b.entries.passed hit) shown.bad_type same_entry
              ∙ lowest-on (is_bad_entry d b.geometry) b.entries.passed;
          unused = shown.unused;
          behind = shown.behind;
          no_id = shown.no_id;
        }

        pub entry-after : After o d entry_after (n + 1)
        entry-after = record {
          shown = entry_shown;
          past = omega (arith, entry_ends);
          room = refl;
          under-way = λ still. (omega (arith, entry_ends), omega (arith, long (in_registry entry_after)));
          held = λ still k below. absurd (omega arith);
        }

      -- a slot
      module _ (slots : in_registry b ≡ false) where
        abbrev slot_after : Body
        slot_after = record { geometry = b.geometry; front = replicate front_size 0; came = 0; entries = b.entries; slots = slot_passed b.geometry.current b.slots front }

        abbrev place : ℕ
        place = slot_place b.geometry b.slots.passed

        same_word : (at : ℕ) → at + 4 ≤ read_size false → eqb (word_at Little front (0 + at)) 0 ≡ eqb (word_at o d (place + at)) 0
        same_word at within =
            ap (λ (word : ℕ). eqb word 0) (same_number Little 4 front d (0 + at) (place + at) (λ k below. front_held place at k (slot_here o d b shown slots) (rw slots (omega arith))))
            ∙ zero_word o d (place + at)

        same_used : is_used_at Little front 0 ≡ is_used_at o d place
        same_used = ap not (rw (add-zero place) at (same_word 0 (omega arith)))

        slot_ends : part_place slot_after ≡ n + 1
        unfolding slot_passed
        slot_ends = omega (arith, step_more b.slots.passed b.geometry.slot_size, rw slots at part_ends)

        -- a search among the slots goes on
        on : (t : ℕ → Bool) {found : ℕ} {hit : Bool} → found ≡ lowest t b.slots.passed → hit ≡ t b.slots.passed
            → lowest_on found b.slots.passed hit ≡ lowest t (b.slots.passed + 1)
        on t so same = ap₂ (λ (found : ℕ) (hit : Bool). lowest_on found b.slots.passed hit) so same ∙ lowest-on t b.slots.passed

        slot_shown : Shown o d b.geometry b.entries slot_after.slots
        unfolding slot_passed
        slot_shown = record {
          entry_long = shown.entry_long;
          slot_long = shown.slot_long;
          entries_most = shown.entries_most;
          slots_most = omega (arith, slots_left b more slots);
          in_order = λ still. absurd (true≢false (sym still ∙ slots));
          bad_type = shown.bad_type;
          unused = on (λ i. not (is_used_slot o d b.geometry i)) shown.unused (ap not same_used);
          behind = on (is_used_behind o d b.geometry) shown.behind (ap (λ (used : Bool). used && ltb b.geometry.current b.slots.passed) same_used);
          no_id = on (has_no_id o d b.geometry) shown.no_id (ap₂ ◌&&◌ same_used (same_word 8 (omega arith)));
        }

        pub slot-after : After o d slot_after (n + 1)
        slot-after = record {
          shown = slot_shown;
          past = omega (arith, slot_ends);
          room = refl;
          under-way = λ still. (omega (arith, slot_ends), omega (arith, long (in_registry slot_after)));
          held = λ still k below. absurd (omega arith);
        }

      part_after : (entry : Bool) → in_registry b ≡ entry → After o d (part_passed b front) (n + 1)
      unfolding part_passed
      part_after true registry = rw registry (entry-after registry)
      part_after false slots = rw slots (slot-after slots)

    byte_held : Dec (b.came + 1 < part_size b) → After o d (with_byte b front) (n + 1)
    byte_held (yes room) = rw (lt-ltb (b.came + 1) (part_size b) room) (one_more room)
    byte_held (no full) =
        rw (le-ltb (b.came + 1) (part_size b) (omega arith)) (part_after (omega (arith, (after.under-way more).1)) (in_registry b) refl)

  -- one byte more
  pub byte_after : After o d (body_pushed b (get_or d n 0)) (n + 1)
  unfolding body_pushed
  byte_after = by (is_done b) refl
    where
      by : (done : Bool) → is_done b ≡ done → After o d (body_pushed b (get_or d n 0)) (n + 1)
      by true done = rw done (nothing_more done)
      by false more = rw more (byte_held more (dec_lt (b.came + 1) (part_size b)))

-- which has the same geometry
pub geometry_stays : (b : Body) (byte : ℕ) → (body_pushed b byte).geometry ≡ b.geometry
unfolding body_pushed part_passed
geometry_stays b byte = by (is_done b) (ltb (b.came + 1) (part_size b))
  where
    by : (done short : Bool)
        → (cond done b (cond short (under_way b (set b.front b.came byte) (b.came + 1)) (part_passed b (set b.front b.came byte)))).geometry ≡ b.geometry
    by true short = refl
    by false true = refl
    by false false = refl
