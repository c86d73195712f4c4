-- Each fake falls: to a dump of document 01, or to two writes into a buffer of two slots.
use Rattle.std.specs.Prelude.{Err, Ok, None}
use Prim.Native.Nat.{ℕ}
use mathlib.Core.Bool.{true, false, true≢false}
use mathlib.Core.List.{List, [], ◌∷◌, ◌++◌}
use mathlib.Core.Path.{◌≡◌, refl, sym, ap, ◌∙◌}
use native.Mathlib.Omega.{arith}
use lib.ListN.{get_or, length, length-replicate, replicate}
use Rattle.events.specs.Listing.{listing_rows, listing_text}
use Rattle.rows.specs.Rows.{first_broken, answer_by}
use Rattle.trace.proofs.Checks.{check_events, check_header, check_passed}
use Rattle.trace.specs.Check.{check_of, sound_dump}
use Rattle.trace.specs.Layout.{trace_id, header_of}
use Rattle.trace.specs.Slots.{event_count}
use Rattle.trace.specs.Table.{dump_rows}
use Rattle.trace.specs.declared.Header.{Header}
use Rattle.trace.specs.declared.Slot.{Slot}
use Rattle.words.specs.declared.Order.TheVariants.{Little}
use Rattle.writing.proofs.Opened.{open_writing}
use Rattle.writing.specs.Arguments.{IsSlot}
use Rattle.writing.specs.Bytes.{header_bytes, slot_bytes}
use Rattle.writing.specs.Writing.{Change, formatting, left, recording, said}
use Rattle.writing.specs.declared.Format.{Format}
use Rattle.demands.specs.Demands.{ThirdDemandAt}
use Rattle.demands.specs.Fakes.{CountsAs, Fakes, ListsNothing, RefusesEverything, first_only, untouched}
use Rattle.demands.specs.History.{Call, Write, accepted_writes, after, given, write}
use Rattle.demands.specs.WholeCase.{middle_line, newest_line, oldest_line, reading, three_lines, three_long, whole_dump, whole_header}
use Rattle.demands.proofs.Refusals.{first_given}
use Rattle.demands.proofs.Typed.{given_words}
use Rattle.demands.proofs.WholeCase.{whole_case}

-- a buffer of two slots and no entries, and a write
two_slots : Format
two_slots = record { order = Little; base = 0; mask = 0xFFFF; name_size = 4; entries = 0 }

blank : List ℕ
blank = replicate 112 0

one : Write
one = record { pointer = 1; field = 0; id = 1; time = 0; first = 0; second = 0; third = 0; fourth = 0 }

-- the header with current at an offset, and the bytes of two slots
header_at : ℕ → Header
header_at current = record {
  order = Little;
  id = trace_id;
  mask = 0xFFFF;
  base = 0;
  registry_start = 48;
  name_size = 4;
  registry_end = 48;
  buffer_start = 48;
  buffer_end = 112;
  current = current;
}

dump : ℕ → List ℕ → List ℕ → List ℕ
dump current a b = header_bytes (header_at current) ++ a ++ b

unused : List ℕ
unused = replicate 32 0

used : List ℕ
used = slot_bytes Little (given one)

-- two writes by a recorder, both accepted, and what they leave
record TwoWrites (recorder : Slot → List ℕ → Change) (between last : List ℕ) : Type 0 where
  first_said : said (recorder (given one) (dump 48 unused unused)) ≡ Ok 0
  first_left : left (recorder (given one) (dump 48 unused unused)) (dump 48 unused unused) ≡ between
  second_said : (slot : ℕ) × (said (recorder (given one) between) ≡ Ok slot)
  second_left : left (recorder (given one) between) between ≡ last

-- what computes
record Computed : Type 0 where
  made : said (formatting two_slots blank) ≡ Ok 2
  fresh_is : left (formatting two_slots blank) blank ≡ dump 48 unused unused
  untouched_two : TwoWrites untouched (dump 48 unused unused) (dump 48 unused unused)
  first_only_two : TwoWrites first_only (dump 80 used unused) (dump 48 used unused)
  recorded_one : left (recording (given one) (dump 48 unused unused)) (dump 48 unused unused) ≡ dump 80 used unused
  current_differs : (get_or (dump 48 unused unused) 32 0 ≡ 48) × (get_or (dump 80 used unused) 32 0 ≡ 80)
  no_event : check_of (dump 48 unused unused) ≡ Ok (sound_dump (header_of (dump 48 unused unused)) 0)
  second_missed : check_of (dump 48 used unused) ≡ Err (record { number = 12; place = 1 })
  three-lines : length three_lines ≡ three_long

computed : Computed
unfolding open_writing given one untouched first_only two_slots blank header_at dump unused used three_lines oldest_line middle_line newest_line
computed = record {
  made = refl;
  fresh_is = refl;
  untouched_two = record { first_said = refl; first_left = refl; second_said = (0, refl); second_left = refl };
  first_only_two = record { first_said = refl; first_left = refl; second_said = (1, refl); second_left = refl };
  recorded_one = refl;
  current_differs = (refl, refl);
  no_event = refl;
  second_missed = refl;
  three-lines = refl;
}

one_words : IsSlot (given one)
unfolding one
one_words = given_words one refl

-- by the third demand two writes into two slots leave a dump that passes, with two events
module _ (recorder : Slot → List ℕ → Change) (between last : List ℕ) (two : TwoWrites recorder between last) (demand : ThirdDemandAt 2 2 recorder) where
  abbrev calls : List Call
  calls = write one ∷ write one ∷ []

  abbrev fresh : List ℕ
  fresh = left (formatting two_slots blank) blank

  accepted_is : accepted_writes recorder calls fresh ≡ one ∷ one ∷ []
  accepted_is = ap (accepted_writes recorder calls) computed.fresh_is ∙ rw (two.first_said, two.first_left, two.second_said.1)

  after_is : after recorder calls fresh ≡ last
  after_is = ap (after recorder calls) computed.fresh_is ∙ ap (after recorder (write one ∷ [])) two.first_left ∙ two.second_left

  must_pass : check_of last ≡ Ok (sound_dump (header_of last) 2)
  unfolding two_slots
  must_pass =
      rw after_is at (demand two_slots blank calls (omega arith) computed.made (one_words, (one_words, tt)) (tt, (tt, tt)) (rw accepted_is)).passes

refusing_all : RefusesEverything → ⊥
refusing_all fake =
    let d = dump 48 unused unused in
    let (told, no_value, refused) = fake d in
    let clash : (told.number ≡ 0 → ⊥) → ⊥ = λ some.
    let broken = first_given (dump_rows d (header_of d)) _ (refused.only some) in
    let same : true ≡ false = cc (check_passed d (header_of d) 0 computed.no_event, broken) in
    true≢false same in
    clash (λ zero. (refused.zero zero).1 no_value)

listing_none : ListsNothing → ⊥
listing_none fake =
    let d = whole_dump Little in
    let case = whole_case Little in
    let header : header_of d ≡ whole_header Little = sym (check_header d (whole_header Little) 3 case.check) in
    let room : first_broken (listing_rows None d (header_of d) reading (length {A = ℕ} (replicate three_long 0))) ≡ Ok tt = rw (header, length-replicate) case.room in
    let said : Ok 0 ≡ answer_by (first_broken (listing_rows None d (whole_header Little) reading three_long)) (length (listing_text None d (whole_header Little) reading)) =
    rw (header, length-replicate) at (fake d reading (replicate three_long 0) room).answered in
    let clash : Ok 0 ≡ Ok three_long = said ∙ rw (case.room, case.listing, computed.three-lines) in
    let None : ◌≡◌ {A = ℕ} 0 three_long = cc clash in
    omega arith

untouched_falls : ((slot : Slot) (s : List ℕ) → left (recording slot s) s ≡ left (untouched slot s) s) → ⊥
untouched_falls fake =
    let same = sym computed.recorded_one ∙ fake (given one) (dump 48 unused unused) ∙ computed.untouched_two.first_left in
    omega (arith, ap (λ (s : List ℕ). get_or s 32 0) same, computed.current_differs)

counting : (invented : List ℕ → ℕ) → CountsAs invented → (s : List ℕ) (h : Header) (n : ℕ) → check_of s ≡ Ok (sound_dump h n) → invented s ≡ event_count s (header_of s)
counting invented counts s h n sound = check_events s (header_of s) (invented s) (counts s ∙ rw (check_passed s h n sound))

pub fakes : Fakes
fakes = record {
  refuses_everything = refusing_all;
  lists_nothing = listing_none;
  untouched_promise = untouched_falls;
  untouched_demand = λ demand.
      let d = dump 48 unused unused in
      let none : 0 ≡ event_count d (header_of d) = check_events d _ 0 computed.no_event in
      let two : 2 ≡ event_count d (header_of d) = check_events d _ 2 (must_pass untouched _ _ computed.untouched_two (demand 2 2)) in
      omega arith;
  first-only = λ demand. let clash : true ≡ false = cc (computed.second_missed, must_pass first_only _ _ computed.first_only_two demand) in true≢false clash;
  invented_count = counting;
}
