-- Each wrong statement falls to a case of document 01, or to one that computes.
use Rattle.std.specs.Prelude.{Err, None, Ok, Option, Result, Some}
use Rattle.rows.specs.declared.Refusal.{Refusal}
use Prim.Native.Nat.{ℕ, zero, suc, min}
use mathlib.Core.Bool.{true, true≢false}
use mathlib.Core.List.{List, [], ◌∷◌, ◌++◌}
use mathlib.Core.Logic.{inl}
use mathlib.Core.Path.{◌≡◌, refl, sym, ap, ◌∙◌}
use native.Mathlib.Omega.{arith}
use lib.ListN.{get_or, length, replicate, set, take}
use Rattle.events.specs.declared.Reading.{Reading}
use Rattle.naming.specs.Records.{file_rows, is_sought_at, kind_of, name_in, record_at, record_name, row27}
use Rattle.naming.specs.Writing.{record_bytes}
use Rattle.naming.specs.declared.Subject.TheVariants.{Event}
use Rattle.rows.specs.Rows.{Accepted}
use Rattle.text.specs.Lines.{name_size}
use Rattle.text.specs.Numbers.{digits, digits_in}
use Rattle.trace.proofs.Checks.{check_events, check_passed}
use Rattle.trace.specs.Check.{check_of, checked_told, sound_dump}
use Rattle.trace.specs.Layout.{entry_count, header_of, registry_end, slot_count}
use Rattle.trace.specs.Names.{find_name, is_named, name_bytes, name_found, name_if_entry, name_of, thread_name}
use Rattle.trace.specs.Ring.{from_current, keep, numbers_from, oldest_first}
use Rattle.trace.specs.Table.{before_ends, registry_rows, row4}
use Rattle.trace.specs.Times.{microseconds, stamp_of}
use Rattle.trace.specs.declared.Name.TheVariants.{Named}
use Rattle.trace.specs.declared.Name.{Name}
use Rattle.trace.specs.declared.Sound.{Sound}
use Rattle.trace.specs.declared.ThreadKind.TheVariants.{Gone}
use Rattle.words.specs.Each.{Each}
use Rattle.words.specs.declared.Order.TheVariants.{Little}
use Rattle.writing.proofs.Opened.{open_writing}
use Rattle.writing.specs.Writing.{formatting, left, recording, registering, removing, said}
use Rattle.writing.specs.declared.Format.{Format}
use Rattle.writing.specs.declared.Object.{Object}
use Rattle.demands.specs.History.{Call, NeverBack, Typed, Write, accepted_writes, given, since_oldest, whole_ranges, write}
use Rattle.demands.specs.Masks.{range}
use Rattle.demands.specs.Refusals.{given_at}
use Rattle.demands.specs.Shown.{ReadingAccepted}
use Rattle.demands.specs.WholeCase.{fourth_write, middle, newest, oldest, pump, whole_dump, whole_header}
use Rattle.demands.specs.Wrong.{AlwaysAppended, AlwaysExact, CountGrows, CutOnce, LastCounts, MicrosecondsBare, NameLost, NonsenseCut, OthersKept, SerialsTouch, StampsRise, Wrong}
use Rattle.demands.proofs.BareNumbers.{bare_numbers}
use Rattle.demands.proofs.Starred.{starred}
use Rattle.demands.proofs.ThirdDemand.{third_demand}
use Rattle.demands.proofs.Typed.{given_words}
use Rattle.demands.proofs.WholeCase.{whole_case}
use Rattle.demands.proofs.Writings.{recording_leaves}

-- the whole case's dump, and the same with the id of slot 1 at 0
abbrev whole : List ℕ
whole = whole_dump Little

abbrev faulty : List ℕ
faulty = set whole 112 0

-- the same once its thread is removed, and once a queue has the thread's entry
abbrev removed : List ℕ
removed = left (removing 0x20001000 whole) whole

queue : Object
queue = record { object_type = 3; pointer = 0x20003000; parameter_one = 0; parameter_two = 0; reserved_one = 0; reserved_two = 0 }

abbrev reused : List ℕ
reused = left (registering queue [] removed) removed

-- the first bytes of that dump, and of the same with a registry end that is not behind a whole entry
abbrev upload : List ℕ
upload = take 60 whole

abbrev nonsense : List ℕ
nonsense = take 60 (set whole 20 73)

-- a byte less than a header
abbrev cut_off : List ℕ
cut_off = replicate 47 0

-- two slots, and two writes that lie a whole range apart
two_slots : Format
two_slots = record { order = Little; base = 0; mask = 0xFFFF; name_size = 4; entries = 0 }

blank : List ℕ
blank = replicate 112 0

write_at : ℕ → Write
write_at time = record { pointer = 1; field = 0; id = 1; time = time; first = 0; second = 0; third = 0; fourth = 0 }

abbrev apart : List Write
apart = write_at 0 ∷ write_at 65536 ∷ []

abbrev calls : List Call
calls = write (write_at 0) ∷ write (write_at 65536) ∷ []

-- a name file with two names for one event, the second of them empty
abbrev named_twice : Option (List ℕ)
named_twice = Some (record_bytes Event 7 (0x41 ∷ []) ++ record_bytes Event 7 [])

-- what computes
record Computed : Type 0 where
  oldest_stamp : stamp_of whole (header_of whole) 0 ≡ 65500
  next_stamp : stamp_of whole (header_of whole) 1 ≡ 20
  first_digit : get_or (digits (microseconds 9007199255 1)) 0 0 ≡ 0x39
  no_mask : (row4 0).broken ≡ true
  slot_1 : check_of faulty ≡ Err (record { number = 13; place = 1 })
  fifth : Accepted (recording (given fourth_write) whole).rows
  header : header_of whole ≡ whole_header Little
  three : slot_count (header_of whole) ≡ 3
  two : said (formatting two_slots blank) ≡ Ok 2
  accepted : accepted_writes recording calls (left (formatting two_slots blank) blank) ≡ apart
  range_is : range 0xFFFF ≡ 65536
  one_range : whole_ranges 65536 apart 1 ≡ 1
  gone : since_oldest apart 1 ≡ 65536
  one_entry : entry_count (header_of whole) ≡ 1
  removal : Accepted (removing 0x20001000 whole).rows
  typed : Accepted (registry_rows whole (header_of whole))
  pump_gone : find_name removed 0x20001000 ≡ Ok (Some (Named Gone 64 4))
  taken : Accepted (registering queue [] removed).rows
  pump_lost : find_name reused 0x20001000 ≡ Ok None
  short : check_of cut_off ≡ Err (record { number = 1; place = 0 })
  longer : check_of (cut_off ++ (0 ∷ [])) ≡ Err (record { number = 3; place = 0 })
  begun : Accepted (before_ends (header_of nonsense) (length nonsense))
  came : length nonsense ≡ 60
  beyond : registry_end (header_of nonsense) ≡ 73
  not-whole : check_of nonsense ≡ Err (given_at 7 0)
  registry_cut : check_of upload ≡ Err (given_at 26 12)
  slots_cut : check_of (upload ++ replicate 12 0) ≡ Err (given_at 26 96)
  right : Accepted (file_rows named_twice)
  first_name : name_bytes named_twice [] (name_in Event named_twice 7) ≡ Some (0x41 ∷ [])

computed : Computed
unfolding open_writing pump middle newest oldest whole_dump whole_header from_current keep numbers_from oldest_first digits digits_in microseconds given fourth_write two_slots blank write_at queue find_name name_if_entry name_of thread_name is_sought_at kind_of name_bytes name_in record_at record_name row27
computed = record { oldest_stamp = refl; next_stamp = refl; first_digit = refl; no_mask = refl; slot_1 = refl; fifth = refl; header = refl; three = refl; two = refl; accepted = refl; range_is = refl; one_range = refl; gone = refl; one_entry = refl; removal = refl; typed = refl; pump_gone = refl; taken = refl; pump_lost = refl; short = refl; longer = refl; begun = refl; came = refl; beyond = refl; not-whole = refl; registry_cut = refl; slots_cut = refl; right = refl; first_name = refl }

by_stamp : StampsRise → ⊥
by_stamp wrong =
    let sound = (whole_case Little).check in
    let rises = wrong whole (header_of whole) 0 (check_passed whole _ 3 sound) (omega (arith, check_events whole _ 3 sound)) in
    omega (arith, rises, computed.oldest_stamp, computed.next_stamp)

bare_always : MicrosecondsBare → ⊥
bare_always wrong =
    let same = ap (λ (s : List ℕ). get_or s 0 0) (sym (starred Little).quoted_at_9007199255_ticks ∙ wrong 9007199255 1) in
    omega (arith, same, computed.first_digit)

touching : SerialsTouch → ⊥
touching wrong =
    let r : Reading = record { rate = 1; unit = 0; serial = 0 } in
    let accepted : ReadingAccepted r 1 = record { rate = omega arith; unit = omega arith; serial = omega arith } in
    wrong r r 1 1 0 0 accepted accepted (omega arith) (omega arith) (inl (omega arith)) refl

appending : AlwaysAppended → ⊥
unfolding checked_told
appending wrong =
    let same = sym computed.longer ∙ (wrong cut_off (0 ∷ []) (omega arith)).check ∙ computed.short in
    omega (arith, ap (λ (x : Result Sound Refusal). (checked_told x).number) same)

saying_cut : NonsenseCut → ⊥
unfolding checked_told
saying_cut wrong =
    let said = wrong nonsense computed.begun (omega (arith, computed.came, computed.beyond)) (omega (arith, computed.beyond)) in
    omega (arith, ap (λ (x : Result Sound Refusal). (checked_told x).number) (sym computed.not-whole ∙ said.1))

cutting : CutOnce → ⊥
cutting wrong = wrong upload (replicate 12 0) 12 96 computed.registry_cut refl computed.slots_cut

growing : CountGrows → ⊥
unfolding fourth_write
growing wrong =
    let sound : check_of whole ≡ Ok (sound_dump (header_of whole) 3) = (whole_case Little).check ∙ rw computed.header in
    let words = given_words fourth_write refl in
    let leaves = recording_leaves (given fourth_write) whole words computed.fifth in
    let left-three = leaves.sound 3 sound in
    let left-four = wrong (given fourth_write) whole 3 words computed.fifth sound in
    let same : 4 ≡ min 4 (slot_count (header_of whole)) = check_events _ _ _ left-four ∙ sym (check_events _ _ _ left-three) in
    omega (arith, computed.three)

losing : NameLost → ⊥
losing wrong =
    let lost = wrong 0x20001000 whole computed.removal computed.typed (λ i j below inside one two same. omega (arith, computed.one_entry)) in
    true≢false (ap (λ (x : Result (Option Name) Refusal). is_named (name_found x)) (sym computed.pump_gone ∙ lost))

keeping : OthersKept → ⊥
unfolding queue
keeping wrong =
    let kept = wrong queue [] removed 0x20001000 (omega arith) computed.taken (λ same. omega arith) in
    true≢false (ap (λ (x : Result (Option Name) Refusal). is_named (name_found x)) (sym computed.pump_gone ∙ sym kept.found ∙ computed.pump_lost))

exact : AlwaysExact → ⊥
unfolding two_slots write_at
exact wrong =
    let typed : Each Typed calls = (given_words (write_at 0) refl, (given_words (write_at 65536) refl, tt)) in
    let shows = third_demand 2 2 two_slots blank calls (omega arith) computed.two typed (tt, (tt, tt)) (rw computed.accepted) in
    let true-ticks = shows.ticks (rw computed.accepted rise) 1 (omega arith) in
    let claimed = wrong two_slots blank calls 2 1 (omega arith) computed.two typed (tt, (tt, tt)) (rw computed.accepted rise) (rw computed.accepted (omega arith)) in
    omega (arith, rw (computed.accepted, computed.range_is, computed.one_range, computed.gone) at true-ticks, rw (computed.accepted, computed.gone) at claimed)
  where
    rise : NeverBack apart
    rise zero below = omega arith
    rise (suc i) below = absurd (omega arith)

counting_last : LastCounts → ⊥
counting_last wrong =
    let last = wrong Event 7 (0x41 ∷ []) [] [] computed.right in
    omega (arith, ap name_size (sym computed.first_name ∙ last))

pub wrong : Wrong
wrong = record {
  stamps_rise = by_stamp;
  microseconds_bare = bare_always;
  no_ones = λ wrong. true≢false (sym computed.no_mask ∙ wrong 0 (omega arith));
  higher_limit = λ wrong. omega (arith, wrong 9007199254740992 9007199254740993 (omega arith) bare_numbers.one_double);
  serials_touch = touching;
  no_places = λ wrong. omega (arith, wrong faulty _ computed.slot_1);
  count_grows = growing;
  name_lost = losing;
  others_kept = keeping;
  always_appended = appending;
  nonsense_cut = saying_cut;
  cut_once = cutting;
  always_exact = exact;
  last_counts = counting_last;
}
