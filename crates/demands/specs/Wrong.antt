-- Statements next to true ones that are false: two of document 01's slips, as what they take for granted, and limits and conditions of the demands moved or left out.
use Rattle.std.specs.Prelude.{ℕ, suc, ◌+◌, ◌-◌, ◌^◌, ◌≤◌, ◌<◌, min, false, List, ◌++◌, ◌⊎◌, ◌≡◌, length, Err, None, Ok, Some}
use Rattle.events.specs.declared.Reading.{Reading}
use Rattle.naming.specs.Records.{file_rows, name_in}
use Rattle.naming.specs.Writing.{record_bytes}
use Rattle.naming.specs.declared.Subject.{Subject}
use Rattle.rows.specs.Rows.{Accepted}
use Rattle.rows.specs.declared.Refusal.{Refusal}
use Rattle.text.specs.Numbers.{digits, number}
use Rattle.trace.specs.Check.{check_of, sound_dump}
use Rattle.trace.specs.Layout.{header_of, most_bytes, registry_end}
use Rattle.trace.specs.Names.{find_name, name_bytes}
use Rattle.trace.specs.Slots.{event_count}
use Rattle.trace.specs.Table.{before_ends, dump_rows, registry_rows, row4}
use Rattle.trace.specs.Times.{microseconds, stamp_of}
use Rattle.trace.specs.declared.Header.{Header}
use Rattle.trace.specs.declared.Slot.{Slot}
use Rattle.words.specs.Each.{Each}
use Rattle.writing.specs.Arguments.{IsSlot}
use Rattle.writing.specs.Keeping.{OneEach, SameName}
use Rattle.writing.specs.Writing.{formatting, left, recording, registering, removing, said}
use Rattle.writing.specs.declared.Format.{Format}
use Rattle.writing.specs.declared.Object.{Object}
use Rattle.demands.specs.History.{Call, NeverBack, NoneFormats, Typed, accepted_writes, after, last_of, since_oldest}
use Rattle.demands.specs.Keys.{key_at}
use Rattle.demands.specs.NotRead.{SameAnswers}
use Rattle.demands.specs.Page.{as_double}
use Rattle.demands.specs.Refusals.{given_at}
use Rattle.demands.specs.Shown.{ReadingAccepted, shown_ticks}

-- "sorting by stamp": events stand in the order of their stamps
abbrev pub StampsRise : Type 0
StampsRise = (s : List ℕ) (h : Header) (p : ℕ) → Accepted (dump_rows s h) → suc p < event_count s h → stamp_of s h p ≤ stamp_of s h (suc p)

-- "guarding the key against the float and forgetting microseconds"
abbrev pub MicrosecondsBare : Type 0
MicrosecondsBare = (ticks rate : ℕ) → number (microseconds ticks rate) ≡ digits (microseconds ticks rate)

-- a mask of no ones
abbrev pub NoOnes : Type 0
NoOnes = (w : ℕ) → w ≤ 32 → (row4 (2 ^ w - 1)).broken ≡ false

-- two to the fifty-third bare: that it, too, has its double for itself
abbrev pub HigherLimit : Type 0
HigherLimit = (n m : ℕ) → n ≤ 2 ^ 53 → as_double m ≡ as_double n → m ≡ n

-- serial ranges that share one serial
abbrev pub SerialsTouch : Type 0
SerialsTouch =
    (one two : Reading) (m n p q : ℕ) → ReadingAccepted one m → ReadingAccepted two n → p < m → q < n
    → (one.serial + m ≤ two.serial + 1) ⊎ (two.serial + n ≤ one.serial + 1) → key_at one p ≡ key_at two q → ⊥

-- every refusal of the check with place 0
abbrev pub NoPlaces : Type 0
NoPlaces = (s : List ℕ) (f : Refusal) → check_of s ≡ Err f → f.place ≡ 0

-- an event more with every write, also where the slots are used up
abbrev pub CountGrows : Type 0
CountGrows =
    (slot : Slot) (s : List ℕ) (n : ℕ) → IsSlot slot → Accepted (recording slot s).rows → check_of s ≡ Ok (sound_dump (header_of s) n)
    → let t = left (recording slot s) s in check_of t ≡ Ok (sound_dump (header_of t) (suc n))

-- a removed thread's name is found no more (as it was before document 02, A5)
abbrev pub NameLost : Type 0
NameLost =
    (pointer : ℕ) (s : List ℕ) → Accepted (removing pointer s).rows → Accepted (registry_rows s (header_of s)) → OneEach s (header_of s)
    → find_name (left (removing pointer s) s) pointer ≡ Ok None

-- registering changes no name but the new one, also where its entry had one from a thread that is gone
abbrev pub OthersKept : Type 0
OthersKept =
    (object : Object) (name s : List ℕ) (pointer : ℕ) → object.pointer < 2 ^ 32 → Accepted (registering object name s).rows
    → (pointer ≡ object.pointer → ⊥) → SameName s (left (registering object name s) s) pointer

-- bytes appended change no answer, also where a dump was too short
abbrev pub AlwaysAppended : Type 0
AlwaysAppended = (s more : List ℕ) → length (s ++ more) ≤ most_bytes → SameAnswers s (s ++ more)

-- every registry end beyond the dump's length and at most 65,536 gives 26, also one that is not behind a whole entry
abbrev pub NonsenseCut : Type 0
NonsenseCut =
    (s : List ℕ) → Accepted (before_ends (header_of s) (length s)) → length s < registry_end (header_of s) → registry_end (header_of s) ≤ most_bytes
    → (k : ℕ) × (check_of s ≡ Err (given_at 26 k))

-- where 26 was given and that many bytes are appended, no 26 is given at all, also where it was the registry end that was missed
abbrev pub CutOnce : Type 0
CutOnce =
    (s more : List ℕ) (k j : ℕ) → check_of s ≡ Err (given_at 26 k) → length more ≡ k → check_of (s ++ more) ≡ Err (given_at 26 j) → ⊥

-- the shown ticks are the true time, also where a true gap reaches the range
abbrev pub AlwaysExact : Type 0
AlwaysExact =
    (f : Format) (s : List ℕ) (calls : List Call) (n p : ℕ) → f.base < 2 ^ 32 → said (formatting f s) ≡ Ok n → Each Typed calls
    → let fresh = left (formatting f s) s in
    let writes = accepted_writes recording calls fresh in
    NoneFormats recording calls fresh → NeverBack writes → p < min (length writes) n
    → shown_ticks (after recording calls fresh) p ≡ since_oldest (last_of n writes) p

-- of two records for one id or pointer the last counts
abbrev pub LastCounts : Type 0
LastCounts =
    (subject : Subject) (number : ℕ) (name other dump : List ℕ)
    → let file = Some (record_bytes subject number name ++ record_bytes subject number other) in
    Accepted (file_rows file) → name_bytes file dump (name_in subject file number) ≡ Some other

pub record Wrong : Type 0 where
  pub stamps_rise : StampsRise → ⊥
  pub microseconds_bare : MicrosecondsBare → ⊥
  pub no_ones : NoOnes → ⊥
  pub higher_limit : HigherLimit → ⊥
  pub serials_touch : SerialsTouch → ⊥
  pub no_places : NoPlaces → ⊥
  pub count_grows : CountGrows → ⊥
  pub name_lost : NameLost → ⊥
  pub others_kept : OthersKept → ⊥
  pub always_appended : AlwaysAppended → ⊥
  pub nonsense_cut : NonsenseCut → ⊥
  pub cut_once : CutOnce → ⊥
  pub always_exact : AlwaysExact → ⊥
  pub last_counts : LastCounts → ⊥
