-- Refusals in the words of document 01, as 02 amends it: a call is refused by the first row, in its order of checks, that is broken; and the orders, as numbers and places.
use Rattle.std.specs.Prelude.{ℕ, ◌-◌, true, false, List, [], ◌∷◌, ◌++◌, map, ◌≡◌, length, None, Option, Some}
use Rattle.naming.specs.Finding.{finding_rows}
use Rattle.naming.specs.Records.{first_record, record_at}
use Rattle.naming.specs.declared.Sought.TheVariants.{Damaged}
use Rattle.naming.specs.declared.Subject.{Subject}
use Rattle.rows.specs.Lowest.{lowest}
use Rattle.rows.specs.Rows.{Row, refusal}
use Rattle.rows.specs.Told.{Told, told_refusal}
use Rattle.rows.specs.declared.Refusal.{Refusal}
use Rattle.trace.specs.Layout.{buffer_end, header_of, registry_end, slot_count}
use Rattle.trace.specs.Ring.{numbers_from}
use Rattle.trace.specs.Slots.{is_at_fault}
use Rattle.trace.specs.Table.{dump_rows, registry_rows}
use Rattle.trace.specs.declared.Fault.TheVariants.{NoId, OutOfTurn}
use Rattle.trace.specs.declared.Header.{Header}
use Rattle.trace.specs.declared.Slot.{Slot}
use Rattle.trace.specs.declared.Wanted.TheVariants.{BadType, InUse}
use Rattle.events.specs.Events.{event_rows}
use Rattle.events.specs.Listing.{line_rows, listing_rows}
use Rattle.events.specs.declared.Reading.{Reading}
use Rattle.mending.specs.Mending.{mending_rows}
use Rattle.words.specs.Each.{Each}
use Rattle.writing.specs.Table.{lowest_entry}
use Rattle.writing.specs.Writing.{filing, formatting, recording, registering, removing}
use Rattle.writing.specs.declared.Format.{Format}
use Rattle.writing.specs.declared.Object.{Object}

abbrev pub Unbroken : Row → Type 0
Unbroken r = r.broken ≡ false

-- the rows are some that are not broken, then one that is, whose number and place are the refusal's, then more
pub record FirstBroken (rows : List Row) (f : Refusal) : Type 0 where
  pub before : List Row
  pub this : Row
  pub more : List Row
  pub all : rows ≡ before ++ (this ∷ more)
  pub kept : Each Unbroken before
  pub broken : this.broken ≡ true
  pub number : f.number ≡ this.number
  pub place : f.place ≡ this.place

-- what was told is a refusal exactly where a row is broken: the number and place of the first one, and no value; otherwise number and place are 0, and some value is given
pub record Refuses (rows : List Row) (told : Told) : Type 0 where
  pub when : (f : Refusal) → FirstBroken rows f → told ≡ told_refusal f
  pub only : (told.number ≡ 0 → ⊥) → FirstBroken rows (record { number = told.number; place = told.place })
  pub zero : told.number ≡ 0 → (told.place ≡ 0) × (told.values ≡ [] → ⊥) × Each Unbroken rows

-- and then every lent byte is as before: old before the call, new after it
abbrev pub RefusesAndKeeps : List Row → List ℕ → List ℕ → Told → Type 0
RefusesAndKeeps rows old new told = Refuses rows told × ((told.number ≡ 0 → ⊥) → new ≡ old)

-- an order of checks by the numbers and places of its rows
abbrev pub checks_of : List Row → List Refusal
checks_of rows = map refusal rows

abbrev pub given_at : ℕ → ℕ → Refusal
given_at number place = record { number = number; place = place }

-- numbers whose place is 0
abbrev pub plain : List ℕ → List Refusal
plain numbers = map (λ number. given_at number 0) numbers

-- 1 to 7, and 26 with the bytes missing up to the registry end; 8, 9
abbrev pub layout_order : Header → ℕ → List Refusal
layout_order h n = plain (numbers_from 1 7) ++ (given_at 26 (registry_end h - n) ∷ plain (8 ∷ 9 ∷ []))

-- and 26 with those missing up to the buffer end; 10; then 11 with the lowest such entry; then 12 and 13 with the lowest such slot
abbrev pub header_order : Header → ℕ → List Refusal
header_order h n = layout_order h n ++ (given_at 26 (buffer_end h - n) ∷ plain (10 ∷ []))

abbrev pub registry_order : List ℕ → Header → List Refusal
registry_order s h = header_order h (length s) ++ (given_at 11 (lowest_entry BadType s h) ∷ [])

abbrev pub dump_order : List ℕ → Header → List Refusal
dump_order s h = registry_order s h ++ (given_at 12 (lowest (is_at_fault OutOfTurn s h) (slot_count h)) ∷ given_at 13 (lowest (is_at_fault NoId s h) (slot_count h)) ∷ [])

-- a name file, where one is given: 2, then 27 with the lowest damaged record's offset
abbrev pub file_order : Option (List ℕ) → List Refusal
file_order None = []
file_order (Some f) = given_at 2 0 ∷ given_at 27 (record_at f (first_record Damaged f)) ∷ []

-- orders of checks; 26 is the last part of checks 7 and 9, so that 1 to 10 have it twice
pub record Orders : Type 0 where
  -- checking a dump, 1 to 13; finding a name, 1 to 11, and with a name file its 2 and 27
  pub checking : (s : List ℕ) → checks_of (dump_rows s (header_of s)) ≡ dump_order s (header_of s)
  pub finding : (s : List ℕ) → checks_of (registry_rows s (header_of s)) ≡ registry_order s (header_of s)
  pub finding_with : (file : Option (List ℕ)) (s : List ℕ) → checks_of (finding_rows file s (header_of s)) ≡ registry_order s (header_of s) ++ file_order file
  -- one event by position, 1 to 13, a name file's, then 25
  pub event : (file : Option (List ℕ)) (s : List ℕ) (position : ℕ)
      → checks_of (event_rows file s (header_of s) position) ≡ dump_order s (header_of s) ++ file_order file ++ plain (25 ∷ [])
  -- the whole listing, 1 to 15, a name file's, then 16; one line, 1 to 15, a name file's, then 25, 16
  pub listing : (file : Option (List ℕ)) (s : List ℕ) (r : Reading) (room : ℕ)
      → checks_of (listing_rows file s (header_of s) r room) ≡ dump_order s (header_of s) ++ plain (14 ∷ 15 ∷ []) ++ file_order file ++ plain (16 ∷ [])
  pub line : (file : Option (List ℕ)) (s : List ℕ) (r : Reading) (position room : ℕ)
      → checks_of (line_rows file s (header_of s) r position room) ≡ dump_order s (header_of s) ++ plain (14 ∷ 15 ∷ []) ++ file_order file ++ plain (25 ∷ 16 ∷ [])
  -- recording, 1 to 10, 17, 18; registering, 1 to 10, 19, 23, 20 with that entry, lowest, 21; removing, 1 to 10, 22; formatting, 2, 4, 5, 24
  pub recording : (slot : Slot) (s : List ℕ) → checks_of (recording slot s).rows ≡ header_order (header_of s) (length s) ++ plain (17 ∷ 18 ∷ [])
  pub registering : (object : Object) (name s : List ℕ)
      → checks_of (registering object name s).rows ≡ header_order (header_of s) (length s) ++ plain (19 ∷ 23 ∷ []) ++ (given_at 20 (lowest_entry (InUse object.pointer) s (header_of s)) ∷ plain (21 ∷ []))
  pub removing : (pointer : ℕ) (s : List ℕ) → checks_of (removing pointer s).rows ≡ header_order (header_of s) (length s) ++ plain (22 ∷ [])
  pub formatting : (f : Format) (s : List ℕ) → checks_of (formatting f s).rows ≡ plain (2 ∷ 4 ∷ 5 ∷ 24 ∷ [])
  -- mending, 1 to 9 save 26 at the buffer end, then 16
  pub mending : (s : List ℕ) (room : ℕ) → checks_of (mending_rows s (header_of s) room) ≡ layout_order (header_of s) (length s) ++ plain (16 ∷ [])
  -- writing a record of a name file, 28, 16
  pub filing : (subject : Subject) (number : ℕ) (name : List ℕ) (offset : ℕ) (s : List ℕ) → checks_of (filing subject number name offset s).rows ≡ plain (28 ∷ 16 ∷ [])
