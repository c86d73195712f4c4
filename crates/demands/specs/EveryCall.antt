-- The calls of document 01 that read a trace buffer, all but formatting, with a name file (document 02, A7) or without: all are refused alike; and that one of them, or mending, is refused so.
use Rattle.std.specs.Prelude.{ℕ, List, ◌↔◌, ◌≡◌, length, Err, Option, Result}
use Rattle.events.specs.Events.{event_of}
use Rattle.events.specs.Listing.{Gave, line_at, line_rows, listing_rows, listing_text}
use Rattle.events.specs.declared.Reading.{Reading}
use Rattle.mending.specs.Mending.{mend_of}
use Rattle.naming.specs.Finding.{find_name_with}
use Rattle.rows.specs.declared.Refusal.{Refusal}
use Rattle.trace.specs.Check.{check_of}
use Rattle.trace.specs.Layout.{header_of}
use Rattle.trace.specs.Names.{find_name}
use Rattle.trace.specs.declared.Slot.{Slot}
use Rattle.writing.specs.Writing.{Change, left, recording, registering, removing, said}
use Rattle.writing.specs.declared.Object.{Object}

-- a call that writes is refused so, and leaves the buffer
abbrev pub Declined : Refusal → Change → List ℕ → Type 0
Declined f c s = (said c ≡ Err f) × (left c s ≡ s)

-- every call that reads a trace buffer but mending, which mends what 26 at the buffer end says, is refused by the same number and place, whatever name file is given, and
-- leaves what it is lent
pub record AllRefused (s : List ℕ) (f : Refusal) : Type 0 where
  pub check : check_of s ≡ Err f
  pub name : (pointer : ℕ) → find_name s pointer ≡ Err f
  pub name-with : (file : Option (List ℕ)) (pointer : ℕ) → find_name_with file s pointer ≡ Err f
  pub event : (file : Option (List ℕ)) (position : ℕ) → event_of file s position ≡ Err f
  pub listing : (file : Option (List ℕ)) (r : Reading) (old new : List ℕ) (said : Result ℕ Refusal)
      → Gave (listing_rows file s (header_of s) r (length old)) (listing_text file s (header_of s) r) old new said ↔ ((said ≡ Err f) × (new ≡ old))
  pub line : (file : Option (List ℕ)) (r : Reading) (position : ℕ) (old new : List ℕ) (said : Result ℕ Refusal)
      → Gave (line_rows file s (header_of s) r position (length old)) (line_at file s (header_of s) r position) old new said ↔ ((said ≡ Err f) × (new ≡ old))
  pub recording : (slot : Slot) → Declined f (recording slot s) s
  pub registering : (object : Object) (name : List ℕ) → Declined f (registering object name s) s
  pub removing : (pointer : ℕ) → Declined f (removing pointer s) s

-- some call that reads a trace buffer is refused by this number and place, mending among them
pub data SomeRefused (s : List ℕ) (f : Refusal) : Type 0 where
  by_check : check_of s ≡ Err f → SomeRefused s f
  by_name : (pointer : ℕ) → find_name s pointer ≡ Err f → SomeRefused s f
  by_name_with : (file : Option (List ℕ)) (pointer : ℕ) → find_name_with file s pointer ≡ Err f → SomeRefused s f
  by_event : (file : Option (List ℕ)) (position : ℕ) → event_of file s position ≡ Err f → SomeRefused s f
  by_listing : (file : Option (List ℕ)) (r : Reading) (old new : List ℕ)
      → Gave (listing_rows file s (header_of s) r (length old)) (listing_text file s (header_of s) r) old new (Err f) → SomeRefused s f
  by_line : (file : Option (List ℕ)) (r : Reading) (position : ℕ) (old new : List ℕ)
      → Gave (line_rows file s (header_of s) r position (length old)) (line_at file s (header_of s) r position) old new (Err f) → SomeRefused s f
  by_recording : (slot : Slot) → said (recording slot s) ≡ Err f → SomeRefused s f
  by_registering : (object : Object) (name : List ℕ) → said (registering object name s) ≡ Err f → SomeRefused s f
  by_removing : (pointer : ℕ) → said (removing pointer s) ≡ Err f → SomeRefused s f
  by_mending : (room : ℕ) → mend_of s room ≡ Err f → SomeRefused s f
