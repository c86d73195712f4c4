-- Reserved fields and bytes past the buffer end may hold anything and are not read: dumps that differ only there, or go on further past both ends, up to 65,536 bytes, get the same answers.
use Rattle.std.specs.Prelude.{ℕ, ◌+◌, ◌≤◌, ◌<◌, List, ◌⊎◌, ◌≡◌, get_or, length, Option, Result}
use Rattle.events.specs.Events.{event_of}
use Rattle.events.specs.Listing.{Gave, line_at, line_rows, listing_rows, listing_text}
use Rattle.events.specs.declared.Reading.{Reading}
use Rattle.naming.specs.Finding.{find_name_with}
use Rattle.rows.specs.declared.Refusal.{Refusal}
use Rattle.trace.specs.Check.{check_of}
use Rattle.trace.specs.Layout.{header_of, header_size, most_bytes, registry_end, buffer_end, entry_at, entry_count}
use Rattle.trace.specs.Names.{name_bytes, name_found}
use Rattle.trace.specs.declared.Header.{Header}
use Rattle.trace.specs.declared.Slot.{Slot}
use Rattle.writing.specs.Keeping.{SameName}
use Rattle.writing.specs.Writing.{recording, registering, removing, said}
use Rattle.writing.specs.declared.Object.{Object}
use Rattle.demands.specs.Names.{name_shown}

-- a place that is among the n from another on
abbrev pub Within : ℕ → ℕ → ℕ → Type 0
Within at n i = (at ≤ i) × (i < at + n)

-- the header's reserved fields, at 16 (16 bits), 36, 40 and 44
abbrev pub ReservedInHeader : ℕ → Type 0
ReservedInHeader i = Within 16 2 i ⊎ Within 36 12 i

-- an entry's two reserved bytes
abbrev pub ReservedInEntry : Header → ℕ → Type 0
ReservedInEntry h i = (entry : ℕ) × (entry < entry_count h) × Within (entry_at h entry + 2) 2 i

-- bytes past the buffer end (which, whatever a damaged header says, are none of the header's)
abbrev pub PastEnd : Header → ℕ → Type 0
PastEnd h i = (header_size ≤ i) × (buffer_end h ≤ i)

abbrev pub NotRead : Header → ℕ → Type 0
NotRead h i = ReservedInHeader i ⊎ (ReservedInEntry h i ⊎ PastEnd h i)

-- long enough for both ends that the header names, and not too long
abbrev pub Whole : Header → ℕ → Type 0
Whole h n = (header_size ≤ n) × (registry_end h ≤ n) × (buffer_end h ≤ n) × (n ≤ most_bytes)

-- two dumps that differ only there, and, where both are whole, in how far they go on past the ends
pub record DifferOnlyThere (s t : List ℕ) : Type 0 where
  pub size : (length t ≡ length s) ⊎ (Whole (header_of s) (length s) × Whole (header_of s) (length t))
  pub same : (i : ℕ) → (NotRead (header_of s) i → ⊥) → get_or t i 0 ≡ get_or s i 0

-- what the calls answer: checking; finding a name, and the name's bytes; with a name file or without, finding a name too, one event, and the bytes of the name found, and
-- the listing and one line, with all that they leave of the output; and what recording, registering and removing say
pub record SameAnswers (s t : List ℕ) : Type 0 where
  pub check : check_of t ≡ check_of s
  pub name : (pointer : ℕ) → SameName s t pointer
  pub name-with : (file : Option (List ℕ)) (pointer : ℕ) → find_name_with file t pointer ≡ find_name_with file s pointer
  pub name_with_bytes : (file : Option (List ℕ)) (pointer : ℕ)
      → let was = name_found (find_name_with file s pointer) in name_bytes file t was ≡ name_bytes file s was
  pub event : (file : Option (List ℕ)) (position : ℕ) → event_of file t position ≡ event_of file s position
  pub event_name : (file : Option (List ℕ)) (position : ℕ)
      → let was = name_shown (event_of file s position) in name_bytes file t was ≡ name_bytes file s was
  pub listing : (file : Option (List ℕ)) (r : Reading) (old new : List ℕ) (said : Result ℕ Refusal)
      → Gave (listing_rows file s (header_of s) r (length old)) (listing_text file s (header_of s) r) old new said
      → Gave (listing_rows file t (header_of t) r (length old)) (listing_text file t (header_of t) r) old new said
  pub line : (file : Option (List ℕ)) (r : Reading) (position : ℕ) (old new : List ℕ) (said : Result ℕ Refusal)
      → Gave (line_rows file s (header_of s) r position (length old)) (line_at file s (header_of s) r position) old new said
      → Gave (line_rows file t (header_of t) r position (length old)) (line_at file t (header_of t) r position) old new said
  pub recording : (slot : Slot) → said (recording slot t) ≡ said (recording slot s)
  pub registering : (object : Object) (name : List ℕ) → said (registering object name t) ≡ said (registering object name s)
  pub removing : (pointer : ℕ) → said (removing pointer t) ≡ said (removing pointer s)
