-- Names in the documents' own words: whose name it is, live or gone (document 02, A5), where it begins and ends, and by what an event's names are sought, with a name file (A7) or without.
use Rattle.std.specs.Prelude.{ℕ, ◌+◌, ◌≤◌, ◌<◌, Bool, true, false, List, ◌⊎◌, ◌≡◌, get_or, length, Err, None, Ok, Option, Result, Some}
use Rattle.events.specs.Events.{context_of, event_of}
use Rattle.events.specs.Listing.{fields}
use Rattle.events.specs.declared.Event.{Event}
use Rattle.events.specs.declared.Reading.{Reading}
use Rattle.naming.specs.Finding.{find_name_with, name_with}
use Rattle.naming.specs.Records.{name_in}
use Rattle.naming.specs.declared.Subject.TheVariants as subject
use Rattle.rows.specs.declared.Refusal.{Refusal}
use Rattle.text.specs.declared.Context.TheVariants.{Init, Isr, Thread}
use Rattle.trace.specs.Layout.{header_of, entry_at, entry_count, name_offset}
use Rattle.trace.specs.Names.{file_bytes, find_name, name_found, name_of, name_length, name_start}
use Rattle.trace.specs.Registry.{is_in_use, pointer_at, type_at}
use Rattle.trace.specs.declared.Header.{Header}
use Rattle.trace.specs.declared.Name.TheVariants.{Filed, Named}
use Rattle.trace.specs.declared.Name.{Name}
use Rattle.trace.specs.declared.ThreadKind.{ThreadKind}
use Rattle.trace.specs.declared.ThreadKind.TheVariants.{Gone, Live}

-- a live thread's entry is in use, and that of one that is gone is free
abbrev pub IsOf : ThreadKind → Bool → Type 0
IsOf Live used = used ≡ true
IsOf Gone used = used ≡ false

-- such an entry, of type 1, with a pointer
abbrev pub IsThread : ThreadKind → List ℕ → Header → ℕ → ℕ → Type 0
IsThread kind s h pointer i = IsOf kind (is_in_use s (entry_at h i)) × (type_at s (entry_at h i) ≡ 1) × (pointer_at h.order s (entry_at h i) ≡ pointer)

-- the lowest of them
pub record Lowest (kind : ThreadKind) (s : List ℕ) (h : Header) (pointer i : ℕ) : Type 0 where
  pub below : i < entry_count h
  pub is : IsThread kind s h pointer i
  pub no_lower : (j : ℕ) → j < i → IsThread kind s h pointer j → ⊥

-- a name begins at an entry's 16 and runs to its first zero byte or the name size
pub record Extends (s : List ℕ) (h : Header) (i at size : ℕ) : Type 0 where
  pub begins : at ≡ entry_at h i + name_offset
  pub no_zero : (k : ℕ) → k < size → get_or s (at + k) 0 ≡ 0 → ⊥
  pub ends : (size ≡ h.name_size) ⊎ ((size < h.name_size) × (get_or s (at + size) 0 ≡ 0))

-- the name in an answer about an event: none in a refusal
abbrev pub name_shown : Result Event Refusal → Option Name
name_shown (Err f) = None
name_shown (Ok event) = event.name

abbrev pub LiesWithin : Option Name → List ℕ → Type 0
LiesWithin name s = name_start name + name_length name ≤ length s

-- where a name lies: one of the name file in that, and any other in the dump
abbrev pub lying_in : Option (List ℕ) → List ℕ → Option Name → List ℕ
lying_in file s None = s
lying_in file s (Some (Named kind at length)) = s
lying_in file s (Some (Filed at length)) = file_bytes file

abbrev pub LiesThere : Option (List ℕ) → List ℕ → Option Name → Type 0
LiesThere file s name = LiesWithin name (lying_in file s name)

pub record Names (s : List ℕ) : Type 0 where
  -- the name for a pointer is that of the lowest entry of type 1 with it, among those in use where it is live and among the free ones where it is gone
  pub named : (pointer : ℕ) (kind : ThreadKind) (at size : ℕ) → name_of s (header_of s) pointer ≡ Some (Named kind at size)
      → (i : ℕ) × Lowest kind s (header_of s) pointer i × Extends s (header_of s) i at size
  -- a live one always wins, so it is gone only where no in-use entry of type 1 has the pointer; where there is none, no entry of type 1 has it
  pub live_wins : (pointer i : ℕ) → i < entry_count (header_of s) → IsThread Live s (header_of s) pointer i
      → (at : ℕ) × (size : ℕ) × (name_of s (header_of s) pointer ≡ Some (Named Live at size))
  pub gone_alone : (pointer at size : ℕ) → name_of s (header_of s) pointer ≡ Some (Named Gone at size)
      → (i : ℕ) → i < entry_count (header_of s) → IsThread Live s (header_of s) pointer i → ⊥
  pub nameless : (pointer : ℕ) → name_of s (header_of s) pointer ≡ None
      → (kind : ThreadKind) (i : ℕ) → i < entry_count (header_of s) → IsThread kind s (header_of s) pointer i → ⊥
  -- finding a name gives that, whatever the pointer's context
  pub searched : (pointer : ℕ) (name : Option Name) → find_name s pointer ≡ Ok name → name ≡ name_of s (header_of s) pointer
  -- it lies within the dump, whatever the bytes; where there is none, and in a refusal, its length is 0 (that the part handed back is this one: `calls` in
  -- `contracts`)
  pub within : (pointer : ℕ) → LiesWithin (name_found (find_name s pointer)) s
  pub none_empty : (pointer : ℕ) → find_name s pointer ≡ Ok None → name_length (name_found (find_name s pointer)) ≡ 0
  pub refused_empty : (pointer : ℕ) (f : Refusal) → find_name s pointer ≡ Err f → name_length (name_found (find_name s pointer)) ≡ 0
  -- with a name file it is the dump's or else the file's (`name_files`), and lies within whichever of the two it is of
  pub searched_with : (file : Option (List ℕ)) (pointer : ℕ) (name : Option Name) → find_name_with file s pointer ≡ Ok name → name ≡ name_with file s (header_of s) pointer
  pub within_with : (file : Option (List ℕ)) (pointer : ℕ) → LiesThere file s (name_found (find_name_with file s pointer))
  -- an event's context is by its thread pointer: 0xF0F0F0F0 is "init", 0xFFFFFFFF is "isr", others "thread"
  pub init : context_of 0xF0F0F0F0 ≡ Init
  pub isr : context_of 0xFFFFFFFF ≡ Isr
  pub thread : (pointer : ℕ) → (pointer ≡ 0xF0F0F0F0 → ⊥) → (pointer ≡ 0xFFFFFFFF → ⊥) → context_of pointer ≡ Thread
  -- its name is found by the thread pointer for "thread", by the priority field for "isr"; for "init" there is none
  pub event_by : (file : Option (List ℕ)) (position : ℕ) (e : Event) → event_of file s position ≡ Ok e → e.by ≡ context_of e.slot.pointer
  pub thread-name : (file : Option (List ℕ)) (position : ℕ) (e : Event) → event_of file s position ≡ Ok e → e.by ≡ Thread
      → e.name ≡ name_with file s (header_of s) e.slot.pointer
  pub isr_name : (file : Option (List ℕ)) (position : ℕ) (e : Event) → event_of file s position ≡ Ok e → e.by ≡ Isr
      → e.name ≡ name_with file s (header_of s) e.slot.field
  pub init_name : (file : Option (List ℕ)) (position : ℕ) (e : Event) → event_of file s position ≡ Ok e → e.by ≡ Init → e.name ≡ None
  -- and its own name is the file's for its id
  pub title : (file : Option (List ℕ)) (position : ℕ) (e : Event) → event_of file s position ≡ Ok e → e.title ≡ name_in subject.Event file e.slot.id
  -- its line has "gone":true for the name of a thread that is gone, and otherwise false, also where the name is the file's and where there is none
  pub says_gone : (r : Reading) (position : ℕ) (e : Event) (at size : ℕ) → e.name ≡ Some (Named Gone at size) → (fields r position e).gone ≡ true
  pub says_live : (r : Reading) (position : ℕ) (e : Event) (at size : ℕ) → e.name ≡ Some (Named Live at size) → (fields r position e).gone ≡ false
  pub says_filed : (r : Reading) (position : ℕ) (e : Event) (at size : ℕ) → e.name ≡ Some (Filed at size) → (fields r position e).gone ≡ false
  pub says_none : (r : Reading) (position : ℕ) (e : Event) → e.name ≡ None → (fields r position e).gone ≡ false
  -- both lie within the dump or within the file, whichever they are of
  pub event_within : (file : Option (List ℕ)) (position : ℕ) → LiesThere file s (name_shown (event_of file s position))
  pub title_within : (file : Option (List ℕ)) (position : ℕ) (e : Event) → event_of file s position ≡ Ok e → LiesThere file s e.title
