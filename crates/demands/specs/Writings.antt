-- What a user may ask of the calls that write, of any buffer and any arguments, in either byte order, where they are accepted.
use Rattle.std.specs.Prelude.{ℕ, suc, ◌+◌, ◌≤◌, ◌<◌, min, true, List, ◌≡◌, length, get_or, drop, take, None, Ok, Option, Some}
use Rattle.naming.specs.Writing.{record_bytes, record_size}
use Rattle.naming.specs.declared.Subject.{Subject}
use Rattle.rows.specs.Rows.{first_broken}
use Rattle.trace.specs.Check.{check_of, sound_dump}
use Rattle.trace.specs.Layout.{header_of, buffer_start, current_at, current_slot, entry_count, slot_at, slot_count, entry_at, entry_size, most_bytes, slot_size, with_current}
use Rattle.trace.specs.Names.{entry_name, find_name, name_bytes, name_if_entry, name_of, thread_entry, thread_name}
use Rattle.trace.specs.Registry.{is_wanted, type_at}
use Rattle.trace.specs.Slots.{slot_in}
use Rattle.trace.specs.Table.{registry_rows}
use Rattle.trace.specs.declared.Header.{Header}
use Rattle.trace.specs.declared.Slot.{Slot}
use Rattle.trace.specs.declared.ThreadKind.TheVariants.{Gone, Live}
use Rattle.trace.specs.declared.Wanted.TheVariants.{Free, InUse, Thread}
use Rattle.writing.specs.Bytes.{entry_bytes}
use Rattle.writing.specs.Keeping.{FoundNow, OneEach, Outside, SameEvents, SameName, entered, other_thread}
use Rattle.writing.specs.Table.{lowest_entry}
use Rattle.writing.specs.Writing.{cut, fresh_bytes, fresh_end, fresh_slot, fresh_slots, left, next_pointer, next_slot, registering, removing}
use Rattle.writing.specs.declared.Format.{Format}
use Rattle.writing.specs.declared.Object.{Object}

-- what formatting leaves, t with header h
pub record Formatted (f : Format) (s t : List ℕ) (h : Header) : Type 0 where
  -- its bytes are those of the header, of the free entries, and zeros for the slots; current is the start
  pub bytes : take (fresh_end f (length s)) t ≡ fresh_bytes f (length s)
  pub header : header_of t ≡ h
  pub current : current_at h ≡ buffer_start h
  -- it passes the whole check, with event count 0
  pub sound : check_of t ≡ Ok (sound_dump h 0)
  -- it has the entries asked for, each free, and as many slots as fit: at least one, and there is no room for one more
  pub entries : entry_count h ≡ f.entries
  pub free : (i : ℕ) → i < f.entries → is_wanted Free t h i ≡ true
  pub slots : slot_count h ≡ fresh_slots f (length s)
  pub one : 1 ≤ fresh_slots f (length s)
  pub no_more : length s < fresh_end f (length s) + fresh_slot f
  -- leftover bytes stay
  pub leftover : (i : ℕ) → fresh_end f (length s) ≤ i → get_or t i 0 ≡ get_or s i 0
  pub size : length t ≡ length s
  -- no pointer is in use twice, and nobody has a name: free entries are of type 0
  pub one_each : OneEach t h
  pub nobody : (pointer : ℕ) → find_name t pointer ≡ Ok None

-- what recording leaves, t, of a buffer s with header h
pub record Recorded (slot : Slot) (s t : List ℕ) (h : Header) : Type 0 where
  -- the slot at current has the words given, the stamp cut by the mask; the other slots have theirs
  pub this : slot_in h.order t (slot_at h (current_slot h)) ≡ cut h slot
  pub others : (i : ℕ) → (i ≡ current_slot h → ⊥) → slot_in h.order t (slot_at h i) ≡ slot_in h.order s (slot_at h i)
  -- no byte changes but those of current and of the slot at current
  pub size : length t ≡ length s
  pub untouched : (i : ℕ) → Outside 32 4 i → Outside (slot_at h (current_slot h)) (slot_size h) i → get_or t i 0 ≡ get_or s i 0
  -- current has moved on by one slot, and the header is otherwise as it was
  pub header : header_of t ≡ with_current h (next_pointer h)
  pub moved : current_slot (header_of t) ≡ next_slot h
  -- a sound dump stays sound, with one event more, or as many as there are slots
  pub sound : (n : ℕ) → check_of s ≡ Ok (sound_dump h n) → check_of t ≡ Ok (sound_dump (header_of t) (min (suc n) (slot_count h)))
  -- no name changes
  pub names : (pointer : ℕ) → SameName s t pointer
  pub one_each : OneEach s h → OneEach t (header_of t)

-- a pointer by which the object is not found as a thread
abbrev pub Aside : Object → ℕ → Type 0
Aside object pointer = object.object_type ≡ 1 → pointer ≡ object.pointer → ⊥

-- what registering leaves, t, of a buffer s with header h
pub record Registered (object : Object) (name s t : List ℕ) (h : Header) : Type 0 where
  -- no byte changes but the entry's
  pub size : length t ≡ length s
  pub untouched : (i : ℕ) → Outside (entry_at h (lowest_entry Free s h)) (entry_size h) i → get_or t i 0 ≡ get_or s i 0
  pub header : header_of t ≡ h
  -- the entry's bytes are all that was given
  pub entry : take (entry_size h) (drop (entry_at h (lowest_entry Free s h)) t) ≡ entry_bytes h.order h.name_size object name
  -- it is in use, with the pointer and the type given
  pub in_use : is_wanted (InUse object.pointer) t h (lowest_entry Free s h) ≡ true
  pub type : type_at t (entry_at h (lowest_entry Free s h)) ≡ object.object_type
  -- where rows 1 to 11 pass, a thread's name is found by its pointer, live, cut to the name size
  pub found : object.object_type ≡ 1 → first_broken (registry_rows s h) ≡ Ok tt → find_name t object.pointer ≡ Ok (entered s h name)
  pub bytes : (file : Option (List ℕ)) → name_bytes file t (entered s h name) ≡ Some (take h.name_size name)
  -- no other name changes, unless the entry had it, from a thread that is gone: where rows 1 to 11 pass, found is then the name of the lowest other thread that
  -- is gone and has the pointer, or none
  pub others : (pointer : ℕ) → Aside object pointer → (name_of s h pointer ≡ Some (entry_name Gone s h (lowest_entry Free s h)) → ⊥) → SameName s t pointer
  pub reused : first_broken (registry_rows s h) ≡ Ok tt → (pointer : ℕ) → Aside object pointer → name_of s h pointer ≡ Some (entry_name Gone s h (lowest_entry Free s h))
      → FoundNow s t pointer (name_if_entry Gone s h (other_thread Gone s h pointer (lowest_entry Free s h)))
  -- no event changes
  pub events : SameEvents s t h
  -- a sound dump stays sound
  pub sound : (n : ℕ) → check_of s ≡ Ok (sound_dump h n) → check_of t ≡ Ok (sound_dump h n)
  pub one_each : OneEach s h → OneEach t h

-- an entry is of type 1, and no other in-use entry of type 1 has the pointer
abbrev pub IsOnly : List ℕ → Header → ℕ → ℕ → Type 0
IsOnly s h pointer entry =
    (type_at s (entry_at h entry) ≡ 1) × ((i : ℕ) → i < entry_count h → is_wanted (Thread Live pointer) s h i ≡ true → i ≡ entry)

-- what removing leaves, t, of a buffer s with header h
pub record Removed (pointer : ℕ) (s t : List ℕ) (h : Header) : Type 0 where
  -- no byte changes but the entry's flag
  pub size : length t ≡ length s
  pub untouched : (i : ℕ) → (i ≡ entry_at h (lowest_entry (InUse pointer) s h) → ⊥) → get_or t i 0 ≡ get_or s i 0
  pub header : header_of t ≡ h
  -- of names where rows 1 to 11 pass: that of a thread whose pointer no other live one has is found as gone, from the lowest entry of a thread that is gone and
  -- has the pointer, which is the one removed unless such a one is lower, with its bytes as they were
  pub gone : first_broken (registry_rows s h) ≡ Ok tt → IsOnly s h pointer (lowest_entry (InUse pointer) s h)
      → FoundNow s t pointer (Some (entry_name Gone s h (min (thread_entry Gone s h pointer) (lowest_entry (InUse pointer) s h))))
  -- where another live thread has the pointer, the lowest of those is found
  pub still : first_broken (registry_rows s h) ≡ Ok tt → other_thread Live s h pointer (lowest_entry (InUse pointer) s h) < entry_count h
      → FoundNow s t pointer (Some (entry_name Live s h (other_thread Live s h pointer (lowest_entry (InUse pointer) s h))))
  -- its entry is free, and is the one that the next registration uses unless a lower one is free
  pub freed : is_wanted Free t h (lowest_entry (InUse pointer) s h) ≡ true
  pub free : lowest_entry Free t h ≡ min (lowest_entry Free s h) (lowest_entry (InUse pointer) s h)
  -- where rows 1 to 11 pass, no other name changes, and none at all where it was no thread's that was removed
  pub others : first_broken (registry_rows s h) ≡ Ok tt → (other : ℕ) → (type_at s (entry_at h (lowest_entry (InUse pointer) s h)) ≡ 1 → other ≡ pointer → ⊥) → SameName s t other
  -- no event changes
  pub events : SameEvents s t h
  -- a sound dump stays sound
  pub sound : (n : ℕ) → check_of s ≡ Ok (sound_dump h n) → check_of t ≡ Ok (sound_dump h n)
  pub one_each : OneEach s h → OneEach t h

-- a thread is removed, and an object, but no thread with that pointer, is then registered in the entry that it had: where rows 1 to 11 pass, its name is found
-- no more, but that of the lowest thread with its pointer that was gone before, or none
abbrev pub Reused : ℕ → Object → List ℕ → List ℕ → Type 0
Reused pointer object name s =
    let between = left (removing pointer s) s in
    first_broken (registry_rows s (header_of s)) ≡ Ok tt → IsOnly s (header_of s) pointer (lowest_entry (InUse pointer) s (header_of s))
    → lowest_entry Free between (header_of s) ≡ lowest_entry (InUse pointer) s (header_of s) → Aside object pointer
    → FoundNow s (left (registering object name between) between) pointer (thread_name Gone s (header_of s) pointer)

-- what writing a record of a name file leaves, t, of a buffer s (document 02, A7)
pub record Filed (subject : Subject) (number : ℕ) (name : List ℕ) (offset : ℕ) (s t : List ℕ) : Type 0 where
  -- it ends within the buffer, and within what a name file may have
  pub within : (offset + record_size name ≤ length s) × (offset + record_size name ≤ most_bytes)
  -- the record's bytes are all that was given, and no other byte changes
  pub bytes : take (record_size name) (drop offset t) ≡ record_bytes subject number name
  pub size : length t ≡ length s
  pub untouched : (i : ℕ) → Outside offset (record_size name) i → get_or t i 0 ≡ get_or s i 0
