-- Mending (document 02, A2), of any dump that it accepts: what the copy is, where and why it differs from the dump, and that nothing is invented and nothing sound is lost.
use Rattle.std.specs.Prelude.{ℕ, ◌+◌, ◌-◌, ◌≤◌, ◌<◌, Bool, true, false, cond, not, ◌&&◌, ◌||◌, List, [], ◌∷◌, ◌++◌, ◌≡◌, eqb, leb, ltb, drop, get_or, length, take, Ok}
use Rattle.mending.specs.Mending.{copy_of, mend_of, mended_told, mending_rows, repairs_of, mended_copy}
use Rattle.mending.specs.declared.Repairs.{Repairs}
use Rattle.rows.specs.Lent.{left_in}
use Rattle.rows.specs.Lowest.{count, lowest}
use Rattle.rows.specs.Rows.{Accepted, first_broken}
use Rattle.rows.specs.Told.{told_values}
use Rattle.trace.specs.Check.{check_of, sound_dump}
use Rattle.trace.specs.Layout.{buffer_end, current_slot, entry_at, entry_count, entry_size, header_of, header_size, registry_end, slot_at, slot_count, slot_size}
use Rattle.trace.specs.Names.{find_name, name_of}
use Rattle.trace.specs.Registry.{is_wanted}
use Rattle.trace.specs.Ring.{keep, numbers_from, oldest_first, slot_of}
use Rattle.trace.specs.Slots.{event_id, is_at_fault, is_fault, is_used, slot_in}
use Rattle.trace.specs.Table.{row10}
use Rattle.trace.specs.declared.Fault.TheVariants.{NoId, OutOfTurn}
use Rattle.trace.specs.declared.Header.{Header}
use Rattle.trace.specs.declared.Wanted.TheVariants.{BadType}
use Rattle.writing.specs.Keeping.{KeepsBytes, Outside}

-- a slot that lies wholly within the dump; one that does, is used and has id 0; one that does, is used and has another, and so came
abbrev pub is_whole : List ℕ → Header → ℕ → Bool
is_whole s h i = leb (slot_at h i + slot_size h) (length s)

abbrev pub lacks_id : List ℕ → Header → ℕ → Bool
lacks_id s h i = is_whole s h i && is_at_fault NoId s h i

abbrev pub has_come : List ℕ → Header → ℕ → Bool
has_come s h i = is_whole s h i && is_used s h i && not (eqb (event_id s h i) 0)

-- where the order begins: at current, or at the start where current is bad
abbrev pub first_slot : Header → ℕ
first_slot h = cond (row10 h).broken 0 (current_slot h)

-- the slots that came, from there to the end and then from the start
unfoldable pub came_of : List ℕ → List ℕ
came_of s =
    let h = header_of s in
    keep (has_come s h) (numbers_from (first_slot h) (slot_count h - first_slot h) ++ numbers_from 0 (first_slot h))

-- the used/unused rule fails of the slots that came: one of them is where none must be, or none where one must be
abbrev pub is_out : List ℕ → Header → ℕ → Bool
is_out s h i = is_fault OutOfTurn (has_come s h i) (has_come s h (first_slot h) || ltb i (first_slot h)) 0

abbrev pub are_out : List ℕ → Header → Bool
are_out s h = ltb (lowest (is_out s h) (slot_count h)) (slot_count h)

-- bytes from a place of one list are those from a place of another, so many; or are zeros
abbrev pub SameAt : List ℕ → ℕ → List ℕ → ℕ → ℕ → Type 0
SameAt s i t j n = (k : ℕ) → k < n → get_or t (j + k) 0 ≡ get_or s (i + k) 0

abbrev pub Zeros : List ℕ → ℕ → ℕ → Type 0
Zeros t at n = (k : ℕ) → k < n → get_or t (at + k) 0 ≡ 0

-- the copy where slots are in turn: zeros for a slot that is not whole or is used with id 0, and the dump's bytes for every other; current as it was, or the start
pub record InPlace (s t : List ℕ) (h : Header) : Type 0 where
  pub missing : (i : ℕ) → i < slot_count h → is_whole s h i ≡ false → Zeros t (slot_at h i) (slot_size h)
  pub ids : (i : ℕ) → i < slot_count h → lacks_id s h i ≡ true → Zeros t (slot_at h i) (slot_size h)
  pub others : (i : ℕ) → i < slot_count h → is_whole s h i ≡ true → lacks_id s h i ≡ false → SameAt s (slot_at h i) t (slot_at h i) (slot_size h)
  pub current : (row10 h).broken ≡ false → (header_of t).current ≡ h.current
  pub start : (row10 h).broken ≡ true → current_slot (header_of t) ≡ 0

-- the copy where they are not: those that came stand first, in their order, zeros follow, and current is behind the last, which is the start where there is none
pub record Packed (s t : List ℕ) (h : Header) : Type 0 where
  pub slots : (p : ℕ) → p < length (came_of s) → SameAt s (slot_at h (get_or (came_of s) p 0)) t (slot_at h p) (slot_size h)
  pub rest : (i : ℕ) → length (came_of s) ≤ i → i < slot_count h → Zeros t (slot_at h i) (slot_size h)
  pub current : current_slot (header_of t) ≡ length (came_of s)

-- the copy t of a dump s with header h, and what was mended
pub record Mends (s t : List ℕ) (h : Header) (r : Repairs) : Type 0 where
  -- "The copy ends at the buffer end", and "passes all checks", with as many events as slots came
  pub ends : length t ≡ buffer_end h
  pub passes : check_of t ≡ Ok (sound_dump (header_of t) (length (came_of s)))
  -- bytes of the header other than current stay
  pub header : (k : ℕ) → k < header_size → Outside 32 4 k → get_or t k 0 ≡ get_or s k 0
  -- an in-use entry with a bad type gets flag 1 and nothing else of it changes; other entries stay
  pub types : (i : ℕ) → i < entry_count h → is_wanted BadType s h i ≡ true → get_or t (entry_at h i) 0 ≡ 1
  pub rest : (i : ℕ) → i < entry_count h → (k : ℕ) → 1 ≤ k → k < entry_size h → get_or t (entry_at h i + k) 0 ≡ get_or s (entry_at h i + k) 0
  pub entries : (i : ℕ) → i < entry_count h → is_wanted BadType s h i ≡ false → SameAt s (entry_at h i) t (entry_at h i) (entry_size h)
  -- slots and current
  pub in_place : are_out s h ≡ false → InPlace s t h
  pub packed : are_out s h ≡ true → Packed s t h
  -- so each count is the number of places that were changed for that reason
  pub missing_count : r.missing ≡ count (λ i. not (is_whole s h i)) (slot_count h)
  pub current_count : r.current ≡ cond (row10 h).broken 1 0
  pub types_count : r.types ≡ count (is_wanted BadType s h) (entry_count h)
  pub ids_count : r.ids ≡ count (lacks_id s h) (slot_count h)
  pub packed_count : r.packed ≡ cond (are_out s h) 1 0
  pub moved_count : r.moved ≡ cond (are_out s h) (count (λ p. not (eqb (get_or (came_of s) p 0) p)) (length (came_of s))) 0
  -- nothing is invented and nothing sound is lost: the events are the slots that came, in their order, with all their bytes and so all their words
  pub events : (p : ℕ) → p < length (came_of s) → SameAt s (slot_at h (get_or (came_of s) p 0)) t (slot_at h (slot_of t (header_of t) p)) (slot_size h)
  pub words : (p : ℕ) → p < length (came_of s) → slot_in h.order t (slot_at h (slot_of t (header_of t) p)) ≡ slot_in h.order s (slot_at h (get_or (came_of s) p 0))
  -- and every name is found that the dump's registry has, at the same place, of the same kind and with the same bytes
  pub names : (pointer : ℕ) → (find_name t pointer ≡ Ok (name_of s h pointer)) × KeepsBytes s t (name_of s h pointer)

abbrev pub no_repairs : Repairs
no_repairs = record { missing = 0; current = 0; types = 0; ids = 0; packed = 0; moved = 0 }

pub record Mending : Type 0 where
  -- "Report six counts, in that order": what is told of a copy is its length, and then these
  pub reports : (n : ℕ) (r : Repairs) → mended_told (Ok (mended_copy n r)) ≡ told_values (n ∷ r.missing ∷ r.current ∷ r.types ∷ r.ids ∷ r.packed ∷ r.moved ∷ [])
  -- what an accepted call gives and leaves: the copy's length and the counts; the copy stands at the front of the output, whose bytes past it stay
  pub gives : (s old : List ℕ) (n : ℕ) (r : Repairs) → mend_of s (length old) ≡ Ok (mended_copy n r)
      → let copy = copy_of s (header_of s) in
      (n ≡ length copy) × (r ≡ repairs_of s (header_of s)) × (left_in old (first_broken (mending_rows s (header_of s) (length old))) copy ≡ copy ++ drop n old)
  pub mends : (s : List ℕ) (room : ℕ) → Accepted (mending_rows s (header_of s) room) → Mends s (copy_of s (header_of s)) (header_of s) (repairs_of s (header_of s))
  -- "a dump that passes already keeps its bytes up to the buffer end, with six zeros", where there is room
  pub sound : (s : List ℕ) (h : Header) (n room : ℕ) → check_of s ≡ Ok (sound_dump h n) → buffer_end (header_of s) ≤ room
      → (mend_of s room ≡ Ok (mended_copy (buffer_end (header_of s)) no_repairs)) × (copy_of s (header_of s) ≡ take (buffer_end (header_of s)) s)
  -- and so does a copy, which is mended to itself, with six zeros, where there is room for it
  pub again : (s : List ℕ) (room more : ℕ) → Accepted (mending_rows s (header_of s) room)
      → let copy = copy_of s (header_of s) in
      length copy ≤ more → (mend_of copy more ≡ Ok (mended_copy (length copy) no_repairs)) × (copy_of copy (header_of copy) ≡ copy)
  -- of the first n bytes of a sound dump, where the registry is among them, the events are mended that came whole, in their order
  pub cut : (s : List ℕ) (h : Header) (m n room : ℕ) → check_of s ≡ Ok (sound_dump h m) → registry_end (header_of s) ≤ n → buffer_end (header_of s) ≤ room
      → let came = take n s in
      Accepted (mending_rows came (header_of came) room) × (header_of came ≡ header_of s)
      × (came_of came ≡ keep (λ i. leb (slot_at (header_of s) i + slot_size (header_of s)) (length came)) (oldest_first s (header_of s)))
