-- One description: what the writer lays down in bytes of either order, the reader reads back, whatever stands around it.
use Rattle.std.specs.Prelude.{ℕ, ◌+◌, ◌-◌, ◌≤◌, ◌<◌, true, false, List, ◌++◌, ◌≡◌, drop, get_or, length, replicate, take}
use Rattle.std.proofs.lemmas.List.Edits.{sets}
use Rattle.trace.specs.Layout.{header_of, header_size, name_offset}
use Rattle.trace.specs.Registry.{is_in_use, pointer_at, type_at}
use Rattle.trace.specs.Slots.{slot_in}
use Rattle.trace.specs.declared.Header.{Header}
use Rattle.trace.specs.declared.Slot.{Slot}
use Rattle.words.specs.Words.{word_at}
use Rattle.words.specs.declared.Order.{Order}
use Rattle.writing.specs.Arguments.{IsHeader, IsObject, IsSlot}
use Rattle.writing.specs.Bytes.{entry_bytes, free_entry, header_bytes, if_thread, slot_bytes}
use Rattle.writing.specs.declared.Object.{Object}
use Rattle.demands.specs.NotRead.{ReservedInHeader}

-- what is read of an entry's bytes at a place: its flag 0, and all that was given; the reserved bytes as given for a thread and 0 otherwise
pub record EntryRead (o : Order) (object : Object) (name : List ℕ) (size : ℕ) (t : List ℕ) (at : ℕ) : Type 0 where
  pub flag : get_or t at 0 ≡ 0
  pub in_use : is_in_use t at ≡ true
  pub type : type_at t at ≡ object.object_type
  pub reserved_one : get_or t (at + 2) 0 ≡ if_thread object object.reserved_one
  pub reserved_two : get_or t (at + 3) 0 ≡ if_thread object object.reserved_two
  pub pointer : pointer_at o t at ≡ object.pointer
  pub parameter_one : word_at o t (at + 8) ≡ object.parameter_one
  pub parameter_two : word_at o t (at + 12) ≡ object.parameter_two
  -- the name, cut to the name size and padded with zeros
  pub name-bytes : take size (drop (at + name_offset) t) ≡ take size name ++ replicate (size - length name) 0

pub record Layouts : Type 0 where
  -- a header at the front of a buffer, with its byte order; its reserved fields are 0
  pub header : (h : Header) (s : List ℕ) → IsHeader h → header_size ≤ length s → header_of (sets s 0 (header_bytes h)) ≡ h
  pub reserved : (h : Header) (s : List ℕ) → header_size ≤ length s → (i : ℕ) → ReservedInHeader i → get_or (sets s 0 (header_bytes h)) i 0 ≡ 0
  -- an entry in use, and a free one, which has flag 1 and otherwise zeros
  pub entry : (o : Order) (object : Object) (name s : List ℕ) (size at : ℕ) → IsObject object → at + (name_offset + size) ≤ length s
      → EntryRead o object name size (sets s at (entry_bytes o size object name)) at
  pub free : (s : List ℕ) (size at : ℕ) → at + size ≤ length s → 1 ≤ size
      → let t = sets s at (free_entry size) in
      (is_in_use t at ≡ false) × (get_or t at 0 ≡ 1) × ((k : ℕ) → 1 ≤ k → k < size → get_or t (at + k) 0 ≡ 0)
  -- a slot: its eight words
  pub slot : (o : Order) (slot : Slot) (s : List ℕ) (at : ℕ) → IsSlot slot → at + length (slot_bytes o slot) ≤ length s
      → slot_in o (sets s at (slot_bytes o slot)) at ≡ slot
