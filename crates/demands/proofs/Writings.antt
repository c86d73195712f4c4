-- The calls that write do what a user may ask of them, by the laws of writing.
use Rattle.std.specs.Prelude.{Ok}
use Prim.Native.Nat.{ℕ, suc, ◌+◌, ◌^◌, ◌≤◌, ◌<◌, min}
use mathlib.Core.List.{List}
use mathlib.Core.Path.{◌≡◌, sym, ap, ◌∙◌}
use borrow.Author.Tests.{ltb-false}
use lib.ListN.{length}
use lib.Seq.{length-sets, sets}
use Rattle.naming.proofs.ReadBack.{record_length}
use Rattle.naming.specs.Writing.{record_bytes, record_size, row28}
use Rattle.naming.specs.declared.Subject.{Subject}
use Rattle.rows.proofs.Rows.{further, here, unbroken}
use Rattle.rows.specs.Rows.{Accepted}
use Rattle.trace.specs.Check.{sound_dump}
use Rattle.trace.specs.Layout.{header_of, current_slot, most_bytes, slot_count, with_current}
use Rattle.trace.specs.Table.{row16}
use Rattle.trace.specs.declared.Header.{Header}
use Rattle.trace.specs.declared.Slot.{Slot}
use Rattle.words.proofs.Laws.{sets_other}
use Rattle.words.proofs.Runs.{run_back}
use Rattle.writing.proofs.Fresh.{current_fresh, fresh-bytes, fresh_entries, fresh_free, fresh-header, fresh_leftover, fresh_most, fresh_nobody, fresh_one_each, fresh-slots, fresh_some, fresh_sound, fresh_size}
use Rattle.writing.proofs.Recorded.{recorded_current, recorded_header, recorded_names, recorded_one_each, recorded_others, recorded_slot, recorded_sound, recorded_size, recorded_untouched}
use Rattle.writing.proofs.Registered.{registered_bytes, registered_entry, registered_events, registered_found, registered_header, registered_one_each, registered_others, registered_reused, registered_sound, registered_size, registered_untouched, registered_in_use, registered_type}
use Rattle.writing.proofs.Removed.{removed_events, removed_free, removed_gone, removed_header, removed_one_each, removed_others, removed_still, removed_sound, removed_size, removed_untouched, removed_freed}
use Rattle.writing.proofs.Reused.{reused_name}
use Rattle.writing.specs.Arguments.{IsSlot}
use Rattle.writing.specs.Writing.{filing, formatting, fresh_end, fresh_header, left, next_pointer, recording, registering, removing}
use Rattle.writing.specs.declared.Format.{Format}
use Rattle.writing.specs.declared.Object.{Object}
use Rattle.demands.specs.Writings.{Filed, Formatted, Recorded, Registered, Removed, Reused}

pub formatting_makes : (f : Format) (s : List ℕ) → f.base < 2 ^ 32 → Accepted (formatting f s).rows
    → Formatted f s (left (formatting f s) s) (fresh_header f (fresh_end f (length s)))
formatting_makes f s base accepted = record {
  bytes = fresh-bytes f s accepted;
  header = fresh-header f s accepted base;
  current = current_fresh f (fresh_end f (length s));
  sound = fresh_sound f s accepted base;
  entries = fresh_entries f s accepted;
  free = fresh_free f s accepted base;
  slots = fresh-slots f s accepted;
  one = fresh_some f s accepted;
  no_more = fresh_most f s accepted;
  leftover = fresh_leftover f s accepted;
  size = fresh_size f s accepted;
  one_each = fresh_one_each f s accepted base;
  nobody = fresh_nobody f s accepted base;
}

pub recording_leaves : (slot : Slot) (s : List ℕ) → IsSlot slot → Accepted (recording slot s).rows → Recorded slot s (left (recording slot s) s) (header_of s)
recording_leaves slot s words accepted = record {
  this = recorded_slot slot s accepted words;
  others = recorded_others slot s accepted;
  size = recorded_size slot s accepted;
  untouched = recorded_untouched slot s accepted;
  header = header;
  moved = ap current_slot header ∙ recorded_current slot s accepted;
  sound = λ n sound. recorded_sound slot s accepted words n sound ∙ ap (λ (h : Header). Ok (sound_dump h (min (suc n) (slot_count (header_of s))))) (sym header);
  names = recorded_names slot s accepted;
  one_each = recorded_one_each slot s accepted;
}
  where
    header : header_of (left (recording slot s) s) ≡ with_current (header_of s) (next_pointer (header_of s))
    header = recorded_header slot s accepted

pub registering_leaves : (object : Object) (name s : List ℕ) → object.pointer < 2 ^ 32 → Accepted (registering object name s).rows
    → Registered object name s (left (registering object name s) s) (header_of s)
registering_leaves object name s word accepted = record {
  size = registered_size object name s accepted;
  untouched = registered_untouched object name s accepted;
  header = registered_header object name s accepted;
  entry = registered_entry object name s accepted;
  in_use = registered_in_use object name s accepted word;
  type = registered_type object name s accepted word;
  found = registered_found object name s accepted word;
  bytes = registered_bytes object name s accepted;
  others = registered_others object name s accepted word;
  reused = λ sound pointer aside. registered_reused object name s accepted word pointer aside sound;
  events = registered_events object name s accepted;
  sound = registered_sound object name s accepted word;
  one_each = registered_one_each object name s accepted word;
}

pub removing_leaves : (pointer : ℕ) (s : List ℕ) → Accepted (removing pointer s).rows → Removed pointer s (left (removing pointer s) s) (header_of s)
removing_leaves pointer s accepted = record {
  size = removed_size pointer s accepted;
  untouched = removed_untouched pointer s accepted;
  header = removed_header pointer s accepted;
  gone = λ sound only. removed_gone pointer s accepted sound only.0 only.1;
  still = removed_still pointer s accepted;
  freed = removed_freed pointer s accepted;
  free = removed_free pointer s accepted;
  others = removed_others pointer s accepted;
  events = removed_events pointer s accepted;
  sound = removed_sound pointer s accepted;
  one_each = removed_one_each pointer s accepted;
}

pub reusing_leaves : (pointer : ℕ) (object : Object) (name s : List ℕ) → object.pointer < 2 ^ 32 → Accepted (removing pointer s).rows
    → Accepted (registering object name (left (removing pointer s) s)).rows → Reused pointer object name s
reusing_leaves pointer object name s word removed registered sound only = reused_name pointer object name s removed registered word sound only.0 only.1

pub filing_leaves : (subject : Subject) (number : ℕ) (name : List ℕ) (offset : ℕ) (s : List ℕ) → Accepted (filing subject number name offset s).rows
    → Filed subject number name offset s (left (filing subject number name offset s) s)
unfolding filing row16 row28
filing_leaves subject number name offset s accepted = record {
  within = (room, ltb-false most_bytes (offset + record_size name) (unbroken accepted (row28 (offset + record_size name)) here));
  bytes = rw stored (rw long at (run_back bytes s offset (rw long room)));
  size = rw stored (length-sets s offset bytes);
  untouched = λ i aside. rw stored (sets_other bytes s offset i (rw long aside));
}
  where
    bytes : List ℕ
    bytes = record_bytes subject number name

    long : length bytes ≡ record_size name
    long = record_length subject number name

    stored : left (filing subject number name offset s) s ≡ sets s offset bytes
    stored = rw accepted

    room : offset + record_size name ≤ length s
    room = ltb-false (length s) (offset + record_size name) (unbroken accepted (row16 (offset + record_size name) (length s)) (further here))
