-- Two dumps under one header whose slots have the same words and whose names are the same: with a name file or without, the events are the same, and so are their lines.
use Rattle.std.specs.Prelude.{None, Some, Option}
use Prim.Native.Nat.{ℕ, zero, suc, ◌<◌}
use mathlib.Core.Bool.{Bool, true, false, cond}
use mathlib.Core.List.{List, ◌++◌}
use mathlib.Core.Path.{◌≡◌, refl, ap, ap₂, ◌∙◌}
use Rattle.events.specs.Events.{context_of, event_at, event_in, name_for}
use Rattle.events.specs.Listing.{fields, line_at, line_of, lines_to, listing_text, title_in}
use Rattle.events.specs.declared.Reading.{Reading}
use Rattle.naming.specs.Finding.{name_with}
use Rattle.naming.specs.Records.{first_record, has_record, name_at, name_in, record_at, record_name}
use Rattle.naming.specs.declared.Sought.TheVariants.{Naming}
use Rattle.naming.specs.declared.Subject.{Subject}
use Rattle.naming.specs.declared.Subject.TheVariants as subject
use Rattle.text.specs.Lines.{line}
use Rattle.text.specs.declared.Context.{Context}
use Rattle.text.specs.declared.Context.TheVariants.{Init, Isr, Thread}
use Rattle.trace.proofs.SameDumps.{events_same, slot_same, ticks_same}
use Rattle.trace.specs.Layout.{current_slot, slot_at, slot_count}
use Rattle.trace.specs.Names.{name_bytes, name_of}
use Rattle.trace.specs.Slots.{event_count, slot_in}
use Rattle.trace.specs.declared.Header.{Header}
use Rattle.trace.specs.declared.Slot.{Slot}
use Rattle.writing.proofs.SameNames.{SameNamed, chosen_agrees}
use Rattle.writing.specs.Keeping.{KeepsBytes}

module _ (file : Option (List ℕ)) (s t : List ℕ) (h : Header) (inside : current_slot h < slot_count h)
    (words : (i : ℕ) → i < slot_count h → slot_in h.order t (slot_at h i) ≡ slot_in h.order s (slot_at h i))
    (names : (pointer : ℕ) → SameNamed s t (name_of s h pointer) (name_of t h pointer)) where
  -- a name of the name file is the same, whatever the dump
  filed_same : (subject : Subject) (number : ℕ) → KeepsBytes s t (name_in subject file number)
  unfolding name_bytes name_in record_name
  filed_same subject number = by file
    where
      kept : (f : List ℕ) (has : Bool) → KeepsBytes s t (cond has (Some (name_at f (record_at f (first_record (Naming subject number) f)))) None)
      kept f true given = refl
      kept f false given = refl

      by : (file : Option (List ℕ)) → KeepsBytes s t (name_in subject file number)
      by None given = refl
      by (Some f) given = kept f (has_record (Naming subject number) f) given

  pub with_same : (pointer : ℕ) → SameNamed s t (name_with file s h pointer) (name_with file t h pointer)
  unfolding name_with
  with_same pointer = chosen_agrees s t (name_of s h pointer) (name_in subject.Thread file pointer) (names pointer) (refl, filed_same subject.Thread pointer)

  named_same : (by : Context) (slot : Slot) → SameNamed s t (name_for by file s h slot) (name_for by file t h slot)
  unfolding name_for name_bytes
  named_same Init slot = (refl, λ given. refl)
  named_same Isr slot = with_same slot.field
  named_same Thread slot = with_same slot.pointer

  in_same : (slot : Slot) (ticks : ℕ) → event_in file t h slot ticks ≡ event_in file s h slot ticks
  unfolding event_in
  in_same slot ticks = λ k. record {
    slot = slot;
    ticks = ticks;
    by = context_of slot.pointer;
    name = (named_same (context_of slot.pointer) slot).0 k;
    title = name_in subject.Event file slot.id;
  }

  pub event_same : (p : ℕ) → event_at file t h p ≡ event_at file s h p
  event_same p = ap₂ (event_in file t h) (slot_same s t h inside words p) (ticks_same s t h inside words p) ∙ in_same _ _

  pub event_name_same : (p : ℕ) → name_bytes file t (event_at file s h p).name ≡ name_bytes file s (event_at file s h p).name
  unfolding event_in
  event_name_same p = (named_same (event_at file s h p).by (event_at file s h p).slot).1 file

  title_same : (p : ℕ) → title_in file t (event_at file s h p) ≡ title_in file s (event_at file s h p)
  unfolding event_in title_in
  title_same p = by file (filed_same subject.Event (event_at file s h p).slot.id file)
    where
      by : (given : Option (List ℕ)) → name_bytes given t (event_at file s h p).title ≡ name_bytes given s (event_at file s h p).title
          → title_in given t (event_at file s h p) ≡ title_in given s (event_at file s h p)
      by None same = refl
      by (Some f) same = ap Some same

  pub line_same : (r : Reading) (p : ℕ) → line_at file t h r p ≡ line_at file s h r p
  unfolding line_of
  line_same r p = ap (line_of file t r p) (event_same p) ∙ ap₂ (line (fields r p (event_at file s h p))) (title_same p) (event_name_same p)

  lines_same : (r : Reading) (n : ℕ) → lines_to n file t h r ≡ lines_to n file s h r
  unfolding lines_to
  lines_same r zero = refl
  lines_same r (suc n) = ap₂ (λ (lines more : List ℕ). lines ++ more) (lines_same r n) (line_same r n)

  pub listing_same : (r : Reading) → listing_text file t h r ≡ listing_text file s h r
  listing_same r = ap (λ (n : ℕ). lines_to n file t h r) (events_same s t h inside words) ∙ lines_same r (event_count s h)
