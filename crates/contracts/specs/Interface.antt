-- The calls for C: each asks nothing and has one answer, whose numbers are those that the library's answer tells; 0 says that a call was accepted; names lie within
-- the dump or the name file.
use Rattle.std.specs.Prelude.{ℕ, ◌+◌, ◌≤◌, cond, List, ◌⊎◌, ◌≡◌, eqb, length, None, Ok, Option, Some}
use Rattle.demands.specs.Refusals.{Refuses, RefusesAndKeeps}
use Rattle.events.specs.Events.{context_number, event_of, event_rows}
use Rattle.events.specs.Listing.{Gave, line_at, line_rows, listing_rows, listing_text}
use Rattle.events.specs.declared.Event.{Event}
use Rattle.events.specs.declared.Reading.{Reading}
use Rattle.lepsaino_c.proofs as calls
use Rattle.lepsaino_c.proofs.answers as answers
use Rattle.lepsaino_c.specs.contracts as calls-contracts
use Rattle.lepsaino_c.specs.contracts.answers as answers-contracts
use Rattle.lepsaino_c.specs.Answers.{GaveNumbers, answer_of, check_answer, check_answer_of, event_answer, event_answer_of, format_given, number_answer, mend_answer, mend_answer_of, name_answer, name_answer_of, order_given, subject_given}
use Rattle.lepsaino_c.specs.declared.answers.Answer.{Answer}
use Rattle.lepsaino_c.specs.declared.answers.EventAnswer.{EventAnswer}
use Rattle.lepsaino_c.specs.declared.answers.NameAnswer.{NameAnswer}
use Rattle.mending.specs.Mending.{mend_of, mending_rows, mended_copy}
use Rattle.mending.specs.declared.Repairs.{Repairs}
use Rattle.naming.specs.Finding.{find_name_with, finding_rows}
use Rattle.naming.specs.declared.Subject.{Subject}
use Rattle.naming.specs.declared.Subject.TheVariants as subject
use Rattle.pieces.specs.Pieces.{begun, fed, finish_rows, finished}
use Rattle.pieces.specs.declared.Pieces.{Pieces}
use Rattle.rows.specs.Rows.{Accepted, Row}
use Rattle.rows.specs.Told.{Told, told_refusal}
use Rattle.rows.specs.declared.Refusal.{Refusal}
use Rattle.text.specs.Numbers.{number}
use Rattle.text.specs.Output.{Put, printed}
use Rattle.trace.specs.Check.{check_of, order_number, sound_dump}
use Rattle.trace.specs.Layout.{header_of}
use Rattle.trace.specs.Names.{find_name}
use Rattle.trace.specs.Table.{dump_rows, registry_rows}
use Rattle.trace.specs.declared.Header.{Header}
use Rattle.trace.specs.declared.Name.TheVariants.{Filed, Named}
use Rattle.trace.specs.declared.ThreadKind.TheVariants.{Gone, Live}
use Rattle.trace.specs.declared.Slot.{Slot}
use Rattle.words.specs.declared.Order.{Order}
use Rattle.writing.specs.Writing.{filing, formatting, recording, registering, removing, said}
use Rattle.writing.specs.declared.Format.{Format}
use Rattle.writing.specs.declared.Object.{Object}
use Rattle.contracts.specs.Calls.{Allows, Changed, Mended}
use Rattle.contracts.specs.Settled.{Settled}

pub record Interface : Type 0 where
  pub lepsaino_check : Settled calls-contracts.lepsaino_check.ended calls.lepsaino_check.Reads.Asked calls.lepsaino_check.Reads.Learnt
  pub lepsaino_begin : Settled calls-contracts.lepsaino_begin.ended calls.lepsaino_begin.Reads.Asked calls.lepsaino_begin.Reads.Learnt
  pub lepsaino_feed : Settled calls-contracts.lepsaino_feed.ended calls.lepsaino_feed.Reads.Asked calls.lepsaino_feed.Reads.Learnt
  pub lepsaino_finish : Settled calls-contracts.lepsaino_finish.ended calls.lepsaino_finish.Reads.Asked calls.lepsaino_finish.Reads.Learnt
  pub lepsaino_event : Settled calls-contracts.lepsaino_event.ended calls.lepsaino_event.Reads.Asked calls.lepsaino_event.Reads.Learnt
  pub lepsaino_event_with_names : Settled calls-contracts.lepsaino_event_with_names.ended calls.lepsaino_event_with_names.Reads.Asked calls.lepsaino_event_with_names.Reads.Learnt
  pub lepsaino_find_name : Settled calls-contracts.lepsaino_find_name.ended calls.lepsaino_find_name.Reads.Asked calls.lepsaino_find_name.Reads.Learnt
  pub lepsaino_find_name_with_names : Settled calls-contracts.lepsaino_find_name_with_names.ended calls.lepsaino_find_name_with_names.Reads.Asked calls.lepsaino_find_name_with_names.Reads.Learnt
  pub lepsaino_line : Settled calls-contracts.lepsaino_line.ended calls.lepsaino_line.Reads.Asked calls.lepsaino_line.Reads.Learnt
  pub lepsaino_line_with_names : Settled calls-contracts.lepsaino_line_with_names.ended calls.lepsaino_line_with_names.Reads.Asked calls.lepsaino_line_with_names.Reads.Learnt
  pub lepsaino_listing : Settled calls-contracts.lepsaino_listing.ended calls.lepsaino_listing.Reads.Asked calls.lepsaino_listing.Reads.Learnt
  pub lepsaino_listing_with_names : Settled calls-contracts.lepsaino_listing_with_names.ended calls.lepsaino_listing_with_names.Reads.Asked calls.lepsaino_listing_with_names.Reads.Learnt
  pub lepsaino_number : Settled calls-contracts.lepsaino_number.ended calls.lepsaino_number.Reads.Asked calls.lepsaino_number.Reads.Learnt
  pub lepsaino_format : Settled calls-contracts.lepsaino_format.ended calls.lepsaino_format.Reads.Asked calls.lepsaino_format.Reads.Learnt
  pub lepsaino_record : Settled calls-contracts.lepsaino_record.ended calls.lepsaino_record.Reads.Asked calls.lepsaino_record.Reads.Learnt
  pub lepsaino_register : Settled calls-contracts.lepsaino_register.ended calls.lepsaino_register.Reads.Asked calls.lepsaino_register.Reads.Learnt
  pub lepsaino_remove : Settled calls-contracts.lepsaino_remove.ended calls.lepsaino_remove.Reads.Asked calls.lepsaino_remove.Reads.Learnt
  pub lepsaino_write_name : Settled calls-contracts.lepsaino_write_name.ended calls.lepsaino_write_name.Reads.Asked calls.lepsaino_write_name.Reads.Learnt
  pub lepsaino_mend : Settled calls-contracts.lepsaino_mend.ended calls.lepsaino_mend.Reads.Asked calls.lepsaino_mend.Reads.Learnt

-- the conversions of the library's answers to the structs for C
pub record Conversions : Type 0 where
  pub answer : Settled answers-contracts.AnswerFromResultUsizeRefusal.from.ended answers.AnswerFromResultUsizeRefusal.from.Reads.Asked answers.AnswerFromResultUsizeRefusal.from.Reads.Learnt
  pub name : Settled answers-contracts.NameAnswerFromResultOptionNameRefusal.from.ended answers.NameAnswerFromResultOptionNameRefusal.from.Reads.Asked answers.NameAnswerFromResultOptionNameRefusal.from.Reads.Learnt
  pub check : Settled answers-contracts.CheckAnswerFromResultSoundRefusal.from.ended answers.CheckAnswerFromResultSoundRefusal.from.Reads.Asked answers.CheckAnswerFromResultSoundRefusal.from.Reads.Learnt
  pub event : Settled answers-contracts.EventAnswerFromResultEventRefusal.from.ended answers.EventAnswerFromResultEventRefusal.from.Reads.Asked answers.EventAnswerFromResultEventRefusal.from.Reads.Learnt
  pub mend : Settled answers-contracts.MendAnswerFromResultMendedRefusal.from.ended answers.MendAnswerFromResultMendedRefusal.from.Reads.Asked answers.MendAnswerFromResultMendedRefusal.from.Reads.Learnt

-- the struct of an answer that a call of the library may give
abbrev pub InNumbers : {A B : Type 0} → (A → B) → (A → Type 0) → B → Type 0
InNumbers struct gives x = (answer : _) × (x ≡ struct answer) × gives answer

-- whatever the contract of a call for C allows is what the library's own call gives, in numbers, and what that call leaves
pub record InterfaceGives : Type 0 where
  pub check : Allows calls-contracts.lepsaino_check.ended calls.lepsaino_check.Reads.Learnt (λ κs a x last. x ≡ check_answer (check_of a.0.now))
  pub begin : Allows calls-contracts.lepsaino_begin.ended calls.lepsaino_begin.Reads.Learnt (λ κs a x last. x ≡ begun)
  pub feed : Allows calls-contracts.lepsaino_feed.ended calls.lepsaino_feed.Reads.Learnt (λ κs a x last. x ≡ fed a.0 a.1.0.now)
  pub finish : Allows calls-contracts.lepsaino_finish.ended calls.lepsaino_finish.Reads.Learnt (λ κs a x last. x ≡ check_answer (finished a.0))
  pub event : Allows calls-contracts.lepsaino_event.ended calls.lepsaino_event.Reads.Learnt (λ κs a x last. x ≡ event_answer (event_of None a.0.now a.1.0))
  pub event_with_names : Allows calls-contracts.lepsaino_event_with_names.ended calls.lepsaino_event_with_names.Reads.Learnt (λ κs a x last.
      x ≡ event_answer (event_of (Some a.1.0.now) a.0.now a.1.1.0))
  pub find_name : Allows calls-contracts.lepsaino_find_name.ended calls.lepsaino_find_name.Reads.Learnt (λ κs a x last. x ≡ name_answer (find_name a.0.now a.1.0))
  pub find_name_with_names : Allows calls-contracts.lepsaino_find_name_with_names.ended calls.lepsaino_find_name_with_names.Reads.Learnt (λ κs a x last.
      x ≡ name_answer (find_name_with (Some a.1.0.now) a.0.now a.1.1.0))
  pub line : Allows calls-contracts.lepsaino_line.ended calls.lepsaino_line.Reads.Learnt (λ κs a x last.
      let s = a.0.now in let reading = a.1.0 in let position = a.1.1.0 in let old = a.1.1.1.0.now in let new = last.1.1.1.0 in
      InNumbers number_answer (Gave (line_rows None s (header_of s) reading position (length old)) (line_at None s (header_of s) reading position) old new) x)
  pub line_with_names : Allows calls-contracts.lepsaino_line_with_names.ended calls.lepsaino_line_with_names.Reads.Learnt (λ κs a x last.
      let s = a.0.now in let reading = a.1.0 in let position = a.1.1.0 in let file = Some a.1.1.1.0.now in
      let old = a.1.1.1.1.0.now in let new = last.1.1.1.1.0 in
      InNumbers number_answer (Gave (line_rows file s (header_of s) reading position (length old)) (line_at file s (header_of s) reading position) old new) x)
  pub listing : Allows calls-contracts.lepsaino_listing.ended calls.lepsaino_listing.Reads.Learnt (λ κs a x last.
      let s = a.0.now in let reading = a.1.0 in let old = a.1.1.0.now in let new = last.1.1.0 in
      InNumbers number_answer (Gave (listing_rows None s (header_of s) reading (length old)) (listing_text None s (header_of s) reading) old new) x)
  pub listing_with_names : Allows calls-contracts.lepsaino_listing_with_names.ended calls.lepsaino_listing_with_names.Reads.Learnt (λ κs a x last.
      let s = a.0.now in let reading = a.1.0 in let file = Some a.1.1.0.now in let old = a.1.1.1.0.now in let new = last.1.1.1.0 in
      InNumbers number_answer (Gave (listing_rows file s (header_of s) reading (length old)) (listing_text file s (header_of s) reading) old new) x)
  pub number : Allows calls-contracts.lepsaino_number.ended calls.lepsaino_number.Reads.Learnt (λ κs a x last.
      let old = a.0.now in
      Put (printed (number a.1.0) old) old last.0 x)
  pub format : Allows calls-contracts.lepsaino_format.ended calls.lepsaino_format.Reads.Learnt (λ κs a x last.
      InNumbers number_answer (Changed (formatting (format_given a.1.0)) a.0.now last.0) x)
  pub «record» : Allows calls-contracts.lepsaino_record.ended calls.lepsaino_record.Reads.Learnt (λ κs a x last.
      InNumbers number_answer (Changed (recording a.1.0) a.0.now last.0) x)
  pub register : Allows calls-contracts.lepsaino_register.ended calls.lepsaino_register.Reads.Learnt (λ κs a x last.
      InNumbers number_answer (Changed (registering a.1.0 a.1.1.0.now) a.0.now last.0) x)
  pub remove : Allows calls-contracts.lepsaino_remove.ended calls.lepsaino_remove.Reads.Learnt (λ κs a x last.
      InNumbers number_answer (Changed (removing a.1.0) a.0.now last.0) x)
  pub write_name : Allows calls-contracts.lepsaino_write_name.ended calls.lepsaino_write_name.Reads.Learnt (λ κs a x last.
      let offset = a.1.0 in let subject = subject_given a.1.1.0 in let number = a.1.1.1.0 in let name = a.1.1.1.1.0.now in
      InNumbers number_answer (Changed (filing subject number name offset) a.0.now last.0) x)
  pub mend : Allows calls-contracts.lepsaino_mend.ended calls.lepsaino_mend.Reads.Learnt (λ κs a x last.
      InNumbers mend_answer (Mended a.0.now a.1.0.now last.1.0) x)

-- a struct that is made of what was told: a refusal exactly by the first broken row of the call's order
abbrev pub Tells : {A : Type 0} → (Told → A) → List Row → A → Type 0
Tells struct rows x = (told : Told) × (x ≡ struct told) × Refuses rows told

-- and then every lent byte is as before
abbrev pub TellsAndKeeps : {A : Type 0} → (Told → A) → List Row → List ℕ → List ℕ → A → Type 0
TellsAndKeeps struct rows old new x = (told : Told) × (x ≡ struct told) × RefusesAndKeeps rows old new told

-- whatever answer the contract of a call for C allows
pub record InterfaceRefuses : Type 0 where
  pub check : Allows calls-contracts.lepsaino_check.ended calls.lepsaino_check.Reads.Learnt (λ κs a x last.
      let s = a.0.now in
      Tells check_answer_of (dump_rows s (header_of s)) x)
  pub finish : Allows calls-contracts.lepsaino_finish.ended calls.lepsaino_finish.Reads.Learnt (λ κs a x last. Tells check_answer_of (finish_rows a.0) x)
  pub event : Allows calls-contracts.lepsaino_event.ended calls.lepsaino_event.Reads.Learnt (λ κs a x last.
      let s = a.0.now in let position = a.1.0 in
      Tells event_answer_of (event_rows None s (header_of s) position) x)
  pub event_with_names : Allows calls-contracts.lepsaino_event_with_names.ended calls.lepsaino_event_with_names.Reads.Learnt (λ κs a x last.
      let s = a.0.now in let file = Some a.1.0.now in let position = a.1.1.0 in
      Tells event_answer_of (event_rows file s (header_of s) position) x)
  pub find_name : Allows calls-contracts.lepsaino_find_name.ended calls.lepsaino_find_name.Reads.Learnt (λ κs a x last.
      let s = a.0.now in
      Tells name_answer_of (registry_rows s (header_of s)) x)
  pub find_name_with_names : Allows calls-contracts.lepsaino_find_name_with_names.ended calls.lepsaino_find_name_with_names.Reads.Learnt (λ κs a x last.
      let s = a.0.now in let file = Some a.1.0.now in
      Tells name_answer_of (finding_rows file s (header_of s)) x)
  pub line : Allows calls-contracts.lepsaino_line.ended calls.lepsaino_line.Reads.Learnt (λ κs a x last.
      let s = a.0.now in let reading = a.1.0 in let position = a.1.1.0 in let old = a.1.1.1.0.now in let new = last.1.1.1.0 in
      TellsAndKeeps answer_of (line_rows None s (header_of s) reading position (length old)) old new x)
  pub line_with_names : Allows calls-contracts.lepsaino_line_with_names.ended calls.lepsaino_line_with_names.Reads.Learnt (λ κs a x last.
      let s = a.0.now in let reading = a.1.0 in let position = a.1.1.0 in let file = Some a.1.1.1.0.now in
      let old = a.1.1.1.1.0.now in let new = last.1.1.1.1.0 in
      TellsAndKeeps answer_of (line_rows file s (header_of s) reading position (length old)) old new x)
  pub listing : Allows calls-contracts.lepsaino_listing.ended calls.lepsaino_listing.Reads.Learnt (λ κs a x last.
      let s = a.0.now in let reading = a.1.0 in let old = a.1.1.0.now in let new = last.1.1.0 in
      TellsAndKeeps answer_of (listing_rows None s (header_of s) reading (length old)) old new x)
  pub listing_with_names : Allows calls-contracts.lepsaino_listing_with_names.ended calls.lepsaino_listing_with_names.Reads.Learnt (λ κs a x last.
      let s = a.0.now in let reading = a.1.0 in let file = Some a.1.1.0.now in let old = a.1.1.1.0.now in let new = last.1.1.1.0 in
      TellsAndKeeps answer_of (listing_rows file s (header_of s) reading (length old)) old new x)
  pub format : Allows calls-contracts.lepsaino_format.ended calls.lepsaino_format.Reads.Learnt (λ κs a x last.
      let old = a.0.now in let new = last.0 in
      TellsAndKeeps answer_of (formatting (format_given a.1.0) old).rows old new x)
  pub «record» : Allows calls-contracts.lepsaino_record.ended calls.lepsaino_record.Reads.Learnt (λ κs a x last.
      let old = a.0.now in let slot = a.1.0 in let new = last.0 in
      TellsAndKeeps answer_of (recording slot old).rows old new x)
  pub register : Allows calls-contracts.lepsaino_register.ended calls.lepsaino_register.Reads.Learnt (λ κs a x last.
      let old = a.0.now in let object = a.1.0 in let name = a.1.1.0.now in let new = last.0 in
      TellsAndKeeps answer_of (registering object name old).rows old new x)
  pub remove : Allows calls-contracts.lepsaino_remove.ended calls.lepsaino_remove.Reads.Learnt (λ κs a x last.
      let old = a.0.now in let pointer = a.1.0 in let new = last.0 in
      TellsAndKeeps answer_of (removing pointer old).rows old new x)
  pub write_name : Allows calls-contracts.lepsaino_write_name.ended calls.lepsaino_write_name.Reads.Learnt (λ κs a x last.
      let old = a.0.now in let offset = a.1.0 in let subject = subject_given a.1.1.0 in let number = a.1.1.1.0 in let name = a.1.1.1.1.0.now in let new = last.0 in
      TellsAndKeeps answer_of (filing subject number name offset old).rows old new x)
  pub mend : Allows calls-contracts.lepsaino_mend.ended calls.lepsaino_mend.Reads.Learnt (λ κs a x last.
      let s = a.0.now in let old = a.1.0.now in let new = last.1.0 in
      TellsAndKeeps mend_answer_of (mending_rows s (header_of s) (length old)) old new x)

-- an event's struct: its slot, ticks and context, and of each of its names the three numbers
abbrev pub event_struct : Slot → ℕ → ℕ → NameAnswer → NameAnswer → EventAnswer
event_struct slot ticks context name title = record {
  refusal = 0;
  place = 0;
  slot = slot;
  ticks = ticks;
  context = context;
  name_kind = name.kind;
  name_at = name.at;
  name_length = name.length;
  event_kind = title.kind;
  event_at = title.at;
  event_length = title.length;
}

-- what the structs are: in a refusal the number, the place, and 0 for all else; in an acceptance what is given, each under its own name; and a byte order that was told
-- is given back as that order
pub record Structs : Type 0 where
  pub answer : (f : Refusal) → answer_of (told_refusal f) ≡ record { refusal = f.number; place = f.place; value = 0 }
  pub name : (f : Refusal) → name_answer_of (told_refusal f) ≡ record { refusal = f.number; place = f.place; kind = 0; at = 0; length = 0 }
  pub check : (f : Refusal)
      → check_answer_of (told_refusal f)
      ≡ record {
        refusal = f.number;
        place = f.place;
        big = 0;
        id = 0;
        mask = 0;
        base = 0;
        registry_start = 0;
        name_size = 0;
        registry_end = 0;
        buffer_start = 0;
        buffer_end = 0;
        current = 0;
        events = 0;
      }
  pub event : (f : Refusal)
      → event_answer_of (told_refusal f)
      ≡ record {
        refusal = f.number;
        place = f.place;
        slot = record { pointer = 0; field = 0; id = 0; stamp = 0; first = 0; second = 0; third = 0; fourth = 0 };
        ticks = 0;
        context = 0;
        name_kind = 0;
        name_at = 0;
        name_length = 0;
        event_kind = 0;
        event_at = 0;
        event_length = 0;
      }
  pub mend : (f : Refusal)
      → mend_answer_of (told_refusal f)
      ≡ record { refusal = f.number; place = f.place; length = 0; missing = 0; current = 0; types = 0; ids = 0; packed = 0; moved = 0 }
  pub written : (n : ℕ) → number_answer (Ok n) ≡ record { refusal = 0; place = 0; value = n }
  pub done : (n : ℕ) → number_answer (Ok n) ≡ record { refusal = 0; place = 0; value = n }
  pub live : (at length : ℕ) → name_answer (Ok (Some (Named Live at length))) ≡ record { refusal = 0; place = 0; kind = 1; at = at; length = length }
  pub gone : (at length : ℕ) → name_answer (Ok (Some (Named Gone at length))) ≡ record { refusal = 0; place = 0; kind = 2; at = at; length = length }
  pub filed : (at length : ℕ) → name_answer (Ok (Some (Filed at length))) ≡ record { refusal = 0; place = 0; kind = 3; at = at; length = length }
  pub nameless : name_answer (Ok None) ≡ record { refusal = 0; place = 0; kind = 0; at = 0; length = 0 }
  pub sound : (h : Header) (n : ℕ)
      → check_answer (Ok (sound_dump h n))
      ≡ record {
        refusal = 0;
        place = 0;
        big = order_number h.order;
        id = h.id;
        mask = h.mask;
        base = h.base;
        registry_start = h.registry_start;
        name_size = h.name_size;
        registry_end = h.registry_end;
        buffer_start = h.buffer_start;
        buffer_end = h.buffer_end;
        current = h.current;
        events = n;
      }
  pub given : (e : Event)
      → event_answer (Ok e) ≡ event_struct e.slot e.ticks (context_number e.by) (name_answer (Ok e.name)) (name_answer (Ok e.title))
  pub copied : (n : ℕ) (r : Repairs)
      → mend_answer (Ok (mended_copy n r))
      ≡ record { refusal = 0; place = 0; length = n; missing = r.missing; current = r.current; types = r.types; ids = r.ids; packed = r.packed; moved = r.moved }
  pub order : (o : Order) → order_given (order_number o) ≡ o
  -- whose record is written: 0 says an event's, and any other number a thread's
  pub event_record : subject_given 0 ≡ subject.Event
  pub thread_record : (n : ℕ) → (n ≡ 0 → ⊥) → subject_given n ≡ subject.Thread

-- where the number handed to a C caller is 0, no row of the call's order is broken
pub record ZeroAccepts : Type 0 where
  pub check : (s : List ℕ) → (check_answer (check_of s)).refusal ≡ 0 → Accepted (dump_rows s (header_of s))
  pub finish : (p : Pieces) → (check_answer (finished p)).refusal ≡ 0 → Accepted (finish_rows p)
  pub event : (file : Option (List ℕ)) (s : List ℕ) (position : ℕ) → (event_answer (event_of file s position)).refusal ≡ 0 → Accepted (event_rows file s (header_of s) position)
  pub find_name : (s : List ℕ) (pointer : ℕ) → (name_answer (find_name s pointer)).refusal ≡ 0 → Accepted (registry_rows s (header_of s))
  pub find_name_with_names : (file : Option (List ℕ)) (s : List ℕ) (pointer : ℕ) → (name_answer (find_name_with file s pointer)).refusal ≡ 0 → Accepted (finding_rows file s (header_of s))
  pub line : (file : Option (List ℕ)) (s : List ℕ) (r : Reading) (position : ℕ) (old new : List ℕ) (numbers : Answer)
      → GaveNumbers (line_rows file s (header_of s) r position (length old)) (line_at file s (header_of s) r position) old new numbers
      → numbers.refusal ≡ 0 → Accepted (line_rows file s (header_of s) r position (length old))
  pub listing : (file : Option (List ℕ)) (s : List ℕ) (r : Reading) (old new : List ℕ) (numbers : Answer)
      → GaveNumbers (listing_rows file s (header_of s) r (length old)) (listing_text file s (header_of s) r) old new numbers
      → numbers.refusal ≡ 0 → Accepted (listing_rows file s (header_of s) r (length old))
  pub format : (f : Format) (s : List ℕ) → (number_answer (said (formatting f s))).refusal ≡ 0 → Accepted (formatting f s).rows
  pub «record» : (slot : Slot) (s : List ℕ) → (number_answer (said (recording slot s))).refusal ≡ 0 → Accepted (recording slot s).rows
  pub register : (object : Object) (name s : List ℕ) → (number_answer (said (registering object name s))).refusal ≡ 0 → Accepted (registering object name s).rows
  pub remove : (pointer : ℕ) (s : List ℕ) → (number_answer (said (removing pointer s))).refusal ≡ 0 → Accepted (removing pointer s).rows
  pub write_name : (subject : Subject) (number : ℕ) (name : List ℕ) (offset : ℕ) (s : List ℕ)
      → (number_answer (said (filing subject number name offset s))).refusal ≡ 0 → Accepted (filing subject number name offset s).rows
  pub mend : (s old : List ℕ) → (mend_answer (mend_of s (length old))).refusal ≡ 0 → Accepted (mending_rows s (header_of s) (length old))

-- what a name of a kind lies in: the name file, which is kind 3, or the dump
abbrev pub lying_by : ℕ → List ℕ → List ℕ → List ℕ
lying_by kind f s = cond (eqb kind 3) f s

-- no name of an event's own
abbrev pub Untitled : EventAnswer → Type 0
Untitled x = (x.event_kind ≡ 0) × (x.event_at ≡ 0) × (x.event_length ≡ 0)

-- a name that a C caller is told of lies within the dump or, where its kind is 3, within the name file that was given
pub record NamesWithin : Type 0 where
  pub found : (s : List ℕ) (pointer : ℕ) → (name_answer (find_name s pointer)).at + (name_answer (find_name s pointer)).length ≤ length s
  pub found_with : (f s : List ℕ) (pointer : ℕ)
      → let x = name_answer (find_name_with (Some f) s pointer) in
      x.at + x.length ≤ length (lying_by x.kind f s)
  pub event : (s : List ℕ) (position : ℕ)
      → let x = event_answer (event_of None s position) in
      x.name_at + x.name_length ≤ length s
  pub event-with : (f s : List ℕ) (position : ℕ)
      → let x = event_answer (event_of (Some f) s position) in
      x.name_at + x.name_length ≤ length (lying_by x.name_kind f s)
  -- an event's own name lies within the file, or there is none; without a file there is none
  pub titled : (f s : List ℕ) (position : ℕ)
      → let x = event_answer (event_of (Some f) s position) in
      ((x.event_kind ≡ 3) × (x.event_at + x.event_length ≤ length f)) ⊎ Untitled x
  pub untitled : (s : List ℕ) (position : ℕ) → Untitled (event_answer (event_of None s position))
