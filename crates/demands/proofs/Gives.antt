-- What the calls give where they are accepted, by what their answers are made of.
use Rattle.std.specs.Prelude.{Ok, Option}
use Prim.Native.Nat.{ℕ, ◌<◌}
use mathlib.Core.List.{List, [], ◌∷◌, ◌++◌}
use mathlib.Core.Path.{◌≡◌, ap}
use borrow.Author.Tests.{leb-false}
use Rattle.events.specs.Events.{event_at, event_in, event_of, event_rows}
use Rattle.events.specs.declared.Event.{Event}
use Rattle.naming.specs.Records.{file_rows}
use Rattle.rows.proofs.Rows.{here, unbroken}
use Rattle.rows.specs.Rows.{first_broken}
use Rattle.trace.proofs.Checks.{check_events, check_header}
use Rattle.trace.specs.Layout.{header_of, slot_at}
use Rattle.trace.specs.Ring.{slot_of}
use Rattle.trace.specs.Slots.{event_count, slot_in}
use Rattle.trace.specs.Table.{dump_rows, row25}
use Rattle.trace.specs.Times.{ticks_of}
use Rattle.writing.specs.Writing.{Change, filing, formatting, recording, registering, removing, said}
use Rattle.demands.specs.Gives.{Gives}
use Rattle.demands.proofs.Answers.{answer_is, passed_behind}

event_gives : (file : Option (List ℕ)) (s : List ℕ) (position : ℕ) (e : Event) → event_of file s position ≡ Ok e
    → let h = header_of s in
    (position < event_count s h) × (e.slot ≡ slot_in h.order s (slot_at h (slot_of s h position))) × (e.ticks ≡ ticks_of s h position)
unfolding event_of event_in row25
event_gives file s position e is =
    let (passed, same) = answer_is (first_broken (event_rows file s (header_of s) position)) (event_at file s (header_of s) position) e is in
    let last = row25 position (event_count s (header_of s)) in
    (leb-false _ _ (unbroken (passed_behind (dump_rows s (header_of s) ++ file_rows file) (last ∷ []) passed) last here), ap (λ (e : Event). e.slot) same, ap (λ (e : Event). e.ticks) same)

-- a call that writes gives what it says
change_gives : (c : Change) (n : ℕ) → said c ≡ Ok n → n ≡ c.gives
change_gives c n is = (answer_is (first_broken c.rows) c.gives n is).1

pub gives : Gives
unfolding filing formatting recording registering removing
gives = record {
  checking = λ s h n sound.
      let header = check_header s h n sound in
      (header, rw header (check_events s h n sound));
  event = event_gives;
  formatting = λ f s. change_gives (formatting f s);
  recording = λ slot s. change_gives (recording slot s);
  registering = λ object name s. change_gives (registering object name s);
  removing = λ pointer s. change_gives (removing pointer s);
  filing = λ subject number name offset s. change_gives (filing subject number name offset s);
}
