-- The two names of an event stand behind one another in what it tells, three numbers each.
use Rattle.std.specs.Prelude.{None, Ok, Option, Some}
use Prim.Native.Nat.{ℕ}
use mathlib.Core.List.{◌∷◌, ◌++◌}
use mathlib.Core.Path.{◌≡◌, refl}
use Rattle.events.specs.Events.{slot_numbers}
use Rattle.rows.specs.Told.{told_values}
use Rattle.trace.specs.Names.{found_told, name_numbers}
use Rattle.trace.specs.declared.Name.TheVariants.{Filed, Named}
use Rattle.trace.specs.declared.Name.{Name}
use Rattle.trace.specs.declared.Slot.{Slot}
use Rattle.lepsaino_c.specs.Answers.{event_answer_of, name_answer}
use Rattle.lepsaino_c.specs.declared.answers.EventAnswer.{EventAnswer}

-- the answer that has the slot, the ticks, the context and the numbers of both names
abbrev pub answer_with : Slot → ℕ → ℕ → Option Name → Option Name → EventAnswer
answer_with slot ticks context name title = record {
  refusal = 0;
  place = 0;
  slot = slot;
  ticks = ticks;
  context = context;
  name_kind = (name_answer (Ok name)).kind;
  name_at = (name_answer (Ok name)).at;
  name_length = (name_answer (Ok name)).length;
  event_kind = (name_answer (Ok title)).kind;
  event_at = (name_answer (Ok title)).at;
  event_length = (name_answer (Ok title)).length;
}

pub both_told : (slot : Slot) (ticks context : ℕ) (name title : Option Name)
    → answer_with slot ticks context name title ≡ event_answer_of (told_values (slot_numbers slot ++ (ticks ∷ context ∷ name_numbers name ++ name_numbers title)))
unfolding slot_numbers name_answer found_told name_numbers
both_told slot ticks context None title = refl
both_told slot ticks context (Some (Named kind at size)) title = refl
both_told slot ticks context (Some (Filed at size)) title = refl
