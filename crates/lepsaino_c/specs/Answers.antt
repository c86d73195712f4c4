-- Answers as structs of numbers: what a C caller is handed for each answer of the library, by what it is told. In a refusal every other number is 0.
use Rattle.std.specs.Prelude.{ℕ, cond, List, ◌≡◌, eqb, length, Option, Result}
use Rattle.events.specs.Events.{shown_told, slot_from}
use Rattle.events.specs.Listing.{Gave}
use Rattle.events.specs.declared.Event.{Event}
use Rattle.mending.specs.Mending.{mended_told}
use Rattle.mending.specs.declared.Mended.{Mended}
use Rattle.naming.specs.declared.Subject.{Subject}
use Rattle.naming.specs.declared.Subject.TheVariants as subject
use Rattle.rows.specs.Rows.{Row, first_broken, answer_by}
use Rattle.rows.specs.Told.{Told, number_told, value_at}
use Rattle.rows.specs.declared.Refusal.{Refusal}
use Rattle.trace.specs.Check.{checked_told}
use Rattle.trace.specs.Names.{found_told}
use Rattle.trace.specs.declared.Name.{Name}
use Rattle.trace.specs.declared.Sound.{Sound}
use Rattle.words.specs.declared.Order.{Order}
use Rattle.words.specs.declared.Order.TheVariants.{Big, Little}
use Rattle.writing.specs.declared.Format.{Format}
use Rattle.lepsaino_c.specs.declared.answers.Answer.{Answer}
use Rattle.lepsaino_c.specs.declared.answers.CheckAnswer.{CheckAnswer}
use Rattle.lepsaino_c.specs.declared.answers.EventAnswer.{EventAnswer}
use Rattle.lepsaino_c.specs.declared.answers.MendAnswer.{MendAnswer}
use Rattle.lepsaino_c.specs.declared.answers.NameAnswer.{NameAnswer}
use Rattle.lepsaino_c.specs.declared.writers.FormatNumbers.{FormatNumbers}

-- a line, a listing, a writing call: the length, the number of slots or the index
abbrev pub answer_of : Told → Answer
answer_of t = record { refusal = t.number; place = t.place; value = value_at t 0 }

unfoldable pub number_answer : Result ℕ Refusal → Answer
number_answer x = answer_of (number_told x)

-- a line or a listing: what the library's call leaves, and its answer as numbers
pub record GaveNumbers (rows : List Row) (text old new : List ℕ) (numbers : Answer) : Type 0 where
  pub gave : Gave rows text old new (answer_by (first_broken rows) (length text))
  pub answered : numbers ≡ number_answer (answer_by (first_broken rows) (length text))

-- checking: the byte order, the header's fields, the event count
abbrev pub check_answer_of : Told → CheckAnswer
check_answer_of t = record {
  refusal = t.number;
  place = t.place;
  big = value_at t 0;
  id = value_at t 1;
  mask = value_at t 2;
  base = value_at t 3;
  registry_start = value_at t 4;
  name_size = value_at t 5;
  registry_end = value_at t 6;
  buffer_start = value_at t 7;
  buffer_end = value_at t 8;
  current = value_at t 9;
  events = value_at t 10;
}

unfoldable pub check_answer : Result Sound Refusal → CheckAnswer
check_answer x = check_answer_of (checked_told x)

-- a name: its kind, and where it lies in the dump or in the name file
abbrev pub name_answer_of : Told → NameAnswer
name_answer_of t = record { refusal = t.number; place = t.place; kind = value_at t 0; at = value_at t 1; length = value_at t 2 }

unfoldable pub name_answer : Result (Option Name) Refusal → NameAnswer
name_answer x = name_answer_of (found_told x)

-- an event: its slot's eight words, ticks, context and name, and its own name
abbrev pub event_answer_of : Told → EventAnswer
event_answer_of t = record {
  refusal = t.number;
  place = t.place;
  slot = slot_from t;
  ticks = value_at t 8;
  context = value_at t 9;
  name_kind = value_at t 10;
  name_at = value_at t 11;
  name_length = value_at t 12;
  event_kind = value_at t 13;
  event_at = value_at t 14;
  event_length = value_at t 15;
}

unfoldable pub event_answer : Result Event Refusal → EventAnswer
event_answer x = event_answer_of (shown_told x)

-- mending: the copy's length, and the six counts
abbrev pub mend_answer_of : Told → MendAnswer
mend_answer_of t = record {
  refusal = t.number;
  place = t.place;
  length = value_at t 0;
  missing = value_at t 1;
  current = value_at t 2;
  types = value_at t 3;
  ids = value_at t 4;
  packed = value_at t 5;
  moved = value_at t 6;
}

unfoldable pub mend_answer : Result Mended Refusal → MendAnswer
mend_answer x = mend_answer_of (mended_told x)

-- formatting: 0 is little-endian, any other number big
unfoldable pub order_given : ℕ → Order
order_given n = cond (eqb n 0) Little Big

unfoldable pub format_given : FormatNumbers → Format
format_given n = record {
  order = order_given n.big;
  base = n.base;
  mask = n.mask;
  name_size = n.name_size;
  entries = n.entries;
}

-- writing a record: 0 is an event's, any other number a thread's
unfoldable pub subject_given : ℕ → Subject
subject_given n = cond (eqb n 0) subject.Event subject.Thread
