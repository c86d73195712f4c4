-- What a listing shows of writes: a line for each, oldest first, with its words as written.
use Rattle.std.specs.Prelude.{ℕ, suc, ◌+◌, ◌^◌, ◌≤◌, ◌<◌, List, [], ◌∷◌, ◌++◌, None, Option, Some}
use Rattle.events.specs.Events.{context_of, name_for}
use Rattle.events.specs.declared.Reading.{Reading}
use Rattle.naming.specs.Records.{name_in}
use Rattle.naming.specs.declared.Subject.TheVariants.{Event}
use Rattle.text.specs.Lines.{line}
use Rattle.text.specs.declared.Line.{Line}
use Rattle.trace.specs.Keys.{key}
use Rattle.trace.specs.Layout.{header_of}
use Rattle.trace.specs.Names.{is_gone, name_bytes}
use Rattle.trace.specs.Times.{microseconds, ticks_of}
use Rattle.trace.specs.declared.Name.{Name}
use Rattle.demands.specs.History.{Write, given}

-- the ticks that a buffer shows at a position, and their microseconds
abbrev pub shown_ticks : List ℕ → ℕ → ℕ
shown_ticks t position = ticks_of t (header_of t) position

abbrev pub shown_microseconds : List ℕ → Reading → ℕ → ℕ
shown_microseconds t r position = microseconds (shown_ticks t position) r.rate

-- the name that the registry has for a write when the buffer is read, or the name file, where one is given; and the one that the file has for its id
abbrev pub name_when_read : Option (List ℕ) → List ℕ → Write → Option Name
name_when_read file t w = name_for (context_of w.pointer) file t (header_of t) (given w)

abbrev pub title_when_read : Option (List ℕ) → Write → Option Name
title_when_read file w = name_in Event file w.id

-- what the line says of a write at a position: pointer, field, id and information words as written, and whether its name is a thread's that is gone
abbrev pub words_of : Option (List ℕ) → List ℕ → Reading → ℕ → Write → Line
words_of file t r position w = record {
  key = key r.unit r.serial position;
  ticks = shown_ticks t position;
  us = shown_microseconds t r position;
  id = w.id;
  ptr = w.pointer;
  by = context_of w.pointer;
  gone = is_gone (name_when_read file t w);
  field = w.field;
  info = record { first = w.first; second = w.second; third = w.third; fourth = w.fourth };
}

-- "event", where a name file is given: its bytes, or none
abbrev pub event_for : Option (List ℕ) → List ℕ → Write → Option (Option (List ℕ))
event_for None t w = None
event_for (Some f) t w = Some (name_bytes (Some f) t (title_when_read (Some f) w))

-- the line, with the names
abbrev pub line_for : Option (List ℕ) → List ℕ → Reading → ℕ → Write → List ℕ
line_for file t r position w = line (words_of file t r position w) (event_for file t w) (name_bytes file t (name_when_read file t w))

-- the lines of writes, the first of them at a position
abbrev pub lines_from : Option (List ℕ) → List ℕ → Reading → ℕ → List Write → List ℕ
lines_from file t r position [] = []
lines_from file t r position (w ∷ ws) = line_for file t r position w ++ lines_from file t r (suc position) ws

abbrev pub lines_of : Option (List ℕ) → List ℕ → Reading → List Write → List ℕ
lines_of file t r ws = lines_from file t r 0 ws

-- a reading whose rate, unit and serial are accepted for so many events
pub record ReadingAccepted (r : Reading) (events : ℕ) : Type 0 where
  pub rate : 1 ≤ r.rate
  pub unit : r.unit < 2 ^ 24
  pub serial : r.serial + events ≤ 2 ^ 40
