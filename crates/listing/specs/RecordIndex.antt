-- The index of a name file's records by their numbers: those of events, and those of threads.
use Rattle.std.specs.Prelude.{ℕ, ◌+◌, ◌≤◌, ◌<◌, Bool, true, false, ◌&&◌, ◌||◌, List, ◌≡◌, eqb, get_or, length, Option}
use Rattle.naming.specs.Records.{kind_at, name_in, number_at, record_at, record_count}
use Rattle.naming.specs.Finding.{name_with}
use Rattle.naming.specs.declared.Subject.{Subject}
use Rattle.naming.specs.declared.Subject.TheVariants.{Event, Thread}
use Rattle.trace.specs.Names.{name_length}
use Rattle.trace.specs.declared.Header.{Header}
use Rattle.listing.specs.Index.{Linked, place_of}

unfoldable pub is_thread_subject : Subject → Bool
is_thread_subject Event = false
is_thread_subject Thread = true

-- a record of an event or a thread whose number has the place
abbrev pub has_record : List ℕ → ℕ → ℕ → Bool
has_record f place i =
    let at = record_at f i in
    (eqb (kind_at f at) 1 || eqb (kind_at f at) 2) && eqb (place_of (eqb (kind_at f at) 2) (number_at f at)) place

-- where each record starts, for as many records as fit a file
pub record Starts (f : List ℕ) (count : ℕ) (records : List ℕ) : Type 0 where
  pub size : length records ≡ 36864
  pub few : count ≤ 16384
  pub starts : (i : ℕ) → i < count → get_or records i 0 ≡ record_at f i

-- and behind that the records from one on are linked: where each leads, and for each place where the place leads
pub record Records (f : List ℕ) (from : ℕ) (records : List ℕ) : Type 0 where
  pub found : Starts f (record_count f) records
  pub linked : Linked (has_record f) (record_count f) from (λ place. get_or records (32768 + place) 0) (λ i. get_or records (16384 + i) 0)

-- no line has names of more bytes than these: an event's own, and its thread's
abbrev pub AtMost : Option (List ℕ) → Header → ℕ → Type 0
AtMost file h most = (s : List ℕ) (number pointer : ℕ) → name_length (name_in Event file number) + name_length (name_with file s h pointer) ≤ most

-- the name size and so many bytes more are the most, whatever the name size
abbrev pub Adds : Option (List ℕ) → ℕ → Type 0
Adds file more = (h : Header) → AtMost file h (h.name_size + more)
