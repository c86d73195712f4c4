-- Names from the build in the request's own words (document 02, A7): records, the first for an id or a pointer, files that are written and read again, and what a file changes of a line.
use Rattle.std.specs.Prelude.{ℕ, ◌+◌, ◌^◌, ◌≤◌, ◌<◌, Bool, cond, true, ◌&&◌, List, [], ◌∷◌, ◌++◌, ◌⊎◌, ◌↔◌, ◌≡◌, eqb, length, replicate, take, Err, None, Ok, Option, Result, Some}
use Rattle.events.specs.Events.{event_at, event_of, event_rows}
use Rattle.events.specs.Listing.{Gave, fields, line_at, line_rows, listing_rows, listing_text, reading_rows}
use Rattle.events.specs.declared.Reading.{Reading}
use Rattle.naming.specs.Finding.{find_name_with, finding_rows, name_with}
use Rattle.naming.specs.Records.{end_at, file_rows, kind_at, kind_of, length_at, name_in, number_at, record_name}
use Rattle.naming.specs.Writing.{record_size}
use Rattle.naming.specs.declared.Subject.{Subject}
use Rattle.naming.specs.declared.Subject.TheVariants.{Event, Thread}
use Rattle.rows.specs.Rows.{Accepted, first_broken}
use Rattle.rows.specs.declared.Refusal.{Refusal}
use Rattle.text.specs.Lines.{line}
use Rattle.text.specs.declared.Context.{Context}
use Rattle.text.specs.declared.Context.TheVariants as context
use Rattle.text.specs.declared.Line.{Line}
use Rattle.trace.specs.Layout.{header_of}
use Rattle.trace.specs.Names.{find_name, is_named, name_bytes, name_of}
use Rattle.trace.specs.Slots.{event_count}
use Rattle.trace.specs.Table.{dump_rows, registry_rows, row16, row25}
use Rattle.trace.specs.declared.Header.{Header}
use Rattle.trace.specs.declared.Name.TheVariants.{Filed}
use Rattle.trace.specs.declared.Name.{Name}
use Rattle.words.specs.Each.{Each}
use Rattle.writing.specs.Writing.{filing, left, said}
use Rattle.demands.specs.Refusals.{given_at}

-- "records one after another": the first starts at 0, and another where one ends, as long as that is within the file
pub data Starts (f : List ℕ) : ℕ → Type 0 where
  first : 0 < length f → Starts f 0
  next : (at : ℕ) → Starts f at → end_at f at < length f → Starts f (end_at f at)

-- "A record that runs past the file, or a kind 1 or 2 record shorter than 4 bytes"
abbrev pub IsDamaged : List ℕ → ℕ → Type 0
IsDamaged f at = Starts f at × ((length f < end_at f at) ⊎ (((kind_at f at ≡ 1) ⊎ (kind_at f at ≡ 2)) × (length_at f at < 4)))

-- a record for an event's id or a thread's pointer
abbrev pub IsFor : Subject → ℕ → List ℕ → ℕ → Type 0
IsFor subject number f at = Starts f at × (kind_at f at ≡ kind_of subject) × (number_at f at ≡ number)

-- "The first record for an id or pointer counts": a name to the record's end
pub record IsFirst (subject : Subject) (number : ℕ) (f : List ℕ) (at size : ℕ) : Type 0 where
  pub starts : ℕ
  pub is : IsFor subject number f starts
  pub no_lower : (other : ℕ) → other < starts → IsFor subject number f other → ⊥
  pub begins : at ≡ starts + 8
  pub ends : at + size ≡ end_at f starts

-- "The whole file is checked after the dump, 14 and 15, before 25 and 16.": where the rows before its own pass, what is wrong with a file is what each call says that is given it, and no
-- lent byte is altered
pub record RefusedByFile (f s : List ℕ) (x : Refusal) : Type 0 where
  pub name : Accepted (registry_rows s (header_of s)) → (pointer : ℕ) → find_name_with (Some f) s pointer ≡ Err x
  pub event : Accepted (dump_rows s (header_of s)) → (position : ℕ) → event_of (Some f) s position ≡ Err x
  pub listing : Accepted (dump_rows s (header_of s)) → (r : Reading) → Accepted (reading_rows r (event_count s (header_of s))) → (old new : List ℕ) (answer : Result ℕ Refusal)
      → Gave (listing_rows (Some f) s (header_of s) r (length old)) (listing_text (Some f) s (header_of s) r) old new answer ↔ ((answer ≡ Err x) × (new ≡ old))
  pub line : Accepted (dump_rows s (header_of s)) → (r : Reading) → Accepted (reading_rows r (event_count s (header_of s))) → (position : ℕ) (old new : List ℕ) (answer : Result ℕ Refusal)
      → Gave (line_rows (Some f) s (header_of s) r position (length old)) (line_at (Some f) s (header_of s) r position) old new answer ↔ ((answer ≡ Err x) × (new ≡ old))

-- and by a file that is accepted nothing is refused: the verdict is that of the other rows
pub record PassedByFile (f s : List ℕ) : Type 0 where
  pub name : first_broken (finding_rows (Some f) s (header_of s)) ≡ first_broken (registry_rows s (header_of s))
  pub event : (position : ℕ) → first_broken (event_rows (Some f) s (header_of s) position) ≡ first_broken (event_rows None s (header_of s) position)
  pub listing : (r : Reading) (room : ℕ)
      → let rest = row16 (length (listing_text (Some f) s (header_of s) r)) room ∷ [] in
      first_broken (listing_rows (Some f) s (header_of s) r room) ≡ first_broken (dump_rows s (header_of s) ++ (reading_rows r (event_count s (header_of s)) ++ rest))
  pub line : (r : Reading) (position room : ℕ)
      → let rest = row25 position (event_count s (header_of s)) ∷ row16 (length (line_at (Some f) s (header_of s) r position)) room ∷ [] in
      first_broken (line_rows (Some f) s (header_of s) r position room) ≡ first_broken (dump_rows s (header_of s) ++ (reading_rows r (event_count s (header_of s)) ++ rest))

-- what is written: whom a record names, by what number, and the name
pub record Naming : Type 0 where
  pub subject : Subject
  pub number : ℕ
  pub name : List ℕ

-- the bytes that records take, and the buffer after each was written where the one before ended, the first at an offset
abbrev pub total : List Naming → ℕ
total [] = 0
total (r ∷ rs) = record_size r.name + total rs

abbrev pub written_from : ℕ → List Naming → List ℕ → List ℕ
written_from at [] s = s
written_from at (r ∷ rs) s = written_from (at + record_size r.name) rs (left (filing r.subject r.number r.name at s) s)

-- each of them is accepted, and gives its length
abbrev pub AllWritten : ℕ → List Naming → List ℕ → Type 0
AllWritten at [] s = Unit {0}
AllWritten at (r ∷ rs) s =
    let change = filing r.subject r.number r.name at s in
    (said change ≡ Ok (record_size r.name)) × AllWritten (at + record_size r.name) rs (left change s)

-- the name that was written first for an id or a pointer
abbrev pub is_of : Subject → ℕ → Naming → Bool
is_of subject number r = eqb (kind_of r.subject) (kind_of subject) && eqb r.number number

unfoldable pub first_written : Subject → ℕ → List Naming → Option (List ℕ)
first_written subject number [] = None
first_written subject number (r ∷ rs) = cond (is_of subject number r) (Some r.name) (first_written subject number rs)

-- the name that a file has for a line's thread: by the thread pointer for "thread", by the priority field for "isr", and none for "init"
abbrev pub filed_for : Context → List ℕ → ℕ → ℕ → Option Name
filed_for context.Init f pointer field = None
filed_for context.Isr f pointer field = record_name Thread f field
filed_for context.Thread f pointer field = record_name Thread f pointer

-- of a line without a file and one with it: what they say but for names is the same, a name stays, unless there was none and it is the file's, and the event's own is that for its id
pub record SameButNames (f s without with-file : List ℕ) : Type 0 where
  pub words : Line
  pub name : Option (List ℕ)
  pub name' : Option (List ℕ)
  pub event : Option (List ℕ)
  pub before : without ≡ line words None name
  pub after : with-file ≡ line words (Some event) name'
  pub kept : (name' ≡ name) ⊎ (name ≡ None)
  pub filed : (name' ≡ name) ⊎ ((name ≡ None) × (name' ≡ name_bytes (Some f) s (filed_for words.by f words.ptr words.field)))
  pub titled : event ≡ name_bytes (Some f) s (record_name Event f words.id)

-- a file of two records, byte by byte: event 1025 is A", and the thread at 0x20002000 has the bytes 00 FF 5C for a name
abbrev pub sample : List ℕ
sample =
    0x06 ∷ 0x00 ∷ 0x01 ∷ 0x00 ∷ 0x01 ∷ 0x04 ∷ 0x00 ∷ 0x00 ∷ 0x41 ∷ 0x22
    ∷ 0x07 ∷ 0x00 ∷ 0x02 ∷ 0x00 ∷ 0x00 ∷ 0x20 ∷ 0x00 ∷ 0x20 ∷ 0x00 ∷ 0xFF ∷ 0x5C ∷ []

abbrev pub sample_records : List Naming
sample_records =
    record { subject = Event; number = 1025; name = 0x41 ∷ 0x22 ∷ [] }
    ∷ record { subject = Thread; number = 0x20002000; name = 0x00 ∷ 0xFF ∷ 0x5C ∷ [] }
    ∷ []

pub record NameFiles : Type 0 where
  -- the bytes of a file, as they are written and read
  pub sample_written : written_from 0 sample_records (replicate 21 0) ≡ sample
  pub sample_event : name_in Event (Some sample) 1025 ≡ Some (Filed 8 2)
  pub sample_thread : name_in Thread (Some sample) 0x20002000 ≡ Some (Filed 18 3)
  -- "A file above 65,536 bytes gives 2", damaged or not
  pub too_long : (f : List ℕ) → 65536 < length f → first_broken (file_rows (Some f)) ≡ Err (given_at 2 0)
  -- "28 if it would end past 65,536, then 16 if past the buffer", at any offset; otherwise the record is written
  pub past_most : (subject : Subject) (number offset : ℕ) (name s : List ℕ) → 65536 < offset + (8 + length name)
      → said (filing subject number name offset s) ≡ Err (given_at 28 0)
  pub past_buffer : (subject : Subject) (number offset : ℕ) (name s : List ℕ) → offset + (8 + length name) ≤ 65536 → length s < offset + (8 + length name)
      → said (filing subject number name offset s) ≡ Err (given_at 16 0)
  pub fits : (subject : Subject) (number offset : ℕ) (name s : List ℕ) → offset + (8 + length name) ≤ 65536 → offset + (8 + length name) ≤ length s
      → said (filing subject number name offset s) ≡ Ok (8 + length name)
  -- 27 is given with the lowest damaged record's offset, and exactly where there is one, in a file of at most 65,536 bytes
  pub damaged : (f : List ℕ) (at : ℕ) → first_broken (file_rows (Some f)) ≡ Err (given_at 27 at)
      → IsDamaged f at × ((other : ℕ) → other < at → IsDamaged f other → ⊥)
  pub refused : (f : List ℕ) (at : ℕ) → length f ≤ 65536 → IsDamaged f at → (place : ℕ) × (first_broken (file_rows (Some f)) ≡ Err (given_at 27 place))
  pub accepted : (f : List ℕ) → length f ≤ 65536 → ((at : ℕ) → IsDamaged f at → ⊥) → Accepted (file_rows (Some f))
  -- and so the calls that are given a file are refused by it, and by an accepted one are not
  pub refused_by : (f s : List ℕ) (x : Refusal) → first_broken (file_rows (Some f)) ≡ Err x → RefusedByFile f s x
  pub passed_by : (f s : List ℕ) → Accepted (file_rows (Some f)) → PassedByFile f s
  -- a name is that of the first record for the id or the pointer; there is one wherever there is such a record, and otherwise none
  pub named : (subject : Subject) (f : List ℕ) (number at size : ℕ) → Accepted (file_rows (Some f)) → record_name subject f number ≡ Some (Filed at size) → IsFirst subject number f at size
  pub recorded : (subject : Subject) (f : List ℕ) (number at : ℕ) → IsFor subject number f at → (place : ℕ) × (size : ℕ) × (record_name subject f number ≡ Some (Filed place size))
  pub nameless : (subject : Subject) (f : List ℕ) (number : ℕ) → ((at : ℕ) → IsFor subject number f at → ⊥) → record_name subject f number ≡ None
  -- it lies within the file
  pub within : (subject : Subject) (f : List ℕ) (number at size : ℕ) → Accepted (file_rows (Some f)) → record_name subject f number ≡ Some (Filed at size) → at + size ≤ length f
  -- an empty file is accepted and gives no name
  pub empty_accepted : Accepted (file_rows (Some []))
  pub empty_nameless : (subject : Subject) (number : ℕ) → name_in subject (Some []) number ≡ None
  -- "A thread name comes from the dump if found there, a removed thread's included, else from the file": so without a file it is found as before
  pub from_dump : (file : Option (List ℕ)) (s : List ℕ) (h : Header) (pointer : ℕ) → is_named (name_of s h pointer) ≡ true → name_with file s h pointer ≡ name_of s h pointer
  pub from_file : (file : Option (List ℕ)) (s : List ℕ) (h : Header) (pointer : ℕ) → name_of s h pointer ≡ None → name_with file s h pointer ≡ name_in Thread file pointer
  pub without_file : (s : List ℕ) (pointer : ℕ) → find_name_with None s pointer ≡ find_name s pointer
  -- records of 65,536 bytes at most, written one after another from offset 0 into a buffer that has room for them, are all accepted; the bytes that they take are a file
  -- that is accepted, and that gives each name back, the first for an id or a pointer
  pub written : (rs : List Naming) (s : List ℕ) → total rs ≤ length s → total rs ≤ 65536 → AllWritten 0 rs s
  pub written_accepted : (rs : List Naming) (s : List ℕ) → total rs ≤ length s → total rs ≤ 65536 → Accepted (file_rows (Some (take (total rs) (written_from 0 rs s))))
  pub read_back : (rs : List Naming) (s dump : List ℕ) (subject : Subject) (number : ℕ) → Each (λ r. r.number < 2 ^ 32) rs → total rs ≤ length s → total rs ≤ 65536
      → let file = Some (take (total rs) (written_from 0 rs s)) in
      name_bytes file dump (name_in subject file number) ≡ first_written subject number rs
  -- "without one, lines stay as they are", and a file changes nothing of a line but "event" and a name that was null
  pub changes : (f s : List ℕ) (h : Header) (r : Reading) (position : ℕ) → SameButNames f s (line_at None s h r position) (line_at (Some f) s h r position)
  pub same_words : (f s : List ℕ) (h : Header) (r : Reading) (position : ℕ) → fields r position (event_at (Some f) s h position) ≡ fields r position (event_at None s h position)
