-- The three demands, each sentence in quotes above what states it.
use Rattle.std.specs.Prelude.{ℕ, suc, ◌+◌, ◌*◌, ◌^◌, ◌≤◌, ◌<◌, min, List, [], ◌∷◌, ◌++◌, map, ◌≡◌, drop, length, take, Err, Ok, Option, Result}
use Rattle.events.specs.Events.{event_at, event_of, event_rows, shown_told}
use Rattle.events.specs.Listing.{Gave, fields, line_at, line_rows, listing_rows, listing_text}
use Rattle.events.specs.declared.Reading.{Reading}
use Rattle.mending.specs.Mending.{copy_of, mend_of, mended_told, mending_rows}
use Rattle.naming.specs.Finding.{find_name_with, finding_rows}
use Rattle.naming.specs.Records.{file_rows}
use Rattle.naming.specs.declared.Subject.{Subject}
use Rattle.pieces.specs.Pieces.{finish_rows, finished}
use Rattle.pieces.specs.declared.Pieces.{Pieces}
use Rattle.rows.specs.Lent.{left_in}
use Rattle.rows.specs.Rows.{Accepted, first_broken}
use Rattle.rows.specs.Told.{number_told}
use Rattle.rows.specs.declared.Refusal.{Refusal}
use Rattle.text.specs.Numbers.{digits, is_bare}
use Rattle.trace.specs.Check.{check_of, checked_told, sound_dump}
use Rattle.trace.specs.Layout.{buffer_end, header_of, most_bytes}
use Rattle.trace.specs.Names.{find_name, found_told}
use Rattle.trace.specs.Ring.{keep}
use Rattle.trace.specs.Slots.{event_count}
use Rattle.trace.specs.Table.{before_ends, dump_rows, header_rows, layout_rows, registry_rows}
use Rattle.trace.specs.declared.Header.{Header}
use Rattle.trace.specs.declared.Slot.{Slot}
use Rattle.words.specs.Each.{Each}
use Rattle.words.specs.Words.{AreBytes}
use Rattle.writing.specs.Arguments.{IsSlot}
use Rattle.writing.specs.Writing.{Change, filing, formatting, fresh_end, fresh_header, left, recording, registering, removing, said}
use Rattle.writing.specs.declared.Format.{Format}
use Rattle.writing.specs.declared.Object.{Object}
use Rattle.demands.specs.BareNumbers.{BareNumbers}
use Rattle.demands.specs.Cut.{CutAt, CutShort, NonsenseEnd, RegistryThere, Resumed, RightBuffer}
use Rattle.demands.specs.EveryCall.{AllRefused, SomeRefused}
use Rattle.demands.specs.Gives.{Gives}
use Rattle.demands.specs.History.{Call, NeverBack, NoneFormats, Typed, Write, accepted_writes, after, last_of, since_oldest, true_gap, whole_ranges}
use Rattle.demands.specs.JsonLines.{JsonLines}
use Rattle.demands.specs.JsonNumbers.{json_numbers, listed_numbers, numbers_of}
use Rattle.demands.specs.Keys.{Keys}
use Rattle.demands.specs.Layouts.{Layouts}
use Rattle.demands.specs.Masks.{Masks, range}
use Rattle.demands.specs.NameFiles.{NameFiles}
use Rattle.demands.specs.Names.{Names}
use Rattle.demands.specs.NotRead.{DifferOnlyThere, SameAnswers, Whole}
use Rattle.demands.specs.Offsets.{Offsets}
use Rattle.demands.specs.OrderAndTime.{OrderAndTime}
use Rattle.demands.specs.Patterns.{Patterns}
use Rattle.demands.specs.Pieces.{InPieces}
use Rattle.demands.specs.Refusals.{Orders, Refuses, RefusesAndKeeps, given_at}
use Rattle.demands.specs.Shown.{ReadingAccepted, lines_of, shown_microseconds, shown_ticks}
use Rattle.demands.specs.Texts.{Texts}
use Rattle.demands.specs.Turns.{Turns}
use Rattle.demands.specs.Writings.{Filed, Formatted, Recorded, Registered, Removed, Reused}

-- THE FIRST DEMAND

-- a call that writes into a buffer s
abbrev pub Writes : Change → List ℕ → Type 0
Writes c s = RefusesAndKeeps c.rows s (left c s) (number_told (said c))

-- "Any bytes and any arguments get an answer." "No caller is asked to have checked anything." That nothing is asked is said of the contracts themselves:
-- `asks_nothing` in `library` (`contracts`). That each function then ends, with an answer that its contract allows, is what its own proof says.
-- "A dump that breaks a rule which the call checks is refused with the number and place that document 01 gives, and then no lent buffer is altered."
pub record FirstDemand : Type 0 where
  -- the rows that each call checks, by their numbers and places
  pub orders : Orders
  -- calls that are lent a dump to be read, and maybe a name file (document 02, A7)
  pub checking : (s : List ℕ) → Refuses (dump_rows s (header_of s)) (checked_told (check_of s))
  pub finding : (s : List ℕ) (pointer : ℕ) → Refuses (registry_rows s (header_of s)) (found_told (find_name s pointer))
  pub finding_with : (file : Option (List ℕ)) (s : List ℕ) (pointer : ℕ) → Refuses (finding_rows file s (header_of s)) (found_told (find_name_with file s pointer))
  pub event : (file : Option (List ℕ)) (s : List ℕ) (position : ℕ) → Refuses (event_rows file s (header_of s) position) (shown_told (event_of file s position))
  -- calls that are lent output too
  pub listing : (file : Option (List ℕ)) (s : List ℕ) (r : Reading) (old new : List ℕ) (answer : Result ℕ Refusal)
      → Gave (listing_rows file s (header_of s) r (length old)) (listing_text file s (header_of s) r) old new answer
      → RefusesAndKeeps (listing_rows file s (header_of s) r (length old)) old new (number_told answer)
  pub line : (file : Option (List ℕ)) (s : List ℕ) (r : Reading) (position : ℕ) (old new : List ℕ) (answer : Result ℕ Refusal)
      → Gave (line_rows file s (header_of s) r position (length old)) (line_at file s (header_of s) r position) old new answer
      → RefusesAndKeeps (line_rows file s (header_of s) r position (length old)) old new (number_told answer)
  -- calls that are lent a buffer to be written
  pub formatting : (f : Format) (s : List ℕ) → Writes (formatting f s) s
  pub recording : (slot : Slot) (s : List ℕ) → Writes (recording slot s) s
  pub registering : (object : Object) (name s : List ℕ) → Writes (registering object name s) s
  pub removing : (pointer : ℕ) (s : List ℕ) → Writes (removing pointer s) s
  pub filing : (subject : Subject) (number : ℕ) (name : List ℕ) (offset : ℕ) (s : List ℕ) → Writes (filing subject number name offset s) s
  -- mending, which is lent a second buffer for the copy (document 02, A2)
  pub mending : (s old : List ℕ)
      → let rows = mending_rows s (header_of s) (length old) in
      RefusesAndKeeps rows old (left_in old (first_broken rows) (copy_of s (header_of s))) (mended_told (mend_of s (length old)))
  -- what 1 to 9 refuse, save 26 at the buffer end, every call that reads a trace buffer refuses alike, and so does mending; where 1 to 6 pass, the registry is there and
  -- the buffer's end is right, whether or not the slots came, it takes whatever dump there is room for, and less room gives 16
  pub mending_alike : (s : List ℕ) (f : Refusal) → first_broken (layout_rows (header_of s) (length s)) ≡ Err f
      → AllRefused s f × ((room : ℕ) → mend_of s room ≡ Err f)
  pub mending_takes : (s : List ℕ) (room : ℕ) → Accepted (before_ends (header_of s) (length s)) → RegistryThere (header_of s) (length s) → RightBuffer (header_of s)
      → (buffer_end (header_of s) ≤ room → Accepted (mending_rows s (header_of s) room)) × (room < buffer_end (header_of s) → mend_of s room ≡ Err (given_at 16 0))
  -- 26 is given exactly where an end offset is otherwise right but beyond the dump's length, and callers but mending pass it on; a nonsense end
  -- gets 7 or 9 (document 02, A1)
  pub says_cut : (s : List ℕ) (k : ℕ) → CutShort (header_of s) (length s) k → AllRefused s (given_at 26 k)
  pub only_cut : (s : List ℕ) (k : ℕ) → SomeRefused s (given_at 26 k) → CutShort (header_of s) (length s) k
  pub nonsense : (s : List ℕ) → Accepted (before_ends (header_of s) (length s)) → NonsenseEnd s
  -- a dump that was cut says so: the first n bytes of any that passes 1 to 10, whatever later rows say of it
  pub cut : (s : List ℕ) (n : ℕ) → Accepted (header_rows (header_of s) (length s)) → CutAt s n
  -- where 26 was given, fewer bytes appended leave the others missing; that many, whatever they are, and no 26 is given for that end any more
  pub resumed : (s : List ℕ) (k : ℕ) → SomeRefused s (given_at 26 k) → Resumed s k
  -- a dump that comes in pieces, however it is cut, gets the answer of the whole; and the finish of any state, also of one made by hand, is refused by the first
  -- row that is broken by what the state shows (document 02, A4)
  pub in_pieces : InPieces
  pub finishing : (p : Pieces) → Refuses (finish_rows p) (checked_told (finished p))

-- THE SECOND DEMAND

pub record SecondDemand : Type 0 where
  -- "Reading follows chapter 11 of the ThreadX guide as 01 condenses it, for both byte orders, and so does the writer that formats, records and registers."
  -- what is written is read back
  pub one_description : Layouts
  -- the id, the mask, offsets, the used/unused rule, order and time, and names, in the documents' words
  pub patterns : (s : List ℕ) → AreBytes s → Patterns s
  pub masks : Masks
  pub offsets : Offsets
  pub turns : (s : List ℕ) (h : Header) → Turns s h
  pub order_and_time : (s : List ℕ) (h : Header) → Accepted (dump_rows s h) → OrderAndTime s h
  pub names : (s : List ℕ) → Names s
  -- names from the build (document 02, A7)
  pub name_files : NameFiles
  -- reserved fields and bytes past the buffer end are not read
  pub not_read : (s t : List ℕ) → DifferOnlyThere s t → SameAnswers s t
  -- so bytes appended past both ends change no answer of the calls that read, nor what recording, registering and removing say, as long as the whole
  -- stays at most 65,536 bytes
  pub appended : (s more : List ℕ) → Whole (header_of s) (length s) → length (s ++ more) ≤ most_bytes → SameAnswers s (s ++ more)
  -- what the writer leaves, arguments having the width that their types say
  pub formats : (f : Format) (s : List ℕ) → f.base < 2 ^ 32 → Accepted (formatting f s).rows
      → Formatted f s (left (formatting f s) s) (fresh_header f (fresh_end f (length s)))
  pub records : (slot : Slot) (s : List ℕ) → IsSlot slot → Accepted (recording slot s).rows → Recorded slot s (left (recording slot s) s) (header_of s)
  pub registers : (object : Object) (name s : List ℕ) → object.pointer < 2 ^ 32 → Accepted (registering object name s).rows
      → Registered object name s (left (registering object name s) s) (header_of s)
  pub removes : (pointer : ℕ) (s : List ℕ) → Accepted (removing pointer s).rows → Removed pointer s (left (removing pointer s) s) (header_of s)
  pub reuses : (pointer : ℕ) (object : Object) (name s : List ℕ) → object.pointer < 2 ^ 32 → Accepted (removing pointer s).rows
      → Accepted (registering object name (left (removing pointer s) s)).rows → Reused pointer object name s
  pub files : (subject : Subject) (number : ℕ) (name : List ℕ) (offset : ℕ) (s : List ℕ) → Accepted (filing subject number name offset s).rows
      → Filed subject number name offset s (left (filing subject number name offset s) s)
  -- what the calls give
  pub gives : Gives
  -- "The listing is the one text that 01 defines,": its length is given, it stands in the output, and output past it keeps its bytes
  pub listing : (file : Option (List ℕ)) (s : List ℕ) (r : Reading) (old new : List ℕ) (n : ℕ)
      → let text = listing_text file s (header_of s) r in
      Gave (listing_rows file s (header_of s) r (length old)) text old new (Ok n) → (n ≡ length text) × (new ≡ text ++ drop n old)
  pub line : (file : Option (List ℕ)) (s : List ℕ) (r : Reading) (position : ℕ) (old new : List ℕ) (n : ℕ)
      → let text = line_at file s (header_of s) r position in
      Gave (line_rows file s (header_of s) r position (length old)) text old new (Ok n) → (n ≡ length text) × (new ≡ text ++ drop n old)
  -- each line is ended by byte 0A and has no other; an empty ring gives no bytes
  pub one_line : (file : Option (List ℕ)) (s : List ℕ) (h : Header) (r : Reading) (position : ℕ)
      → (body : List ℕ) × (line_at file s h r position ≡ body ++ (0x0A ∷ [])) × Each (λ c. c ≡ 0x0A → ⊥) body
  pub empty_ring : (file : Option (List ℕ)) (s : List ℕ) (h : Header) (r : Reading) → event_count s h ≡ 0 → listing_text file s h r ≡ []
  -- "JSON is RFC 8259.": each line without its 0A is an object by its grammar, with the members of document 01, "gone" and, with a name file, "event", and the
  -- numbers of a text are those that `json_numbers` finds
  pub json : JsonLines
  -- what is printed reads back
  pub texts : Texts
  -- "and no whole number at or above two to the fifty-third leaves as a JSON number." (document 02, A3): in what was written, the JSON numbers are the
  -- digits of the lines' bare numbers, in their order, and nothing else
  pub numbers : (file : Option (List ℕ)) (s : List ℕ) (r : Reading) (old new : List ℕ) (n : ℕ)
      → Gave (listing_rows file s (header_of s) r (length old)) (listing_text file s (header_of s) r) old new (Ok n)
      → json_numbers (take n new) ≡ map digits (keep is_bare (listed_numbers file s (header_of s) r))
  pub line_numbers : (file : Option (List ℕ)) (s : List ℕ) (r : Reading) (position : ℕ) (old new : List ℕ) (n : ℕ)
      → Gave (line_rows file s (header_of s) r position (length old)) (line_at file s (header_of s) r position) old new (Ok n)
      → json_numbers (take n new) ≡ map digits (keep is_bare (numbers_of (fields r position (event_at file s (header_of s) position))))
  -- a bare number is below two to the fifty-third, and no other number has its double
  pub bare_numbers : BareNumbers
  -- events have keys of their own, also as a page reads them
  pub keys : Keys

-- THE THIRD DEMAND

-- what a buffer t of n slots shows after k accepted writes
pub record Shows (mask k n : ℕ) (writes : List Write) (t : List ℕ) : Type 0 where
  -- the dump passes the whole check
  pub passes : check_of t ≡ Ok (sound_dump (header_of t) (min k n))
  -- "A reading whose rate, unit, serial and output room are accepted then lists the last min(k, n) events, oldest first, with pointer, field, id and
  -- information words as written." "Demand 3 from now on also asks that the file, where one is given, is accepted." (document 02, A7)
  pub lists : (file : Option (List ℕ)) (r : Reading) (old new : List ℕ) (answer : Result ℕ Refusal) → ReadingAccepted r (min k n) → Accepted (file_rows file)
      → let text = lines_of file t r (last_of n writes) in
      length text ≤ length old
      → Gave (listing_rows file t (header_of t) r (length old)) (listing_text file t (header_of t) r) old new answer
      → (answer ≡ Ok (length text)) × (new ≡ text ++ drop (length text) old)
  -- "A true gap is the difference of the true times of two neighbouring listed events." (`true_gap`)
  -- "For each event, the shown ticks plus the timer range times the whole ranges contained in each true gap from the oldest listed event up to it, summed,
  -- is the true time since that oldest event."
  pub ticks : NeverBack writes → (p : ℕ) → p < min k n
      → shown_ticks t p + range mask * whole_ranges (range mask) (last_of n writes) p ≡ since_oldest (last_of n writes) p
  -- "So it is exact if no true gap reaches the range."
  pub exact : NeverBack writes → ((i : ℕ) → suc i < min k n → true_gap (last_of n writes) i < range mask)
      → (p : ℕ) → p < min k n → shown_ticks t p ≡ since_oldest (last_of n writes) p
  -- "The shown microseconds never pass the shown ticks' exact time and fall short of it by less than one:
  -- times the rate they are at most the ticks times 1,000,000, and with one more they would be above."
  pub not_above : (r : Reading) (p : ℕ) → 1 ≤ r.rate → shown_microseconds t r p * r.rate ≤ shown_ticks t p * 1000000
  pub one_more : (r : Reading) (p : ℕ) → 1 ≤ r.rate → shown_ticks t p * 1000000 < suc (shown_microseconds t r p) * r.rate

-- "Take a freshly formatted buffer of n slots and k accepted writes at true times that never go back, each write given its time modulo two to the 32;
-- refused calls, registrations and removals may come between." (That true times never go back is asked only where times are shown. A formatting that is
-- accepted begins a new history.)
abbrev pub ThirdDemandAt : ℕ → ℕ → (Slot → List ℕ → Change) → Type 0
ThirdDemandAt k n recorder =
    (f : Format) (s : List ℕ) (calls : List Call) → f.base < 2 ^ 32 → said (formatting f s) ≡ Ok n → Each Typed calls
    → let fresh = left (formatting f s) s in
    let writes = accepted_writes recorder calls fresh in
    NoneFormats recorder calls fresh → length writes ≡ k → Shows f.mask k n writes (after recorder calls fresh)

abbrev pub ThirdDemand : (Slot → List ℕ → Change) → Type 0
ThirdDemand recorder = (k n : ℕ) → ThirdDemandAt k n recorder

pub record Demands : Type 0 where
  pub first : FirstDemand
  pub second : SecondDemand
  pub third : ThirdDemand recording
