-- A name file: records one after another, each a two-byte length, a two-byte kind, and that many bytes, all little-endian (document 02, A7).
use Rattle.std.specs.Prelude.{ℕ, zero, suc, ◌+◌, ◌-◌, Bool, cond, ◌&&◌, ◌||◌, List, [], ◌∷◌, eqb, leb, ltb, length, None, Option, Some}
use Rattle.rows.specs.Lowest.{lowest}
use Rattle.rows.specs.Rows.{Row, row_at}
use Rattle.trace.specs.Table.{row2}
use Rattle.trace.specs.declared.Name.TheVariants.{Filed}
use Rattle.trace.specs.declared.Name.{Name}
use Rattle.words.specs.Words.{half_at, word_at}
use Rattle.words.specs.declared.Order.TheVariants.{Little}
use Rattle.naming.specs.declared.Sought.{Sought}
use Rattle.naming.specs.declared.Sought.TheVariants.{Damaged, Naming}
use Rattle.naming.specs.declared.Subject.{Subject}
use Rattle.naming.specs.declared.Subject.TheVariants.{Event, Thread}

-- the record at a place: its length, its kind, and where it ends
abbrev pub length_at : List ℕ → ℕ → ℕ
length_at f at = half_at Little f at

abbrev pub kind_at : List ℕ → ℕ → ℕ
kind_at f at = half_at Little f (at + 2)

abbrev pub end_at : List ℕ → ℕ → ℕ
end_at f at = at + 4 + length_at f at

-- where a record starts, by its index: the first at 0, and each where the one before ends
unfoldable pub record_at : List ℕ → ℕ → ℕ
record_at f zero = 0
record_at f (suc i) = end_at f (record_at f i)

-- how many records there are: none starts at the file's end or past it, and there are no more than the file has bytes
abbrev pub record_count : List ℕ → ℕ
record_count f = lowest (λ i. leb (length f) (record_at f i)) (length f)

-- kind 1 is an event's name and kind 2 a thread's; other kinds are stepped over
unfoldable pub kind_of : Subject → ℕ
kind_of Event = 1
kind_of Thread = 2

-- an event's or a thread's: a 32-bit event id or thread pointer, then a name to the record's end, zeros and all
abbrev pub number_at : List ℕ → ℕ → ℕ
number_at f at = word_at Little f (at + 4)

abbrev pub name_at : List ℕ → ℕ → Name
name_at f at = Filed (at + 8) (length_at f at - 4)

-- the record at a place is what is sought: one that runs past the file, or of kind 1 or 2 and shorter than 4 bytes; or one for an event's id or a thread's pointer
unfoldable pub is_sought_at : Sought → List ℕ → ℕ → Bool
is_sought_at Damaged f at = ltb (length f) (end_at f at) || ((eqb (kind_at f at) 1 || eqb (kind_at f at) 2) && ltb (length_at f at) 4)
is_sought_at (Naming subject number) f at = eqb (kind_at f at) (kind_of subject) && eqb (number_at f at) number

-- the first such record, by its index; the number of records where there is none
abbrev pub first_record : Sought → List ℕ → ℕ
first_record sought f = lowest (λ i. is_sought_at sought f (record_at f i)) (record_count f)

abbrev pub has_record : Sought → List ℕ → Bool
has_record sought f = ltb (first_record sought f) (record_count f)

-- a record that runs past the file, or of kind 1 or 2 and shorter than 4 bytes: the lowest such record's offset
unfoldable pub row27 : List ℕ → Row
row27 f = row_at 27 (has_record Damaged f) (record_at f (first_record Damaged f))

-- the whole file is checked, where one is given: 2, 27
abbrev pub file_rows : Option (List ℕ) → List Row
file_rows None = []
file_rows (Some f) = row2 (length f) ∷ row27 f ∷ []

-- the name in a file for an event's id or a thread's pointer: the first record for it counts
unfoldable pub record_name : Subject → List ℕ → ℕ → Option Name
record_name subject f number =
    cond (has_record (Naming subject number) f) (Some (name_at f (record_at f (first_record (Naming subject number) f)))) None

-- where no file is given, there is none
unfoldable pub name_in : Subject → Option (List ℕ) → ℕ → Option Name
name_in subject None number = None
name_in subject (Some f) number = record_name subject f number
