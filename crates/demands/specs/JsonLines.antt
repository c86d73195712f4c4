-- Each line without its 0A is a JSON text of RFC 8259, and what `json_numbers` finds in such a text are its numbers.
use Rattle.std.specs.Prelude.{ℕ, Bool, true, false, List, [], ◌∷◌, ◌++◌, map, ◌≡◌, None, Option, Some}
use Prim.Native.String.{String}
use Rattle.events.specs.Events.{event_at}
use Rattle.events.specs.Listing.{fields, line_at, title_in}
use Rattle.events.specs.declared.Reading.{Reading}
use Rattle.text.specs.Ascii.{ascii}
use Rattle.text.specs.Lines.{line, separated}
use Rattle.text.specs.Names.{name}
use Rattle.text.specs.Numbers.{digits, is_bare, number}
use Rattle.text.specs.ReadBack.{IsName}
use Rattle.text.specs.declared.Context.{Context}
use Rattle.text.specs.declared.Context.TheVariants.{Init, Isr, Thread}
use Rattle.text.specs.declared.Line.{Line}
use Rattle.trace.specs.Names.{file_bytes, name_bytes}
use Rattle.trace.specs.Ring.{keep}
use Rattle.trace.specs.declared.Header.{Header}
use Rattle.words.specs.Each.{Each}
use Rattle.words.specs.Words.{AreBytes}
use Rattle.demands.specs.Json.{Members, Value, json_text, object}
use Rattle.demands.specs.JsonContents.{Member, members_of, numbers_in_value}
use Rattle.demands.specs.JsonNumbers.{json_numbers, numbers_of}

-- the context's words
abbrev pub by_text : Context → List ℕ
by_text Init = ascii "\"init\""
by_text Isr = ascii "\"isr\""
by_text Thread = ascii "\"thread\""

-- true and false, as literals
abbrev pub gone_text : Bool → List ℕ
gone_text true = ascii "true"
gone_text false = ascii "false"

-- the members of a line, in the order of document 01, "gone" behind "name" (document 02, A5), and where there is a name file "event" behind "id" (A7)
abbrev pub labelled : String → List ℕ → Member
labelled name text = record { name = ascii name; text = text }

abbrev pub event_members : Option (Option (List ℕ)) → List Member
event_members None = []
event_members (Some title) = labelled "event" (name title) ∷ []

abbrev pub line_members : Line → Option (Option (List ℕ)) → Option (List ℕ) → List Member
line_members l event n =
    labelled "key" (number l.key)
    ∷ labelled "ticks" (number l.ticks)
    ∷ labelled "us" (number l.us)
    ∷ labelled "id" (number l.id)
    ∷ (event_members event
    ++ (labelled "ptr" (number l.ptr)
    ∷ labelled "by" (by_text l.by)
    ∷ labelled "name" (name n)
    ∷ labelled "gone" (gone_text l.gone)
    ∷ labelled "field" (number l.field)
    ∷ labelled "info" (ascii "[" ++ separated (number l.info.first ∷ number l.info.second ∷ number l.info.third ∷ number l.info.fourth ∷ []) ++ ascii "]")
    ∷ []))

-- no two of a list are the same
abbrev pub Distinct : List (List ℕ) → Type 0
Distinct [] = Unit {0}
Distinct (a ∷ more) = Each (λ b. a ≡ b → ⊥) more × Distinct more

-- a text is the object with a line's members, and byte 0A; its numbers are the digits of the line's bare ones
pub record IsObject (l : Line) (event : Option (Option (List ℕ))) (n : Option (List ℕ)) (text : List ℕ) : Type 0 where
  pub members : Members
  pub is_text : text ≡ json_text (object members) ++ (0x0A ∷ [])
  pub are : members_of members ≡ line_members l event n
  pub numbers : numbers_in_value (object members) ≡ map digits (keep is_bare (numbers_of l))

-- an event's name, where the line has one
abbrev pub IsTitle : Option (Option (List ℕ)) → Type 0
IsTitle None = Unit {0}
IsTitle (Some title) = IsName title

pub record JsonLines : Type 0 where
  pub line_object : (l : Line) (event : Option (Option (List ℕ))) (n : Option (List ℕ)) → IsTitle event → IsName n → IsObject l event n (line l event n)
  -- so is every line of a dump, which is of bytes, as a name file is
  pub listed_object : (file : Option (List ℕ)) (s : List ℕ) (h : Header) (r : Reading) (position : ℕ) → AreBytes s → AreBytes (file_bytes file)
      → let event = event_at file s h position in
      IsObject (fields r position event) (title_in file s event) (name_bytes file s event.name) (line_at file s h r position)
  -- no two members have one name
  pub names_distinct : (l : Line) (event : Option (Option (List ℕ))) (n : Option (List ℕ)) → Distinct (map (λ m. m.name) (line_members l event n))
  -- the numbers of any text of the grammar are those that `json_numbers` finds in it, also where 0A and more follow
  pub numbers_found : (value : Value) → json_numbers (json_text value) ≡ numbers_in_value value
  pub numbers_found_first : (value : Value) (more : List ℕ) → json_numbers (json_text value ++ (0x0A ∷ more)) ≡ numbers_in_value value ++ json_numbers more
