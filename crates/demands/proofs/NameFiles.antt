-- Name files: the records that start are those that are counted; records written one after another are one run of bytes, read back record by record; a file changes a line only where the dump gives no name.
use Rattle.std.specs.Prelude.{Err, None, Ok, Option, Some}
use Prim.Native.Nat.{ℕ, zero, suc, ◌+◌, ◌^◌, ◌≤◌, ◌<◌}
use mathlib.Core.Bool.{Bool, cond, false, true, not-eq-not, true≢false}
use mathlib.Core.List.{List, [], ◌∷◌, ◌++◌}
use mathlib.Core.Logic.{◌⊎◌, inl, inr}
use mathlib.Core.Path.{◌≡◌, refl, sym, ap, ap₂, ◌∙◌}
use native.Mathlib.Omega.{arith}
use borrow.Author.Tests.{le-ltb, lt-ltb, ltb-true}
use lib.ListN.{length, length-append, replicate, take}
use lib.Seq.{sets, length-sets}
use Rattle.events.specs.Events.{event_at, event_in, name_for}
use Rattle.events.specs.Listing.{fields, line_at, line_of, title_in}
use Rattle.events.specs.declared.Event.{Event}
use Rattle.events.specs.declared.Reading.{Reading}
use Rattle.naming.proofs.Finding.{without_file}
use Rattle.naming.proofs.Accepted.{damaged_refused, faulty_hit, hit_faulty, refused_at, whole_accepted}
use Rattle.naming.proofs.Named.{filed_has, has_name, is_sought, name_begins, name_ends, name_within, no_name, record_not_gone, sought_is}
use Rattle.naming.proofs.ReadBack.{damaged_behind, name_or_behind, record_length}
use Rattle.naming.proofs.Records.{count_inside, inside_count, records_order}
use Rattle.naming.specs.Finding.{name_with}
use Rattle.naming.specs.Records.{end_at, first_record, has_record, is_sought_at, kind_of, name_in, record_at, record_count, record_name, row27}
use Rattle.naming.specs.Writing.{record_bytes, record_size, row28}
use Rattle.naming.specs.declared.Sought.{Sought}
use Rattle.naming.specs.declared.Sought.TheVariants as sought
use Rattle.naming.specs.declared.Subject.{Subject}
use Rattle.naming.specs.declared.Subject.TheVariants as subject
use Rattle.rows.proofs.Lowest.{lowest_before, lowest_hit, none_hit, none_lowest}
use Rattle.rows.specs.Lowest.{lowest}
use Rattle.rows.specs.Rows.{first_broken}
use Rattle.text.specs.Lines.{line}
use Rattle.text.specs.declared.Context.{Context}
use Rattle.text.specs.declared.Context.TheVariants.{Init, Isr, Thread}
use Rattle.trace.proofs.Chosen.{dump_bytes, first_chosen}
use Rattle.trace.proofs.Opened.{open_check}
use Rattle.trace.specs.Names.{is_gone, name_bytes, name_of, or_else}
use Rattle.trace.specs.Table.{row2, row16}
use Rattle.trace.specs.declared.Header.{Header}
use Rattle.trace.specs.declared.Name.TheVariants.{Filed, Named}
use Rattle.trace.specs.declared.Name.{Name}
use Rattle.trace.specs.declared.Slot.{Slot}
use Rattle.words.proofs.Runs.{run_back, runs_join}
use Rattle.words.specs.Each.{Each}
use Rattle.writing.proofs.Filed.{filed}
use Rattle.writing.proofs.Opened.{open_writing}
use Rattle.writing.specs.Writing.{filing, left, said}
use Rattle.demands.proofs.FileChecks.{passed_by_file, refused_by_file}
use Rattle.demands.specs.NameFiles.{AllWritten, IsDamaged, NameFiles, Naming, SameButNames, Starts, filed_for, first, first_written, is_of, next, sample, sample_records, total, written_from}

-- the records that start are those that are counted
module _ (f : List ℕ) where
  counted : {at : ℕ} → Starts f at → (i : ℕ) × (i < record_count f) × (at ≡ record_at f i)
  unfolding record_at
  counted (first inside) = (0, count_inside f 0 inside, refl)
  counted (next at starts inside) =
      let (i, before, same) = counted starts in
      let on : end_at f at ≡ record_at f (suc i) = ap (end_at f) same in
      (suc i, count_inside f (suc i) (rw on at inside), on)

  record_starts : (i : ℕ) → i < record_count f → Starts f (record_at f i)
  unfolding record_at
  record_starts zero inside = first (inside_count f 0 inside)
  record_starts (suc i) inside = next (record_at f i) (record_starts i (omega arith)) (inside_count f (suc i) inside)

  -- so a search goes over these
  module _ (wanted : Sought) where
    abbrev is_wanted : ℕ → Bool
    is_wanted i = is_sought_at wanted f (record_at f i)

    abbrev start : ℕ
    start = record_at f (first_record wanted f)

    found : has_record wanted f ≡ true → Starts f start × (is_sought_at wanted f start ≡ true)
    found has =
        let inside : first_record wanted f < record_count f = ltb-true _ _ has in
        (record_starts (first_record wanted f) inside, lowest_hit is_wanted (record_count f) inside)

    none_lower : (other : ℕ) → other < start → Starts f other → is_sought_at wanted f other ≡ true → ⊥
    none_lower other lower starts hit =
        let (i, inside, same) = counted starts in
        let later : first_record wanted f ≤ i → ⊥ = λ past. omega (arith, records_order f (first_record wanted f) i past) in
        true≢false (sym hit ∙ ap (is_sought_at wanted f) same ∙ lowest_before is_wanted (record_count f) i (omega arith))

    none_starts : has_record wanted f ≡ false → (other : ℕ) → Starts f other → is_sought_at wanted f other ≡ true → ⊥
    none_starts absent other starts hit =
        let (i, inside, same) = counted starts in
        true≢false (sym hit ∙ ap (is_sought_at wanted f) same ∙ none_hit is_wanted (record_count f) absent i inside)

    has-record : (other : ℕ) → Starts f other → is_sought_at wanted f other ≡ true → has_record wanted f ≡ true
    has-record other starts hit = (not-eq-not {b = true}).0 (λ absent. none_starts absent other starts hit)

    no_record : ((other : ℕ) → Starts f other → is_sought_at wanted f other ≡ true → ⊥) → has_record wanted f ≡ false
    no_record absent = none_lowest is_wanted (record_count f) (λ i inside. (not-eq-not {b = false}).0 (absent (record_at f i) (record_starts i inside)))

  first_damaged : has_record sought.Damaged f ≡ true
      → IsDamaged f (record_at f (first_record sought.Damaged f)) × ((other : ℕ) → other < record_at f (first_record sought.Damaged f) → IsDamaged f other → ⊥)
  first_damaged has =
      let (starts, hit) = found sought.Damaged has in
      ((starts, hit_faulty f _ hit), λ other lower damaged. none_lower sought.Damaged other lower damaged.0 (faulty_hit f other damaged.1))

-- records written one after another are one run of bytes
abbrev bytes_of : Naming → List ℕ
bytes_of r = record_bytes r.subject r.number r.name

abbrev file_of : List Naming → List ℕ
file_of [] = []
file_of (r ∷ rs) = bytes_of r ++ file_of rs

bytes_size : (r : Naming) → length (bytes_of r) ≡ record_size r.name
bytes_size r = record_length r.subject r.number r.name

file_total : (rs : List Naming) → length (file_of rs) ≡ total rs
file_total [] = refl
file_total (r ∷ rs) = length-append (bytes_of r) (file_of rs) ∙ ap₂ ◌+◌ (bytes_size r) (file_total rs)

one_run : (rs : List Naming) (at : ℕ) (s : List ℕ) → at + total rs ≤ length s → at + total rs ≤ 65536 → AllWritten at rs s × (written_from at rs s ≡ sets s at (file_of rs))
one_run [] at s fits short = (tt, refl)
one_run (r ∷ rs) at s fits short =
    let change = filing r.subject r.number r.name at s in
    let (says, leaves) = filed r.subject r.number r.name at s (omega arith) (omega arith) in
    let (more, run) = one_run rs (at + record_size r.name) (left change s) (rw (leaves, length-sets) (omega arith)) (omega arith) in
    let joins = runs_join (bytes_of r) (file_of rs) s at in
    ((says, more), run ∙ ap₂ (λ (t : List ℕ) (size : ℕ). sets t (at + size) (file_of rs)) leaves (sym (bytes_size r)) ∙ joins)

-- so what they take is a file without a damaged record, and gives the names back
file_is : (rs : List Naming) (s : List ℕ) → total rs ≤ length s → total rs ≤ 65536 → take (total rs) (written_from 0 rs s) ≡ file_of rs
file_is rs s fits short = rw ((one_run rs 0 s (omega arith) (omega arith)).1, ← file_total rs) (run_back (file_of rs) s 0 (omega (arith, file_total rs)))

none_damaged : (rs : List Naming) → total rs ≤ 65536 → has_record sought.Damaged (file_of rs) ≡ false
unfolding lowest
none_damaged [] short = refl
none_damaged (r ∷ rs) short = damaged_behind r.subject r.number r.name (file_of rs) (omega arith) ∙ none_damaged rs (omega arith)

names_back : (rs : List Naming) (dump : List ℕ) (wanted : Subject) (number : ℕ) → Each (λ r. r.number < 2 ^ 32) rs → total rs ≤ 65536
    → name_bytes (Some (file_of rs)) dump (record_name wanted (file_of rs) number) ≡ first_written wanted number rs
unfolding first_written lowest name_bytes record_name
names_back [] dump wanted number small short = refl
names_back (r ∷ rs) dump wanted number (small, rest) short =
    name_or_behind r.subject r.number r.name (file_of rs) (omega arith) small dump wanted number
    ∙ ap (cond (is_of wanted number r) (Some r.name)) (names_back rs dump wanted number rest (omega arith))

-- a name with a file agrees with that without it: as to "gone", and in its bytes, unless there was none, and then it is the file's
module _ (f s : List ℕ) (h : Header) where
  abbrev Agrees : Option Name → Option Name → Option Name → Type 0
  Agrees filed with-file without =
      (is_gone with-file ≡ is_gone without) × ((name_bytes (Some f) s with-file ≡ name_bytes None s without) ⊎ ((name_bytes None s without ≡ None) × (name_bytes (Some f) s with-file ≡ name_bytes (Some f) s filed)))

  agrees : (pointer : ℕ) → Agrees (record_name subject.Thread f pointer) (name_with (Some f) s h pointer) (name_with None s h pointer)
  unfolding name_bytes name_in name_with
  agrees pointer = by (name_of s h pointer) (dump_bytes (Some f) None s h pointer)
    where
      filed : Option Name
      filed = record_name subject.Thread f pointer

      by : (name : Option Name) → name_bytes (Some f) s name ≡ name_bytes None s name → Agrees filed (or_else name filed) (or_else name None)
      by None same = (record_not_gone f subject.Thread pointer, inr (refl, refl))
      by (Some (Named kind at size)) same = (refl, inl same)
      by (Some (Filed at size)) same = (refl, inl same)

  agrees_for : (by : Context) (slot : Slot) → Agrees (filed_for by f slot.pointer slot.field) (name_for by (Some f) s h slot) (name_for by None s h slot)
  unfolding name_bytes name_for
  agrees_for Init slot = (refl, inl refl)
  agrees_for Isr slot = agrees slot.field
  agrees_for Thread slot = agrees slot.pointer

  unless_none : {A B C : Type 0} → A ⊎ (B × C) → A ⊎ B
  unless_none (inl a) = inl a
  unless_none (inr (b, c)) = inr b

  -- and so do lines
  module _ (r : Reading) (position : ℕ) where
    abbrev event : Option (List ℕ) → Event
    event file = event_at file s h position

    same_fields : fields r position (event (Some f)) ≡ fields r position (event None)
    unfolding event_in fields
    same_fields = rw (agrees_for _ _).0

    same_line : SameButNames f s (line_at None s h r position) (line_at (Some f) s h r position)
    unfolding event_in fields line_of name_in title_in
    same_line = record {
      words = fields r position (event None);
      name = name_bytes None s (event None).name;
      name' = name_bytes (Some f) s (event (Some f)).name;
      event = name_bytes (Some f) s (event (Some f)).title;
      before = refl;
      after = ap (λ words. line words (Some (name_bytes (Some f) s (event (Some f)).title)) (name_bytes (Some f) s (event (Some f)).name)) same_fields;
      kept = unless_none (agrees_for _ _).1;
      filed = (agrees_for _ _).1;
      titled = refl;
    }

-- the sample, as it is written and read
sample_bytes : written_from 0 sample_records (replicate 21 0) ≡ sample
unfolding open_writing kind_of
sample_bytes = refl

sample_named : (name_in subject.Event (Some sample) 1025 ≡ Some (Filed 8 2)) × (name_in subject.Thread (Some sample) 0x20002000 ≡ Some (Filed 18 3))
unfolding open_check is_sought_at kind_of name_in record_at record_name
sample_named = (refl, refl)

-- the two limits of writing
module _ (wanted : Subject) (number offset : ℕ) (name s : List ℕ) where
  abbrev end : ℕ
  end = offset + (8 + length name)

  said_past_most : 65536 < end → said (filing wanted number name offset s) ≡ Err (record { number = 28; place = 0 })
  unfolding filing first_broken row28
  said_past_most past = rw (lt-ltb 65536 end past)

  said_past_buffer : end ≤ 65536 → length s < end → said (filing wanted number name offset s) ≡ Err (record { number = 16; place = 0 })
  unfolding filing first_broken row16 row28
  said_past_buffer within past = rw (le-ltb 65536 end within, lt-ltb (length s) end past)

  said_done : end ≤ 65536 → end ≤ length s → said (filing wanted number name offset s) ≡ Ok (8 + length name)
  unfolding filing first_broken row16 row28
  said_done within room = rw (le-ltb 65536 end within, le-ltb (length s) end room)

pub name_files : NameFiles
unfolding first_broken lowest name_in name_with record_name row2 row27
name_files = record {
  sample_written = sample_bytes;
  sample_event = sample_named.0;
  sample_thread = sample_named.1;
  too_long = λ f long. rw (lt-ltb 65536 (length f) long);
  past_most = said_past_most;
  past_buffer = said_past_buffer;
  fits = said_done;
  damaged = λ f at refused. let (has, place) = refused_at f at refused in rw place at (first_damaged f has);
  refused = λ f at short damaged. (_, damaged_refused f short (has-record f sought.Damaged at damaged.0 (faulty_hit f at damaged.1)));
  accepted = λ f short whole. whole_accepted f short (no_record f sought.Damaged (λ at starts hit. whole at (starts, hit_faulty f at hit)));
  refused_by = refused_by_file;
  passed_by = passed_by_file;
  named = λ wanted f number at size accepted filed. record {
    starts = record_at f (first_record (sought.Naming wanted number) f);
    is = let (starts, hit) = found f (sought.Naming wanted number) (filed_has f wanted number at size filed) in (starts, (sought_is f wanted number _ hit).0, (sought_is f wanted number _ hit).1);
    no_lower = λ other lower is. none_lower f (sought.Naming wanted number) other lower is.0 (is_sought f wanted number other (is.1, is.2));
    begins = name_begins f wanted number at size filed;
    ends = name_ends f wanted number at size filed accepted;
  };
  recorded = λ wanted f number at is. (_, _, has_name f wanted number (has-record f (sought.Naming wanted number) at is.0 (is_sought f wanted number at (is.1, is.2))));
  nameless = λ wanted f number absent. no_name f wanted number (no_record f (sought.Naming wanted number) (λ at starts hit. absent at (starts, (sought_is f wanted number at hit).0, (sought_is f wanted number at hit).1)));
  within = λ wanted f number at size accepted filed. name_within f wanted number at size filed accepted;
  empty_accepted = refl;
  empty_nameless = λ wanted number. refl;
  from_dump = λ file s h pointer named. sym (first_chosen (name_of s h pointer) _ named);
  from_file = λ file s h pointer nameless. rw nameless;
  without_file = without_file;
  written = λ rs s fits short. (one_run rs 0 s (omega arith) (omega arith)).0;
  written_accepted = λ rs s fits short.
      rw (file_is rs s fits short) (whole_accepted (file_of rs) (omega (arith, file_total rs)) (none_damaged rs short));
  read_back = λ rs s dump wanted number small fits short. rw (file_is rs s fits short) (names_back rs dump wanted number small short);
  changes = same_line;
  same_words = same_fields;
}
