-- A call for C hands on: its answer is settled as the library's is, and its number is the one that is told, so 0 is that of a call whose rows have passed.
use Rattle.std.specs.Prelude.{Err, None, Ok, Option, Result, Some}
use Rattle.events.specs.declared.Event.{Event}
use Prim.Native.Nat.{ℕ, ◌+◌, ◌≤◌}
use mathlib.Core.Bool.{Bool, cond, true, false}
use mathlib.Core.List.{List, [], ◌∷◌, ◌++◌}
use mathlib.Core.Logic.{◌⊎◌, inl, inr}
use mathlib.Core.Path.{◌≡◌, refl, sym, ap, ◌∙◌}
use native.Mathlib.Omega.{arith}
use borrow.Author.Tests.{ne_eqb}
use lib.ListN.{length}
use Rattle.demands.proofs.Names.{names}
use Rattle.demands.proofs.Refusals.{first_demand}
use Rattle.demands.specs.Demands.{Writes}
use Rattle.demands.specs.Names.{LiesThere, LiesWithin, name_shown}
use Rattle.demands.specs.Refusals.{RefusesAndKeeps, Unbroken}
use Rattle.events.specs.Events.{event_numbers, event_of, shown_told, slot_numbers}
use Rattle.lepsaino_c.specs.Answers.{GaveNumbers, answer_of, check_answer, event_answer, event_answer_of, format_given, number_answer, mend_answer, name_answer, order_given, subject_given}
use Rattle.lepsaino_c.specs.declared.answers.Answer.{Answer}
use Rattle.mending.specs.Mending.{mend_of, mended_told}
use Rattle.naming.specs.Finding.{find_name_with}
use Rattle.naming.specs.Records.{first_record, has_record, name_at, name_in, record_at, record_name}
use Rattle.naming.specs.declared.Sought.TheVariants.{Naming}
use Rattle.naming.specs.declared.Subject.{Subject}
use Rattle.naming.specs.declared.Subject.TheVariants as subject
use Rattle.pieces.specs.Pieces.{finished}
use Rattle.rows.specs.Rows.{Accepted, Row, first_broken, answer_by}
use Rattle.rows.specs.Told.{told_refusal, told_values, number_told}
use Rattle.rows.specs.declared.Refusal.{Refusal}
use Rattle.trace.specs.Check.{check_of, checked_told, header_numbers, order_number}
use Rattle.trace.specs.Names.{find_name, found_told, kind_number, name_found, name_numbers}
use Rattle.trace.specs.declared.Name.TheVariants.{Filed, Named}
use Rattle.trace.specs.declared.Name.{Name}
use Rattle.trace.specs.declared.Slot.{Slot}
use Rattle.trace.specs.declared.ThreadKind.TheVariants.{Gone, Live}
use Rattle.words.specs.Each.{Each}
use Rattle.words.specs.declared.Order.{Order}
use Rattle.words.specs.declared.Order.TheVariants.{Big, Little}
use Rattle.writing.specs.Writing.{Change, filing, formatting, left, recording, registering, removing, said}
use Rattle.contracts.proofs.Public.{equation, leaves}
use Rattle.contracts.specs.Interface.{Conversions, Interface, InterfaceGives, InterfaceRefuses, NamesWithin, Structs, TellsAndKeeps, Untitled, ZeroAccepts, event_struct, lying_by}

pub interface : Interface
interface = record {
  lepsaino_check = equation (λ κs a v w. refl);
  lepsaino_begin = equation (λ κs a v w. refl);
  lepsaino_feed = equation (λ κs a v w. refl);
  lepsaino_finish = equation (λ κs a v w. refl);
  lepsaino_event = equation (λ κs a v w. refl);
  lepsaino_event_with_names = equation (λ κs a v w. refl);
  lepsaino_find_name = equation (λ κs a v w. refl);
  lepsaino_find_name_with_names = equation (λ κs a v w. refl);
  lepsaino_line = leaves (λ κs a x e p. (p.answered, p.gave.output)) (λ κs a v w e i. (tt, (tt, (tt, (e i, tt)))));
  lepsaino_line_with_names = leaves (λ κs a x e p. (p.answered, p.gave.output)) (λ κs a v w e i. (tt, (tt, (tt, (tt, (e i, tt))))));
  lepsaino_listing = leaves (λ κs a x e p. (p.answered, p.gave.output)) (λ κs a v w e i. (tt, (tt, (e i, tt))));
  lepsaino_listing_with_names = leaves (λ κs a x e p. (p.answered, p.gave.output)) (λ κs a v w e i. (tt, (tt, (tt, (e i, tt)))));
  lepsaino_number = leaves (λ κs a x e p. (p.count, p.bytes)) (λ κs a v w e i. (e i, v.1));
  lepsaino_format = leaves (λ κs a x e p. p) (λ κs a v w e i. (e i, v.1));
  lepsaino_record = leaves (λ κs a x e p. p) (λ κs a v w e i. (e i, v.1));
  lepsaino_register = leaves (λ κs a x e p. p) (λ κs a v w e i. (e i, v.1));
  lepsaino_remove = leaves (λ κs a x e p. p) (λ κs a v w e i. (e i, v.1));
  lepsaino_write_name = leaves (λ κs a x e p. p) (λ κs a v w e i. (e i, v.1));
  lepsaino_mend = leaves (λ κs a x e p. p) (λ κs a v w e i. (tt, (e i, tt)));
}

pub conversions : Conversions
conversions = record {
  answer = equation (λ κs a v w. refl);
  name = equation (λ κs a v w. refl);
  check = equation (λ κs a v w. refl);
  event = equation (λ κs a v w. refl);
  mend = equation (λ κs a v w. refl);
}

pub interface_gives : InterfaceGives
interface_gives = record {
  check = λ κs a p. p.allowed;
  begin = λ κs a p. p.allowed;
  feed = λ κs a p. p.allowed;
  finish = λ κs a p. p.allowed;
  event = λ κs a p. p.allowed;
  event_with_names = λ κs a p. p.allowed;
  find_name = λ κs a p. p.allowed;
  find_name_with_names = λ κs a p. p.allowed;
  line = λ κs a p. (_, p.allowed.answered, p.allowed.gave);
  line_with_names = λ κs a p. (_, p.allowed.answered, p.allowed.gave);
  listing = λ κs a p. (_, p.allowed.answered, p.allowed.gave);
  listing_with_names = λ κs a p. (_, p.allowed.answered, p.allowed.gave);
  number = λ κs a p. p.allowed;
  format = λ κs a p. (_, p.allowed.0, (refl, p.allowed.1));
  «record» = λ κs a p. (_, p.allowed.0, (refl, p.allowed.1));
  register = λ κs a p. (_, p.allowed.0, (refl, p.allowed.1));
  remove = λ κs a p. (_, p.allowed.0, (refl, p.allowed.1));
  write_name = λ κs a p. (_, p.allowed.0, (refl, p.allowed.1));
  mend = λ κs a p. (_, p.allowed.0, (refl, p.allowed.1));
}

changed_tells : (change : List ℕ → Change) (old new : List ℕ) (x : Answer) → Writes (change old) old → x ≡ number_answer (said (change old)) → new ≡ left (change old) old
    → TellsAndKeeps answer_of (change old).rows old new x
unfolding number_answer
changed_tells change old new x writes told kept = (number_told (said (change old)), told, (writes.0, λ some. kept ∙ writes.1 some))

printed_tells : (rows : List Row) (text old new : List ℕ) (x : Answer) → RefusesAndKeeps rows old new (number_told (answer_by (first_broken rows) (length text)))
    → GaveNumbers rows text old new x → TellsAndKeeps answer_of rows old new x
unfolding number_answer
printed_tells rows text old new x keeps gave = (number_told (answer_by (first_broken rows) (length text)), gave.answered, keeps)

pub interface_refuses : InterfaceRefuses
unfolding check_answer event_answer name_answer mend_answer
interface_refuses = record {
  check = λ κs a p. (checked_told (check_of a.0.now), p.allowed, first_demand.checking _);
  finish = λ κs a p. (checked_told (finished a.0), p.allowed, first_demand.finishing _);
  event = λ κs a p. (shown_told (event_of None a.0.now a.1.0), p.allowed, first_demand.event _ _ _);
  event_with_names = λ κs a p. (shown_told (event_of (Some a.1.0.now) a.0.now a.1.1.0), p.allowed, first_demand.event _ _ _);
  find_name = λ κs a p. (found_told (find_name a.0.now a.1.0), p.allowed, first_demand.finding _ _);
  find_name_with_names = λ κs a p. (found_told (find_name_with (Some a.1.0.now) a.0.now a.1.1.0), p.allowed, first_demand.finding_with _ _ _);
  line = λ κs a p. printed_tells _ _ _ _ _ (first_demand.line _ _ _ _ _ _ _ p.allowed.gave) p.allowed;
  line_with_names = λ κs a p. printed_tells _ _ _ _ _ (first_demand.line _ _ _ _ _ _ _ p.allowed.gave) p.allowed;
  listing = λ κs a p. printed_tells _ _ _ _ _ (first_demand.listing _ _ _ _ _ _ p.allowed.gave) p.allowed;
  listing_with_names = λ κs a p. printed_tells _ _ _ _ _ (first_demand.listing _ _ _ _ _ _ p.allowed.gave) p.allowed;
  format = λ κs a p. changed_tells (formatting (format_given a.1.0)) _ _ _ (first_demand.formatting _ _) p.allowed.0 p.allowed.1;
  «record» = λ κs a p. changed_tells (recording a.1.0) _ _ _ (first_demand.recording _ _) p.allowed.0 p.allowed.1;
  register = λ κs a p. changed_tells (registering a.1.0 a.1.1.0.now) _ _ _ (first_demand.registering _ _ _) p.allowed.0 p.allowed.1;
  remove = λ κs a p. changed_tells (removing a.1.0) _ _ _ (first_demand.removing _ _) p.allowed.0 p.allowed.1;
  write_name = λ κs a p.
      changed_tells (filing (subject_given a.1.1.0) a.1.1.1.0 a.1.1.1.1.0.now a.1.0) _ _ _ (first_demand.filing _ _ _ _ _) p.allowed.0 p.allowed.1;
  mend = λ κs a p.
      let keeps = first_demand.mending a.0.now a.1.0.now in
      (mended_told (mend_of a.0.now (length a.1.0.now)), p.allowed.0, (keeps.0, λ some. p.allowed.1 ∙ keeps.1 some));
}

order_back : (o : Order) → order_given (order_number o) ≡ o
unfolding order_given order_number
order_back Big = refl
order_back Little = refl

-- an event tells three numbers of each of its names, one behind the other
given_told : (slot : Slot) (ticks context : ℕ) (name title : Option Name)
    → event_answer_of (told_values (slot_numbers slot ++ (ticks ∷ context ∷ name_numbers name ++ name_numbers title)))
    ≡ event_struct slot ticks context (name_answer (Ok name)) (name_answer (Ok title))
unfolding slot_numbers name_answer found_told name_numbers
given_told slot ticks context None title = refl
given_told slot ticks context (Some (Named kind at size)) title = refl
given_told slot ticks context (Some (Filed at size)) title = refl

any_other : (n : ℕ) → (n ≡ 0 → ⊥) → subject_given n ≡ subject.Thread
unfolding subject_given
any_other n other = rw (ne_eqb n 0 other)

pub structs : Structs
unfolding check_answer event_answer name_answer number_answer mend_answer checked_told shown_told found_told number_told mended_told header_numbers event_numbers slot_numbers kind_number name_numbers subject_given
structs = record {
  answer = λ f. refl;
  name = λ f. refl;
  check = λ f. refl;
  event = λ f. refl;
  mend = λ f. refl;
  written = λ n. refl;
  done = λ n. refl;
  live = λ at length. refl;
  gone = λ at length. refl;
  filed = λ at length. refl;
  nameless = refl;
  sound = λ h n. refl;
  given = λ e. given_told _ _ _ e.name e.title;
  copied = λ n r. refl;
  order = order_back;
  event_record = refl;
  thread_record = any_other;
}

-- rows of which none is broken have passed
all_passed : (rows : List Row) → Each Unbroken rows → Accepted rows
unfolding first_broken
all_passed [] kept = refl
all_passed (r ∷ rows) kept = rw kept.0 (all_passed rows kept.1)

pub zero_accepts : ZeroAccepts
unfolding check_answer event_answer name_answer number_answer mend_answer
zero_accepts = record {
  check = λ s none. all_passed _ ((first_demand.checking s).zero none).2;
  finish = λ p none. all_passed _ ((first_demand.finishing p).zero none).2;
  event = λ file s position none. all_passed _ ((first_demand.event file s position).zero none).2;
  find_name = λ s pointer none. all_passed _ ((first_demand.finding s pointer).zero none).2;
  find_name_with_names = λ file s pointer none. all_passed _ ((first_demand.finding_with file s pointer).zero none).2;
  line = λ file s r position old new numbers gave none.
      all_passed _ ((first_demand.line file s r position old new _ gave.gave).0.zero (sym (ap (λ (x : Answer). x.refusal) gave.answered) ∙ none)).2;
  listing = λ file s r old new numbers gave none.
      all_passed _ ((first_demand.listing file s r old new _ gave.gave).0.zero (sym (ap (λ (x : Answer). x.refusal) gave.answered) ∙ none)).2;
  format = λ f s none. all_passed _ ((first_demand.formatting f s).0.zero none).2;
  «record» = λ slot s none. all_passed _ ((first_demand.recording slot s).0.zero none).2;
  register = λ object name s none. all_passed _ ((first_demand.registering object name s).0.zero none).2;
  remove = λ pointer s none. all_passed _ ((first_demand.removing pointer s).0.zero none).2;
  write_name = λ subject number name offset s none. all_passed _ ((first_demand.filing subject number name offset s).0.zero none).2;
  mend = λ s old none. all_passed _ ((first_demand.mending s old).0.zero none).2;
}

refused_told : (f : Refusal) → event_answer (Err f) ≡ event_answer_of (told_refusal f)
unfolding event_answer shown_told
refused_told f = refl

-- a name of the file, or none, as it is told
abbrev InFile : List ℕ → Option Name → Type 0
InFile f name =
    let x = name_answer (Ok name) in
    ((x.kind ≡ 3) × (x.at + x.length ≤ length f)) ⊎ ((x.kind ≡ 0) × (x.at ≡ 0) × (x.length ≡ 0))

module _ (s : List ℕ) where
  -- where a name is told, or none, its place and length are those of the name
  told_within : (name : Option Name) → LiesWithin name s → (name_answer (Ok name)).at + (name_answer (Ok name)).length ≤ length s
  unfolding name_answer found_told name_numbers
  told_within None within = within
  told_within (Some (Named kind at size)) within = within
  told_within (Some (Filed at size)) within = within

  -- without a file none lies in one
  in_dump : (name : Option Name) → LiesThere None s name → LiesWithin name s
  in_dump None within = within
  in_dump (Some (Named kind at size)) within = within
  in_dump (Some (Filed at size)) within = omega (arith, within)

  -- with one, its kind says where it lies
  told_there : (f : List ℕ) (name : Option Name) → LiesThere (Some f) s name
      → let x = name_answer (Ok name) in
      x.at + x.length ≤ length (lying_by x.kind f s)
  unfolding name_answer found_told name_numbers kind_number
  told_there f None within = within
  told_there f (Some (Named Live at size)) within = within
  told_there f (Some (Named Gone at size)) within = within
  told_there f (Some (Filed at size)) within = within

  -- and a record's name is the file's
  in_file : (f : List ℕ) (subject : Subject) (number : ℕ) → LiesThere (Some f) s (record_name subject f number) → InFile f (record_name subject f number)
  unfolding record_name name_answer found_told name_numbers
  in_file f subject number = by (has_record (Naming subject number) f) (record_at f (first_record (Naming subject number) f))
    where
      by : (has : Bool) (at : ℕ) → LiesThere (Some f) s (cond has (Some (name_at f at)) None) → InFile f (cond has (Some (name_at f at)) None)
      by true at within = inl (refl, within)
      by false at within = inr (refl, refl, refl)

  found_within : (x : Result (Option Name) Refusal) → LiesWithin (name_found x) s → (name_answer x).at + (name_answer x).length ≤ length s
  unfolding name_answer found_told
  found_within (Err f) within = omega arith
  found_within (Ok name) within = told_within name within

  found_there : (f : List ℕ) (x : Result (Option Name) Refusal) → LiesThere (Some f) s (name_found x) → (name_answer x).at + (name_answer x).length ≤ length (lying_by (name_answer x).kind f s)
  unfolding name_answer found_told
  found_there f (Err fault) within = omega arith
  found_there f (Ok name) within = told_there f name within

  event_within : (x : Result Event Refusal) → LiesThere None s (name_shown x) → (event_answer x).name_at + (event_answer x).name_length ≤ length s
  event_within (Err f) within = rw (refused_told f) (omega arith)
  event_within (Ok e) within = rw (structs.given e) (told_within e.name (in_dump e.name within))

  event_there : (f : List ℕ) (x : Result Event Refusal) → LiesThere (Some f) s (name_shown x)
      → (event_answer x).name_at + (event_answer x).name_length ≤ length (lying_by (event_answer x).name_kind f s)
  event_there f (Err fault) within = rw (refused_told fault) (omega arith)
  event_there f (Ok e) within = rw (structs.given e) (told_there f e.name within)

  titled : (f : List ℕ) (position : ℕ) (shown : Result Event Refusal) → event_of (Some f) s position ≡ shown
      → let x = event_answer shown in
      ((x.event_kind ≡ 3) × (x.event_at + x.event_length ≤ length f)) ⊎ Untitled x
  unfolding name_in
  titled f position (Err fault) is = rw (refused_told fault) (inr (refl, refl, refl))
  titled f position (Ok e) is =
      let there = rw ((names s).title (Some f) position e is) at ((names s).title_within (Some f) position e is) in
      rw (structs.given e, (names s).title (Some f) position e is) (in_file f subject.Event e.slot.id there)

  untitled : (position : ℕ) (x : Result Event Refusal) → event_of None s position ≡ x → Untitled (event_answer x)
  unfolding name_in
  untitled position (Err f) is = rw (refused_told f) (refl, refl, refl)
  untitled position (Ok e) is = rw (structs.given e, (names s).title None position e is, structs.nameless) (refl, refl, refl)

pub names_within : NamesWithin
names_within = record {
  found = λ s pointer. found_within s (find_name s pointer) ((names s).within pointer);
  found_with = λ f s pointer. found_there s f (find_name_with (Some f) s pointer) ((names s).within_with (Some f) pointer);
  event = λ s position. event_within s (event_of None s position) ((names s).event_within None position);
  event-with = λ f s position. event_there s f (event_of (Some f) s position) ((names s).event_within (Some f) position);
  titled = λ f s position. titled s f position (event_of (Some f) s position) refl;
  untitled = λ s position. untitled s position (event_of None s position) refl;
}
