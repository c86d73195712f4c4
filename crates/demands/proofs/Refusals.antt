-- Every call is refused exactly by the first of its rows that is broken, and then alters no lent byte; the orders of rows compute.
use Rattle.std.specs.Prelude.{Err, None, Ok, Option, Result, Some}
use Prim.Native.Nat.{ℕ, ◌≤◌}
use mathlib.Core.Bool.{Bool, true, false, ◌&&◌, cond, true≢false}
use mathlib.Core.List.{List, [], ◌∷◌, ◌++◌}
use mathlib.Core.Path.{◌≡◌, refl, sym, ap, ◌∙◌}
use native.Mathlib.Omega.{arith}
use lib.Dec.{ltb}
use lib.ListN.{length}
use borrow.Author.Tests.{le-ltb, lt-ltb, ltb-true}
use Rattle.events.specs.Events.{event_at, event_numbers, event_of, event_rows, shown_told, slot_numbers}
use Rattle.events.specs.Listing.{Gave}
use Rattle.mending.specs.Mending.{copy_of, mend_of, mended_numbers, mended_told, mending_rows, repair_numbers, repairs_of, mended_copy}
use Rattle.naming.specs.Finding.{find_name_with, finding_rows, name_with}
use Rattle.naming.specs.Records.{file_rows, row27}
use Rattle.pieces.specs.Pieces.{finish_rows, finished}
use Rattle.rows.proofs.Rows.{one_kept, then_broken, then_refused, then_rest}
use Rattle.rows.specs.Lent.{left_in}
use Rattle.rows.specs.Rows.{Accepted, Row, first_broken, refusal, Verdict, answer_by}
use Rattle.rows.specs.Told.{Told, told_as, told_refusal, told_values, number_told}
use Rattle.rows.specs.declared.Refusal.{Refusal}
use Rattle.trace.proofs.Opened.{open_rows}
use Rattle.trace.specs.Check.{check_of, checked_told, header_numbers, sound_dump, sound_numbers}
use Rattle.trace.specs.Layout.{buffer_end, header_of}
use Rattle.trace.specs.Names.{find_name, found_told, name_numbers, name_of}
use Rattle.trace.specs.Ring.{numbers_from}
use Rattle.trace.specs.Slots.{event_count}
use Rattle.trace.specs.Table.{dump_rows, layout_rows, registry_rows, row16}
use Rattle.trace.specs.declared.Name.TheVariants.{Filed, Named}
use Rattle.trace.specs.declared.Name.{Name}
use Rattle.words.specs.Each.{Each}
use Rattle.writing.proofs.Opened.{open_writing_rows}
use Rattle.writing.specs.Writing.{Change, filing, formatting, left, recording, registering, removing, said}
use Rattle.demands.specs.Demands.{FirstDemand, Writes}
use Rattle.demands.specs.Refusals.{FirstBroken, Refuses, RefusesAndKeeps, Unbroken, checks_of, dump_order, file_order, plain, registry_order}
use Rattle.demands.proofs.Cut.{cut, nonsense, only_cut, resumed, says_cut}
use Rattle.demands.proofs.CutShort.{layout_passed}
use Rattle.demands.proofs.EveryCall.{all_refused}
use Rattle.demands.proofs.Pieces.{in_pieces}

-- the first broken row, found and given back
one_more : (r : Row) (rows : List Row) (f : Refusal) → r.broken ≡ false → FirstBroken rows f → FirstBroken (r ∷ rows) f
one_more r rows f e first = record {
  before = r ∷ first.before;
  this = first.this;
  more = first.more;
  all = ap (λ (rs : List Row). r ∷ rs) first.all;
  kept = (e, first.kept);
  broken = first.broken;
  number = first.number;
  place = first.place;
}

pub first_found : (rows : List Row) (f : Refusal) → first_broken rows ≡ Err f → FirstBroken rows f
unfolding first_broken
first_found [] f e = let clash : true ≡ false = cc in absurd (true≢false clash)
first_found (r ∷ rows) f e = by r.broken refl e (first_found rows f)
  where
    by : (b : Bool) → r.broken ≡ b → cond b (Err (refusal r)) (first_broken rows) ≡ Err f → (first_broken rows ≡ Err f → FirstBroken rows f) → FirstBroken (r ∷ rows) f
    by true broken e rest =
        let same : f ≡ refusal r = cc in
        record { before = []; this = r; more = rows; all = refl; kept = tt; broken = broken; number = ap (λ (g : Refusal). g.number) same; place = ap (λ (g : Refusal). g.place) same }
    by false kept e rest = one_more r rows f kept (rest e)

behind_kept : (before : List Row) (this : Row) (more : List Row) → Each Unbroken before → this.broken ≡ true → first_broken (before ++ (this ∷ more)) ≡ Err (refusal this)
unfolding first_broken
behind_kept [] this more kept broken = rw broken
behind_kept (r ∷ before) this more kept broken = rw kept.0 (behind_kept before this more kept.1 broken)

pub first_given : (rows : List Row) (f : Refusal) → FirstBroken rows f → first_broken rows ≡ Err f
first_given rows f first =
    ap first_broken first.all ∙ behind_kept first.before first.this first.more first.kept first.broken
    ∙ ap Err (λ i. record { number = sym first.number i; place = sym first.place i })

-- where none is broken
pub each_kept : (rows : List Row) → first_broken rows ≡ Ok tt → Each Unbroken rows
unfolding first_broken
each_kept [] passed = tt
each_kept (r ∷ rows) passed = by r.broken refl passed (each_kept rows)
  where
    by : (b : Bool) → r.broken ≡ b → cond b (Err (refusal r)) (first_broken rows) ≡ Ok tt → (first_broken rows ≡ Ok tt → Each Unbroken rows) → Each Unbroken (r ∷ rows)
    by true broken e rest = let clash : true ≡ false = cc in absurd (true≢false clash)
    by false kept e rest = (kept, rest e)

-- no row has the number 0
abbrev positive : List Row → Bool
positive [] = true
positive (r ∷ rows) = ltb 0 r.number && positive rows

-- nor has one of a name file
positive_alone : (file : Option (List ℕ)) → positive (file_rows file) ≡ true
unfolding open_rows row27
positive_alone None = refl
positive_alone (Some f) = refl

positive_file : (file : Option (List ℕ)) (more : List Row) → positive more ≡ true → positive (file_rows file ++ more) ≡ true
unfolding open_rows row27
positive_file None more above = above
positive_file (Some f) more above = above

positive_refusal : (rows : List Row) (f : Refusal) → positive rows ≡ true → first_broken rows ≡ Err f → 1 ≤ f.number
positive_refusal rows f above refused =
    let first = first_found rows f refused in
    rw first.number (here first.before first.this first.more (rw (← first.all) above))
  where
    both : (a b : Bool) → (a && b) ≡ true → (a ≡ true) × (b ≡ true)
    both true b e = (refl, e)
    both false b e = absurd (true≢false (sym e))

    here : (before : List Row) (this : Row) (more : List Row) → positive (before ++ (this ∷ more)) ≡ true → 1 ≤ this.number
    here [] this more above = ltb-true 0 this.number (both (ltb 0 this.number) (positive more) above).0
    here (r ∷ before) this more above = here before this more (both (ltb 0 r.number) (positive (before ++ (this ∷ more))) above).1

-- what a verdict and the values given tell
abbrev told_by : Verdict → List ℕ → Told
told_by (Err f) values = told_refusal f
told_by (Ok tt) values = told_values values

refuses : (rows : List Row) (values : List ℕ) → (values ≡ [] → ⊥) → positive rows ≡ true → Refuses rows (told_by (first_broken rows) values)
refuses rows values given above = by (first_broken rows) refl
  where
    by : (v : Verdict) → first_broken rows ≡ v → Refuses rows (told_by v values)
    by (Err f) e = record {
      when = λ g first. let same : Err f ≡ Err g = sym e ∙ first_given rows g first in cc;
      only = λ some. first_found rows f e;
      zero = λ none. absurd (omega (arith, positive_refusal rows f above e));
    }
    by (Ok tt) e = record {
      when = λ g first. let clash : Ok tt ≡ Err g = sym e ∙ first_given rows g first in cc;
      only = λ some. absurd (some refl);
      zero = λ none. (refl, given, each_kept rows e);
    }

some_value : {v : ℕ} {values : List ℕ} → v ∷ values ≡ [] → ⊥
some_value none = let clash : true ≡ false = cc in true≢false clash

name_some : (name : Option Name) → name_numbers name ≡ [] → ⊥
unfolding name_numbers
name_some None none = some_value none
name_some (Some (Named kind at length)) none = some_value none
name_some (Some (Filed at length)) none = some_value none

-- a number that is not 0 is that of a refusal
told_refused : (v : Verdict) (values : List ℕ) → ((told_by v values).number ≡ 0 → ⊥) → (f : Refusal) × (v ≡ Err f)
told_refused (Err f) values some = (f, refl)
told_refused (Ok tt) values some = absurd (some refl)

-- so the answers of all calls tell
answer-told : {A : Type 0} (numbers : A → List ℕ) (v : Verdict) (x : A) → told_as numbers (answer_by v x) ≡ told_by v (numbers x)
answer-told numbers (Err f) x = refl
answer-told numbers (Ok tt) x = refl

prints : (rows : List Row) (text old new : List ℕ) (said : Result ℕ Refusal) → positive rows ≡ true → Gave rows text old new said → RefusesAndKeeps rows old new (number_told said)
unfolding number_told
prints rows text old new said above gave = (rw told (refuses rows (length text ∷ []) some_value above), λ some. kept (told_refused (first_broken rows) (length text ∷ []) (rw told at some)))
  where
    told : number_told said ≡ told_by (first_broken rows) (length text ∷ [])
    told = ap number_told gave.answered ∙ answer-told (λ (n : ℕ). n ∷ []) (first_broken rows) (length text)

    kept : (f : Refusal) × (first_broken rows ≡ Err f) → new ≡ old
    kept (f, refused) = gave.output ∙ rw refused

pub writes : (c : Change) (s : List ℕ) → positive c.rows ≡ true → Writes c s
unfolding number_told
writes c s above = (rw told (refuses c.rows (c.gives ∷ []) some_value above), λ some. kept (told_refused (first_broken c.rows) (c.gives ∷ []) (rw told at some)))
  where
    told : number_told (said c) ≡ told_by (first_broken c.rows) (c.gives ∷ [])
    told = answer-told (λ (n : ℕ). n ∷ []) (first_broken c.rows) c.gives

    kept : (f : Refusal) × (first_broken c.rows ≡ Err f) → left c s ≡ s
    kept (f, refused) = rw refused

mends_or_keeps : (s old : List ℕ)
    → let rows = mending_rows s (header_of s) (length old) in
    RefusesAndKeeps rows old (left_in old (first_broken rows) (copy_of s (header_of s))) (mended_told (mend_of s (length old)))
unfolding mend_of mended_told open_rows
mends_or_keeps s old =
    (rw told (refuses rows _ some_value refl), λ some. kept (told_refused (first_broken rows) (buffer_end (header_of s) ∷ repair_numbers (repairs_of s (header_of s))) (rw told at some)))
  where
    rows : List Row
    rows = mending_rows s (header_of s) (length old)

    told : mended_told (answer_by (first_broken rows) (mended_copy (buffer_end (header_of s)) (repairs_of s (header_of s)))) ≡ told_by (first_broken rows) (buffer_end (header_of s) ∷ repair_numbers (repairs_of s (header_of s)))
    told = answer-told mended_numbers (first_broken rows) (mended_copy (buffer_end (header_of s)) (repairs_of s (header_of s)))

    kept : (f : Refusal) × (first_broken rows ≡ Err f) → left_in old (first_broken rows) (copy_of s (header_of s)) ≡ old
    kept (f, refused) = rw refused

-- where rows 1 to 9 have passed, room is all that mending asks
mended_room : (s : List ℕ) (room : ℕ) → Accepted (layout_rows (header_of s) (length s)) → buffer_end (header_of s) ≤ room → Accepted (mending_rows s (header_of s) room)
unfolding row16
mended_room s room layout fits =
    sym (then_rest (layout_rows (header_of s) (length s)) (row16 (buffer_end (header_of s)) room ∷ []) layout)
    ∙ one_kept (row16 (buffer_end (header_of s)) room) (le-ltb room (buffer_end (header_of s)) fits)

-- a name file's rows stand where they are said to
file_alone : (file : Option (List ℕ)) → checks_of (file_rows file) ≡ file_order file
unfolding open_rows row27
file_alone None = refl
file_alone (Some f) = refl

file_checks : (file : Option (List ℕ)) (more : List Row) → checks_of (file_rows file ++ more) ≡ file_order file ++ checks_of more
unfolding open_rows row27
file_checks None more = refl
file_checks (Some f) more = refl

pub first_demand : FirstDemand
unfolding numbers_from open_rows open_writing_rows
    recording registering removing formatting filing mend_of check_of finished find_name find_name_with event_of header_numbers event_numbers slot_numbers
    checked_told found_told shown_told
first_demand = record {
  orders = record {
    checking = λ s. refl;
    finding = λ s. refl;
    finding_with = λ file s. ap (λ (more : List Refusal). registry_order s (header_of s) ++ more) (file_alone file);
    event = λ file s position. ap (λ (more : List Refusal). dump_order s (header_of s) ++ more) (file_checks file _);
    listing = λ file s r room. ap (λ (more : List Refusal). dump_order s (header_of s) ++ plain (14 ∷ 15 ∷ []) ++ more) (file_checks file _);
    line = λ file s r position room. ap (λ (more : List Refusal). dump_order s (header_of s) ++ plain (14 ∷ 15 ∷ []) ++ more) (file_checks file _);
    recording = λ slot s. refl;
    registering = λ object name s. refl;
    removing = λ pointer s. refl;
    formatting = λ f s. refl;
    mending = λ s room. refl;
    filing = λ subject number name offset s. refl;
  };
  checking = λ s. rw (answer-told sound_numbers (first_broken (dump_rows s (header_of s))) (sound_dump (header_of s) (event_count s (header_of s)))) (refuses (dump_rows s (header_of s)) _ some_value refl);
  finding = λ s pointer. rw (answer-told name_numbers (first_broken (registry_rows s (header_of s))) (name_of s (header_of s) pointer)) (refuses (registry_rows s (header_of s)) _ (name_some (name_of s (header_of s) pointer)) refl);
  finding_with = λ file s pointer.
      rw (answer-told name_numbers (first_broken (finding_rows file s (header_of s))) (name_with file s (header_of s) pointer))
      (refuses (finding_rows file s (header_of s)) _ (name_some (name_with file s (header_of s) pointer)) (positive_alone file));
  event = λ file s position.
      rw (answer-told event_numbers (first_broken (event_rows file s (header_of s) position)) (event_at file s (header_of s) position))
      (refuses (event_rows file s (header_of s) position) _ some_value (positive_file file _ refl));
  listing = λ file s r old new said gave. prints _ _ old new said (positive_file file _ refl) gave;
  line = λ file s r position old new said gave. prints _ _ old new said (positive_file file _ refl) gave;
  formatting = λ f s. writes (formatting f s) s refl;
  recording = λ slot s. writes (recording slot s) s refl;
  registering = λ object name s. writes (registering object name s) s refl;
  removing = λ pointer s. writes (removing pointer s) s refl;
  filing = λ subject number name offset s. writes (filing subject number name offset s) s refl;
  mending = mends_or_keeps;
  mending_alike = λ s f refused. (all_refused s f (sym (then_refused (layout_rows (header_of s) (length s)) _ f refused)), λ room. rw (sym (then_refused (layout_rows (header_of s) (length s)) (row16 (buffer_end (header_of s)) room ∷ []) f refused)));
  mending_takes = λ s room begun there right.
      let layout = layout_passed (header_of s) (length s) begun there right in
      (mended_room s room layout, λ short. rw (then_broken (layout_rows (header_of s) (length s)) (row16 (buffer_end (header_of s)) room) [] layout (lt-ltb room (buffer_end (header_of s)) short)));
  says_cut = says_cut;
  only_cut = only_cut;
  nonsense = nonsense;
  cut = cut;
  resumed = resumed;
  in_pieces = in_pieces;
  finishing = λ p. rw (answer-told sound_numbers (first_broken (finish_rows p)) (sound_dump (header_of p.header) p.body.slots.unused)) (refuses (finish_rows p) _ some_value refl);
}
