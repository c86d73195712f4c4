-- An answer is read back of what it tells: a refusal gives no value, and an acceptance some.
use Rattle.std.specs.Prelude.{Err, None, Ok, Option, Result, Some}
use Rattle.mending.specs.declared.Mended.{Mended}
use Rattle.events.specs.declared.Event.{Event}
use Prim.Native.Nat.{ℕ}
use mathlib.Core.Bool.{cond}
use mathlib.Core.List.{List, [], ◌∷◌, ◌++◌}
use mathlib.Core.Path.{◌≡◌, refl, sym, ap, ◌∙◌}
use lib.Dec.{eqb}
use lib.ListN.{get_or}
use Rattle.events.specs.Events.{context_number, event_numbers, shown_told, slot_from, slot_numbers}
use Rattle.mending.specs.Mending.{mended_told, mended_copy}
use Rattle.rows.specs.Told.{Told, value_at, number_told}
use Rattle.rows.specs.declared.Refusal.{Refusal}
use Rattle.text.specs.declared.Context.{Context}
use Rattle.text.specs.declared.Context.TheVariants.{Init, Isr, Thread}
use Rattle.trace.specs.Check.{checked_told, header_numbers, order_number, sound_dump}
use Rattle.trace.specs.Names.{found_told, kind_number, name_numbers}
use Rattle.trace.specs.declared.Name.TheVariants.{Filed, Named}
use Rattle.trace.specs.declared.Name.{Name}
use Rattle.trace.specs.declared.Sound.{Sound}
use Rattle.trace.specs.declared.ThreadKind.TheVariants.{Gone, Live}
use Rattle.words.specs.declared.Order.{Order}
use Rattle.words.specs.declared.Order.TheVariants.{Big, Little}
use Rattle.demands.specs.Told.{AnswersTell, TellsAll}

-- an answer that is read back is told by its numbers alone
tells_all : {A : Type 0} (told : A → Told) (from : Told → A) → ((x : A) → from (told x) ≡ x) → TellsAll told
tells_all told from back x y = (ap told, λ same. sym (back x) ∙ ap from same ∙ back y)

-- a refusal where no value is given
abbrev unless : {A : Type 0} → (Refusal → A) → (Told → A) → Told → List ℕ → A
unless refused accepted t [] = refused (record { number = t.number; place = t.place })
unless refused accepted t (v ∷ values) = accepted t

order_from : ℕ → Order
order_from n = cond (eqb n 1) Big Little

order_back : (o : Order) → order_from (order_number o) ≡ o
unfolding order_number order_from
order_back Big = refl
order_back Little = refl

context_from : ℕ → Context
context_from n = cond (eqb n 1) Init (cond (eqb n 2) Isr Thread)

context_back : (c : Context) → context_from (context_number c) ≡ c
unfolding context_number context_from
context_back Init = refl
context_back Isr = refl
context_back Thread = refl

name_from : ℕ → ℕ → ℕ → Option Name
name_from kind at length = cond (eqb kind 0) None (cond (eqb kind 3) (Some (Filed at length)) (Some (Named (cond (eqb kind 1) Live Gone) at length)))

name_back : (name : Option Name) → name_from (get_or (name_numbers name) 0 0) (get_or (name_numbers name) 1 0) (get_or (name_numbers name) 2 0) ≡ name
unfolding kind_number name_numbers name_from
name_back None = refl
name_back (Some (Named Live at length)) = refl
name_back (Some (Named Gone at length)) = refl
name_back (Some (Filed at length)) = refl

-- of two names one after another, the first and the second
first_back : (name : Option Name) (more : List ℕ) → name_from (get_or (name_numbers name ++ more) 0 0) (get_or (name_numbers name ++ more) 1 0) (get_or (name_numbers name ++ more) 2 0) ≡ name
unfolding kind_number name_numbers name_from
first_back None more = refl
first_back (Some (Named Live at length)) more = refl
first_back (Some (Named Gone at length)) more = refl
first_back (Some (Filed at length)) more = refl

second_back : (name title : Option Name)
    → let numbers = name_numbers name ++ name_numbers title in name_from (get_or numbers 3 0) (get_or numbers 4 0) (get_or numbers 5 0) ≡ title
unfolding name_numbers
second_back None title = name_back title
second_back (Some (Named kind at length)) title = name_back title
second_back (Some (Filed at length)) title = name_back title

checked_from : Told → Result Sound Refusal
checked_from t = unless Err (λ t. Ok (sound_dump (record {
  order = order_from (value_at t 0);
  id = value_at t 1;
  mask = value_at t 2;
  base = value_at t 3;
  registry_start = value_at t 4;
  name_size = value_at t 5;
  registry_end = value_at t 6;
  buffer_start = value_at t 7;
  buffer_end = value_at t 8;
  current = value_at t 9;
}) (value_at t 10))) t t.values

checked_back : (x : Result Sound Refusal) → checked_from (checked_told x) ≡ x
unfolding checked_from checked_told header_numbers
checked_back (Err f) = refl
checked_back (Ok s) = rw (order_back s.header.order)

found_from : Told → Result (Option Name) Refusal
found_from t = unless Err (λ t. Ok (name_from (value_at t 0) (value_at t 1) (value_at t 2))) t t.values

found_back : (x : Result (Option Name) Refusal) → found_from (found_told x) ≡ x
unfolding found_from found_told kind_number name_numbers name_from
found_back (Err f) = refl
found_back (Ok None) = refl
found_back (Ok (Some (Named Live at length))) = refl
found_back (Ok (Some (Named Gone at length))) = refl
found_back (Ok (Some (Filed at length))) = refl

shown_from : Told → Result Event Refusal
shown_from t = unless Err (λ t. Ok (record {
  slot = slot_from t;
  ticks = value_at t 8;
  by = context_from (value_at t 9);
  name = name_from (value_at t 10) (value_at t 11) (value_at t 12);
  title = name_from (value_at t 13) (value_at t 14) (value_at t 15);
})) t t.values

shown_back : (x : Result Event Refusal) → shown_from (shown_told x) ≡ x
unfolding shown_from shown_told event_numbers slot_numbers
shown_back (Err f) = refl
shown_back (Ok e) = rw (context_back e.by, first_back e.name, second_back e.name e.title)

number_from : Told → Result ℕ Refusal
number_from t = unless Err (λ t. Ok (value_at t 0)) t t.values

number_back : (x : Result ℕ Refusal) → number_from (number_told x) ≡ x
unfolding number_from number_told
number_back (Err f) = refl
number_back (Ok n) = refl

mended_from : Told → Result Mended Refusal
mended_from t = unless Err (λ t. Ok (mended_copy (value_at t 0) (record {
  missing = value_at t 1;
  current = value_at t 2;
  types = value_at t 3;
  ids = value_at t 4;
  packed = value_at t 5;
  moved = value_at t 6;
}))) t t.values

mended_back : (x : Result Mended Refusal) → mended_from (mended_told x) ≡ x
unfolding mended_from mended_told
mended_back (Err f) = refl
mended_back (Ok m) = refl

pub answers_tell : AnswersTell
answers_tell = record {
  checked = tells_all checked_told checked_from checked_back;
  found = tells_all found_told found_from found_back;
  shown = tells_all shown_told shown_from shown_back;
  number = tells_all number_told number_from number_back;
  mended = tells_all mended_told mended_from mended_back;
}
