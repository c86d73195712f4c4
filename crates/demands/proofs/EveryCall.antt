-- The rows of every call that reads a trace buffer begin with 1 to 10: where these refuse, it does, and leaves what it is lent; and what it refuses by a number that only these
-- have, they refuse.
use Rattle.std.specs.Prelude.{Err, Option, Result, None, Some}
use Prim.Native.Nat.{ℕ}
use mathlib.Core.List.{List, [], ◌∷◌, ◌++◌}
use mathlib.Core.Logic.{◌↔◌}
use mathlib.Core.Path.{◌≡◌, refl, sym, ap, ◌∙◌}
use lib.ListN.{length}
use Rattle.events.specs.Events.{event_of}
use Rattle.events.specs.Listing.{Gave}
use Rattle.mending.specs.Mending.{mend_of}
use Rattle.naming.specs.Finding.{find_name_with}
use Rattle.naming.specs.Records.{file_rows, row27}
use Rattle.rows.proofs.Numbered.{front_refused, numbered}
use Rattle.rows.proofs.Rows.{then_refused}
use Rattle.rows.specs.Rows.{Row, first_broken}
use Rattle.rows.specs.declared.Refusal.{Refusal}
use Rattle.trace.proofs.Checks.{check_refused}
use Rattle.trace.proofs.Opened.{open_rows}
use Rattle.trace.specs.Check.{check_of}
use Rattle.trace.specs.Layout.{header_of}
use Rattle.trace.specs.Names.{find_name}
use Rattle.trace.specs.Table.{dump_rows, header_rows, layout_rows, row11, row12, row13}
use Rattle.writing.proofs.Opened.{open_writing_rows}
use Rattle.writing.specs.Writing.{Change, recording, registering, removing}
use Rattle.demands.proofs.Answers.{refused_is}
use Rattle.demands.specs.EveryCall.{AllRefused, Declined, SomeRefused}
use Rattle.demands.specs.EveryCall as every
use Rattle.demands.specs.Refusals.{given_at}

-- a call that checks rows and then writes a text
pub gave_refused : (rows : List Row) (text old new : List ℕ) (said : Result ℕ Refusal) (f : Refusal) → first_broken rows ≡ Err f
    → Gave rows text old new said ↔ ((said ≡ Err f) × (new ≡ old))
gave_refused rows text old new said f refused =
    (λ gave. (rw refused at gave.answered, rw refused at gave.output), λ so. record { answered = rw refused so.0; output = rw refused so.1 })

module _ (s : List ℕ) (f : Refusal) (refused : first_broken (header_rows (header_of s) (length s)) ≡ Err f) where
  header_refused : (more : List Row) → first_broken (header_rows (header_of s) (length s) ++ more) ≡ Err f
  header_refused more = sym (then_refused (header_rows (header_of s) (length s)) more f refused)

  dump_refused : (more : List Row) → first_broken (dump_rows s (header_of s) ++ more) ≡ Err f
  dump_refused more = header_refused (row11 s (header_of s) ∷ row12 s (header_of s) ∷ row13 s (header_of s) ∷ more)

  declined : (c : Change) (more : List Row) → header_rows (header_of s) (length s) ++ more ≡ c.rows → Declined f c s
  declined c more all = let say : first_broken c.rows ≡ Err f = ap first_broken (sym all) ∙ header_refused more in (rw say, rw say)

  pub all_refused : AllRefused s f
  unfolding check_of find_name find_name_with event_of recording registering removing
  all_refused = record {
    check = rw (dump_refused []);
    name = λ pointer. rw (header_refused (row11 s (header_of s) ∷ []));
    name-with = λ file pointer. rw (header_refused (row11 s (header_of s) ∷ file_rows file));
    event = λ file position. rw (dump_refused (file_rows file ++ _));
    listing = λ file r old new said. gave_refused _ _ old new said f (dump_refused _);
    line = λ file r position old new said. gave_refused _ _ old new said f (dump_refused _);
    recording = λ slot. declined (recording slot s) _ refl;
    registering = λ object name. declined (registering object name s) _ refl;
    removing = λ pointer. declined (removing pointer s) _ refl;
  }

-- no row but those of 1 to 10 has the number 26, and so none of a name file
file_without : (file : Option (List ℕ)) (more : List Row) → numbered 26 more ≡ [] → numbered 26 (file_rows file ++ more) ≡ []
unfolding open_rows row27
file_without None more without = without
file_without (Some f) more without = without

module _ (s : List ℕ) (k : ℕ) where
  abbrev rows : List Row
  rows = header_rows (header_of s) (length s)

  pub cut_by_header : SomeRefused s (given_at 26 k) → first_broken rows ≡ Err (given_at 26 k)
  unfolding open_rows open_writing_rows row27 find_name find_name_with event_of recording registering removing mend_of
  cut_by_header (every.by_check e) = front_refused rows _ (given_at 26 k) (check_refused s _ e) refl
  cut_by_header (every.by_name pointer e) = front_refused rows _ (given_at 26 k) (refused_is _ _ _ e) refl
  cut_by_header (every.by_name_with None pointer e) = front_refused rows _ (given_at 26 k) (refused_is _ _ _ e) refl
  cut_by_header (every.by_name_with (Some f) pointer e) = front_refused rows _ (given_at 26 k) (refused_is _ _ _ e) refl
  cut_by_header (every.by_event file position e) = front_refused rows _ (given_at 26 k) (refused_is _ _ _ e) (file_without file _ refl)
  cut_by_header (every.by_listing file r old new gave) = front_refused rows _ (given_at 26 k) (refused_is _ _ _ (sym gave.answered)) (file_without file _ refl)
  cut_by_header (every.by_line file r position old new gave) = front_refused rows _ (given_at 26 k) (refused_is _ _ _ (sym gave.answered)) (file_without file _ refl)
  cut_by_header (every.by_recording slot e) = front_refused rows _ (given_at 26 k) (refused_is _ _ _ e) refl
  cut_by_header (every.by_registering object name e) = front_refused rows _ (given_at 26 k) (refused_is _ _ _ e) refl
  cut_by_header (every.by_removing pointer e) = front_refused rows _ (given_at 26 k) (refused_is _ _ _ e) refl
  cut_by_header (every.by_mending room e) =
      let layout = layout_rows (header_of s) (length s) in
      sym (then_refused layout _ (given_at 26 k) (front_refused layout _ (given_at 26 k) (refused_is _ _ _ e) refl))
