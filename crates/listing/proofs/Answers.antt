-- What a call gives by rows, some of which it has checked already.
use Rattle.std.specs.Prelude.{Err, Ok, Result}
use Prim.Native.Nat.{ℕ, ◌-◌, ◌^◌, ◌≤◌, ◌<◌}
use mathlib.Core.Bool.{Bool, true, false}
use mathlib.Core.List.{List, [], ◌∷◌, ◌++◌}
use mathlib.Core.Path.{◌≡◌, refl}
use native.Mathlib.Omega.{arith}
use borrow.Author.Tests.{le-ltb, lt-ltb}
use lib.ListN.{length}
use Rattle.std.proofs.lemmas.List.{append_assoc}
use Rattle.rows.proofs.Rows.{then_refused, then_rest}
use Rattle.rows.specs.Rows.{Row, first_broken, row_at}
use Rattle.rows.specs.declared.Refusal.{Refusal}
use Rattle.text.proofs.Output.{fitted_all, fitted_none, fitted_same}
use Rattle.text.specs.Output.{Fitted, Put}
use Rattle.trace.specs.Table.{row16}
use Rattle.events.specs.Listing.{Gave}

module _ (rs more : List Row) {text old : List ℕ} where
  -- an earlier refusal stays
  pub gave_refused : (f : Refusal) → first_broken rs ≡ Err f → Gave (rs ++ more) text old old (Err f)
  gave_refused f refused =
      let verdict = then_refused rs more f refused in
      record { answered = rw (← verdict); output = rw (← verdict) }

  -- rows that have passed leave the answer to the others
  pub gave_more : {new : List ℕ} {said : Result ℕ Refusal} → first_broken rs ≡ Ok tt → Gave more text old new said → Gave (rs ++ more) text old new said
  gave_more passed gave =
      let same = then_rest rs more passed in
      record { answered = rw same at gave.answered; output = rw same at gave.output }

-- the same of rows that were checked in two parts
module _ (rs ms more : List Row) {text old : List ℕ} where
  pub refused_checked : (f : Refusal) → first_broken (rs ++ ms) ≡ Err f → Gave (rs ++ (ms ++ more)) text old old (Err f)
  refused_checked f refused = rw (← append_assoc rs ms more) (gave_refused (rs ++ ms) more f refused)

  pub gave_checked : {new : List ℕ} {said : Result ℕ Refusal} → first_broken (rs ++ ms) ≡ Ok tt → Gave more text old new said → Gave (rs ++ (ms ++ more)) text old new said
  gave_checked passed gave = rw (← append_assoc rs ms more) (gave_more (rs ++ ms) more passed gave)

module _ (text : List ℕ) {old : List ℕ} where
  pub gave_text : {new : List ℕ} {n : ℕ} → length text ≤ length old → Put text old new n → Gave (row16 (length text) (length old) ∷ []) text old new (Ok n)
  unfolding first_broken row16
  gave_text fits put = rw (le-ltb (length old) (length text) fits) record { answered = rw put.count; output = put.bytes }

  pub gave_none : length old < length text → Gave (row16 (length text) (length old) ∷ []) text old old (Err (record { number = 16; place = 0 }))
  unfolding first_broken row16
  gave_none long = rw (lt-ltb (length old) (length text) long) record { answered = refl; output = refl }

  -- by the length of a text that was fitted in
  pub gave_short : {new : List ℕ} {n : ℕ} → length old < 2 ^ 64 - 1 → Fitted text old new n → length new < n
      → Gave (row16 (length text) (length old) ∷ []) text old new (Err (record { number = 16; place = 0 }))
  gave_short size fitted past =
      let long : length old < length text = omega (arith, fitted.count, fitted_same text old fitted.bytes) in
      rw (fitted_none text long fitted) (gave_none long)

  pub gave_fitted : {new : List ℕ} {n : ℕ} → length old < 2 ^ 64 - 1 → Fitted text old new n → n ≤ length new → Gave (row16 (length text) (length old) ∷ []) text old new (Ok n)
  gave_fitted size fitted room =
      let fits : length text ≤ length old = omega (arith, fitted.count, fitted_same text old fitted.bytes) in
      gave_text fits (fitted_all text (omega arith) fits fitted)

-- what the verdict of a single row tells
pub row_broken : (n : ℕ) (b : Bool) (p : ℕ) (f : Refusal) → first_broken (row_at n b p ∷ []) ≡ Err f → (b ≡ true) × (f ≡ record { number = n; place = p })
unfolding first_broken
row_broken n true p f e = (refl, cc)
row_broken n false p f e = absurd cc

pub row_kept : (n : ℕ) (b : Bool) (p : ℕ) → first_broken (row_at n b p ∷ []) ≡ Ok tt → b ≡ false
unfolding first_broken
row_kept n true p e = absurd cc
row_kept n false p e = refl
