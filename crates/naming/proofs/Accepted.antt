-- A file is accepted just where it has at most 65,536 bytes and no record is damaged; each record then lies within it, and one of kind 1 or 2 has its number.
use Rattle.std.specs.Prelude.{Err, Ok, Some}
use Prim.Native.Nat.{ℕ, ◌≤◌, ◌<◌}
use mathlib.Core.Bool.{Bool, cond, false, true, ◌&&◌, ◌||◌, or-true, true≢false}
use mathlib.Core.List.{List, [], ◌∷◌}
use mathlib.Core.Logic.{◌⊎◌, inl, inr}
use mathlib.Core.Path.{◌≡◌, refl, sym, ap, ◌∙◌}
use native.Mathlib.Omega.{arith}
use borrow.Author.Tests.{eq-eqb, eqb-true, le-ltb, lt-ltb, ltb-true}
use lib.Dec.{eqb, ltb}
use lib.ListN.{length}
use Rattle.rows.proofs.Lowest.{none_hit}
use Rattle.rows.proofs.Numbered.{by_number}
use Rattle.rows.proofs.Rows.{here, further, kept_too, one_kept, then_broken, unbroken}
use Rattle.rows.specs.Rows.{Accepted, first_broken, refusal, Verdict}
use Rattle.rows.specs.declared.Refusal.{Refusal}
use Rattle.trace.specs.Layout.{most_bytes}
use Rattle.trace.specs.Table.{row2}
use Rattle.naming.specs.Records.{end_at, file_rows, first_record, has_record, is_sought_at, kind_at, kind_of, length_at, record_at, record_count, row27}
use Rattle.naming.specs.declared.Sought.TheVariants.{Damaged}
use Rattle.naming.specs.declared.Subject.{Subject}
use Rattle.naming.specs.declared.Subject.TheVariants.{Event, Thread}

-- the record at a place runs past the file, or is of kind 1 or 2 and shorter than 4 bytes
abbrev pub Faulty : List ℕ → ℕ → Type 0
Faulty f at = (length f < end_at f at) ⊎ (((kind_at f at ≡ 1) ⊎ (kind_at f at ≡ 2)) × (length_at f at < 4))

module _ (f : List ℕ) where
  -- which is what a search for a damaged record hits
  pub hit_faulty : (at : ℕ) → is_sought_at Damaged f at ≡ true → Faulty f at
  unfolding is_sought_at
  hit_faulty at = by (ltb (length f) (end_at f at)) (eqb (kind_at f at) 1) (eqb (kind_at f at) 2) (ltb (length_at f at) 4) refl refl refl refl
    where
      by : (past one two short : Bool) → ltb (length f) (end_at f at) ≡ past → eqb (kind_at f at) 1 ≡ one → eqb (kind_at f at) 2 ≡ two → ltb (length_at f at) 4 ≡ short
          → (past || ((one || two) && short)) ≡ true → Faulty f at
      by true one two short runs_past is_one is-two is-short hit = inl (ltb-true _ _ runs_past)
      by false true two true runs_past is_one is-two is-short hit = inr (inl (eqb-true _ _ is_one), ltb-true _ _ is-short)
      by false false true true runs_past is_one is-two is-short hit = inr (inr (eqb-true _ _ is-two), ltb-true _ _ is-short)
      by false true two false runs_past is_one is-two is-short hit = absurd (true≢false (sym hit))
      by false false true false runs_past is_one is-two is-short hit = absurd (true≢false (sym hit))
      by false false false short runs_past is_one is-two is-short hit = absurd (true≢false (sym hit))

  pub faulty_hit : (at : ℕ) → Faulty f at → is_sought_at Damaged f at ≡ true
  unfolding is_sought_at
  faulty_hit at (inl past) = rw (lt-ltb _ _ past)
  faulty_hit at (inr (inl one, short)) = rw (eq-eqb _ _ one, lt-ltb _ _ short, or-true)
  faulty_hit at (inr (inr two, short)) = rw (eq-eqb (kind_at f at) 2 two, or-true, lt-ltb _ _ short, or-true)

  -- a file that is refused by 27 has such a record, at the place given
  pub refused_at : (at : ℕ) → first_broken (file_rows (Some f)) ≡ Err (record { number = 27; place = at }) → (has_record Damaged f ≡ true) × (record_at f (first_record Damaged f) ≡ at)
  unfolding first_broken row2 row27
  refused_at at refused = by (has_record Damaged f) refl (by_number (file_rows (Some f)) (record { number = 27; place = at }) refused)
    where
      by : (b : Bool) → has_record Damaged f ≡ b → cond {A = Verdict} b (Err (refusal (row27 f))) (Ok tt) ≡ Err (record { number = 27; place = at })
          → (has_record Damaged f ≡ true) × (record_at f (first_record Damaged f) ≡ at)
      by true damaged same =
          let one : refusal (row27 f) ≡ record { number = 27; place = at } = cc in
          (damaged, ap (λ (g : Refusal). g.place) one)
      by false whole same = (cc, cc)

  -- and one of at most 65,536 bytes that has such a record is refused so
  pub damaged_refused : length f ≤ most_bytes → has_record Damaged f ≡ true → first_broken (file_rows (Some f)) ≡ Err (record { number = 27; place = record_at f (first_record Damaged f) })
  unfolding row2 row27
  damaged_refused short damaged = then_broken (row2 (length f) ∷ []) (row27 f) [] (one_kept (row2 (length f)) (le-ltb most_bytes (length f) short)) damaged

  pub whole_accepted : length f ≤ most_bytes → has_record Damaged f ≡ false → Accepted (file_rows (Some f))
  unfolding row2 row27
  whole_accepted short whole = kept_too (row2 (length f)) _ (le-ltb most_bytes (length f) short) (one_kept (row27 f) whole)

  module _ (accepted : Accepted (file_rows (Some f))) where
    pub accepted_whole : has_record Damaged f ≡ false
    unfolding row27
    accepted_whole = unbroken accepted (row27 f) (further here)

    -- of an accepted file no record is faulty
    not_faulty : (i : ℕ) → i < record_count f → Faulty f (record_at f i) → ⊥
    not_faulty i inside faulty =
        true≢false (sym (faulty_hit (record_at f i) faulty) ∙ none_hit (λ k. is_sought_at Damaged f (record_at f k)) (record_count f) accepted_whole i inside)

    pub record_within : (i : ℕ) → i < record_count f → end_at f (record_at f i) ≤ length f
    record_within i inside =
        let whole : length f < end_at f (record_at f i) → ⊥ = λ past. not_faulty i inside (inl past) in
        omega arith

    pub number_within : (subject : Subject) (i : ℕ) → i < record_count f → kind_at f (record_at f i) ≡ kind_of subject → 4 ≤ length_at f (record_at f i)
    unfolding kind_of
    number_within subject i inside kind =
        let long : length_at f (record_at f i) < 4 → ⊥ = λ short. not_faulty i inside (inr (named subject kind, short)) in
        omega arith
      where
        named : (subject : Subject) → kind_at f (record_at f i) ≡ kind_of subject → (kind_at f (record_at f i) ≡ 1) ⊎ (kind_at f (record_at f i) ≡ 2)
        named Event e = inl e
        named Thread e = inr e
