-- A name is that of the first record for its number, and there is none where there is no such record; of an accepted file it ends where its record does.
use Rattle.std.specs.Prelude.{None, Some}
use Prim.Native.Nat.{ℕ, ◌+◌, ◌≤◌, ◌<◌}
use mathlib.Core.Bool.{Bool, cond, false, true, and-eq-true_iff, true≢false}
use mathlib.Core.List.{List}
use mathlib.Core.Path.{◌≡◌, refl, sym, ap}
use native.Mathlib.Omega.{arith}
use borrow.Author.Tests.{eq-eqb, eqb-true, ltb-true}
use lib.Dec.{eqb}
use lib.ListN.{length}
use Rattle.rows.proofs.Lowest.{lowest_hit}
use Rattle.rows.specs.Rows.{Accepted}
use Rattle.trace.specs.Names.{is_gone, is_named, name_length, name_start}
use Rattle.trace.specs.declared.Name.TheVariants.{Filed}
use Rattle.naming.specs.Records.{end_at, file_rows, first_record, has_record, is_sought_at, kind_at, kind_of, name_at, number_at, record_at, record_count, record_name}
use Rattle.naming.specs.declared.Sought.TheVariants.{Naming}
use Rattle.naming.specs.declared.Subject.{Subject}
use Rattle.naming.proofs.Accepted.{number_within, record_within}

module _ (f : List ℕ) (subject : Subject) (number : ℕ) where
  abbrev first : ℕ
  first = first_record (Naming subject number) f

  -- a record that is sought has the kind and the number
  pub sought_is : (at : ℕ) → is_sought_at (Naming subject number) f at ≡ true → (kind_at f at ≡ kind_of subject) × (number_at f at ≡ number)
  unfolding is_sought_at
  sought_is at hit =
      let both = (and-eq-true_iff (eqb (kind_at f at) (kind_of subject)) (eqb (number_at f at) number)).0 hit in
      (eqb-true _ _ both.0, eqb-true _ _ both.1)

  pub is_sought : (at : ℕ) → (kind_at f at ≡ kind_of subject) × (number_at f at ≡ number) → is_sought_at (Naming subject number) f at ≡ true
  unfolding is_sought_at
  is_sought at (kind, same) = rw (eq-eqb _ _ kind, eq-eqb _ _ same)

  pub has_name : has_record (Naming subject number) f ≡ true → record_name subject f number ≡ Some (name_at f (record_at f (first_record (Naming subject number) f)))
  unfolding record_name
  has_name has = rw has

  pub no_name : has_record (Naming subject number) f ≡ false → record_name subject f number ≡ None
  unfolding record_name
  no_name absent = rw absent

  -- it is never that of a thread that is gone
  pub record_not_gone : is_gone (record_name subject f number) ≡ false
  unfolding record_name
  record_not_gone = by (has_record (Naming subject number) f)
    where
      by : (b : Bool) → is_gone (cond b (Some (name_at f (record_at f first))) None) ≡ false
      by true = refl
      by false = refl

  module _ (at size : ℕ) (filed : record_name subject f number ≡ Some (Filed at size)) where
    filed_is : (has_record (Naming subject number) f ≡ true) × (Some (name_at f (record_at f first)) ≡ Some (Filed at size))
    unfolding record_name
    filed_is = by (has_record (Naming subject number) f) refl filed
      where
        by : (b : Bool) → has_record (Naming subject number) f ≡ b → cond b (Some (name_at f (record_at f first))) None ≡ Some (Filed at size)
            → (has_record (Naming subject number) f ≡ true) × (Some (name_at f (record_at f first)) ≡ Some (Filed at size))
        by true has same = (has, same)
        by false none same = absurd (true≢false (sym (ap is_named same)))

    pub filed_has : has_record (Naming subject number) f ≡ true
    filed_has = filed_is.0

    pub name_begins : at ≡ record_at f (first_record (Naming subject number) f) + 8
    name_begins = sym (ap name_start filed_is.1)

    module _ (accepted : Accepted (file_rows (Some f))) where
      inside : first < record_count f
      inside = ltb-true _ _ filed_has

      pub name_ends : at + size ≡ end_at f (record_at f (first_record (Naming subject number) f))
      name_ends =
          let kind = (sought_is (record_at f first) (lowest_hit (λ k. is_sought_at (Naming subject number) f (record_at f k)) (record_count f) inside)).0 in
          omega (arith, name_begins, ap name_length filed_is.1, number_within f accepted subject first inside kind)

      pub name_within : at + size ≤ length f
      name_within = rw name_ends (record_within f accepted first inside)
