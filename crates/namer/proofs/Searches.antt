-- A search has found a record where it ended before the file's end, and only there.
use Rattle.std.specs.Prelude.{None, Some}
use Prim.Native.Nat.{ℕ}
use mathlib.Core.Bool.{Bool, true, false, cond}
use mathlib.Core.List.{List, [], ◌∷◌}
use mathlib.Core.Path.{◌≡◌, refl}
use native.Mathlib.Omega.{arith}
use borrow.Author.Tests.{le-ltb, lt-ltb, ltb-true}
use lib.Dec.{ltb}
use lib.ListN.{length}
use Rattle.naming.proofs.Records.{inside_count}
use Rattle.naming.specs.Records.{first_record, has_record, name_at, record_at, record_count, record_name, row27}
use Rattle.naming.specs.declared.Sought.{Sought}
use Rattle.naming.specs.declared.Sought.TheVariants.{Damaged, Naming}
use Rattle.naming.specs.declared.Subject.{Subject}
use Rattle.rows.specs.Rows.{first_broken, row_at}
use Rattle.namer.specs.Searches.{sought_at}

module _ (f : List ℕ) where
  -- by whether there is such a record
  ends : (sought : Sought) (there : Bool) → has_record sought f ≡ there → ltb (cond there (record_at f (first_record sought f)) (length f)) (length f) ≡ there
  ends sought true is = lt-ltb _ (length f) (inside_count f (first_record sought f) (ltb-true _ (record_count f) is))
  ends sought false is = le-ltb (length f) (length f) (omega arith)

  pub ends_before : (sought : Sought) → ltb (sought_at sought f) (length f) ≡ has_record sought f
  unfolding sought_at
  ends_before sought = ends sought (has_record sought f) refl

  -- so check 27 goes by where the search for a damaged record ends, and a name by where that for its record does
  pub row27_by : first_broken (row_at 27 (ltb (sought_at Damaged f) (length f)) (sought_at Damaged f) ∷ []) ≡ first_broken (row27 f ∷ [])
  unfolding first_broken row27 sought_at
  row27_by = rw (ends_before Damaged) (by (has_record Damaged f))
    where
      by : (there : Bool)
          → first_broken (row_at 27 there (cond there (record_at f (first_record Damaged f)) (length f)) ∷ []) ≡ first_broken (row_at 27 there (record_at f (first_record Damaged f)) ∷ [])
      by true = refl
      by false = refl

  module _ (subject : Subject) (number : ℕ) where
    pub name_there : ltb (sought_at (Naming subject number) f) (length f) ≡ true → record_name subject f number ≡ Some (name_at f (sought_at (Naming subject number) f))
    unfolding record_name sought_at
    name_there found = rw (rw (ends_before (Naming subject number)) at found)

    pub name_nowhere : ltb (sought_at (Naming subject number) f) (length f) ≡ false → record_name subject f number ≡ None
    unfolding record_name
    name_nowhere none = rw (rw (ends_before (Naming subject number)) at none)
