-- Behind the first record, where that lies within a file, the rest is a file of its own: its records are the others, and what is sought is the first one or is sought there.
use Rattle.std.specs.Prelude.{None, Some}
use Prim.Native.Nat.{ℕ, zero, suc, ◌+◌, ◌-◌, ◌≤◌, ◌<◌}
use mathlib.Core.Bool.{Bool, cond, false, true, ◌&&◌, ◌||◌}
use mathlib.Core.List.{List}
use mathlib.Core.Path.{◌≡◌, refl, sym, ap, ap₂, ◌∙◌}
use native.Mathlib.Decide.{dec_lt}
use native.Mathlib.Nat.{add_assoc}
use native.Mathlib.Omega.{arith}
use borrow.Author.Tests.{le-ltb, lt-ltb}
use lib.Dec.{eqb, ltb, leb-suc-suc}
use lib.ListN.{drop, length, length-drop}
use lib.Seq.{drop-drop}
use Rattle.rows.proofs.Lowest.{lowest_same}
use Rattle.rows.specs.Lowest.{lowest}
use Rattle.trace.specs.Names.{name_bytes}
use Rattle.words.proofs.Laws.{drop_read}
use Rattle.words.specs.declared.Order.TheVariants.{Little}
use Rattle.naming.specs.Records.{end_at, first_record, has_record, is_sought_at, kind_at, kind_of, length_at, name_at, number_at, record_at, record_count, record_name}
use Rattle.naming.specs.declared.Sought.{Sought}
use Rattle.naming.specs.declared.Sought.TheVariants.{Damaged, Naming}
use Rattle.naming.specs.declared.Subject.{Subject}
use Rattle.naming.proofs.Records.{count_inside, count_past, inside_count}

module _ (f : List ℕ) (within : end_at f 0 ≤ length f) where
  abbrev behind : ℕ
  behind = end_at f 0

  abbrev rest : List ℕ
  rest = drop behind f

  -- a record there is read as it is in the file
  length_there : (k : ℕ) → length_at f (behind + k) ≡ length_at rest k
  length_there k = sym (drop_read Little 2 f behind k)

  kind_there : (k : ℕ) → kind_at f (behind + k) ≡ kind_at rest k
  kind_there k = rw (add_assoc behind k 2) (sym (drop_read Little 2 f behind (k + 2)))

  number_there : (k : ℕ) → number_at f (behind + k) ≡ number_at rest k
  number_there k = rw (add_assoc behind k 4) (sym (drop_read Little 4 f behind (k + 4)))

  end_there : (k : ℕ) → end_at f (behind + k) ≡ behind + end_at rest k
  end_there k = rw (length_there k) (omega arith)

  past_there : (k : ℕ) → ltb (length f) (end_at f (behind + k)) ≡ ltb (length rest) (end_at rest k)
  past_there k = rw (end_there k, length-drop) (by (dec_lt (length f) (behind + end_at rest k)))
    where
      by : Dec (length f < behind + end_at rest k) → ltb (length f) (behind + end_at rest k) ≡ ltb (length f - behind) (end_at rest k)
      by (yes past) = lt-ltb _ _ past ∙ sym (lt-ltb (length f - behind) (end_at rest k) (omega arith))
      by (no inside) = le-ltb (length f) (behind + end_at rest k) (omega arith) ∙ sym (le-ltb (length f - behind) (end_at rest k) (omega arith))

  sought_there : (sought : Sought) (k : ℕ) → is_sought_at sought f (behind + k) ≡ is_sought_at sought rest k
  unfolding is_sought_at
  sought_there Damaged k =
      ap₂ (λ (past named : Bool). past || named) (past_there k)
      (ap₂ (λ (kind size : ℕ). (eqb kind 1 || eqb kind 2) && ltb size 4) (kind_there k) (length_there k))
  sought_there (Naming subject number) k = ap₂ (λ (kind n : ℕ). eqb kind (kind_of subject) && eqb n number) (kind_there k) (number_there k)

  name_there : (dump : List ℕ) (k : ℕ) → name_bytes (Some f) dump (Some (name_at f (behind + k))) ≡ name_bytes (Some rest) dump (Some (name_at rest k))
  unfolding name_bytes
  name_there dump k = rw (length_there k, add_assoc behind k 8, drop-drop)

  -- the records behind the first are those of the rest
  records_there : (i : ℕ) → record_at f (suc i) ≡ behind + record_at rest i
  unfolding record_at
  records_there zero = omega arith
  records_there (suc i) = ap (end_at f) (records_there i) ∙ end_there (record_at rest i)

  count_there : record_count f ≡ suc (record_count rest)
  unfolding record_at
  count_there = omega (arith, count_past f (suc n) (rw (records_there n) (omega (arith, length-drop behind f, ended))), below n refl)
    where
      n : ℕ
      n = record_count rest

      ended : length rest ≤ record_at rest n
      ended =
          let no_more : record_at rest n < length rest → ⊥ = λ starts. omega (arith, count_inside rest n starts) in
          omega arith

      below : (m : ℕ) → n ≡ m → n < record_count f
      below zero e = rw e (count_inside f 0 (omega arith))
      below (suc m) e = rw e (count_inside f (suc m) (rw (records_there m) (omega (arith, length-drop behind f, inside_count rest m (omega arith)))))

  first_there : (sought : Sought) → first_record sought f ≡ cond (is_sought_at sought f 0) 0 (suc (first_record sought rest))
  unfolding lowest record_at
  first_there sought =
      rw count_there
      (ap (λ (m : ℕ). cond (is_sought_at sought f 0) 0 (suc m))
      (lowest_same _ _ (record_count rest) (λ k below. ap (is_sought_at sought f) (records_there k) ∙ sought_there sought (record_at rest k))))

  pub has_there : (sought : Sought) → has_record sought f ≡ (is_sought_at sought f 0 || has_record sought rest)
  has_there sought = rw (first_there sought, count_there) (by (is_sought_at sought f 0))
    where
      by : (b : Bool) → ltb (cond b 0 (suc (first_record sought rest))) (suc (record_count rest)) ≡ (b || has_record sought rest)
      by true = lt-ltb 0 (suc (record_count rest)) (omega arith)
      by false = leb-suc-suc (suc (first_record sought rest)) (record_count rest)

  -- so the name for a number is that of the first record, or the name that the rest gives
  pub name_bytes_there : (dump : List ℕ) (subject : Subject) (number : ℕ)
      → name_bytes (Some f) dump (record_name subject f number) ≡ cond (is_sought_at (Naming subject number) f 0) (name_bytes (Some f) dump (Some (name_at f 0))) (name_bytes (Some rest) dump (record_name subject rest number))
  unfolding name_bytes record_name record_at
  name_bytes_there dump subject number = rw (has_there sought, first_there sought) (by (is_sought_at sought f 0) (has_record sought rest))
    where
      sought : Sought
      sought = Naming subject number

      i : ℕ
      i = first_record sought rest

      by : (b has : Bool)
          → name_bytes (Some f) dump (cond (b || has) (Some (name_at f (record_at f (cond b 0 (suc i))))) None) ≡ cond b (name_bytes (Some f) dump (Some (name_at f 0))) (name_bytes (Some rest) dump (cond has (Some (name_at rest (record_at rest i))) None))
      by true has = refl
      by false true = ap (λ (at : ℕ). name_bytes (Some f) dump (Some (name_at f at))) (records_there i) ∙ name_there dump (record_at rest i)
      by false false = refl
