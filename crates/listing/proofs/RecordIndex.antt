-- The index of a name file's records: a record more is linked by two stores where it names something, and the links lead where a search of the file ends.
use Rattle.std.specs.Prelude.{option_map}
use Prim.Native.Nat.{ℕ, suc, ◌+◌, ◌≤◌, ◌<◌}
use mathlib.Core.Bool.{Bool, true, false, ◌&&◌, ◌||◌, and-false, and-true, true≢false}
use mathlib.Core.List.{List}
use mathlib.Core.Path.{◌≡◌, refl, sym, ◌∙◌}
use native.Mathlib.Decide.{ℕ_discrete}
use native.Mathlib.Omega.{arith}
use borrow.Author.Tests.{eq-eqb, eqb-true, ne_eqb}
use lib.Dec.{eqb}
use lib.ListN.{get_or, get_or-replicate, length, length-replicate, length-set, replicate, set}
use lib.Seq.{get_or-set_other, get_or-set_same}
use Rattle.naming.proofs.Records.{count_inside, count_past, records_apart}
use Rattle.naming.specs.Records.{is_sought_at, kind_at, kind_of, name_at, number_at, record_at, record_count, record_name}
use Rattle.naming.specs.declared.Sought.TheVariants.{Naming}
use Rattle.naming.specs.declared.Subject.{Subject}
use Rattle.naming.specs.declared.Subject.TheVariants.{Event, Thread}
use Rattle.listing.proofs.Follows.{is_found, lowest_map, place_tells}
use Rattle.listing.proofs.Links.{link_none, link_one, link_start}
use Rattle.listing.specs.Index.{lowest_in, place_of}
use Rattle.listing.specs.RecordIndex.{Records, Starts, has_record, is_thread_subject}

module _ (f : List ℕ) where
  -- so many records are found, and no place leads anywhere yet
  pub record Found (i : ℕ) (records : List ℕ) : Type 0 where
    pub counted : i ≤ record_count f
    pub starts : Starts f i records
    pub nowhere : (place : ℕ) → place < 4096 → get_or records (32768 + place) 0 ≡ 65535

  pub found_none : Found 0 (replicate 36864 65535)
  found_none = record {
    counted = omega arith;
    starts = record { size = length-replicate {A = ℕ} 36864 65535; few = omega arith; starts = λ i none. absurd (omega arith) };
    nowhere = λ place below. get_or-replicate {A = ℕ} 36864 (32768 + place) 65535 0 (omega arith);
  }

  module _ (short : length f ≤ 65536) where
    pub record_few : (i : ℕ) → record_at f i < length f → i < 16384
    record_few i starts = omega (arith, records_apart f i)

    -- one more
    pub found_more : (i : ℕ) (records : List ℕ) → record_at f i < length f → Found i records → Found (suc i) (set records i (record_at f i))
    found_more i records starts found = record {
      counted = count_inside f i starts;
      starts = record { size = rw length-set found.starts.size; few = record_few i starts; starts = λ k below. by k below (ℕ_discrete k i) };
      nowhere = λ place below. get_or-set_other records i (32768 + place) _ 0 (omega (arith, record_few i starts)) ∙ found.nowhere place below;
    }
      where
        by : (k : ℕ) → k < suc i → Dec (k ≡ i) → get_or (set records i (record_at f i)) k 0 ≡ record_at f k
        by k below (yes here) = rw here (get_or-set_same records i _ 0 (omega (arith, record_few i starts, found.starts.size)))
        by k below (no other) = get_or-set_other records i k _ 0 other ∙ found.starts.starts k (omega arith)

  -- where the file has ended, all are found
  pub found_all : (i : ℕ) (records : List ℕ) → length f ≤ record_at f i → Found i records → (i ≡ record_count f) × Records f (record_count f) records
  found_all i records past found =
      let all : i ≡ record_count f = omega (arith, count_past f i past, found.counted) in
      (all, record { found = rw all at found.starts; linked = link_start (has_record f) (record_count f) _ _ (omega (arith, found.starts.few)) found.nowhere })

  module _ (i : ℕ) (records : List ℕ) (inside : i < record_count f) (index : Records f (suc i) records) where
    abbrev kind : ℕ
    kind = kind_at f (record_at f i)

    pub record_none : (eqb kind 1 || eqb kind 2) ≡ false → Records f i records
    record_none none = record { found = index.found; linked = link_none (has_record f) (record_count f) i inside index.linked (λ place. rw none) }

    pub record_linked : (own : ℕ) → own ≡ place_of (eqb kind 2) (number_at f (record_at f i)) → own < 4096 → (eqb kind 1 || eqb kind 2) ≡ true
        → Records f i (set (set records (16384 + i) (get_or records (32768 + own) 0)) (32768 + own) i)
    record_linked own its small names = record {
      found = record {
        size = rw (length-set, length-set) index.found.size;
        few = index.found.few;
        starts = λ k within. get_or-set_other led (32768 + own) k i 0 (omega (arith, index.found.few)) ∙ get_or-set_other records (16384 + i) k _ 0 (omega (arith, index.found.few)) ∙ index.found.starts k within;
      };
      linked =
          link_one (has_record f) (record_count f) i inside index.linked own small (omega (arith, index.found.few))
          (λ place. rw (names, ← its))
          (get_or-set_other led (32768 + own) (16384 + i) i 0 (omega (arith, index.found.few)) ∙ get_or-set_same records (16384 + i) _ 0 (omega (arith, index.found.few, index.found.size)))
          (get_or-set_same led (32768 + own) i 0 (rw length-set (omega (arith, index.found.size))))
          (λ place below other. get_or-set_other led (32768 + own) (32768 + place) i 0 (omega arith) ∙ get_or-set_other records (16384 + i) (32768 + place) _ 0 (omega (arith, index.found.few)))
          (λ k within other. get_or-set_other led (32768 + own) (16384 + k) i 0 (omega (arith, index.found.few)) ∙ get_or-set_other records (16384 + i) (16384 + k) _ 0 (omega arith));
    }
      where
        led : List ℕ
        led = set records (16384 + i) (get_or records (32768 + own) 0)

  -- a number's place tells whom it names, where the record names anybody
  subject_tells : (subject : Subject) (kind number : ℕ) → eqb kind (kind_of subject) ≡ ((eqb kind 1 || eqb kind 2) && eqb (place_of (eqb kind 2) number) (place_of (is_thread_subject subject) number))
  unfolding is_thread_subject kind_of
  subject_tells Event kind number = by (eqb kind 1) (eqb kind 2) refl refl
    where
      by : (event thread : Bool) → eqb kind 1 ≡ event → eqb kind 2 ≡ thread → event ≡ ((event || thread) && eqb (place_of thread number) (place_of false number))
      by true true one two = absurd (true≢false (sym one ∙ rw (eqb-true kind 2 two)))
      by true false one two = sym (place_tells false false number)
      by false true one two = sym (place_tells true false number)
      by false false one two = refl
  subject_tells Thread kind number = by (eqb kind 1) (eqb kind 2)
    where
      by : (event thread : Bool) → thread ≡ ((event || thread) && eqb (place_of thread number) (place_of true number))
      by true true = sym (place_tells true true number)
      by true false = sym (place_tells false true number)
      by false true = sym (place_tells true true number)
      by false false = refl

  -- the name of a record that is found by its place and its number
  pub record_found : (subject : Subject) (number : ℕ)
      → record_name subject f number ≡ option_map (λ i. name_at f (record_at f i)) (lowest_in (is_found (has_record f) (λ k. number_at f (record_at f k)) (place_of (is_thread_subject subject) number) number) (record_count f))
  unfolding is_sought_at record_name
  record_found subject number =
      lowest_map (λ i. name_at f (record_at f i)) (is_found (has_record f) (λ k. number_at f (record_at f k)) (place_of (is_thread_subject subject) number) number) (λ k. is_sought_at (Naming subject number) f (record_at f k))
      (record_count f) (λ k below. by k (ℕ_discrete (number_at f (record_at f k)) number))
    where
      by : (k : ℕ) → Dec (number_at f (record_at f k) ≡ number)
          → is_found (has_record f) (λ k. number_at f (record_at f k)) (place_of (is_thread_subject subject) number) number k ≡ is_sought_at (Naming subject number) f (record_at f k)
      by k (yes same) = rw (same, eq-eqb number number refl, and-true, and-true) (sym (subject_tells subject (kind_at f (record_at f k)) number))
      by k (no other) = rw (ne_eqb (number_at f (record_at f k)) number other, and-false, and-false)
