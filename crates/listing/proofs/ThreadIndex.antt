-- The index of threads: an entry more is linked by two stores where it is a thread's, and the links lead where a search of the registry ends.
use Rattle.std.specs.Prelude.{option_map}
use Prim.Native.Nat.{ℕ, suc, ◌+◌, ◌≤◌, ◌<◌}
use mathlib.Core.Bool.{Bool, true, false, cond, and-false, and-true}
use mathlib.Core.List.{List}
use mathlib.Core.Path.{◌≡◌, refl, ◌∙◌}
use native.Mathlib.Omega.{arith}
use native.Mathlib.Decide.{ℕ_discrete}
use borrow.Author.Tests.{eq-eqb, ne_eqb}
use lib.Dec.{eqb}
use lib.ListN.{get_or, get_or-replicate, length-replicate, length-set, replicate, set}
use lib.Seq.{get_or-set_other, get_or-set_same}
use Rattle.trace.specs.Layout.{entry_at, entry_count}
use Rattle.trace.specs.Names.{entry_name, name_if_entry, thread_name}
use Rattle.trace.specs.Registry.{is_in_use, is_of_kind, is_thread_at, is_wanted, is_wanted_at, kind_at, pointer_at}
use Rattle.trace.specs.declared.Header.{Header}
use Rattle.trace.specs.declared.ThreadKind.{ThreadKind}
use Rattle.trace.specs.declared.ThreadKind.TheVariants.{Gone, Live}
use Rattle.trace.specs.declared.Wanted.TheVariants.{Thread}
use Rattle.listing.proofs.Follows.{is_found, lowest_map, place_tells}
use Rattle.listing.proofs.Links.{link_none, link_one, link_start}
use Rattle.listing.specs.Index.{lowest_in, place_of}
use Rattle.listing.specs.ThreadIndex.{Threads, has_thread, is_gone_kind}

module _ (s : List ℕ) (h : Header) where
  pub threads_start : entry_count h ≤ 3274 → Threads s h (entry_count h) (replicate 7370 65535)
  threads_start few = record {
    size = length-replicate {A = ℕ} 7370 65535;
    few = few;
    linked = link_start (has_thread s h) (entry_count h) _ _ (omega arith) (λ place below. get_or-replicate {A = ℕ} 7370 (3274 + place) 65535 0 (omega arith));
  }

  module _ (i : ℕ) (links : List ℕ) (inside : i < entry_count h) (threads : Threads s h (suc i) links) where
    pub thread_none : is_thread_at s (entry_at h i) ≡ false → Threads s h i links
    thread_none none = record {
      size = threads.size;
      few = threads.few;
      linked = link_none (has_thread s h) (entry_count h) i inside threads.linked (λ place. rw (none, and-false));
    }

    pub thread_linked : (own : ℕ) → own ≡ place_of (is_gone_kind (kind_at s (entry_at h i))) (pointer_at h.order s (entry_at h i)) → own < 4096 → is_thread_at s (entry_at h i) ≡ true
        → Threads s h i (set (set links i (get_or links (3274 + own) 0)) (3274 + own) i)
    thread_linked own its small thread = record {
      size = rw (length-set, length-set) threads.size;
      few = threads.few;
      linked =
          link_one (has_thread s h) (entry_count h) i inside threads.linked own small (omega (arith, threads.few))
          (λ place. rw (thread, its, and-true))
          (get_or-set_other led (3274 + own) i i 0 (omega (arith, threads.few)) ∙ get_or-set_same links i _ 0 (omega (arith, threads.few, threads.size)))
          (get_or-set_same led (3274 + own) i 0 (rw length-set (omega (arith, threads.size))))
          (λ place below other. get_or-set_other led (3274 + own) (3274 + place) i 0 (omega arith) ∙ get_or-set_other links i (3274 + place) _ 0 (omega (arith, threads.few)))
          (λ k within other. get_or-set_other led (3274 + own) k i 0 (omega (arith, threads.few)) ∙ get_or-set_other links i k _ 0 other);
    }
      where
        led : List ℕ
        led = set links i (get_or links (3274 + own) 0)

  -- a pointer's place tells the kind
  kind_tells : (kind : ThreadKind) (used : Bool) (pointer : ℕ) → eqb (place_of (is_gone_kind (cond used Live Gone)) pointer) (place_of (is_gone_kind kind) pointer) ≡ is_of_kind kind used
  unfolding is_gone_kind
  kind_tells Live true pointer = place_tells false false pointer
  kind_tells Live false pointer = place_tells true false pointer
  kind_tells Gone true pointer = place_tells false true pointer
  kind_tells Gone false pointer = place_tells true true pointer

  -- the name of a thread that is found by its place and its pointer
  pub thread_found : (kind : ThreadKind) (pointer : ℕ)
      → thread_name kind s h pointer ≡ option_map (entry_name kind s h) (lowest_in (is_found (has_thread s h) (λ k. pointer_at h.order s (entry_at h k)) (place_of (is_gone_kind kind) pointer) pointer) (entry_count h))
  unfolding is_wanted_at name_if_entry thread_name
  thread_found kind pointer =
      lowest_map (entry_name kind s h) (is_found (has_thread s h) (λ k. pointer_at h.order s (entry_at h k)) (place_of (is_gone_kind kind) pointer) pointer) (is_wanted (Thread kind pointer) s h) (entry_count h)
      (λ k below. by k (ℕ_discrete (pointer_at h.order s (entry_at h k)) pointer))
    where
      by : (k : ℕ) → Dec (pointer_at h.order s (entry_at h k) ≡ pointer)
          → is_found (has_thread s h) (λ k. pointer_at h.order s (entry_at h k)) (place_of (is_gone_kind kind) pointer) pointer k ≡ is_wanted (Thread kind pointer) s h k
      by k (yes same) = rw (same, eq-eqb pointer pointer refl, kind_tells kind (is_in_use s (entry_at h k)) pointer, and-true)
      by k (no other) = rw (ne_eqb (pointer_at h.order s (entry_at h k)) pointer other, and-false, and-false)
