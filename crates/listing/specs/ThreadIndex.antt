-- The index of the registry's threads by their pointers: those that are live, and those that are gone.
use Rattle.std.specs.Prelude.{ℕ, ◌+◌, ◌≤◌, Bool, true, false, ◌&&◌, List, ◌≡◌, eqb, get_or, length}
use Rattle.trace.specs.Layout.{entry_at, entry_count}
use Rattle.trace.specs.Registry.{is_thread_at, kind_at, pointer_at}
use Rattle.trace.specs.declared.Header.{Header}
use Rattle.trace.specs.declared.ThreadKind.{ThreadKind}
use Rattle.trace.specs.declared.ThreadKind.TheVariants.{Gone, Live}
use Rattle.listing.specs.Index.{Linked, place_of}

unfoldable pub is_gone_kind : ThreadKind → Bool
is_gone_kind Live = false
is_gone_kind Gone = true

-- a thread's entry whose pointer has the place
abbrev pub has_thread : List ℕ → Header → ℕ → ℕ → Bool
has_thread s h place i =
    eqb (place_of (is_gone_kind (kind_at s (entry_at h i))) (pointer_at h.order s (entry_at h i))) place && is_thread_at s (entry_at h i)

-- the entries from one on are linked: at an entry's index is where it leads, and behind all entries that fit a dump, for each place, where the place leads
pub record Threads (s : List ℕ) (h : Header) (from : ℕ) (links : List ℕ) : Type 0 where
  pub size : length links ≡ 7370
  pub few : entry_count h ≤ 3274
  pub linked : Linked (has_thread s h) (entry_count h) from (λ place. get_or links (3274 + place) 0) (λ i. get_or links i 0)
