-- One thing more is linked: it leads where its place led, and its place leads to it; or it has no place, and nothing changes.
use Prim.Native.Nat.{ℕ, suc, ◌≤◌, ◌<◌}
use mathlib.Core.Bool.{Bool, true, false, true≢false}
use mathlib.Core.Path.{◌≡◌, refl, sym, ◌∙◌}
use native.Mathlib.Decide.{ℕ_discrete}
use native.Mathlib.Omega.{arith}
use borrow.Author.Tests.{eq-eqb, eqb-true, ne_eqb}
use lib.Dec.{eqb}
use Rattle.listing.specs.Index.{Leads, Linked}

module _ (has : ℕ → ℕ → Bool) (count : ℕ) where
  -- before anything is linked, all links lead past the things
  pub link_start : (first next : ℕ → ℕ) → count ≤ 65535 → ((place : ℕ) → place < 4096 → first place ≡ 65535) → Linked has count count first next
  link_start first next few nowhere = record {
    firsts = λ place below.
        rw (nowhere place below) record { few = few; on = few; fits = omega arith; skips = λ k from to inside. absurd (omega arith); lands = λ inside. absurd (omega arith); past = λ beyond. refl };
    nexts = λ i place from inside there. absurd (omega arith);
  }

  module _ (i : ℕ) {first next : ℕ → ℕ} (inside : i < count) (linked : Linked has count (suc i) first next) where
    -- a link over a thing that has not the place leads from there as well
    over : (place : ℕ) {to : ℕ} → has place i ≡ false → Leads has count place (suc i) to → Leads has count place i to
    over place {to} without leads = record { few = leads.few; on = omega (arith, leads.on); fits = leads.fits; skips = λ k from. by k from (ℕ_discrete k i); lands = leads.lands; past = leads.past }
      where
        by : (k : ℕ) → i ≤ k → Dec (k ≡ i) → k < to → k < count → has place k ≡ false
        by k from (yes here) = λ below within. rw here without
        by k from (no past) = leads.skips k (omega arith)

    pub link_none : ((place : ℕ) → has place i ≡ false) → Linked has count i first next
    link_none none = record {
      firsts = λ place below. over place (none place) (linked.firsts place below);
      nexts = λ k place from. by k place from (ℕ_discrete k i);
    }
      where
        by : (k place : ℕ) → i ≤ k → Dec (k ≡ i) → k < count → has place k ≡ true → Leads has count place (suc k) (next k)
        by k place from (yes here) = λ within there. absurd (true≢false (sym there ∙ rw here (none place)))
        by k place from (no past) = linked.nexts k place (omega arith)

    -- by what the links are then
    module _ {first' next' : ℕ → ℕ} (own : ℕ) (small : own < 4096) (fits : i < 65535) (is : (place : ℕ) → has place i ≡ eqb own place)
        (led : next' i ≡ first own) (leads-here : first' own ≡ i)
        (other-firsts : (place : ℕ) → place < 4096 → (place ≡ own → ⊥) → first' place ≡ first place)
        (other-nexts : (k : ℕ) → k < count → (k ≡ i → ⊥) → next' k ≡ next k) where
      pub link_one : Linked has count i first' next'
      link_one = record {
        firsts = λ place below. firsts place below (ℕ_discrete place own);
        nexts = λ k place from. nexts k place from (ℕ_discrete k i);
      }
        where
          firsts : (place : ℕ) → place < 4096 → Dec (place ≡ own) → Leads has count place i (first' place)
          firsts place below (yes same) =
              rw (same, leads-here)
              record { few = (linked.firsts place below).few; on = omega arith; fits = omega arith; skips = λ k from to within. absurd (omega arith); lands = λ within. is own ∙ eq-eqb own own refl; past = λ beyond. absurd (omega arith) }
          firsts place below (no other) = rw (other-firsts place below other) (over place (is place ∙ ne_eqb own place (omega arith)) (linked.firsts place below))

          nexts : (k place : ℕ) → i ≤ k → Dec (k ≡ i) → k < count → has place k ≡ true → Leads has count place (suc k) (next' k)
          nexts k place from (yes here) within there =
              let same : own ≡ place = eqb-true own place (sym (is place) ∙ rw here at there) in
              rw (here, led, same) (linked.firsts place (omega arith))
          nexts k place from (no past) within there = rw (other-nexts k within past) (linked.nexts k place (omega arith) within there)
