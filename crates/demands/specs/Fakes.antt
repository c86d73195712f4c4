-- The fakes that document 01 names: each breaks a promise or a demand.
use Rattle.std.specs.Prelude.{ℕ, cond, List, [], ◌≡◌, eqb, length, None, Ok}
use Rattle.events.specs.Listing.{Gave, listing_rows, listing_text}
use Rattle.events.specs.declared.Reading.{Reading}
use Rattle.rows.specs.Rows.{first_broken, answer_by}
use Rattle.rows.specs.Told.{Told}
use Rattle.trace.specs.Check.{check_of, sound_dump}
use Rattle.trace.specs.Layout.{header_of, current_slot}
use Rattle.trace.specs.Slots.{event_count}
use Rattle.trace.specs.Table.{dump_rows}
use Rattle.trace.specs.declared.Header.{Header}
use Rattle.trace.specs.declared.Slot.{Slot}
use Rattle.words.specs.Words.{put_word}
use Rattle.writing.specs.Writing.{Change, left, next_pointer, recorded, recording}
use Rattle.demands.specs.Demands.{ThirdDemand, ThirdDemandAt}
use Rattle.demands.specs.Refusals.{Refuses}

-- a reader that refuses everything, and so never gives a value
abbrev pub RefusesEverything : Type 0
RefusesEverything = (s : List ℕ) → (told : Told) × (told.values ≡ []) × Refuses (dump_rows s (header_of s)) told

-- one that refuses as it should, and otherwise lists nothing
abbrev pub ListsNothing : Type 0
ListsNothing =
    (s : List ℕ) (r : Reading) (out : List ℕ) → first_broken (listing_rows None s (header_of s) r (length out)) ≡ Ok tt
    → Gave (listing_rows None s (header_of s) r (length out)) (listing_text None s (header_of s) r) out out (Ok 0)

-- a recorder that checks and answers as it should, and leaves another buffer
abbrev leaving : (List ℕ → Header → Slot → List ℕ) → Slot → List ℕ → Change
leaving fake slot s = record { rows = (recording slot s).rows; gives = (recording slot s).gives; leaves = fake s (header_of s) slot }

-- one that leaves the buffer untouched
unfoldable pub untouched : Slot → List ℕ → Change
untouched = leaving (λ s h slot. s)

-- one that fills the first slot and then only moves current (until that is at the first slot again)
unfoldable pub first_only : Slot → List ℕ → Change
first_only = leaving (λ s h slot. cond (eqb (current_slot h) 0) (recorded s h slot) (put_word h.order s 32 (next_pointer h)))

-- a check that is right but for its event count
abbrev pub CountsAs : (List ℕ → ℕ) → Type 0
CountsAs invented = (s : List ℕ) → check_of s ≡ answer_by (first_broken (dump_rows s (header_of s))) (sound_dump (header_of s) (invented s))

pub record Fakes : Type 0 where
  pub refuses_everything : RefusesEverything → ⊥
  pub lists_nothing : ListsNothing → ⊥
  -- by the promise of recording (demand 2), and by demand 3
  pub untouched_promise : ((slot : Slot) (s : List ℕ) → left (recording slot s) s ≡ left (untouched slot s) s) → ⊥
  pub untouched_demand : ThirdDemand untouched → ⊥
  -- by demand 3 at k = 2, n = 2
  pub first-only : ThirdDemandAt 2 2 first_only → ⊥
  -- a count that is right is the number of used slots, of every dump that passes
  pub invented_count : (invented : List ℕ → ℕ) → CountsAs invented → (s : List ℕ) (h : Header) (n : ℕ) → check_of s ≡ Ok (sound_dump h n)
      → invented s ≡ event_count s (header_of s)
