-- Row 12 in document 01's own words: if the slot at current is used, every slot is used; if it is unused, the slots before it are used
-- and those after it unused; the slot at current sets the case and is itself never at fault.
use Rattle.std.specs.Prelude.{ℕ, ◌<◌, Bool, true, false, not, List, ◌≡◌}
use Rattle.trace.specs.Layout.{current_slot}
use Rattle.trace.specs.Slots.{is_used, is_at_fault}
use Rattle.trace.specs.declared.Fault.TheVariants.{OutOfTurn}
use Rattle.trace.specs.declared.Header.{Header}

abbrev pub current_is_used : List ℕ → Header → Bool
current_is_used s h = is_used s h (current_slot h)

pub record Turns (s : List ℕ) (h : Header) : Type 0 where
  pub every_slot : current_is_used s h ≡ true → (i : ℕ) → is_at_fault OutOfTurn s h i ≡ not (is_used s h i)
  pub before_it : current_is_used s h ≡ false → (i : ℕ) → i < current_slot h → is_at_fault OutOfTurn s h i ≡ not (is_used s h i)
  pub after_it : current_is_used s h ≡ false → (i : ℕ) → current_slot h < i → is_at_fault OutOfTurn s h i ≡ is_used s h i
  pub never_itself : is_at_fault OutOfTurn s h (current_slot h) ≡ false
