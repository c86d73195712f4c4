-- Which slots must be used, by the case that the slot at current sets.
use Prim.Native.Nat.{ℕ}
use mathlib.Core.Bool.{Bool, true, false, not, or-false}
use mathlib.Core.List.{List}
use mathlib.Core.Path.{◌≡◌, refl}
use native.Mathlib.Omega.{arith}
use borrow.Author.Tests.{lt-ltb, le-ltb}
use Rattle.trace.proofs.Passed.{agreed}
use Rattle.trace.specs.Layout.{current_slot}
use Rattle.trace.specs.Slots.{is_used, is_fault}
use Rattle.trace.specs.declared.Fault.TheVariants.{OutOfTurn}
use Rattle.trace.specs.declared.Header.{Header}
use Rattle.demands.specs.Turns.{Turns}

must : (used : Bool) (id : ℕ) → is_fault OutOfTurn used true id ≡ not used
unfolding is_fault
must true id = refl
must false id = refl

must_not : (used : Bool) (id : ℕ) → is_fault OutOfTurn used false id ≡ used
unfolding is_fault
must_not true id = refl
must_not false id = refl

pub turns : (s : List ℕ) (h : Header) → Turns s h
turns s h = record {
  every_slot = λ e i. rw e (must (is_used s h i) _);
  before_it = λ e i l. rw (e, lt-ltb i (current_slot h) l) (must (is_used s h i) _);
  after_it = λ e i l. rw (e, le-ltb i (current_slot h) (omega arith)) (must_not (is_used s h i) _);
  never_itself = rw (le-ltb (current_slot h) (current_slot h) (omega arith), or-false) (agreed (is_used s h (current_slot h)) _);
}
