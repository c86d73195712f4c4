-- A part that is cut where the bytes end has the bytes that `take` and `drop` give.
use Prim.Native.Nat.{ℕ, ◌+◌, ◌-◌, ◌≤◌, min}
use mathlib.Core.Bool.{Bool, true, false}
use mathlib.Core.List.{List}
use mathlib.Core.Path.{◌≡◌, refl, ap, sym, ◌∙◌}
use native.Mathlib.Nat.{add-sub_cancel_left}
use native.Mathlib.Omega.{arith}
use borrow.Author.Tests.{leb-true, leb-false}
use lib.Dec.{leb}
use lib.ListN.{length, take, drop, length-drop, drop_of_length-le}
use lib.Seq.{take_all}

-- as many as there are, or n of them
at_most : (A : ℕ → List ℕ) (n most : ℕ) → (most ≤ n → A most ≡ A n) → A (min n most) ≡ A n
at_most A n most all = by_length (leb n most) refl
  where
    by_length : (within : Bool) → leb n most ≡ within → A (min n most) ≡ A n
    by_length true e = ap A (omega (arith, leb-true n most e))
    by_length false e =
        let beyond : most ≤ n = omega (arith, leb-false n most e) in
        ap A (omega arith) ∙ all beyond

take_most : (l : List ℕ) (n : ℕ) → take (min n (length l)) l ≡ take n l
take_most l n = at_most (λ k. take k l) n (length l) (λ beyond. take_all (length l) l (omega arith) ∙ sym (take_all n l beyond))

drop_most : (l : List ℕ) (n : ℕ) → drop (min n (length l)) l ≡ drop n l
drop_most l n = at_most (λ k. drop k l) n (length l) (λ beyond. drop_of_length-le l {i = length l} (omega arith) ∙ sym (drop_of_length-le l {i = n} beyond))

pub clipped : (s : List ℕ) (at size start n : ℕ) → start ≡ min at (length s) → n ≡ min size (length s - start) → take (start + n - start) (drop start s) ≡ take size (drop at s)
clipped s at size start n first last =
    let same : drop start s ≡ drop at s = rw first (drop_most s at) in
    let long : n ≡ min size (length (drop at s)) = rw length-drop (omega arith) in
    rw (add-sub_cancel_left, same, long) (take_most (drop at s) size)
