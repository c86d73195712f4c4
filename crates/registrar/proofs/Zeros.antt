-- A list has a zero just where a search for one ends before the list does.
use Prim.Native.Nat.{ℕ, suc, ◌<◌}
use mathlib.Core.Bool.{Bool, true, false, cond, ◌||◌}
use mathlib.Core.List.{List, [], ◌∷◌}
use mathlib.Core.Path.{◌≡◌, refl, sym, ◌∙◌}
use native.Mathlib.Decide.{dec_lt}
use native.Mathlib.Nat.{zero-add}
use native.Mathlib.Omega.{arith}
use borrow.Author.Tests.{le-ltb, lt-ltb}
use lib.Dec.{eqb, ltb}
use lib.ListN.{length}
use Rattle.rows.proofs.Lowest.{lowest_same}
use Rattle.rows.specs.Lowest.{lowest}
use Rattle.std.specs.List.{list_any}
use Rattle.trace.specs.Names.{is_zero_at}

one_more : (hit : Bool) (rest : Bool) (found n : ℕ) → rest ≡ ltb found n → (hit || rest) ≡ ltb (cond hit 0 (suc found)) (suc n)
one_more true rest found n e = sym (lt-ltb 0 (suc n) (omega arith))
one_more false rest found n e = e ∙ by (dec_lt found n)
  where
    by : Dec (found < n) → ltb found n ≡ ltb (suc found) (suc n)
    by (yes below) = lt-ltb found n below ∙ sym (lt-ltb (suc found) (suc n) (omega arith))
    by (no past) = le-ltb found n (omega arith) ∙ sym (le-ltb (suc found) (suc n) (omega arith))

pub zero_found : (name : List ℕ) → list_any (λ (y : ℕ). eqb y 0) name ≡ ltb (lowest (is_zero_at name 0) (length name)) (length name)
unfolding lowest
zero_found [] = refl
zero_found (b ∷ name) =
    let further = lowest_same (λ k. is_zero_at (b ∷ name) 0 (suc k)) (is_zero_at name 0) (length name) (λ k below. rw (zero-add (suc k), zero-add k)) in
    rw further (one_more (eqb b 0) (list_any (λ (y : ℕ). eqb y 0) name) (lowest (is_zero_at name 0) (length name)) (length name) (zero_found name))
