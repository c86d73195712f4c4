-- Below two to the fifty-third a number has its double for itself: up to there numbers are their own doubles, and from there on doubles are no smaller.
use Rattle.std.proofs.Common.{◌≡◌, ℕ, ◌^◌, ◌<◌, false, pos, sym, ◌∙◌, subst, arith}
use native.Mathlib.Decide.{dec_lt}
use lib.Ieee.{Float, binary64, of_int}
use lib.Ieee.Exact.{HasValue}
use Rattle.doubles.specs.Doubles.{double}
use Rattle.doubles.proofs.Rule.{double_from}
use Rattle.doubles.proofs.Values.{cast_only, cast_value, double_same}

-- by the rule
pub alone : (n m : ℕ) → n < 2 ^ 53 → double m ≡ double n → m ≡ n
alone n m below same = by_limit (dec_lt m (2 ^ 53))
  where
    is : double m ≡ n
    is = same ∙ double_same n (omega arith)

    by_limit : Dec (m < 2 ^ 53) → m ≡ n
    by_limit (yes small) = sym (double_same m (omega arith)) ∙ is
    by_limit (no large) = absurd (omega (arith, double_from m (omega arith), is))

-- as a float
pub alone_as_float : (n m : ℕ) → n < 2 ^ 53 → of_int binary64 (pos m) ≡ of_int binary64 (pos n) → m ≡ n
alone_as_float n m below same =
    alone n m below (sym (cast_only m (double n) (subst (λ (x : Float). HasValue x false (double n) 1) (sym same) (cast_value n (omega arith)))))
