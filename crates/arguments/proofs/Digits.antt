-- A number read digit by digit: what is left of the text goes on from the value so far, which never falls.
use Rattle.std.specs.Prelude.{None, Some}
use Rattle.std.specs.Char.{is_ascii_digit}
use Prim.Native.Nat.{ℕ, suc, ◌+◌, ◌-◌, ◌*◌, ◌≤◌, ◌<◌}
use mathlib.Core.Bool.{true, false, ◌&&◌, and-false}
use mathlib.Core.List.{List, [], ◌∷◌}
use mathlib.Core.Path.{◌≡◌, refl, sym}
use native.Mathlib.Numerals.{add-one}
use native.Mathlib.Omega.{arith}
use borrow.Author.Tests.{le-leb, lt-leb}
use lib.Dec.{leb}
use lib.ListN.{length, drop, get_or, drop_of_length-le}
use lib.Seq.{drop-cons}
use Rattle.text.specs.ReadBack.{decimal, decimal_after}
use Rattle.arguments.specs.Arguments.{all_digits, argument_of, is_digit}

after_least : (n : ℕ) (ds : List ℕ) → n ≤ decimal_after n ds
unfolding decimal_after
after_least n [] = omega arith
after_least n (d ∷ ds) = omega (arith, after_least (n * 10 + (d - 48)) ds)

-- std has the same test
std_digit : (b : ℕ) → is_ascii_digit b ≡ is_digit b
unfolding is_digit
std_digit b = grind (arith)

-- how far the reading has come: the value so far, and the rest of the text, tell all
pub record SoFar (text : List ℕ) (value i : ℕ) : Type 0 where
  pub number : decimal_after value (drop i text) ≡ decimal text
  pub digits : all_digits (drop i text) ≡ all_digits text

pub begun : (text : List ℕ) → SoFar text 0 0
unfolding decimal
begun text = record { number = refl; digits = refl }

module _ (text : List ℕ) (most : ℕ) where
  -- the three ways to be wrong, and the one to be right
  pub wrong_empty : length text ≡ 0 → None ≡ argument_of text most
  unfolding argument_of
  wrong_empty none = rw (lt-leb 1 (length text) (omega arith))

  wrong_digits : all_digits text ≡ false → None ≡ argument_of text most
  unfolding argument_of
  wrong_digits other = rw (other, and-false (leb 1 (length text)))

  wrong_large : most < decimal text → None ≡ argument_of text most
  unfolding argument_of
  wrong_large large = rw (lt-leb (decimal text) most large, and-false (leb 1 (length text) && all_digits text))

  module _ (value i : ℕ) (so : SoFar text value i) where
    pub too_large : most < value → None ≡ argument_of text most
    too_large large = wrong_large (omega (arith, after_least value (drop i text), so.number))

    pub right : 1 ≤ length text → length text ≤ i → value ≤ most → Some value ≡ argument_of text most
    unfolding argument_of decimal_after all_digits
    right some ended small =
        let rest : drop i text ≡ [] = drop_of_length-le text {i = i} ended in
        let number : value ≡ decimal text = rw rest at so.number in
        let digits : true ≡ all_digits text = rw rest at so.digits in
        rw (← digits, ← number, le-leb 1 (length text) some, le-leb value most small)

    module _ (more : i < length text) where
      abbrev next : ℕ
      next = value * 10 + (get_or text i 0 - 48)

      onward : decimal_after next (drop (suc i) text) ≡ decimal text
      unfolding decimal_after
      onward = rw (drop-cons text i 0 more) at so.number

      digits_onward : (is_digit (get_or text i 0) && all_digits (drop (suc i) text)) ≡ all_digits text
      unfolding all_digits
      digits_onward = rw (drop-cons text i 0 more) at so.digits

      pub not_digit : is_ascii_digit (get_or text i 0) ≡ false → None ≡ argument_of text most
      not_digit other = wrong_digits (rw (← std_digit (get_or text i 0), other) at (sym digits_onward))

      pub next_too_large : most < next → None ≡ argument_of text most
      next_too_large large = wrong_large (omega (arith, after_least next (drop (suc i) text), onward))

      pub one_more : is_ascii_digit (get_or text i 0) ≡ true → SoFar text next (i + 1)
      one_more digit = rw add-one record { number = onward; digits = rw (← std_digit (get_or text i 0), digit) at digits_onward }
