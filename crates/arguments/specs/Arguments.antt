-- A number among the arguments: some decimal digits and nothing else, of at most so much.
use Rattle.std.specs.Prelude.{ℕ, Bool, true, cond, ◌&&◌, List, [], ◌∷◌, leb, length, None, Option, Some}
use Rattle.text.specs.ReadBack.{decimal}

unfoldable pub is_digit : ℕ → Bool
is_digit b = leb 48 b && leb b 57

unfoldable pub all_digits : List ℕ → Bool
all_digits [] = true
all_digits (b ∷ bs) = is_digit b && all_digits bs

unfoldable pub argument_of : List ℕ → ℕ → Option ℕ
argument_of text most = cond (leb 1 (length text) && all_digits text && leb (decimal text) most) (Some (decimal text)) None
