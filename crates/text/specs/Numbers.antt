-- Numbers in a line: digits, in quotes from two to the fifty-third on.
use Rattle.std.specs.Prelude.{ℕ, zero, suc, ◌+◌, ◌/◌, ◌%◌, ◌^◌, Bool, List, [], ◌∷◌, ◌++◌, ltb}
use Rattle.text.specs.Ascii.{ascii, choose}

-- the digit for a number below 10
abbrev pub digit : ℕ → ℕ
digit d = 48 + d

-- the decimal digits of n, the most significant first, where there are at most k of them
unfoldable pub digits_in : ℕ → ℕ → List ℕ
digits_in zero n = []
digits_in (suc k) n =
    let more = digits_in k (n / 10) ++ (digit (n % 10) ∷ []) in
    choose (ltb n 10) (digit n ∷ []) more

-- the decimal digits of n: it has no more than n + 1
unfoldable pub digits : ℕ → List ℕ
digits n = digits_in (suc n) n

-- the two digits of a number below 100, a zero too
abbrev pub pair : ℕ → List ℕ
pair n = digit (n / 10) ∷ digit (n % 10) ∷ []

-- whether n is printed as JSON digits: below two to the fifty-third (document 02, A3)
unfoldable pub is_bare : ℕ → Bool
is_bare n = ltb n (2 ^ 53)

unfoldable pub quoted : List ℕ → List ℕ
quoted text = ascii "\"" ++ text ++ ascii "\""

-- a number of a line: its digits, in quotes where it is not bare
unfoldable pub number : ℕ → List ℕ
number n = choose (is_bare n) (digits n) (quoted (digits n))
