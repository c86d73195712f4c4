-- Numbers by a table of pairs of digits, whatever the table has: two digits at a time are looked up in it, and a first one that is left alone is itself.
use Rattle.std.specs.Prelude.{ℕ, zero, suc, ◌+◌, ◌*◌, ◌/◌, ◌%◌, ◌<◌, List, [], ◌∷◌, ◌++◌, ◌≡◌, ltb, get_or}
use Rattle.text.specs.Ascii.{ascii, choose}
use Rattle.text.specs.Numbers.{digit, is_bare, pair, quoted}

-- what a table has for a number below 100: the bytes at twice the number and behind it, 0 past the table's end
abbrev pub pair_by : List ℕ → ℕ → List ℕ
pair_by table n = get_or table (2 * n) 0 ∷ get_or table (2 * n + 1) 0 ∷ []

-- a table's rule: it has the two digits of each number below 100
abbrev pub HasPairs : List ℕ → Type 0
HasPairs table = (n : ℕ) → n < 100 → pair_by table n ≡ pair n

-- our table
unfoldable pub pairs : List ℕ
pairs = ascii "00010203040506070809101112131415161718192021222324252627282930313233343536373839404142434445464748495051525354555657585960616263646566676869707172737475767778798081828384858687888990919293949596979899"

-- the digits of n by a table, where there are at most k pairs of them, a digit alone counted as one
unfoldable pub digits_in_by : List ℕ → ℕ → ℕ → List ℕ
digits_in_by table zero n = []
digits_in_by table (suc k) n =
    let more = digits_in_by table k (n / 100) ++ pair_by table (n % 100) in
    choose (ltb n 10) (digit n ∷ []) (choose (ltb n 100) (pair_by table n) more)

-- the digits of n by a table: n has no more than n + 1 pairs
unfoldable pub digits_by : List ℕ → ℕ → List ℕ
digits_by table n = digits_in_by table (suc n) n

-- the number of a line by a table: its digits, in quotes where it is not bare
unfoldable pub number_by : List ℕ → ℕ → List ℕ
number_by table n = choose (is_bare n) (digits_by table n) (quoted (digits_by table n))

-- the four digits of a number below 10000 and the eight of one below 100000000 by a table, zeros too
abbrev pub four_by : List ℕ → ℕ → List ℕ
four_by table n = pair_by table (n / 100) ++ pair_by table (n % 100)

abbrev pub eight_by : List ℕ → ℕ → List ℕ
eight_by table n = four_by table (n / 10000) ++ four_by table (n % 10000)
