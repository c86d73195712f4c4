-- Searching and counting by a test on indices.
use Rattle.std.specs.Prelude.{ℕ, zero, suc, ◌+◌, Bool, cond, not, ◌&&◌, eqb, ltb}

-- the lowest index below n that passes the test, or n where none does
unfoldable pub lowest : (ℕ → Bool) → ℕ → ℕ
lowest t zero = 0
lowest t (suc n) = cond (t 0) 0 (suc (lowest (λ k. t (suc k)) n))

-- the same search gone on by one index: by what it found below n, and whether n passes, what it finds below n + 1
abbrev pub lowest_on : ℕ → ℕ → Bool → ℕ
lowest_on found n hit = cond (ltb found n) found (cond hit n (n + 1))

-- a test but for one index
abbrev pub but_for : (ℕ → Bool) → ℕ → ℕ → Bool
but_for t i k = t k && not (eqb k i)

-- how many indices below n pass the test
unfoldable pub count : (ℕ → Bool) → ℕ → ℕ
count t zero = 0
count t (suc n) = count t n + cond (t n) 1 0
