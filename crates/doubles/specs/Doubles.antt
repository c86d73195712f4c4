-- The double of a whole number: that number rounded to 53 significant bits, ties to even.
use Rattle.std.specs.Prelude.{◌≡◌, ℕ, ◌+◌, ◌-◌, ◌*◌, ◌/◌, ◌%◌, ◌^◌, ◌<◌, ◌≤◌, ◌⊎◌}
use Rattle.std.specs.Float.Ieee.{size}
use Rattle.std.specs.Float.Ieee.Nearest.{closest}

-- what the last of the 53 bits counts: n has `size n` binary digits
unfoldable pub spacing : ℕ → ℕ
spacing n = 2 ^ (size n - 53)

-- `closest n u` is the quotient of n by u as the nearest whole number, ties to even
unfoldable pub double : ℕ → ℕ
double n = closest n (spacing n) * spacing n

-- the same rule without its working: r is a multiple of u, half of u away at most, and an even multiple at a tie
pub record Rounded (n u r : ℕ) : Type 0 where
  pub multiple : r % u ≡ 0
  pub low : n * 2 ≤ r * 2 + u
  pub high : r * 2 ≤ n * 2 + u
  pub even : n % u * 2 ≡ u → r / u % 2 ≡ 0

-- u is what the last of 53 bits counts: a power of two, 1 where n has no more bits than that, and otherwise n has 53 bits above it
abbrev pub IsSpacing : ℕ → ℕ → Type 0
IsSpacing n u = (k : ℕ) × (u ≡ 2 ^ k) × (((k ≡ 0) × (n < 2 ^ 53)) ⊎ ((2 ^ 52 * u ≤ n) × (n < 2 ^ 53 * u)))
