-- What is known of a number whose digits are counted.
use Rattle.std.specs.Prelude.{ℕ, ◌*◌, ◌^◌, ◌≤◌, ◌<◌, ◌⊎◌, ◌≡◌}

-- x has so many digits, or up to three more; the limit is the first number with one more
pub record IsCount (count limit x : ℕ) : Type 0 where
  pub power : limit ≡ 10 ^ count
  pub some : 1 ≤ count
  pub few : count ≤ 17
  pub small : limit ≤ 100000000000000000
  pub low : (count ≡ 1) ⊎ (limit ≤ x * 10)
  pub high : x < limit * 1000
