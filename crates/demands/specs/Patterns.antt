-- Row 3 in document 01's own words: first bytes 54 58 54 42 mean big-endian, 42 54 58 54 little-endian, and anything else is refused.
use Rattle.std.specs.Prelude.{ℕ, true, false, List, [], ◌∷◌, ◌≡◌}
use Rattle.trace.specs.Layout.{order_of, header_of}
use Rattle.trace.specs.Table.{row3}
use Rattle.words.specs.Words.{bytes_at}
use Rattle.words.specs.declared.Order.TheVariants.{Big, Little}

abbrev pub big_pattern : List ℕ
big_pattern = 0x54 ∷ 0x58 ∷ 0x54 ∷ 0x42 ∷ []

abbrev pub little_pattern : List ℕ
little_pattern = 0x42 ∷ 0x54 ∷ 0x58 ∷ 0x54 ∷ []

pub record Patterns (s : List ℕ) : Type 0 where
  pub big : bytes_at s 0 4 ≡ big_pattern → (order_of s ≡ Big) × ((row3 (header_of s)).broken ≡ false)
  pub little : bytes_at s 0 4 ≡ little_pattern → (order_of s ≡ Little) × ((row3 (header_of s)).broken ≡ false)
  pub neither : (bytes_at s 0 4 ≡ big_pattern → ⊥) → (bytes_at s 0 4 ≡ little_pattern → ⊥) → (row3 (header_of s)).broken ≡ true
