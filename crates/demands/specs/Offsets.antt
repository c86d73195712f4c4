-- Offsets in document 01's own words: a pointer minus the base address, modulo two to the 32.
use Rattle.std.specs.Prelude.{ℕ, ◌+◌, ◌%◌, ◌^◌, ◌<◌, ◌≡◌}
use Rattle.words.specs.Offsets.{offset}

pub record Offsets : Type 0 where
  pub below : (base pointer : ℕ) → offset base pointer < 2 ^ 32
  pub back : (base pointer : ℕ) → pointer < 2 ^ 32 → (base + offset base pointer) % 2 ^ 32 ≡ pointer
  -- so pointers with one offset are one pointer: row 8 may ask of the pointers as stored what may be asked of their offsets
  pub one_pointer : (base p q : ℕ) → p < 2 ^ 32 → q < 2 ^ 32 → offset base p ≡ offset base q → p ≡ q
