-- Row 4 in document 01's own words: the mask is w ones at the bottom, w from 1 to 32; the timer range is two to the w.
use Rattle.std.specs.Prelude.{ℕ, ◌-◌, ◌^◌, ◌≤◌, false, ◌≡◌}
use Rattle.trace.specs.Table.{row4}
use Rattle.words.specs.Masks.{width}

-- the timer range
abbrev pub range : ℕ → ℕ
range mask = 2 ^ width mask

pub record Masks : Type 0 where
  pub passes : (w : ℕ) → 1 ≤ w → w ≤ 32 → ((row4 (2 ^ w - 1)).broken ≡ false) × (range (2 ^ w - 1) ≡ 2 ^ w)
  pub no_other : (mask : ℕ) → (row4 mask).broken ≡ false → (w : ℕ) × (1 ≤ w) × (w ≤ 32) × (mask ≡ 2 ^ w - 1)
