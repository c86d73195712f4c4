-- A mask passes row 4 just where it has a width, and then it is that many ones at the bottom.
use Prim.Native.Nat.{ℕ, zero, suc, ◌-◌, ◌^◌, ◌≤◌}
use mathlib.Core.Bool.{false}
use mathlib.Core.Path.{◌≡◌, refl, ap}
use native.Mathlib.Omega.{arith}
use borrow.Author.Tests.{eqb-false, ne_eqb}
use Rattle.trace.specs.Table.{row4}
use Rattle.words.proofs.Masks.{width_is, width_le, width_of}
use Rattle.words.specs.Masks.{width}
use Rattle.demands.specs.Masks.{Masks, range}

ones_pass : (w : ℕ) → 1 ≤ w → w ≤ 32 → ((row4 (2 ^ w - 1)).broken ≡ false) × (range (2 ^ w - 1) ≡ 2 ^ w)
unfolding row4
ones_pass w low high =
    let wide : width (2 ^ w - 1) ≡ w = width_of 32 w low high in
    (ne_eqb (width (2 ^ w - 1)) 0 (λ none. omega arith), ap (λ (k : ℕ). 2 ^ k) wide)

are_ones : (mask : ℕ) → (row4 mask).broken ≡ false → (w : ℕ) × (1 ≤ w) × (w ≤ 32) × (mask ≡ 2 ^ w - 1)
unfolding row4
are_ones mask kept = by (width mask) refl
  where
    by : (w : ℕ) → width mask ≡ w → (w : ℕ) × (1 ≤ w) × (w ≤ 32) × (mask ≡ 2 ^ w - 1)
    by zero none = absurd (eqb-false (width mask) 0 kept none)
    by (suc w) wide = (suc w, omega arith, omega (arith, width_le 32 mask), width_is 32 mask w wide)

pub masks : Masks
masks = record { passes = ones_pass; no_other = are_ones }
