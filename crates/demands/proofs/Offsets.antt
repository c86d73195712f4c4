-- An offset leads back to its pointer, so it is one pointer's.
use Prim.Native.Nat.{ℕ, ◌+◌, ◌%◌, ◌^◌, ◌<◌}
use mathlib.Core.Path.{◌≡◌, sym, ap, ◌∙◌}
use native.Mathlib.Omega.{arith}
use Rattle.words.proofs.Circles.{minus_below}
use Rattle.words.specs.Offsets.{minus, offset}
use Rattle.demands.specs.Offsets.{Offsets}

back : (base pointer : ℕ) → pointer < 2 ^ 32 → (base + offset base pointer) % 2 ^ 32 ≡ pointer
unfolding minus
back base pointer below = omega arith

pub offsets : Offsets
offsets = record {
  below = λ base pointer. minus_below 32 pointer base;
  back = back;
  one_pointer = λ base p q p-below q-below same. sym (back base p p-below) ∙ ap (λ (at : ℕ). (base + at) % 2 ^ 32) same ∙ back base q q-below;
}
