-- Ticks are the true time gone, less the whole timer ranges in the true gaps: a stamp is its true time modulo the range.
use Prim.Native.Nat.{ℕ, zero, suc, ◌+◌, ◌-◌, ◌*◌, ◌%◌, ◌^◌, ◌≤◌, ◌<◌}
use mathlib.Core.List.{List}
use mathlib.Core.Path.{◌≡◌, refl, ap, ◌∙◌}
use native.Mathlib.Nat.{div-eq_of_lt, mod-add-div}
use native.Mathlib.Omega.{arith}
use lib.Bits.{bit_and, and_mask}
use lib.ListN.{length}
use lib.Pow.{mod-mod-pow}
use Rattle.trace.specs.Times.{gap, stamp_of, ticks_of}
use Rattle.trace.specs.declared.Header.{Header}
use Rattle.words.proofs.Circles.{minus_low, minus_turned}
use Rattle.words.proofs.Masks.{width_is, width_le}
use Rattle.words.specs.Masks.{width}
use Rattle.words.specs.Offsets.{minus}
use Rattle.demands.specs.History.{NeverBack, Write, since_oldest, time_at, true_gap, whole_ranges}
use Rattle.demands.specs.Masks.{range}

-- a time modulo two to the 32, cut by a mask, is that time modulo the mask's range
pub stamp_cut : (mask time : ℕ) → 1 ≤ width mask → bit_and (time % 2 ^ 32) mask ≡ time % range mask
stamp_cut mask time some = by (width mask) refl
  where
    by : (w : ℕ) → width mask ≡ w → bit_and (time % 2 ^ 32) mask ≡ time % 2 ^ w
    by zero e = absurd (omega arith)
    by (suc w) e =
        let more : 32 ≡ 32 - suc w + suc w = omega (arith, width_le 32 mask) in
        ap (bit_and (time % 2 ^ 32)) (width_is 32 mask w e) ∙ and_mask (time % 2 ^ 32) (suc w)
        ∙ ap (λ (k : ℕ). time % 2 ^ k % 2 ^ suc w) more ∙ mod-mod-pow time (32 - suc w) (suc w)

-- the gap of two stamps is what their true gap is over whole ranges
gap_over : (mask earlier later : ℕ) → earlier ≤ later → gap mask (earlier % range mask) (later % range mask) ≡ (later - earlier) % range mask
unfolding gap
gap_over mask earlier later order =
    let sum : later ≡ earlier + (later - earlier) = omega arith in
    minus_low (width mask) later earlier
    ∙ ap (λ (t : ℕ). minus (width mask) t earlier) sum ∙ minus_turned (width mask) earlier (later - earlier)

module _ (s : List ℕ) (h : Header) (ws : List Write) (back : NeverBack ws)
    (stamps : (p : ℕ) → p < length ws → stamp_of s h p ≡ time_at ws p % range h.mask) where
  gone : (p : ℕ) → p < length ws → time_at ws 0 + (ticks_of s h p + range h.mask * whole_ranges (range h.mask) ws p) ≡ time_at ws p
  unfolding ticks_of
  gone zero below = omega arith
  gone (suc p) below =
      let step : gap h.mask (stamp_of s h p) (stamp_of s h (suc p)) ≡ true_gap ws p % range h.mask =
      rw (stamps p (omega arith), stamps (suc p) below) (gap_over h.mask (time_at ws p) (time_at ws (suc p)) (back p below)) in
      omega (arith, gone p (omega arith), back p below, step, mod-add-div (true_gap ws p) (range h.mask))

  pub ticks_gone : (p : ℕ) → p < length ws → ticks_of s h p + range h.mask * whole_ranges (range h.mask) ws p ≡ since_oldest ws p
  ticks_gone p below = omega (arith, gone p below)

  none_whole : ((i : ℕ) → suc i < length ws → true_gap ws i < range h.mask) → (p : ℕ) → p < length ws → whole_ranges (range h.mask) ws p ≡ 0
  none_whole short zero below = refl
  none_whole short (suc p) below = omega (arith, none_whole short p (omega arith), div-eq_of_lt (short p below))

  pub ticks_exact : ((i : ℕ) → suc i < length ws → true_gap ws i < range h.mask) → (p : ℕ) → p < length ws → ticks_of s h p ≡ since_oldest ws p
  ticks_exact short p below = omega (arith, ticks_gone p below, ap (λ (k : ℕ). range h.mask * k) (none_whole short p below))
