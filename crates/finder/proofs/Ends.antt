-- A name's part, cut where the bytes end, tells as well as the whole where the name ends: at its first zero byte, or with the part.
use Rattle.std.specs.List.{position_or_len}
use Rattle.std.specs.Prelude.{◌==◌, not, position, unwrap_or}
use Rattle.std.proofs.lemmas.Grind.{common_steps}
use Rattle.std.proofs.lemmas.List.Sums.{fails_before_first, passes_at_first, prefix_len-le-length}
use Prim.Native.Nat.{ℕ, ◌+◌, ◌≤◌, ◌<◌}
use mathlib.Core.Bool.{false}
use mathlib.Core.List.{List}
use mathlib.Core.Path.{◌≡◌, sym, ap, ◌∙◌}
use native.Mathlib.Decide.{dec_lt}
use native.Mathlib.Omega.{arith}
use borrow.Author.Tests.{eq-eqb, eqb-true}
use lib.ListN.{drop, get_or, length, take, length-drop, length-take, get_or-eq_default}
use lib.Seq.{get_or-drop, get_or-take}
use Rattle.rows.proofs.Lowest.{lowest_at, lowest_none}
use Rattle.trace.specs.Names.{is_zero_at, length_to_zero}

module _ (s name : List ℕ) (at size : ℕ) (part : name ≡ take size (drop at s)) where
  pub long : length name ≤ size
  long = rw (part, length-take) (omega arith)

  byte_is : (i : ℕ) → i < length name → get_or name i 0 ≡ get_or s (at + i) 0
  byte_is i within = ap (λ (l : List ℕ). get_or l i 0) part ∙ get_or-take size (drop at s) i 0 (omega (arith, long)) ∙ get_or-drop at s i 0

  module _ (i : ℕ) (missed : (k : ℕ) → k < i → is_zero_at s at k ≡ false) where
    pub ends_at_zero : i < length name → get_or name i 0 ≡ 0 → i ≡ length_to_zero s at size
    ends_at_zero within zero = lowest_at (is_zero_at s at) size i (omega (arith, long)) missed (eq-eqb (get_or s (at + i) 0) 0 (sym (byte_is i within) ∙ zero))

    -- past the bytes' end every byte reads as zero
    pub ends_with_part : i ≡ length name → i ≡ length_to_zero s at size
    ends_with_part all = by (dec_lt i size)
      where
        by : Dec (i < size) → i ≡ length_to_zero s at size
        by (yes cut) =
            let short = rw (length-take, length-drop) at (ap length part) in
            lowest_at (is_zero_at s at) size i cut missed (eq-eqb (get_or s (at + i) 0) 0 (get_or-eq_default s 0 {n = at + i} (omega arith)))
        by (no whole) = let full : i ≡ size = omega (arith, long) in full ∙ lowest_none (is_zero_at s at) size (λ k below. missed k (omega arith))

  ends_at_first : position_or_len (λ b. b == 0) name ≡ length_to_zero s at size
  ends_at_first = by (dec_lt (position_or_len (λ b. b == 0) name) (length name))
    where
      missed : (k : ℕ) → k < position_or_len (λ b. b == 0) name → is_zero_at s at k ≡ false
      missed k before = let within = prefix_len-le-length (λ b. not (b == 0)) name in rw (← byte_is k (omega (arith, within))) (fails_before_first (λ b. b == 0) name k 0 before)

      by : Dec (position_or_len (λ b. b == 0) name < length name) → position_or_len (λ b. b == 0) name ≡ length_to_zero s at size
      by (yes within) = ends_at_zero _ missed within (eqb-true _ 0 (passes_at_first (λ b. b == 0) name 0 within))
      by (no all) = let whole = prefix_len-le-length (λ b. not (b == 0)) name in ends_with_part _ missed (omega (arith, whole))

  pub ends_at_found : unwrap_or (position (λ b. b == 0) name) (length name) ≡ length_to_zero s at size
  ends_at_found = by_length (prefix_len-le-length (λ b. not (b == 0)) name) ∙ ends_at_first
    where
      by_length : position_or_len (λ b. b == 0) name ≤ length name → unwrap_or (position (λ b. b == 0) name) (length name) ≡ position_or_len (λ b. b == 0) name
      by_length within = grind (arith, common_steps)
