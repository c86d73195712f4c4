-- The float that a whole number of 64 bits is cast to has the value that the rule gives; and what such a float gives back.
use Rattle.std.proofs.Common.{◌≡◌, ℕ, suc, ◌+◌, ◌-◌, ◌*◌, ◌/◌, ◌^◌, ◌<◌, ◌≤◌, min, Bool, true, false, not, T, leb, pos, sym, refl, ap, ◌∙◌, subst, ap₂, true≢false, le_trans, le_of_eq, lt_of_lt_of_le, le_of_lt, mul-le-mul_right, mul_assoc, one-mul, lt_of_not-le, mul-one, mul_right_comm, not-le_of_lt, le_of_mul-le-mul_right, div-one, mul-div_cancel, arith, lit<, lit≤, le→leb, lt→ltb, leb→le, pow_pos, pow_mono, pow-add, shl_lt, ltb-false}
use Prim.Native.Nat.{compare}
use native.Mathlib.Nat.{eq_of_mul-eq-mul_right, mod-one}
use lib.Dec.{nleb→lt}
use lib.Ieee.{Float, nan, inf, fin, Format, binary64, in_float, prec, emax, low, up, down, size, round, of_int, to_unsigned, lt, nearest}
use lib.Ieee.Back.{round_whole}
use lib.Ieee.Digits.{size-lt, size-le, size_reaches}
use lib.Ieee.Exact.{HasValue}
use lib.Ieee.Fits.{down_pos}
use lib.Ieee.Nearest.{closest, closest_same}
use lib.Ieee.Scale.{finite, grid, overflow, round_under, round_val}
use Rattle.doubles.specs.Doubles.{double, spacing}
use Rattle.doubles.proofs.Rule.{double_rounds}

-- shifting by t adds t digits
more_digits : (n t : ℕ) → 0 < size n → size (n * 2 ^ t) ≡ size n + t
more_digits n t some = exactly (size n) t (size (n * 2 ^ t)) some (size-le (n * 2 ^ t) (size n + t) (shl_lt (size n) t (size-lt n))) reached
  where
    exactly : (z t x : ℕ) → 0 < z → x ≤ z + t → z - 1 + t < x → x ≡ z + t
    exactly z t x some most least = omega arith

    shifted : 2 ^ (size n - 1 + t) ≤ n * 2 ^ t
    shifted = le_trans (le_of_eq (pow-add 2 (size n - 1) t)) (mul-le-mul_right (2 ^ t) (size_reaches n (size n - 1) (omega arith)))

    reached : size n - 1 + t < size (n * 2 ^ t)
    reached = lt_of_not-le (λ (few : size (n * 2 ^ t) ≤ size n - 1 + t). not-le_of_lt (lt_of_lt_of_le (size-lt (n * 2 ^ t)) (pow_mono few)) shifted)

-- of any format, so that its smallest value is not computed: n rounded to the format's digits
abbrev unit : Format → ℕ → ℕ
unit f n = 2 ^ (size n - prec f)

abbrev rounded : Format → ℕ → ℕ
rounded f n = closest n (unit f n) * unit f n

-- the kit's rounding counts in the format's smallest value; in ones it is the rule's
in_ones : (f : Format) (n : ℕ) → prec f ≤ size n → 0 < prec f → grid f n 1 ≡ rounded f n * 2 ^ low f
in_ones f n many some =
    let k = size n - prec f in
    let l = low f in
    let digits : size (n * 2 ^ l / 1) ≡ size n + l = ap size (div-one (n * 2 ^ l)) ∙ more_digits n l (lt_of_lt_of_le some many) in
    let above : size (n * 2 ^ l / 1) - prec f ≡ k + l = omega arith in
    ap (λ (j : ℕ). closest (n * 2 ^ l) (1 * 2 ^ j) * 2 ^ j) above
    ∙ ap (λ (z : ℕ). z * 2 ^ (k + l)) (closest_same (n * 2 ^ l) (1 * 2 ^ (k + l)) n (2 ^ k) (subst (λ (x : ℕ). 0 < x) (sym (one-mul (2 ^ (k + l)))) (pow_pos (k + l))) (pow_pos k) (scaled k l))
    ∙ ap (λ (z : ℕ). closest n (2 ^ k) * z) (pow-add 2 k l)
    ∙ sym (mul_assoc (closest n (2 ^ k)) (2 ^ k) (2 ^ l))
  where
    scaled : (k l : ℕ) → n * 2 ^ l * 2 ^ k ≡ n * (1 * 2 ^ (k + l))
    scaled k l = mul_right_comm n (2 ^ l) (2 ^ k) ∙ mul_assoc n (2 ^ k) (2 ^ l) ∙ ap (λ (x : ℕ). n * x) (sym (pow-add 2 k l) ∙ sym (one-mul (2 ^ (k + l))))

value_in_ones : (x : Float) (n l : ℕ) → 0 < l → HasValue x false (n * l) l → HasValue x false n 1
value_in_ones nan n l positive v = v
value_in_ones (inf s) n l positive v = v
value_in_ones (fin s m e) n l positive v = (v.0, eq_of_mul-eq-mul_right l positive (m * up e * 1) (n * down e) (ap (λ (x : ℕ). x * l) (mul-one (m * up e)) ∙ v.1 ∙ mul_right_comm n l (down e)))

-- to ones, rounding changes nothing
to_ones : (n : ℕ) → closest n 1 * 1 ≡ n
to_ones n = mul-one (closest n 1) ∙ ap₂ (λ (q r : ℕ). nearest q (compare (r * 2) 1)) (div-one n) (mod-one n)

-- so a number's float has the rounded value, where it is not an infinity
rounded_value : (f : Format) (n : ℕ) → 0 < prec f → (prec f ≤ size n → grid f n 1 < overflow f) → HasValue (round f false n 1) false (rounded f n) 1
rounded_value f n some fits = by_size (leb (prec f) (size n)) (leb→le (prec f) (size n)) (nleb→lt (prec f) (size n))
  where
    by_size : (b : Bool) → (T b → prec f ≤ size n) → (T (not b) → size n < prec f) → HasValue (round f false n 1) false (rounded f n) 1
    by_size true many few =
        value_in_ones (round f false n 1) (rounded f n) (2 ^ low f) (pow_pos (low f))
        (subst (λ (x : ℕ). HasValue (round f false n 1) false x (2 ^ low f)) (in_ones f n (many tt) some) (round_val f n 1 (fits (many tt))))
    by_size false many few =
        let s = few tt in
        let none : size n - prec f ≡ 0 = omega arith in
        let same : n ≡ rounded f n = sym (ap (λ (k : ℕ). closest n (2 ^ k) * 2 ^ k) none ∙ to_ones n) in
        subst (λ (x : ℕ). HasValue (round f false n 1) false x 1) same (round_whole f false n (le_of_lt (lt_of_lt_of_le (size-lt n) (pow_mono (le_of_lt s)))))

-- and it is none where the rounded value is in the format's range
in_range_fits : (f : Format) (n : ℕ) → prec f ≤ size n → 0 < prec f → rounded f n < 2 ^ suc (emax f) → grid f n 1 < overflow f
in_range_fits f n many some small =
    subst (λ (x : ℕ). x < overflow f) (sym (in_ones f n many some)) (lt_of_lt_of_le (shl_lt (suc (emax f)) (low f) small) (le_of_eq (ap (λ (x : ℕ). 2 ^ x) (omega arith))))

-- a double is at most its spacing above the number
double_below : (n : ℕ) → n < 2 ^ 64 → double n < 2 ^ 65
unfolding spacing
double_below n h =
    let near = (double_rounds n).high in
    let most : size n - 53 ≤ 11 = omega (arith, size-le n 64 h) in
    let unit : 2 ^ (size n - 53) ≤ 2 ^ 11 = pow_mono most in
    omega arith

pub cast_is : (n : ℕ) → of_int binary64 (pos n) ≡ round binary64 false n 1
unfolding of_int
cast_is n = refl

-- the cast's double has the rule's value
pub cast_value : (n : ℕ) → n < 2 ^ 64 → HasValue (of_int binary64 (pos n)) false (double n) 1
unfolding double spacing
cast_value n h =
    subst (λ (x : Float). HasValue x false (rounded binary64 n) 1) (sym (cast_is n))
    (rounded_value binary64 n (lit< tt) (λ many. in_range_fits binary64 n many (lit< tt) (lt_of_lt_of_le (double_below n h) (pow_mono (lit≤ {m = 65} {n = 1024} tt)))))

-- a float has one value
pub one_value : (x : Float) (a b : ℕ) → HasValue x false a 1 → HasValue x false b 1 → a ≡ b
one_value nan a b v w = absurd v
one_value (inf s) a b v w = absurd v
one_value (fin s m e) a b v w = eq_of_mul-eq-mul_right (down e) (down_pos e) a b (sym v.1 ∙ w.1)

-- a float with a whole number's value is not an infinity
is_finite : (x : Float) (n : ℕ) → HasValue x false n 1 → T (finite x)
is_finite nan n v = absurd v
is_finite (inf s) n v = absurd v
is_finite (fin s m e) n v = tt

-- so a number's float, of whatever size, has no other value than the rule's
pub cast_only : (n v : ℕ) → HasValue (of_int binary64 (pos n)) false v 1 → v ≡ double n
unfolding double spacing
cast_only n v has =
    let value = subst (λ (x : Float). HasValue x false v 1) (cast_is n) has in
    one_value (round binary64 false n 1) v (rounded binary64 n) value (rounded_value binary64 n (lit< tt) (λ many. round_under binary64 n 1 (is_finite (round binary64 false n 1) v value)))

-- up to two to the fifty-third a number is its own double
pub double_same : (n : ℕ) → n ≤ 2 ^ 53 → double n ≡ n
double_same n h =
    one_value (of_int binary64 (pos n)) (double n) n (cast_value n (omega arith))
    (subst (λ (x : Float). HasValue x false n 1) (sym (cast_is n)) (round_whole binary64 false n h))

-- back: the value, or the largest number of 64 bits
pub value_back : (x : Float) (n : ℕ) → HasValue x false n 1 → to_unsigned 64 x ≡ min n (2 ^ 64 - 1)
unfolding to_unsigned
value_back nan n v = absurd v
value_back (inf s) n v = absurd v
value_back (fin true m e) n v = absurd (true≢false v.0)
value_back (fin false m e) n v = ap (λ (z : ℕ). min (z / down e) (2 ^ 64 - 1)) (sym (mul-one (m * up e)) ∙ v.1) ∙ ap (λ (z : ℕ). min z (2 ^ 64 - 1)) (mul-div_cancel n (down_pos e))

-- where a float is in the range of the cast back, and where it is not
pub above_minus_one : (x : Float) (n : ℕ) → HasValue x false n 1 → T (lt (fin true 1 (pos 0)) x)
unfolding lt
above_minus_one nan n v = absurd v
above_minus_one (inf s) n v = absurd v
above_minus_one (fin true m e) n v = absurd (true≢false v.0)
above_minus_one (fin false m e) n v = lt→ltb 0 (1 * 1 * down e + m * up e * 1) (omega (arith, down_pos e))

pub too_large : (x : Float) (n : ℕ) → HasValue x false n 1 → lt x (fin false 1 (pos 64)) ≡ false → 2 ^ 64 ≤ n
unfolding lt
too_large nan n v h = absurd v
too_large (inf s) n v h = absurd v
too_large (fin true m e) n v h = absurd (true≢false v.0)
too_large (fin false m e) n v h =
    le_of_mul-le-mul_right {k = down e} (subst (λ (z : ℕ). 2 ^ 64 * down e ≤ z) v.1 (ltb-false (m * up e * 1) (2 ^ 64 * down e) h)) (down_pos e)

-- where the plain casts are defined
pub in_range : (n : ℕ) → n ≤ 2 ^ 53 → T (in_float binary64 (pos n))
unfolding in_float
in_range n h = le→leb n (2 ^ 53) h
