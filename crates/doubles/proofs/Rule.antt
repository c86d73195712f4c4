-- The rule of doubles without its working: a double is a multiple of the spacing, half of it away at most, and an even multiple at a tie; there is one such number; and 53 bits stand above the spacing.
use Rattle.std.proofs.Common.{◌≡◌, ℕ, suc, ◌+◌, ◌-◌, ◌*◌, ◌/◌, ◌%◌, ◌^◌, ◌<◌, ◌≤◌, Bool, true, false, not, T, eqb, ltb, ◌⊎◌, sym, refl, ap, ◌∙◌, subst, inl, inr, ⊎_elim, lt_of_le_of_lt, mul-le-mul_right, mod-lt, mod-eq_of_lt, suc-mul, add-mul, le_antisymm, eq-or-lt_of_le, lt_of_not-le, div-add-mod', not-le_of_lt, le_of_mul-le-mul_right, mul-div_cancel, arith, eqb→eq, leb→le, pow_pos, pow_mono, pow-add, ltb-false, ltb-true}
use Prim.Native.Nat.{compare, Ordering}
use native.Mathlib.Nat.{mul-add-mod_self_right, mul-mod_left}
use lib.Dec.{is_le, compare_is_eq, nleb→lt, eqb_refl}
use lib.Ieee.{nearest, size}
use lib.Ieee.Digits.{size-lt, size_reaches}
use lib.Ieee.Nearest.{closest}
use Rattle.doubles.specs.Doubles.{IsSpacing, Rounded, double, spacing}

-- the nearest multiple of u, by how twice the remainder compares with u
closest_rounds : (n u : ℕ) → 0 < u → Rounded n u (closest n u * u)
closest_rounds n u positive = by_order (compare (n % u * 2) u) (leb→le (n % u * 2) u) (nleb→lt (n % u * 2) u) (eqb→eq (n % u * 2) u) (λ (e : n % u * 2 ≡ u). subst (λ (x : ℕ). T (eqb (n % u * 2) x)) e (eqb_refl (n % u * 2)))
  where
    q : ℕ
    q = n / u

    whole : q * u + n % u ≡ n
    whole = div-add-mod' n u

    by_order : (o : Ordering) → (T (is_le o) → n % u * 2 ≤ u) → (T (not (is_le o)) → u < n % u * 2) → (T (compare_is_eq o) → n % u * 2 ≡ u) → (n % u * 2 ≡ u → T (compare_is_eq o)) → Rounded n u (nearest q o * u)
    by_order Ordering.lt below above tie is-tie =
        let w = whole in
        let b = below tt in
        record { multiple = mul-mod_left q u; low = omega arith; high = omega arith; even = λ t. absurd (is-tie t) }
    by_order Ordering.eq below above tie is-tie =
        let w = whole in
        let t = tie tt in
        let sum : (q + q % 2) * u ≡ q * u + q % 2 * u = add-mul q (q % 2) u in
        let one : q % 2 * u ≤ 1 * u = mul-le-mul_right u (omega arith) in
        let even : (q + q % 2) % 2 ≡ 0 = omega arith in
        record { multiple = mul-mod_left (q + q % 2) u; low = omega arith; high = omega arith; even = λ e. ap (λ (x : ℕ). x % 2) (mul-div_cancel (q + q % 2) positive) ∙ even }
    by_order Ordering.gt below above tie is-tie =
        let w = whole in
        let a = above tt in
        let next : suc q * u ≡ q * u + u = suc-mul q u in
        let r = mod-lt n positive in
        record { multiple = mul-mod_left (suc q) u; low = omega arith; high = omega arith; even = λ t. absurd (is-tie t) }

spacing_some : (n : ℕ) → 0 < spacing n
unfolding spacing
spacing_some n = pow_pos (size n - 53)

pub double_rounds : (n : ℕ) → Rounded n (spacing n) (double n)
unfolding double
double_rounds n = closest_rounds n (spacing n) (spacing_some n)

-- so many bits above the spacing
pub spacing_is : (n : ℕ) → IsSpacing n (spacing n)
unfolding spacing
spacing_is n = (size n - 53, refl, by_size (ltb (size n) 54) refl)
  where
    by_size : (b : Bool) → ltb (size n) 54 ≡ b → ((size n - 53 ≡ 0) × (n < 2 ^ 53)) ⊎ ((2 ^ 52 * 2 ^ (size n - 53) ≤ n) × (n < 2 ^ 53 * 2 ^ (size n - 53)))
    by_size true e =
        let s = ltb-true (size n) 54 e in
        let most : size n ≤ 53 = omega arith in
        let few : 2 ^ size n ≤ 2 ^ 53 = pow_mono most in
        inl (omega arith, omega (arith, few, size-lt n))
    by_size false e =
        let s = ltb-false (size n) 54 e in
        let less : 52 + (size n - 53) < size n = omega arith in
        let all : 53 + (size n - 53) ≡ size n = omega arith in
        inr (
          subst (λ (x : ℕ). x ≤ n) (pow-add 2 52 (size n - 53)) (size_reaches n (52 + (size n - 53)) less),
          subst (λ (x : ℕ). n < x) (sym (ap (λ (k : ℕ). 2 ^ k) all) ∙ pow-add 2 53 (size n - 53)) (size-lt n),
        )

-- from two to the fifty-third on, doubles are no smaller: the double has as many bits above the spacing
pub double_from : (n : ℕ) → 2 ^ 53 ≤ n → 2 ^ 53 ≤ double n
double_from n large = by_spacing (spacing n) (spacing_is n) (double_rounds n)
  where
    by_spacing : (u : ℕ) → IsSpacing n u → Rounded n u (double n) → 2 ^ 53 ≤ double n
    by_spacing u (k, is, inl few) rounded = absurd (omega (arith, few.1))
    by_spacing u (k, is, inr (low, high)) rounded =
        let two : 2 ≤ u = omega arith in
        let whole : double n / u * u ≡ double n = omega (arith, div-add-mod' (double n) u, rounded.multiple) in
        let odd : (double n / u * 2 + 1) * u ≡ double n * 2 + u = omega (arith, whole) in
        let many : 2 ^ 53 ≤ double n / u * 2 + 1 = le_of_mul-le-mul_right {k = u} (omega (arith, rounded.low, odd)) (omega arith) in
        let most : 2 ^ 52 * u ≤ double n / u * u = mul-le-mul_right u (omega arith) in
        omega arith

-- two neighbouring multiples are not both the nearest, for at a tie one of them is odd
no_neighbour : (n u a : ℕ) → 0 < u → Rounded n u (a * u) → Rounded n u (suc a * u) → ⊥
no_neighbour n u a positive x y =
    let next : suc a * u ≡ a * u + u = suc-mul a u in
    let half : n * 2 ≡ a * u * 2 + u = omega (arith, x.low, y.high) in
    let split : a * u + (n - a * u) ≡ n = omega arith in
    let rest : n % u ≡ n - a * u = ap (λ (m : ℕ). m % u) (sym split) ∙ mul-add-mod_self_right a u (n - a * u) ∙ mod-eq_of_lt (omega arith) in
    let tie : n % u * 2 ≡ u = omega arith in
    let even : a % 2 ≡ 0 = ap (λ (m : ℕ). m % 2) (sym (mul-div_cancel a positive)) ∙ x.even tie in
    let odd : suc a % 2 ≡ 0 = ap (λ (m : ℕ). m % 2) (sym (mul-div_cancel (suc a) positive)) ∙ y.even tie in
    omega arith

-- nor are two that lie further apart
no_other : (n u a b : ℕ) → 0 < u → a < b → Rounded n u (a * u) → Rounded n u (b * u) → ⊥
no_other n u a b positive less x y = ⊎_elim beside apart (eq-or-lt_of_le less)
  where
    beside : suc a ≡ b → ⊥
    beside e = no_neighbour n u a positive x (subst (λ (m : ℕ). Rounded n u (m * u)) (sym e) y)

    apart : suc a < b → ⊥
    apart far =
        let two : suc (suc a) * u ≤ b * u = mul-le-mul_right u far in
        let one : suc (suc a) * u ≡ suc a * u + u = suc-mul (suc a) u in
        let none : suc a * u ≡ a * u + u = suc-mul a u in
        omega (arith, x.low, y.high)

-- so the rule gives one number
one_rounding : (n u r s : ℕ) → 0 < u → Rounded n u r → Rounded n u s → r ≡ s
one_rounding n u r s positive x y =
    let a : r / u * u ≡ r = omega (arith, div-add-mod' r u, x.multiple) in
    let b : s / u * u ≡ s = omega (arith, div-add-mod' s u, y.multiple) in
    let first : Rounded n u (r / u * u) = subst (Rounded n u) (sym a) x in
    let second : Rounded n u (s / u * u) = subst (Rounded n u) (sym b) y in
    let low : r / u < suc (s / u) = lt_of_not-le (λ less. no_other n u (s / u) (r / u) positive less second first) in
    let high : s / u < suc (r / u) = lt_of_not-le (λ less. no_other n u (r / u) (s / u) positive less first second) in
    let same : r / u ≡ s / u = omega arith in
    sym a ∙ ap (λ (m : ℕ). m * u) same ∙ b

-- powers of two grow with their exponents
exponent_below : (j k : ℕ) → 2 ^ j < 2 ^ k → j < k
exponent_below j k h = lt_of_not-le (λ (le : k ≤ j). not-le_of_lt h (pow_mono le))

-- n has bits enough above the one spacing and not too many above the other
exponent_most : (n j k : ℕ) → 2 ^ 52 * 2 ^ j ≤ n → n < 2 ^ 53 * 2 ^ k → j ≤ k
exponent_most n j k low high =
    let below : 2 ^ (52 + j) < 2 ^ (53 + k) = rw (pow-add 2 52 j, pow-add 2 53 k) (lt_of_le_of_lt low high) in
    omega (arith, exponent_below (52 + j) (53 + k) below)

no_wider : (n j k u v : ℕ) → u ≡ 2 ^ j → v ≡ 2 ^ k → ((j ≡ 0) × (n < 2 ^ 53)) ⊎ ((2 ^ 52 * u ≤ n) × (n < 2 ^ 53 * u)) → ((k ≡ 0) × (n < 2 ^ 53)) ⊎ ((2 ^ 52 * v ≤ n) × (n < 2 ^ 53 * v)) → j ≤ k
no_wider n j k u v p q (inl x) y = omega (arith, x.0)
no_wider n j k u v p q (inr x) (inl y) = omega (arith, exponent_most n j 0 (rw p at x.0) y.1)
no_wider n j k u v p q (inr x) (inr y) = exponent_most n j k (rw p at x.0) (rw q at y.1)

-- so a number has one spacing
one_spacing : (n u v : ℕ) → IsSpacing n u → IsSpacing n v → u ≡ v
one_spacing n u v (j, p, x) (k, q, y) = p ∙ ap (λ (e : ℕ). 2 ^ e) (le_antisymm (no_wider n j k u v p q x y) (no_wider n k j v u q p y x)) ∙ sym q

-- and the whole rule gives one number, the double
pub one_double : (n u r : ℕ) → IsSpacing n u → Rounded n u r → r ≡ double n
one_double n u r is rounded = one_rounding n (spacing n) r (double n) (spacing_some n) (subst (λ (v : ℕ). Rounded n v r) (one_spacing n u (spacing n) is (spacing_is n)) rounded) (double_rounds n)
