-- Bare numbers are safe in a browser: each is its own double, and no other number has it.
use Prim.Native.Nat.{ℕ, ◌^◌, ◌≤◌, ◌<◌}
use mathlib.Core.Bool.{Bool, true, false}
use mathlib.Core.Path.{◌≡◌, refl, sym, ap, ◌∙◌, subst}
use native.Mathlib.Omega.{arith}
use lib.Ieee.{binary64, size, to_unsigned}
use lib.Ieee.Back.{whole_unique}
use lib.Ieee.Exact.{HasValue}
use lib.Ieee.Fits.{of_int-fits}
use lib.IntN.{pos}
use borrow.Author.Tests.{ltb-true}
use Rattle.doubles.proofs.Alone as doubles
use Rattle.doubles.proofs.Rule.{double_rounds, one_double, spacing_is}
use Rattle.doubles.proofs.Values.{cast_only, cast_value, double_same, value_back}
use Rattle.doubles.specs.Doubles.{double, spacing}
use Rattle.text.proofs.ReadBack.{bare_seen, digits_back, inside_quotes, quotes_seen}
use Rattle.text.specs.Ascii.{choose}
use Rattle.text.specs.Numbers.{digits, is_bare, number, quoted}
use Rattle.text.specs.ReadBack.{decimal}
use Rattle.demands.specs.BareNumbers.{BareNumbers}
use Rattle.demands.specs.Page.{OnPage, TakenForOne, as_double, float, read_by_page, string}

below : (n : ℕ) → is_bare n ≡ true → n < 2 ^ 53
unfolding is_bare
below n bare = ltb-true n (2 ^ 53) bare

exactly : (n : ℕ) → n ≤ 2 ^ 53 → HasValue (as_double n) false n 1
exactly n most = subst (λ (v : ℕ). HasValue (as_double n) false v 1) (double_same n most) (cast_value n (omega arith))

turns_back : (n : ℕ) → n ≤ 2 ^ 53 → to_unsigned 64 (as_double n) ≡ n
turns_back n most = value_back (as_double n) n (exactly n most) ∙ omega arith

alone : (n m : ℕ) → is_bare n ≡ true → as_double m ≡ as_double n → m ≡ n
alone n m bare same = doubles.alone_as_float n m (below n bare) same

read_bare : (n : ℕ) → read_by_page (digits n) ≡ float (as_double n)
read_bare n = rw (bare_seen n, digits_back n)

read_quoted : (n : ℕ) → read_by_page (quoted (digits n)) ≡ string (digits n)
read_quoted n = rw (quotes_seen (digits n), inside_quotes (digits n))

-- two that are taken for one have one double, where either is bare, or one text
read_apart : (m n : ℕ) → TakenForOne (read_by_page (number m)) (read_by_page (number n)) → m ≡ n
unfolding number
read_apart m n taken = by (is_bare m) (is_bare n) refl refl taken
  where
    reads : Bool → ℕ → OnPage
    reads bare k = read_by_page (choose bare (digits k) (quoted (digits k)))

    by : (first second : Bool) → is_bare m ≡ first → is_bare n ≡ second → TakenForOne (reads first m) (reads second n) → m ≡ n
    by true true bare too same = alone n m too (rw (read_bare m, read_bare n) at same)
    by true false bare not same = sym (alone m n bare (sym (rw (read_bare m, read_quoted n, digits_back n) at same)))
    by false true not bare same = alone n m bare (rw (read_quoted m, read_bare n, digits_back m) at same)
    by false false not nor same = sym (digits_back m) ∙ ap decimal (rw (read_quoted m, read_quoted n) at same) ∙ digits_back n

rounded_down : double 9007199254740993 ≡ 9007199254740992
unfolding double spacing size
rounded_down = refl

-- two doubles of one value are one
collide : as_double 9007199254740993 ≡ as_double 9007199254740992
collide =
    let above : HasValue (as_double 9007199254740993) false 9007199254740992 1 = subst (λ (v : ℕ). HasValue (as_double 9007199254740993) false v 1) rounded_down (cast_value 9007199254740993 (omega arith)) in
    let below : HasValue (as_double 9007199254740992) false 9007199254740992 1 = exactly 9007199254740992 (omega arith) in
    whole_unique binary64 (as_double 9007199254740993) (as_double 9007199254740992) false 9007199254740992 (of_int-fits binary64 (pos 9007199254740993)) (of_int-fits binary64 (pos 9007199254740992)) above below

taken : TakenForOne (read_by_page (digits 9007199254740992)) (read_by_page (quoted (digits 9007199254740993)))
taken = rw (read_bare 9007199254740992, read_quoted 9007199254740993, digits_back 9007199254740993) (sym collide)

pub bare_numbers : BareNumbers
unfolding is_bare
bare_numbers = record {
  significant = spacing_is;
  rounded = double_rounds;
  no_other = one_double;
  cast = cast_value;
  cast_only = cast_only;
  held = λ n most. record { rule = double_same n most; value = exactly n most; back = turns_back n most };
  below = below;
  alone = λ n m bare. doubles.alone n m (below n bare);
  alone_as_float = alone;
  read_bare = read_bare;
  read_quoted = read_quoted;
  on_page = read_apart;
  last = refl;
  next = refl;
  one_value = rounded_down ∙ sym (double_same 9007199254740992 (omega arith));
  one_double = collide;
  taken = taken;
}
