-- Numbers that a line prints bare, and what becomes of them in a browser, which holds a number as a double.
use Rattle.std.specs.Prelude.{ℕ, ◌^◌, ◌≤◌, ◌<◌, true, false, ◌≡◌}
use Rattle.std.specs.Float.Ieee.{to_unsigned}
use Rattle.std.specs.Float.Ieee.Exact.{HasValue}
use Rattle.doubles.specs.Doubles.{IsSpacing, Rounded, double, spacing}
use Rattle.text.specs.Numbers.{digits, is_bare, number, quoted}
use Rattle.demands.specs.Page.{TakenForOne, as_double, float, read_by_page, string}

-- a number that a browser holds: its double is that number, by the rule and as a float, and turns back to it
pub record IsHeld (n : ℕ) : Type 0 where
  pub rule : double n ≡ n
  pub value : HasValue (as_double n) false n 1
  pub back : to_unsigned 64 (as_double n) ≡ n

pub record BareNumbers : Type 0 where
  -- the double of a whole number is that number rounded to 53 significant bits, ties to even; no other number is; and the cast's double has that value,
  -- where the number is of 64 bits, and no other value, of whatever size the number is
  pub significant : (n : ℕ) → IsSpacing n (spacing n)
  pub rounded : (n : ℕ) → Rounded n (spacing n) (double n)
  pub no_other : (n u r : ℕ) → IsSpacing n u → Rounded n u r → r ≡ double n
  pub cast : (n : ℕ) → n < 2 ^ 64 → HasValue (as_double n) false (double n) 1
  pub cast_only : (n v : ℕ) → HasValue (as_double n) false v 1 → v ≡ double n
  -- up to and including two to the fifty-third a number's double is exact and turns back to the same number
  pub held : (n : ℕ) → n ≤ 2 ^ 53 → IsHeld n
  -- a bare number is below that, and no other whole number, of any size, printed or not, has its double: by the rule, and as a float
  pub below : (n : ℕ) → is_bare n ≡ true → n < 2 ^ 53
  pub alone : (n m : ℕ) → is_bare n ≡ true → double m ≡ double n → m ≡ n
  pub alone_as_float : (n m : ℕ) → is_bare n ≡ true → as_double m ≡ as_double n → m ≡ n
  -- so a page, which reads the double of bare digits and the characters of a string, takes no number that was written for another, bare or quoted
  pub read_bare : (n : ℕ) → read_by_page (digits n) ≡ float (as_double n)
  pub read_quoted : (n : ℕ) → read_by_page (quoted (digits n)) ≡ string (digits n)
  pub on_page : (m n : ℕ) → TakenForOne (read_by_page (number m)) (read_by_page (number n)) → m ≡ n
  -- why the limit is there: the first number that is not bare shares its double with the next, and a page would take it for that one, if it were bare
  pub last : is_bare 9007199254740991 ≡ true
  pub next : is_bare 9007199254740992 ≡ false
  pub one_value : double 9007199254740993 ≡ double 9007199254740992
  pub one_double : as_double 9007199254740993 ≡ as_double 9007199254740992
  pub taken : TakenForOne (read_by_page (digits 9007199254740992)) (read_by_page (quoted (digits 9007199254740993)))
