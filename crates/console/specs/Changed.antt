-- How many bytes of a buffer changed that held dots before.
use Rattle.std.specs.Prelude.{ℕ, Bool, not, List, eqb, drop, count_by}

abbrev pub is_no_dot : ℕ → Bool
is_no_dot b = not (eqb b 0x2E)

-- how many bytes from a place on are not a dot
abbrev pub changed_from : List ℕ → ℕ → ℕ
changed_from s from = count_by is_no_dot (drop from s)
