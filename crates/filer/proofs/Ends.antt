-- A capped end tells as well whether a limit is passed, and an end that passes neither limit is not capped.
use Rattle.std.specs.Prelude.{Ok}
use Prim.Native.Nat.{ℕ, ◌-◌, ◌^◌, ◌≤◌, ◌<◌, min}
use mathlib.Core.Bool.{Bool, true, false}
use mathlib.Core.Path.{◌≡◌, refl}
use native.Mathlib.Omega.{arith}
use borrow.Author.Tests.{le-ltb, lt-ltb, ltb-false, ltb-true}
use lib.Dec.{ltb}
use Rattle.naming.specs.Writing.{record_rows, row28}
use Rattle.rows.proofs.Rows.{among, unbroken}
use Rattle.rows.specs.Rows.{first_broken}
use Rattle.trace.specs.Layout.{most_bytes}
use Rattle.trace.specs.Table.{row16}

ltb_capped : (limit n : ℕ) → limit < 2 ^ 64 - 1 → ltb limit (min n (2 ^ 64 - 1)) ≡ ltb limit n
ltb_capped limit n small = by (ltb limit n) refl
  where
    by : (past : Bool) → ltb limit n ≡ past → ltb limit (min n (2 ^ 64 - 1)) ≡ ltb limit n
    by true e = rw e (lt-ltb limit (min n (2 ^ 64 - 1)) (omega (arith, ltb-true limit n e)))
    by false e = rw e (le-ltb limit (min n (2 ^ 64 - 1)) (omega (arith, ltb-false limit n e)))

pub rows_capped : (end room : ℕ) → room < 2 ^ 64 - 1 → first_broken (record_rows (min end (2 ^ 64 - 1)) room) ≡ first_broken (record_rows end room)
unfolding first_broken row16 row28
rows_capped end room small = rw (ltb_capped most_bytes end (omega arith), ltb_capped room end small)

pub ends_within : (end room : ℕ) → first_broken (record_rows end room) ≡ Ok tt → (end ≤ most_bytes) × (end ≤ room)
unfolding row28 row16
ends_within end room passed =
    (ltb-false most_bytes end (unbroken passed (row28 end) (search among)), ltb-false room end (unbroken passed (row16 end room) (search among)))
