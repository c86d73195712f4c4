-- `finder::entry_name` meets its contract: an entry of 32 bits lies below two to the 49, and its name 16 bytes on.
use Prim.Native.Nat.{ℕ, ◌+◌, ◌*◌, ◌^◌, ◌≤◌, ◌<◌}
use native.Mathlib.Nat.{mul-le-mul_right}
use native.Mathlib.Omega.{arith}
use Rattle.finder.proofs.entry_name.Goals as goal

room : (entry size : ℕ) → entry < 2 ^ 32 → size < 2 ^ 17 → entry * size ≤ 2 ^ 49
room entry size few small = omega (arith, mul-le-mul_right {m = entry} {n = 2 ^ 32} size (omega arith))

pub overflow_mul-at : goal.overflow_mul-at
overflow_mul-at c = omega (arith, room c.args.entry (16 + c.args.header.name_size) (omega arith) (omega arith))

pub overflow_add-at : goal.overflow_add-at
overflow_add-at c = omega (arith, room c.args.entry (16 + c.args.header.name_size) (omega arith) (omega arith))

pub overflow_add-at-2 : goal.overflow_add-at-2
overflow_add-at-2 c = omega (arith, room c.args.entry (16 + c.args.header.name_size) (omega arith) (omega arith))
