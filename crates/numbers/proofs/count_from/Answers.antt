-- `numbers::count_from` meets its contract: each power of ten passed is a digit more.
use Prim.Native.Nat.{ℕ, ◌+◌, ◌*◌, ◌^◌, ◌≤◌, ◌<◌}
use mathlib.Core.Logic.{inr}
use mathlib.Core.Path.{◌≡◌, sym, ap, ◌∙◌}
use native.Mathlib.Omega.{arith}
use lib.ListN.{length}
use lib.Pow.{pow-add}
use Rattle.text.proofs.Digits.{count_is}
use Rattle.text.specs.Numbers.{digits}
use Rattle.numbers.proofs.count_from.Goals as goal

later : (j count limit x : ℕ) → limit ≡ 10 ^ count → 1 ≤ count → limit * 10 ^ j ≤ x * 10 → x < limit * 10 ^ j → count + j ≡ length (digits x)
later j count limit x power some low high =
    sym (count_is (count + j) (limit * 10 ^ j) x (ap (λ (n : ℕ). n * 10 ^ j) power ∙ sym (pow-add 10 count j)) (omega arith) (inr low) high)

pub returns-then-x-limit : goal.returns-then-x-limit
returns-then-x-limit c =
    let a = c.args in
    let known = c.requires in
    sym (count_is a.count a.limit a.x known.power known.some known.low c.if-x-limit.true)

pub returns-then-x-limit-2 : goal.returns-then-x-limit-2
returns-then-x-limit-2 c =
    let a = c.args in
    let known = c.requires in
    later 1 a.count a.limit a.x known.power known.some (omega arith) c.if-x-limit-2.true

pub returns-then-x-limit-3 : goal.returns-then-x-limit-3
returns-then-x-limit-3 c =
    let a = c.args in
    let known = c.requires in
    later 2 a.count a.limit a.x known.power known.some (omega arith) c.if-x-limit-3.true

pub returns : goal.returns
returns c =
    let a = c.args in
    let known = c.requires in
    later 3 a.count a.limit a.x known.power known.some (omega arith) known.high
