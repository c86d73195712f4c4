-- `numbers::fit_number` meets its contract: where there is room, bare by its size or quoted; otherwise it is only measured.
use Prim.Native.Nat.{ℕ, ◌^◌, ◌≤◌, ◌<◌}
use mathlib.Core.Bool.{Bool, true, false}
use mathlib.Core.List.{List}
use mathlib.Core.Path.{◌≡◌, ap, sym, ◌∙◌}
use native.Mathlib.Omega.{arith}
use lib.Dec.{ltb}
use lib.ListN.{length}
use borrow.Author.Tests.{lt-ltb, ltb-true, ltb-false}
use Rattle.text.proofs.Digits.{count_quotes}
use Rattle.text.proofs.Output.{none_fitted, put_fitted}
use Rattle.text.specs.Numbers.{is_bare, number}
use Rattle.numbers.specs.Pairs.{digits_by, number_by}
use Rattle.numbers.proofs.Alike.{number_count}
use Rattle.numbers.proofs.Steps.{bare_by, quoted_by}
use Rattle.numbers.proofs.fit_number.Goals as goal

bare-small : (x : ℕ) → is_bare x ≡ true → x < 10000000000000000
unfolding is_bare
bare-small x bare = omega (arith, ltb-true x (2 ^ 53) bare)

bare-below : (table : List ℕ) (x : ℕ) → x < 10000000000 → number_by table x ≡ digits_by table x
unfolding is_bare
bare-below table x h = bare_by table x (lt-ltb x (2 ^ 53) (omega arith))

room : (table : List ℕ) (x : ℕ) (out : List ℕ) {short : Bool} → short ≡ ltb (length out) (length (number x)) → short ≡ false → length (number_by table x) ≤ length out
room table x out told long = rw (number_count table x) (ltb-false (length out) (length (number x)) (sym told ∙ long))

pub returns-then-is_short : goal.returns-then-is_short
returns-then-is_short c =
    none_fitted (number_by c.args.pairs.now c.args.x) (rw (number_count c.args.pairs.now c.args.x) (ltb-true (length c.args.out.now) (length (number c.args.x)) (sym c.is_short.ensures ∙ c.if-is_short.true))) (omega (arith, c.number_length.ensures, number_count c.args.pairs.now c.args.x))

pub put_low-requires : goal.put_low-requires
put_low-requires c =
    let a = c.args in
    let fits = room a.pairs.now a.x a.out.now c.is_short.ensures c.if-is_short.false in
    (omega arith, omega (arith, ap length (bare-below a.pairs.now a.x (omega arith))))

pub returns-then-x-lt100000000 : goal.returns-then-x-lt100000000
returns-then-x-lt100000000 c =
    let a = c.args in
    let fits = room a.pairs.now a.x a.out.now c.is_short.ensures c.if-is_short.false in
    put_fitted _ (omega arith) fits (rw (bare-below a.pairs.now a.x (omega arith)) c.put_low.ensures)

pub put_middle-requires : goal.put_middle-requires
put_middle-requires c =
    let a = c.args in
    let fits = room a.pairs.now a.x a.out.now c.is_short.ensures c.if-is_short.false in
    (omega arith, omega arith, omega (arith, ap length (bare-below a.pairs.now a.x (omega arith))))

pub returns-then-x-lt10000000000 : goal.returns-then-x-lt10000000000
returns-then-x-lt10000000000 c =
    let a = c.args in
    let fits = room a.pairs.now a.x a.out.now c.is_short.ensures c.if-is_short.false in
    put_fitted _ (omega arith) fits (rw (bare-below a.pairs.now a.x (omega arith)) c.put_middle.ensures)

pub put_high-requires : goal.put_high-requires
put_high-requires c =
    let a = c.args in
    let fits = room a.pairs.now a.x a.out.now c.is_short.ensures c.if-is_short.false in
    let bare = sym c.is_bare.ensures ∙ c.if-is_bare.true in
    (omega arith, omega (arith, bare-small a.x bare), omega (arith, ap length (bare_by a.pairs.now a.x bare)))

pub returns-then-is_bare : goal.returns-then-is_bare
returns-then-is_bare c =
    let a = c.args in
    let fits = room a.pairs.now a.x a.out.now c.is_short.ensures c.if-is_short.false in
    put_fitted _ (omega arith) fits (rw (bare_by a.pairs.now a.x (sym c.is_bare.ensures ∙ c.if-is_bare.true)) c.put_high.ensures)

pub put_quoted-requires : goal.put_quoted-requires
put_quoted-requires c =
    let a = c.args in
    let fits = room a.pairs.now a.x a.out.now c.is_short.ensures c.if-is_short.false in
    let big = sym c.is_bare.ensures ∙ c.if-is_bare.false in
    (omega arith, omega (arith, ap length (quoted_by a.pairs.now a.x big), count_quotes (digits_by a.pairs.now a.x)))

pub returns : goal.returns
returns c =
    let a = c.args in
    let fits = room a.pairs.now a.x a.out.now c.is_short.ensures c.if-is_short.false in
    put_fitted _ (omega arith) fits (rw (quoted_by a.pairs.now a.x (sym c.is_bare.ensures ∙ c.if-is_bare.false)) c.put_quoted.ensures)
