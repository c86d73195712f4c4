-- `numbers::put_quoted` meets its contract: a quote, the digits into the rest, and a quote where they end.
use Prim.Native.Nat.{◌+◌, ◌-◌}
use mathlib.Core.List.{◌++◌}
use mathlib.Core.Path.{◌≡◌}
use native.Mathlib.Omega.{arith}
use lib.ListN.{length, set}
use borrow.Rule.Slice.PartMut.{put_mid}
use Rattle.text.proofs.Output.{byte_behind, on_from, put_same, stores}
use Rattle.text.specs.Ascii.{ascii}
use Rattle.text.specs.Numbers.{quoted}
use Rattle.text.specs.Output.{Put}
use Rattle.numbers.specs.Pairs.{digits_by}
use Rattle.numbers.proofs.put_quoted.Goals as goal
use Rattle.numbers.proofs.put_quoted.Goals.{After-slice_known-2-1}

-- the quote and the digits, and the output as long as before
opened : (c : After-slice_known-2-1)
    → let old = c.args.out.now in
    Put (ascii "\"" ++ digits_by c.args.pairs.now c.args.x) old (put_mid 1 (length (set old 0 34) - 1) (set old 0 34) c.put_long-at.new.out) (1 + c.put_long-at.result)
opened c = let old = c.args.out.now in on_from _ _ (stores (ascii "\"") old (omega arith)) c.put_long-at.ensures

same : (c : After-slice_known-2-1) → let old = c.args.out.now in length (put_mid 1 (length (set old 0 34) - 1) (set old 0 34) c.put_long-at.new.out) ≡ length old
same c = put_same (opened c) (omega (arith, (opened c).count))

pub returns : goal.returns
unfolding quoted
returns c = byte_behind 34 (opened c) (omega (arith, same c))
