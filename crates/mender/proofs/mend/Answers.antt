-- `mender::mend` meets its contract, by the verdict.
use Rattle.std.specs.Prelude.{Ok}
use Prim.Native.Nat.{◌≤◌}
use mathlib.Core.Path.{◌≡◌, sym, ◌∙◌}
use borrow.Author.Tests.{ltb-false}
use lib.ListN.{length}
use lib.Seq.{length-take-le}
use Rattle.std.proofs.lemmas.Result.{err_from_is_err_and}
use Rattle.mending.proofs.Packed.{copy_length}
use Rattle.mending.specs.Mending.{mend_of, mending_rows}
use Rattle.rows.proofs.Rows.{among, passed_before, unbroken}
use Rattle.rows.specs.Rows.{first_broken}
use Rattle.trace.specs.Layout.{buffer_end, header_of}
use Rattle.trace.specs.Table.{layout_rows, row16}
use Rattle.mender.proofs.mend.Goals as goal
use Rattle.mender.proofs.mend.Goals.{In_ok-mend_verdict}

-- the rows have passed, so the copy has room
passed : (c : In_ok-mend_verdict) → let a = c.args in first_broken (mending_rows a.dump.now c.header_of-header.result (length a.copy.now)) ≡ Ok tt
passed c = sym c.mend_verdict.ensures ∙ c.in_ok-mend_verdict.was

room : (c : In_ok-mend_verdict) → c.offset_from-length.result ≤ length c.args.copy.now
unfolding row16
room c =
    let a = c.args in
    let end = buffer_end c.header_of-header.result in
    rw c.offset_from-length.ensures (ltb-false (length a.copy.now) end (unbroken (passed c) (row16 end (length a.copy.now)) (search among depth 20)))

pub slice_bounds-repair-end : goal.slice_bounds-repair-end
slice_bounds-repair-end c = room c

pub slice_bounds-repair-end-2 : goal.slice_bounds-repair-end-2
slice_bounds-repair-end-2 c = sym (length-take-le _ _ (room (goal.at.slice_bounds-repair-end-2 c).In_ok-mend_verdict))

pub repair-repairs-requires : goal.repair-repairs-requires
repair-repairs-requires c =
    let a = c.args in
    let accepted = (goal.at.repair-repairs-requires c).In_ok-mend_verdict in
    (passed_before (layout_rows c.header_of-header.result (length a.dump.now)) _ (passed accepted), length-take-le _ _ (room accepted) ∙ c.offset_from-length.ensures)

pub returns-in_err-mend_verdict : goal.returns-in_err-mend_verdict
unfolding mend_of
returns-in_err-mend_verdict c =
    let s = c.args.dump.now in
    let given = err_from_is_err_and c.from_residual.result c.from_residual.ensures.1 in
    let refused = rw c.header_of-header.ensures at (sym c.mend_verdict.ensures ∙ c.in_err-mend_verdict.was) in
    (rw (given.1, given.2, refused), rw refused)

pub returns : goal.returns
unfolding mend_of
returns c =
    let s = c.args.dump.now in
    let header = c.header_of-header.ensures in
    let accepted = rw header at (passed (goal.at.returns c).In_ok-mend_verdict) in
    let end = rw header at c.offset_from-length.ensures in
    (rw (accepted, end, c.repair-repairs.ensures.0, header), rw (accepted, end, copy_length s (header_of s), c.repair-repairs.ensures.1, header))
