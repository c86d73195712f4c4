-- `registrar::removing::remove` meets its contract, by the verdict and then by whether an entry has the pointer.
use Rattle.std.specs.Prelude.{Ok}
use Prim.Native.Nat.{◌+◌, ◌*◌, ◌<◌, ◌^◌}
use mathlib.Core.List.{[], ◌∷◌}
use mathlib.Core.Path.{◌≡◌, refl, sym, ◌∙◌}
use native.Mathlib.Nat.{add-zero}
use native.Mathlib.Omega.{arith}
use lib.ListN.{length}
use Rattle.header.proofs.Steps.{entries_are, entry_below}
use Rattle.rows.specs.Rows.{first_broken}
use Rattle.trace.specs.Layout.{entry_count, header_of, header_size}
use Rattle.trace.specs.Table.{header_rows}
use Rattle.trace.specs.declared.Wanted.TheVariants.{InUse}
use Rattle.writing.proofs.Answers.{answer_gives, answer_refuses, by_both, by_earlier, by_later}
use Rattle.writing.proofs.Found.{found}
use Rattle.writing.specs.Table.{lowest_entry, row22}
use Rattle.writing.specs.Writing.{removing}
use Rattle.registrar.proofs.removing.remove.Goals as goal
use Rattle.registrar.proofs.removing.remove.Goals.{After-geometry_of, In_ok-index}

-- the index is that of the lowest entry in use that has the pointer, and there is one
searched : (c : In_ok-index)
    → let h = c.header_of-header.result in
    let s = c.args.buffer.now in
    (first_broken (row22 s h c.args.pointer ∷ []) ≡ Ok tt) × (c.in_ok-index.index ≡ lowest_entry (InUse c.args.pointer) s h)
searched c = answer_gives _ _ (sym c.entry_with.ensures ∙ c.in_ok-index.was)

below : (c : In_ok-index) → c.in_ok-index.index < entry_count c.header_of-header.result
unfolding row22
below c = rw (searched c).1 (found 22 _ _ (searched c).0)

placed : (c : After-geometry_of) → let g = c.geometry_of.result in header_size + c.in_ok-index.index * g.entry_size + g.entry_size < 2 ^ 33
placed c =
    let h = c.header_of-header.result in
    let g = c.geometry_of in
    entry_below h g.result g.ensures c.in_ok-index.index (rw (entries_are h g.result g.ensures) (below (goal.at.After-geometry_of c).In_ok-index))

pub returns-in_err-header_verdict : goal.returns-in_err-header_verdict
unfolding removing
returns-in_err-header_verdict c =
    let s = c.args.buffer.now in
    let pointer = c.args.pointer in
    by_earlier (removing pointer s) s (header_rows (header_of s) (length s)) (row22 s (header_of s) pointer ∷ []) refl _ _ c.from_residual.ensures.1
    (rw c.header_of-header.ensures at (sym c.header_verdict.ensures ∙ c.in_err-header_verdict.was))

pub returns-in_err-index : goal.returns-in_err-index
unfolding removing
returns-in_err-index c =
    let s = c.args.buffer.now in
    let pointer = c.args.pointer in
    let header = c.header_of-header.ensures in
    by_later (removing pointer s) s (header_rows (header_of s) (length s)) (row22 s (header_of s) pointer ∷ []) refl _ _ c.from_residual-in_err-index.ensures.1
    (rw header at (sym c.header_verdict.ensures ∙ c.in_ok-header_verdict.was)) (rw header at (answer_refuses _ _ (sym c.entry_with.ensures ∙ c.in_err-index.was)))

pub overflow_mul-at : goal.overflow_mul-at
overflow_mul-at c = omega (arith, placed (goal.at.overflow_mul-at c).After-geometry_of)

pub overflow_add-at : goal.overflow_add-at
overflow_add-at c = omega (arith, placed (goal.at.overflow_add-at c).After-geometry_of)

pub returns : goal.returns
unfolding removing
returns c =
    let s = c.args.buffer.now in
    let pointer = c.args.pointer in
    let header = c.header_of-header.ensures in
    let index = searched (goal.at.returns c).In_ok-index in
    by_both (removing pointer s) s (header_rows (header_of s) (length s)) (row22 s (header_of s) pointer ∷ []) refl
    (rw header at index.1, rw (add-zero, c.geometry_of.ensures, index.1, header) at c.put_byte.ensures)
    (rw header at (sym c.header_verdict.ensures ∙ c.in_ok-header_verdict.was)) (rw header at index.0)
