-- `registrar::registering::register` meets its contract, by the verdict and then by whether an entry is free.
use Rattle.std.specs.Prelude.{Ok}
use Prim.Native.Nat.{ℕ}
use mathlib.Core.List.{List, [], ◌∷◌, ◌++◌}
use mathlib.Core.Path.{◌≡◌, refl, sym, ◌∙◌}
use lib.ListN.{length}
use Rattle.rows.specs.Rows.{Row, first_broken}
use Rattle.trace.specs.Layout.{header_of}
use Rattle.trace.specs.Table.{header_rows}
use Rattle.trace.specs.declared.Wanted.TheVariants.{Free}
use Rattle.writing.proofs.Answers.{answer_gives, answer_refuses, by_both, by_earlier, by_later}
use Rattle.writing.proofs.Found.{found}
use Rattle.writing.specs.Table.{lowest_entry, row19, row20, row21, row23}
use Rattle.writing.specs.Writing.{registering}
use Rattle.writing.specs.declared.Object.{Object}
use Rattle.registrar.proofs.registering.register.Goals as goal
use Rattle.registrar.proofs.registering.register.Goals.{In_ok-index}

-- the rows before 21
abbrev earlier : Object → List ℕ → List ℕ → List Row
earlier object name s =
    header_rows (header_of s) (length s) ++ (row19 object.object_type ∷ row23 name ∷ row20 s (header_of s) object.pointer ∷ [])

-- the index is that of the lowest free entry, and there is one
searched : (c : In_ok-index)
    → let h = c.header_of-header.result in
    let s = c.args.buffer.now in
    (first_broken (row21 s h ∷ []) ≡ Ok tt) × (c.in_ok-index.index ≡ lowest_entry Free s h)
searched c = answer_gives _ _ (sym c.free_entry.ensures ∙ c.in_ok-index.was)

pub put_entry-requires : goal.put_entry-requires
unfolding row21
put_entry-requires c =
    let index = searched (goal.at.put_entry-requires c).In_ok-index in
    rw index.1 (found 21 _ _ index.0)

pub returns-in_err-object_verdict : goal.returns-in_err-object_verdict
unfolding registering
returns-in_err-object_verdict c =
    let a = c.args in
    let s = a.buffer.now in
    by_earlier (registering a.object a.name.now s) s (earlier a.object a.name.now s) (row21 s (header_of s) ∷ []) refl _ _ c.from_residual.ensures.1
    (rw c.header_of-header.ensures at (sym c.object_verdict.ensures ∙ c.in_err-object_verdict.was))

pub returns-in_err-index : goal.returns-in_err-index
unfolding registering
returns-in_err-index c =
    let a = c.args in
    let s = a.buffer.now in
    let header = c.header_of-header.ensures in
    by_later (registering a.object a.name.now s) s (earlier a.object a.name.now s) (row21 s (header_of s) ∷ []) refl _ _ c.from_residual-in_err-index.ensures.1
    (rw header at (sym c.object_verdict.ensures ∙ c.in_ok-object_verdict.was)) (rw header at (answer_refuses _ _ (sym c.free_entry.ensures ∙ c.in_err-index.was)))

pub returns : goal.returns
unfolding registering
returns c =
    let a = c.args in
    let s = a.buffer.now in
    let header = c.header_of-header.ensures in
    let index = searched (goal.at.returns c).In_ok-index in
    by_both (registering a.object a.name.now s) s (earlier a.object a.name.now s) (row21 s (header_of s) ∷ []) refl
    (rw header at index.1, rw (index.1, header) at c.put_entry.ensures)
    (rw header at (sym c.object_verdict.ensures ∙ c.in_ok-object_verdict.was)) (rw header at index.0)
