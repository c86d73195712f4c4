-- `registrar::registering::put_entry` meets its contract: the fields and then the name.
use Prim.Native.Nat.{ℕ, ◌+◌, ◌*◌, ◌<◌, ◌^◌}
use mathlib.Core.Path.{sym, ap, ◌∙◌}
use native.Mathlib.Omega.{arith}
use Rattle.header.proofs.Steps.{entries_are, entry_below}
use Rattle.trace.specs.Layout.{entry_at}
use lib.Seq.{sets}
use Rattle.words.proofs.Runs.{cut_bytes, fields_length, runs_join}
use Rattle.words.specs.Fields.{field_bytes}
use Rattle.writing.specs.Bytes.{entry_bytes, entry_fields, fitted}
use Rattle.registrar.proofs.registering.put_entry.Goals as goal
use Rattle.registrar.proofs.registering.put_entry.Goals.{After-geometry_of}

-- the entry starts at a place that fits
placed : (c : After-geometry_of) → let g = c.geometry_of.result in 48 + c.args.index * g.entry_size + g.entry_size < 2 ^ 33
placed c =
    let h = c.args.header in
    let g = c.geometry_of in
    entry_below h g.result g.ensures c.args.index (rw (entries_are h g.result g.ensures) c.requires)

pub overflow_mul-at : goal.overflow_mul-at
overflow_mul-at c = omega (arith, placed (goal.at.overflow_mul-at c).After-geometry_of)

pub overflow_add-at : goal.overflow_add-at
overflow_add-at c = omega (arith, placed (goal.at.overflow_add-at c).After-geometry_of)

pub put_fields-requires : goal.put_fields-requires
put_fields-requires c = omega (arith, placed (goal.at.put_fields-requires c).After-geometry_of)

pub overflow_add-at-2 : goal.overflow_add-at-2
overflow_add-at-2 c = omega (arith, placed (goal.at.overflow_add-at-2 c).After-geometry_of)

pub returns : goal.returns
unfolding entry_bytes fitted
returns c =
    let a = c.args in
    let h = a.header in
    let fields = field_bytes h.order (entry_fields a.object) in
    rw (c.put_fields.ensures, c.from.ensures, cut_bytes, c.geometry_of.ensures) at c.put_padded.ensures
    ∙ ap (λ (n : ℕ). sets (sets a.buffer.now (entry_at h a.index) fields) (entry_at h a.index + n) (fitted h.name_size a.name.now)) (sym (fields_length h.order (entry_fields a.object)))
    ∙ runs_join fields (fitted h.name_size a.name.now) a.buffer.now (entry_at h a.index)
