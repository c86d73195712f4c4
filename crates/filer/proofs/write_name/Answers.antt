-- `filer::write_name` meets its contract, by the verdict.
use Prim.Native.Nat.{◌+◌, ◌-◌, ◌≤◌}
use mathlib.Core.Path.{◌≡◌, refl, sym, ◌∙◌}
use native.Mathlib.Omega.{arith}
use lib.ListN.{length}
use Rattle.naming.proofs.ReadBack.{record_length}
use Rattle.naming.specs.Writing.{record_bytes}
use Rattle.trace.specs.Layout.{most_bytes}
use Rattle.writing.proofs.Answers.{by_refusal, by_work}
use Rattle.writing.proofs.Stored.{part_length, put_stored}
use Rattle.writing.specs.Writing.{filing}
use Rattle.filer.proofs.Ends.{ends_within}
use Rattle.filer.proofs.write_name.Goals as goal
use Rattle.filer.proofs.write_name.Goals.{In_ok-record_verdict}

-- the record ends within the file, and by 65,536
fits : (c : In_ok-record_verdict) → let a = c.args in let end = a.offset + (8 + length a.name.now) in (end ≤ most_bytes) × (end ≤ length a.names.now)
fits c =
    let a = c.args in
    ends_within (a.offset + (8 + length a.name.now)) (length a.names.now) (sym c.record_verdict.ensures ∙ c.in_ok-record_verdict.was)

pub returns-in_err-record_verdict : goal.returns-in_err-record_verdict
unfolding filing
returns-in_err-record_verdict c =
    let a = c.args in
    by_refusal (filing a.subject a.number a.name.now a.offset a.names.now) a.names.now _ _ c.from_residual.ensures.1 (sym c.record_verdict.ensures ∙ c.in_err-record_verdict.was)

pub overflow_add-offset : goal.overflow_add-offset
overflow_add-offset c = omega (arith, fits c)

pub slice_bounds-put_record-end : goal.slice_bounds-put_record-end
slice_bounds-put_record-end c = omega (arith, fits c)

pub put_record-requires : goal.put_record-requires
put_record-requires c =
    let within = fits (goal.at.put_record-requires c).In_ok-record_verdict in
    (part_length c.args.names.now c.args.offset _ _ within.1 (omega arith), omega (arith, within))

pub returns : goal.returns
unfolding filing
returns c =
    let a = c.args in
    let within = fits (goal.at.returns c).In_ok-record_verdict in
    let bytes = record_bytes a.subject a.number a.name.now in
    let part = a.offset + (8 + length a.name.now) - a.offset in
    let long : length bytes ≡ part = record_length a.subject a.number a.name.now ∙ omega arith in
    by_work (filing a.subject a.number a.name.now a.offset a.names.now) a.names.now
    (refl, rw c.put_record.ensures (put_stored bytes a.names.now a.offset part long (omega (arith, within.1)))) (sym c.record_verdict.ensures ∙ c.in_ok-record_verdict.was)
