-- `listing::records::find_all` meets its contract. The loop's invariant: where the records before `at` start is noted, and all links lead nowhere.
use Prim.Native.Nat.{◌<◌}
use mathlib.Core.Path.{ap, refl}
use native.Mathlib.Numerals.{add-one}
use native.Mathlib.Omega.{arith}
use lib.ListN.{length}
use Rattle.naming.specs.Records.{end_at, record_at}
use Rattle.listing.proofs.RecordIndex.{found_all, found_more, found_none, record_few}
use Rattle.listing.proofs.records.find_all.Goals as goal
use Rattle.listing.proofs.records.find_all.Goals.{In-loop-at}

pub loop-at-init : goal.loop-at-init
unfolding record_at
loop-at-init c = (refl, rw c.requires.1 (found_none c.args.names.now))

-- a record starts where a turn stands, one of those that a file has room for
inside : (c : In-loop-at) → let names = c.args.names.now in record_at names c.loop-at.i < length names
inside c = omega (arith, c.loop-at.invariant.0, c.loop-at-test.true)

few : (c : In-loop-at) → c.loop-at.i < 16384
few c = record_few c.args.names.now c.requires.0 c.loop-at.i (inside c)

pub overflow_cast-records : goal.overflow_cast-records
overflow_cast-records c = omega (arith, c.loop-at-test.true, c.requires.0)

pub offset_bounds-records-i : goal.offset_bounds-records-i
offset_bounds-records-i c = omega (arith, few c)

pub bounds-records-i : goal.bounds-records-i
bounds-records-i c = omega (arith, few (goal.at.bounds-records-i c).In-loop-at)

pub overflow_add-i : goal.overflow_add-i
overflow_add-i c = omega (arith, few (goal.at.overflow_add-i c).In-loop-at)

pub overflow_add-at : goal.overflow_add-at
overflow_add-at c = omega (arith, c.loop-at-test.true, c.requires.0)

pub overflow_add-at-in-loop-at : goal.overflow_add-at-in-loop-at
overflow_add-at-in-loop-at c = omega (arith, c.loop-at-test.true, c.requires.0)

pub loop-at-smaller : goal.loop-at-smaller
loop-at-smaller c = omega (arith, c.loop-at-test.true)

pub loop-at-preserved : goal.loop-at-preserved
unfolding record_at
loop-at-preserved c =
    let turn = c.loop-at in
    let names = c.args.names.now in
    (rw (add-one, c.half.ensures) (ap (end_at names) turn.invariant.0), rw (add-one, turn.invariant.0) (found_more names c.requires.0 turn.i turn.records (inside (goal.at.loop-at-preserved c).In-loop-at) turn.invariant.1))

pub returns : goal.returns
returns c =
    let turn = c.loop-at in
    found_all c.args.names.now turn.i turn.records (omega (arith, turn.invariant.0, c.loop-at-test.false)) turn.invariant.1
