-- `listing::records::link` meets its contract: a record that names something is linked before the one to which its place led.
use Prim.Native.Nat.{ℕ, ◌<◌}
use borrow.Author.Tests.{ne_eqb}
use lib.Dec.{eqb}
use mathlib.Core.Bool.{true, false, ◌||◌}
use mathlib.Core.Logic.{◌⊎◌, inl, inr}
use mathlib.Core.Path.{◌≡◌}
use native.Mathlib.Omega.{arith}
use lib.ListN.{get_or, length}
use Rattle.naming.proofs.Records.{inside_count}
use Rattle.naming.specs.Records.{record_at}
use Rattle.listing.proofs.RecordIndex.{record_linked, record_none}
use Rattle.listing.proofs.records.link.Goals as goal
use Rattle.listing.proofs.records.link.Goals.{Start}

-- where the record starts: within the file, which is a slice
starts : (s : Start) → get_or s.args.records.now s.args.i 0 ≡ record_at s.args.names.now s.args.i
starts s = s.requires.1.found.starts s.args.i s.requires.0

inside : (s : Start) → get_or s.args.records.now s.args.i 0 < length s.args.names.now
inside s = rw (starts s) (inside_count s.args.names.now s.args.i s.requires.0)

pub overflow_cast-at : goal.overflow_cast-at
overflow_cast-at c = omega (arith, inside (goal.at.overflow_cast-at c).Start)

pub overflow_add-at : goal.overflow_add-at
overflow_add-at c = omega (arith, inside (goal.at.overflow_add-at c).Start)

-- its kind is one of the two
names : (kind : ℕ) → (kind ≡ 1) ⊎ ((kind ≡ 1 → ⊥) × (kind ≡ 2)) → (eqb kind 1 || eqb kind 2) ≡ true
names kind (inl one) = rw one
names kind (inr other) = rw other.1

pub returns-then-kind-eq1 : goal.returns-then-kind-eq1
returns-then-kind-eq1 c =
    let a = c.args in
    let at = starts (goal.at.returns-then-kind-eq1 c).Start in
    record_linked a.names.now a.i a.records.now c.requires.0 c.requires.1 c.place_of-place.result
    (rw (c.word.ensures, c.half-kind.ensures, at) at c.place_of-place.ensures.0) c.place_of-place.ensures.1
    (rw (c.half-kind.ensures, at) at (names c.half-kind.result c.then-kind-eq1.either))

pub returns-else-thread : goal.returns-else-thread
returns-else-thread c =
    let a = c.args in
    let kind = c.half-kind.result in
    let none : (eqb kind 1 || eqb kind 2) ≡ false = rw (ne_eqb kind 1 c.if-kind-eq1.false, ne_eqb kind 2 c.if-thread.false) in
    record_none a.names.now a.i a.records.now c.requires.0 c.requires.1 (rw (c.half-kind.ensures, starts (goal.at.returns-else-thread c).Start) at none)
