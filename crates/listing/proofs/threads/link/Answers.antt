-- `listing::threads::link` meets its contract: a thread is linked before the one to which its place led.
use Prim.Native.Nat.{◌+◌, ◌*◌, ◌<◌, ◌^◌}
use mathlib.Core.Path.{sym, ◌∙◌}
use native.Mathlib.Omega.{arith}
use Rattle.header.proofs.Steps.{entry-below}
use Rattle.trace.specs.Layout.{header_size}
use Rattle.listing.proofs.ThreadIndex.{thread-linked, thread-none}
use Rattle.listing.proofs.threads.link.Goals as goal
use Rattle.listing.proofs.threads.link.Goals.{After-geometry_of}

room : (c : After-geometry_of)
    → let size = c.geometry_of.result.entry_size in
    header_size + c.args.entry * size + size < 2 ^ 33
room c =
    entry-below c.args.header c.geometry_of.result c.geometry_of.ensures c.args.entry (rw c.geometry_of.ensures c.requires.0)

pub overflow_mul-at : goal.overflow_mul-at
overflow_mul-at c = omega (arith, room (goal.at.overflow_mul-at c).After-geometry_of)

pub overflow_add-at : goal.overflow_add-at
overflow_add-at c = omega (arith, room (goal.at.overflow_add-at c).After-geometry_of)

pub overflow_add-at-then-is_thread : goal.overflow_add-at-then-is_thread
overflow_add-at-then-is_thread c = omega (arith, room (goal.at.overflow_add-at-then-is_thread c).After-geometry_of)

pub returns-then-is_thread : goal.returns-then-is_thread
returns-then-is_thread c =
    let place = c.place_of-place in
    thread-linked c.args.dump.now c.args.header c.args.entry c.args.links.now c.requires.0 c.requires.1 place.result
    (rw (c.word.ensures, c.is_gone_kind-gone.ensures, c.kind_at.ensures, c.geometry_of.ensures) at place.ensures.0) place.ensures.1
    (rw c.geometry_of.ensures at (sym c.is_thread.ensures ∙ c.if-is_thread.true))

pub returns-else-is_thread : goal.returns-else-is_thread
returns-else-is_thread c =
    thread-none c.args.dump.now c.args.header c.args.entry c.args.links.now c.requires.0 c.requires.1
    (rw c.geometry_of.ensures at (sym c.is_thread.ensures ∙ c.if-is_thread.false))
