-- `listing::one::put_event` meets its contract: row 16 follows row 25, and the line's length decides it.
use Rattle.std.specs.Prelude.{Err}
use mathlib.Core.List.{[], ◌∷◌}
use mathlib.Core.Path.{◌≡◌, sym, ◌∙◌}
use native.Mathlib.Omega.{arith}
use borrow.Author.Tests.{leb-false, ltb-false, ltb-true}
use lib.Dec.{leb, ltb}
use lib.ListN.{length}
use Rattle.trace.specs.Slots.{event_count}
use Rattle.trace.specs.Table.{row16, row25}
use Rattle.walk.proofs.Walks.{event_met}
use Rattle.listing.proofs.Answers.{gave_fitted, gave_more, gave_refused, gave_short, row_broken, row_kept}
use Rattle.listing.specs.Sources.{file_of, line_from}
use Rattle.listing.proofs.one.put_event.Goals as goal

pub returns-in_err-row : goal.returns-in_err-row
unfolding row25
returns-in_err-row c =
    let a = c.args in
    let source = a.source.now in
    let f = c.in_err-row.field-0.0 in
    let same : c.from_residual.result ≡ Err f = grind arith in
    let text = line_from source a.position in
    let refused = rw source.accepted.count at (sym c.row.ensures ∙ c.in_err-row.was) in
    rw same (gave_refused (row25 a.position (event_count source.dump.now source.header) ∷ []) (row16 (length text) (length a.out.now) ∷ []) f refused)

pub fit_event-length-requires : goal.fit_event-length-requires
fit_event-length-requires c =
    let a = c.args in
    let source = a.source.now in
    let within = leb-false source.events a.position (row_kept 25 (leb source.events a.position) 0 (sym c.row.ensures ∙ c.in_ok-row.was)) in
    (within, c.event_at-event.ensures ∙ event_met source.dump.now source.header source.accepted.sound (file_of source) a.position (rw source.accepted.count at within))

pub returns-in_err-row-2 : goal.returns-in_err-row-2
unfolding row25
returns-in_err-row-2 c =
    let a = c.args in
    let source = a.source.now in
    let text = line_from source a.position in
    let passed = rw source.accepted.count at (sym c.row.ensures ∙ c.in_ok-row.was) in
    let f = c.in_err-row-2.field-0.0 in
    let same : c.from_residual-in_err-row-2.result ≡ Err f = grind arith in
    let size = c.fit_event-length.result in
    let room = length c.fit_event-length.new.out in
    let broken = row_broken 16 (ltb room size) 0 f (sym c.row-2.ensures ∙ c.in_err-row-2.was) in
    rw (same, broken.1)
    (gave_more (row25 a.position (event_count source.dump.now source.header) ∷ []) (row16 (length text) (length a.out.now) ∷ []) passed (gave_short text (omega arith) c.fit_event-length.ensures (ltb-true room size broken.0)))

pub returns : goal.returns
unfolding row25
returns c =
    let a = c.args in
    let source = a.source.now in
    let text = line_from source a.position in
    let passed = rw source.accepted.count at (sym c.row.ensures ∙ c.in_ok-row.was) in
    let size = c.fit_event-length.result in
    let room = length c.fit_event-length.new.out in
    let kept = ltb-false room size (row_kept 16 (ltb room size) 0 (sym c.row-2.ensures ∙ c.in_ok-row-2.was)) in
    gave_more (row25 a.position (event_count source.dump.now source.header) ∷ []) (row16 (length text) (length a.out.now) ∷ []) passed (gave_fitted text (omega arith) c.fit_event-length.ensures kept)
