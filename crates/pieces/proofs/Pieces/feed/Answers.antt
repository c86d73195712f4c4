-- `pieces::Pieces::feed` meets its contract: the bytes of the header first, and then the rest.
use mathlib.Core.Path.{◌∙◌, ap₂}
use native.Mathlib.Omega.{arith}
use Rattle.pieces.specs.Pieces.{fed, pushed}
use Rattle.pieces.proofs.Fed.{fed_split}
use Rattle.pieces.proofs.States.{header_whole}
use Rattle.pieces.proofs.Pieces.feed.Goals as goal

pub feed_body-requires : goal.feed_body-requires
feed_body-requires c some =
    let start = c.args in
    let n = c.min-of_header.result in
    rw (c.feed_header.ensures, c.split_at.ensures.front)
    (header_whole start.self start.piece.now n (rw c.saturating_sub.ensures at c.min-of_header.ensures) (omega (arith, c.split_at.ensures.back_len, some)))

pub returns : goal.returns
returns c =
    let start = c.args in
    c.feed_body.ensures
    ∙ ap₂ fed (rw c.split_at.ensures.front at c.feed_header.ensures) c.split_at.ensures.back
    ∙ fed_split pushed start.self c.min-of_header.result start.piece.now
