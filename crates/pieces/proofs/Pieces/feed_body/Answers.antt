-- `pieces::Pieces::feed_body` meets its contract.
use mathlib.Core.Path.{sym}
use Rattle.pieces.proofs.States.{fed_behind}
use Rattle.pieces.proofs.Pieces.feed_body.Goals as goal

pub returns : goal.returns
returns c = rw (c.feed.ensures, c.counted.ensures) (sym (fed_behind _ _ c.requires))
