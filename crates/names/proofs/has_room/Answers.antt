-- `names::has_room` meets its contract: six bytes for each of the name's are plenty.
use Rattle.std.proofs.Common.{length, Some, arith, sym}
use borrow.Author.Tests.{le-leb}
use Rattle.text.proofs.Escapes.{count_name, escaped_short}
use Rattle.text.specs.Names.{name}
use Rattle.names.proofs.has_room.Goals as goal

pub returns-then-room-bytes : goal.returns-then-room-bytes
returns-then-room-bytes c =
    let bytes = c.args.bytes.now in
    sym (le-leb (length (name (Some bytes))) c.args.room (omega (arith, count_name bytes, escaped_short bytes)))
