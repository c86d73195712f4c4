-- `namer::kind_of` meets its contract, by what is named.
use Rattle.naming.specs.Records.{kind_of}
use Rattle.namer.proofs.kind_of.Goals as goal

pub returns-in-Event : goal.returns-in-Event
unfolding kind_of
returns-in-Event c = rw c.in-Event.is

pub returns-in-Thread : goal.returns-in-Thread
unfolding kind_of
returns-in-Thread c = rw c.in-Thread.is
