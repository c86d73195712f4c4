-- `names::fit_name` meets its contract: the name, or null.
use Rattle.std.proofs.Common.{refl}
use Rattle.text.specs.Names.{name}
use Rattle.names.proofs.fit_name.Goals as goal

pub returns-in-None : goal.returns-in-None
unfolding name
returns-in-None c = rw c.in-None.is record { count = refl; bytes = c.put_bytes.ensures.bytes }
