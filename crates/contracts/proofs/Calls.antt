-- What a contract says of a call is what the demands speak of.
use mathlib.Core.Path.{◌∙◌}
use Rattle.naming.proofs.Finding.{without_file}
use Rattle.contracts.specs.Calls.{Calls}

pub calls : Calls
calls = record {
  check = λ κs a p. p.allowed;
  find_name = λ κs a p. (p.allowed, λ none. rw none at p.allowed ∙ without_file _ _);
  found_part = λ κs a p. p.allowed;
  name_part = λ κs a p. p.allowed;
  event = λ κs a p. p.allowed;
  line = λ κs a p. p.allowed;
  listing = λ κs a p. p.allowed;
  format = λ κs a p. p.allowed;
  «record» = λ κs a p. p.allowed;
  register = λ κs a p. p.allowed;
  remove = λ κs a p. p.allowed;
  write_name = λ κs a p. p.allowed;
  mend = λ κs a p. p.allowed;
  begin = λ κs a p. p.allowed;
  feed = λ κs a p. p.allowed;
  finish = λ κs a p. p.allowed;
}
