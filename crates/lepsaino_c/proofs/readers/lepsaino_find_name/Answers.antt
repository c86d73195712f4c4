-- `lepsaino_c::readers::lepsaino_find_name` meets its contract: without a name file a name is found as in the dump alone.
use mathlib.Core.Path.{ap, ◌∙◌}
use Rattle.naming.proofs.Finding.{without_file}
use Rattle.lepsaino_c.specs.Answers.{name_answer}
use Rattle.lepsaino_c.proofs.readers.lepsaino_find_name.Goals as goal

pub returns : goal.returns
returns c = c.from.ensures ∙ ap name_answer (c.find_name.ensures ∙ without_file _ _)
