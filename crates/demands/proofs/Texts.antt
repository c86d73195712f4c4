-- Texts read back, are never empty, and are printed whole or not at all.
use mathlib.Core.Path.{refl}
use Rattle.text.proofs.Filled.{line_some, name_some, number_some}
use Rattle.text.proofs.Output.{is_put, not_put, zero_said}
use Rattle.text.proofs.ReadBack.{name_back, names_differ, number_back, numbers_differ}
use Rattle.text.proofs.Short.{bound_short, line_bound}
use Rattle.demands.specs.Texts.{Texts}
use Rattle.demands.proofs.JsonTexts.{digits_integer}

pub texts : Texts
texts = record {
  digits_integer = digits_integer;
  number_back = number_back;
  name_back = name_back;
  numbers_differ = numbers_differ;
  names_differ = names_differ;
  number_some = number_some;
  name_some = name_some;
  line_some = line_some;
  line_bound = λ l event n. line_bound l n event;
  bound_most = λ l event n. bound_short l n event;
  zero_said = λ text old new filled put. zero_said text old filled put refl;
  no_room = λ text old new answer put long. not_put text old long put;
  room = λ text old new answer put fits. let whole = is_put text old fits put in (whole.count, whole.bytes);
}
