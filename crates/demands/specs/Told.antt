-- What an answer tells in numbers is the whole answer: two are equal exactly where they tell the same, so a promise that gives the one gives the other.
use Rattle.std.specs.Prelude.{◌↔◌, ◌≡◌}
use Rattle.events.specs.Events.{shown_told}
use Rattle.mending.specs.Mending.{mended_told}
use Rattle.rows.specs.Told.{Told, number_told}
use Rattle.trace.specs.Check.{checked_told}
use Rattle.trace.specs.Names.{found_told}

abbrev pub TellsAll : {A : Type 0} → (A → Told) → Type 0
TellsAll {A} told = (x y : A) → (x ≡ y) ↔ (told x ≡ told y)

pub record AnswersTell : Type 0 where
  pub checked : TellsAll checked_told
  pub found : TellsAll found_told
  pub shown : TellsAll shown_told
  pub number : TellsAll number_told
  pub mended : TellsAll mended_told
