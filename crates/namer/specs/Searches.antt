-- Where a search of a name file ends: at the first record that is sought, or at the file's end.
use Rattle.std.specs.Prelude.{ℕ, cond, List, length}
use Rattle.naming.specs.Records.{first_record, has_record, record_at}
use Rattle.naming.specs.declared.Sought.{Sought}

unfoldable pub sought_at : Sought → List ℕ → ℕ
sought_at sought f = cond (has_record sought f) (record_at f (first_record sought f)) (length f)
