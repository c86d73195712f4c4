-- Finding a thread's name where a name file may be given (document 02, A7).
use Rattle.std.specs.Prelude.{ℕ, List, ◌++◌, Option, Result}
use Rattle.rows.specs.Rows.{Row, first_broken, answer_by}
use Rattle.rows.specs.declared.Refusal.{Refusal}
use Rattle.trace.specs.Layout.{header_of}
use Rattle.trace.specs.Names.{name_of, or_else}
use Rattle.trace.specs.Table.{registry_rows}
use Rattle.trace.specs.declared.Header.{Header}
use Rattle.trace.specs.declared.Name.{Name}
use Rattle.naming.specs.Records.{file_rows, name_in}
use Rattle.naming.specs.declared.Subject.TheVariants.{Thread}

-- "A thread name comes from the dump if found there, a removed thread's included, else from the file"
unfoldable pub name_with : Option (List ℕ) → List ℕ → Header → ℕ → Option Name
name_with file s h pointer = or_else (name_of s h pointer) (name_in Thread file pointer)

-- 1 to 11, then the file's 2 and 27
abbrev pub finding_rows : Option (List ℕ) → List ℕ → Header → List Row
finding_rows file s h = registry_rows s h ++ file_rows file

unfoldable pub find_name_with : Option (List ℕ) → List ℕ → ℕ → Result (Option Name) Refusal
find_name_with file s pointer = answer_by (first_broken (finding_rows file s (header_of s))) (name_with file s (header_of s) pointer)
