-- Where no name file is given, a name is found as in the dump alone.
use Rattle.std.specs.Prelude.{None, Option, Some}
use Prim.Native.Nat.{ℕ}
use mathlib.Core.List.{List, append-nil}
use mathlib.Core.Path.{◌≡◌, refl, ap₂}
use Rattle.naming.specs.Finding.{find_name_with, name_with}
use Rattle.naming.specs.Records.{name_in}
use Rattle.rows.specs.Rows.{answer_by, first_broken}
use Rattle.trace.specs.Layout.{header_of}
use Rattle.trace.specs.Names.{find_name, name_of, or_else}
use Rattle.trace.specs.Table.{registry_rows}
use Rattle.trace.specs.declared.Name.{Name}

pub without_file : (s : List ℕ) (pointer : ℕ) → find_name_with None s pointer ≡ find_name s pointer
unfolding find_name find_name_with name_in name_with
without_file s pointer = ap₂ (λ rows name. answer_by (first_broken rows) name) (append-nil (registry_rows s (header_of s))) (by (name_of s (header_of s) pointer))
  where
    by : (name : Option Name) → or_else name None ≡ name
    by None = refl
    by (Some name) = refl
