-- Writing a name file, record by record (document 02, A7).
use Rattle.std.specs.Prelude.{ℕ, ◌+◌, List, [], ◌∷◌, ◌++◌, ltb, length}
use Rattle.rows.specs.Rows.{Row, row}
use Rattle.trace.specs.Layout.{most_bytes}
use Rattle.trace.specs.Table.{row16}
use Rattle.words.specs.Fields.{Field, field_bytes, half, word}
use Rattle.words.specs.declared.Order.TheVariants.{Little}
use Rattle.naming.specs.Records.{kind_of}
use Rattle.naming.specs.declared.Subject.{Subject}

-- what stands before a name: the length, the kind, and the id or the pointer
abbrev pub front_fields : Subject → ℕ → ℕ → List Field
front_fields subject number size = half (4 + size) ∷ half (kind_of subject) ∷ word number ∷ []

-- a record: that, and the name
unfoldable pub record_bytes : Subject → ℕ → List ℕ → List ℕ
record_bytes subject number name = field_bytes Little (front_fields subject number (length name)) ++ name

-- its own length
abbrev pub record_size : List ℕ → ℕ
record_size name = 8 + length name

-- it would end past 65,536
unfoldable pub row28 : ℕ → Row
row28 end = row 28 (ltb most_bytes end)

-- 28, then 16, by where it would end
abbrev pub record_rows : ℕ → ℕ → List Row
record_rows end room = row28 end ∷ row16 end room ∷ []
