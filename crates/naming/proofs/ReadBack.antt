-- A record's bytes in front of more: its length, its kind, its number and its name are read back of them, and the rest is what follows.
use Rattle.std.specs.Prelude.{Some}
use Prim.Native.Nat.{ℕ, ◌+◌, ◌-◌, ◌^◌, ◌≤◌, ◌<◌}
use mathlib.Core.Bool.{cond, false, ◌&&◌, and-false}
use mathlib.Core.List.{List, ◌++◌, append_assoc}
use mathlib.Core.Path.{◌≡◌, sym, ◌∙◌}
use native.Mathlib.Omega.{arith}
use borrow.Author.Tests.{le-ltb}
use lib.Dec.{eqb}
use lib.ListN.{drop, length, length-append}
use lib.Seq.{drop_at, take-append_seam}
use Rattle.trace.specs.Names.{name_bytes}
use Rattle.words.proofs.Runs.{field_front, fields_length}
use Rattle.words.specs.Fields.{field_bytes}
use Rattle.words.specs.declared.Order.TheVariants.{Little}
use Rattle.naming.specs.Records.{end_at, has_record, is_sought_at, kind_at, kind_of, length_at, name_at, number_at, record_name}
use Rattle.naming.specs.Writing.{front_fields, record_bytes, record_size}
use Rattle.naming.specs.declared.Sought.TheVariants.{Damaged}
use Rattle.naming.specs.declared.Subject.{Subject}
use Rattle.naming.specs.declared.Subject.TheVariants.{Event, Thread}
use Rattle.naming.proofs.Rest.{has_there, name_bytes_there}

pub record_length : (subject : Subject) (number : ℕ) (name : List ℕ) → length (record_bytes subject number name) ≡ record_size name
unfolding record_bytes
record_length subject number name = rw (length-append, fields_length)

kind_small : (subject : Subject) → kind_of subject < 2 ^ 16
unfolding kind_of
kind_small Event = omega arith
kind_small Thread = omega arith

-- the name's length fits its two bytes
module _ (subject : Subject) (number : ℕ) (name more : List ℕ) (fits : record_size name ≤ 65536) where
  abbrev file : List ℕ
  file = record_bytes subject number name ++ more

  abbrev front : List ℕ
  front = field_bytes Little (front_fields subject number (length name))

  front_file : file ≡ front ++ (name ++ more)
  unfolding record_bytes
  front_file = append_assoc front name more

  length_back : length_at file 0 ≡ 4 + length name
  length_back = rw front_file (field_front Little (front_fields subject number (length name)) (name ++ more) 0 (omega arith) (omega arith))

  kind_back : kind_at file 0 ≡ kind_of subject
  kind_back = rw front_file (field_front Little (front_fields subject number (length name)) (name ++ more) 1 (omega arith) (kind_small subject))

  number_back : number < 2 ^ 32 → number_at file 0 ≡ number
  number_back small = rw front_file (field_front Little (front_fields subject number (length name)) (name ++ more) 2 (omega arith) small)

  end_back : end_at file 0 ≡ record_size name
  end_back = omega (arith, length_back)

  within : end_at file 0 ≤ length file
  within = rw (end_back, length-append, record_length) (omega arith)

  rest_back : drop (end_at file 0) file ≡ more
  rest_back = drop_at (record_bytes subject number name) more (end_at file 0) (record_length subject number name ∙ sym end_back)

  name_back : (dump : List ℕ) → name_bytes (Some file) dump (Some (name_at file 0)) ≡ Some name
  unfolding name_bytes
  name_back dump =
      let size : length_at file 0 - 4 ≡ length name = omega (arith, length_back) in
      rw (size, front_file, drop_at front (name ++ more) 8 (fields_length _ _), take-append_seam)

  undamaged : is_sought_at Damaged file 0 ≡ false
  unfolding is_sought_at
  undamaged = rw (le-ltb _ _ within, length_back, le-ltb (4 + length name) 4 (omega arith), and-false)

  -- it is not damaged itself, so there is such a record only among those that follow
  pub damaged_behind : has_record Damaged file ≡ has_record Damaged more
  damaged_behind = has_there file within Damaged ∙ rw (undamaged, rest_back)

  -- and it gives its name for its own number, as those that follow do for others
  pub name_or_behind : number < 2 ^ 32 → (dump : List ℕ) (wanted : Subject) (sought : ℕ)
      → name_bytes (Some file) dump (record_name wanted file sought) ≡ cond (eqb (kind_of subject) (kind_of wanted) && eqb number sought) (Some name) (name_bytes (Some more) dump (record_name wanted more sought))
  unfolding is_sought_at
  name_or_behind small dump wanted sought =
      name_bytes_there file within dump wanted sought ∙ rw (kind_back, number_back small, name_back dump, rest_back)
