-- `filer::put_record` meets its contract: two numbers of 16 bits and one of 32 are the front of a record, and then the name.
use Prim.Native.Nat.{ℕ, ◌+◌, ◌-◌}
use mathlib.Core.List.{List, ◌++◌, append-nil}
use mathlib.Core.Path.{◌≡◌, ◌∙◌}
use native.Mathlib.Omega.{arith}
use lib.ListN.{length, length-append}
use lib.Seq.{sets, take_all}
use Rattle.naming.specs.Writing.{front_fields, record_bytes}
use Rattle.words.proofs.Runs.{cut_bytes, fields_length, runs_join, stored_fields}
use Rattle.words.specs.Fields.{field_bytes}
use Rattle.words.specs.declared.Order.TheVariants.{Little}
use Rattle.writing.proofs.Stored.{all_stored}
use Rattle.filer.proofs.put_record.Goals as goal

-- eight bytes and then others, as many as there is room for
behind : (front name s : List ℕ) → length front ≡ 8 → length s ≡ 8 + length name → sets (sets s 0 front) 8 name ≡ front ++ name
behind front name s eight room = rw eight at (runs_join front name s 0) ∙ all_stored (front ++ name) s (rw length-append (omega arith))

pub returns : goal.returns
unfolding record_bytes
returns c =
    let a = c.args in
    let name = a.name.now in
    let none : length name - length name ≡ 0 = omega arith in
    let fields = front_fields a.subject a.number (length name) in
    let front =
    rw (c.put_half-2.ensures, c.kind_of.ensures, c.put_half.ensures) at c.put_word.ensures ∙ stored_fields Little fields a.room.now 0 0 in
    rw (front, cut_bytes, take_all (length name) name (omega arith), none, append-nil name) at c.put_padded.ensures
    ∙ behind (field_bytes Little fields) name a.room.now (fields_length Little fields) c.requires.0
