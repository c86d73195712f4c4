-- `registrar::registering::put_fields` meets its contract: four bytes and then three words are the entry's fields.
use Prim.Native.Nat.{◌+◌}
use mathlib.Core.List.{[], ◌∷◌}
use mathlib.Core.Path.{◌∙◌}
use native.Mathlib.Nat.{add-zero}
use native.Mathlib.Omega.{arith}
use lib.ListN.{set}
use Rattle.words.proofs.Runs.{fields_join, put_byte_is, stored_fields}
use Rattle.words.specs.Fields.{byte, word}
use Rattle.writing.specs.Bytes.{if_thread}
use Rattle.registrar.proofs.registering.put_fields.Goals as goal

pub returns : goal.returns
returns c =
    let a = c.args in
    let o = a.order in
    let x = a.object in
    let two = c.if_thread.result in
    let three = c.if_thread-2.result in
    let flag = set a.buffer.now a.at 0 in
    let kind = set flag (a.at + 1) x.object_type in
    let one = set kind (a.at + 2) two in
    let marks =
    rw (c.put_byte-3.ensures, c.put_byte-2.ensures, c.put_byte.ensures, add-zero) at c.put_byte-4.ensures
    ∙ rw (add-zero, put_byte_is o a.buffer.now a.at 0 (omega arith), put_byte_is o flag (a.at + 1) x.object_type (omega arith), put_byte_is o kind (a.at + 2) two (omega arith), put_byte_is o one (a.at + 3) three (omega arith))
    at (stored_fields o (byte 0 ∷ byte x.object_type ∷ byte two ∷ byte three ∷ []) a.buffer.now a.at 0) in
    rw (c.put_word-2.ensures, c.put_word.ensures, marks, c.if_thread.ensures, c.if_thread-2.ensures) at c.put_word-3.ensures
    ∙ fields_join o (byte 0 ∷ byte x.object_type ∷ byte (if_thread x x.reserved_one) ∷ byte (if_thread x x.reserved_two) ∷ [])
    (word x.pointer ∷ word x.parameter_one ∷ word x.parameter_two ∷ []) a.buffer.now a.at
