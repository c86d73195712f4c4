-- `mender::repair` meets its contract: step after step, and what packing takes of the dump is what it would take of the copy.
use Rattle.std.specs.Prelude.{Bool, None, Ok, Some, cond, false, is_some, true, unwrap_or}
use Rattle.std.specs.Int.{from_bool}
use Prim.Native.Nat.{ℕ}
use mathlib.Core.List.{List, []}
use mathlib.Core.Path.{◌≡◌, refl}
use native.Mathlib.Omega.{arith}
use lib.ListN.{length}
use Rattle.mending.proofs.Headers.{mended_within}
use Rattle.mending.proofs.Packed.{kept_is, slots_kept}
use Rattle.mending.proofs.Slots.{after_length, before_ids_length}
use Rattle.mending.specs.Mending.{after_current, after_ids, after_types, copy_of, repairs_of}
use Rattle.mending.specs.Steps.{current_mended, has_bad_current, in_turn, is_out_of_turn, moved_of, packed, sound_current}
use Rattle.trace.specs.Ring.{oldest_first}
use Rattle.rows.specs.Rows.{first_broken}
use Rattle.trace.proofs.Passed.{slots_end}
use Rattle.trace.specs.Table.{layout_rows}
use Rattle.trace.specs.declared.Header.{Header}
use Rattle.writing.proofs.Moved.{current_size}
use Rattle.mender.specs.Whole.{packed_from}
use Rattle.mender.proofs.repair.Goals as goal
use Rattle.mender.proofs.repair.Goals.{After-free_bad_types-types, After-mend_current-current, After-zero_no_ids-ids}

module _ (s : List ℕ) (h : Header) (passed : first_broken (layout_rows h (length s)) ≡ Ok tt) where
  same-packed : packed_from s (after_ids s h) (current_mended h) ≡ packed (after_ids s h) (current_mended h)
  unfolding packed_from packed
  same-packed = rw (kept_is s h [] passed, slots_kept s h [] passed)

-- the copy after the steps
current_is : (c : After-mend_current-current)
    → let a = c.args in
    c.mend_current-current.new.copy ≡ after_current a.dump.now a.header
current_is c = rw c.copy_whole-missing.ensures.1 at c.mend_current-current.ensures.1

types_are : (c : After-free_bad_types-types)
    → let a = c.args in
    c.free_bad_types-types.new.copy ≡ after_types a.dump.now a.header
types_are c = rw (current_is (goal.at.After-free_bad_types-types c).After-mend_current-current) at c.free_bad_types-types.ensures.1

ids-are : (c : After-zero_no_ids-ids)
    → let a = c.args in
    c.zero_no_ids-ids.new.copy ≡ after_ids a.dump.now a.header
ids-are c = rw (types_are (goal.at.After-zero_no_ids-ids c).After-free_bad_types-types) at c.zero_no_ids-ids.ensures.1

pub zero_no_ids-ids-requires : goal.zero_no_ids-ids-requires
zero_no_ids-ids-requires c =
    let h = c.args.header in
    let s = c.args.dump.now in
    rw (types_are (goal.at.zero_no_ids-ids-requires c).After-free_bad_types-types, before_ids_length s h) (omega (arith, slots_end h (length s) [] c.requires.0))

pub put_in_turn-moved-requires : goal.put_in_turn-moved-requires
put_in_turn-moved-requires c =
    let h = c.args.header in
    let s = c.args.dump.now in
    rw c.current_mended.ensures
    record {
      inside = mended_within h (length s) [] c.requires.0;
      ends = rw (current_size h (sound_current h), ids-are (goal.at.put_in_turn-moved-requires c).After-zero_no_ids-ids, after_length s h) (slots_end h (length s) [] c.requires.0);
    }

-- a test and an answer that may be none, as the counts tell them
told : (b : Bool) → from_bool b ≡ cond b 1 0
told true = refl
told false = refl

told_some : (b : Bool) (n : ℕ) → from_bool (is_some (cond b (Some n) None)) ≡ cond b 1 0
told_some true n = refl
told_some false n = refl

told_moved : (b : Bool) (n : ℕ) → unwrap_or (cond b (Some n) None) 0 ≡ cond b n 0
told_moved true n = refl
told_moved false n = refl

pub returns : goal.returns
unfolding repairs_of copy_of in_turn
returns c =
    let put = c.put_in_turn-moved in
    let h = c.args.header in
    let s = c.args.dump.now in
    let mended = c.current_mended.ensures in
    let ids = ids-are (goal.at.returns c).After-zero_no_ids-ids in
    let out = is_out_of_turn (after_ids s h) (current_mended h) in
    let many = moved_of (oldest_first (after_ids s h) (current_mended h)) in
    let moved : put.result ≡ cond out (Some many) None = rw (mended, ids, ← (kept_is s h [] c.requires.0)) at put.ensures.0 in
    let copy-is = rw (mended, ids, same-packed s h c.requires.0) at put.ensures.1 in
    let current-is : c.from.result ≡ cond (has_bad_current h) 1 0 = rw (c.from.ensures, c.mend_current-current.ensures.0) (told (has_bad_current h)) in
    let types-is = rw (current_is (goal.at.returns c).After-mend_current-current) at c.free_bad_types-types.ensures.0 in
    let ids-is = rw (types_are (goal.at.returns c).After-free_bad_types-types) at c.zero_no_ids-ids.ensures.0 in
    let packed-is : c.from-2.result ≡ cond out 1 0 = rw (c.from-2.ensures, c.is_some.ensures, moved) (told_some out many) in
    let moved-is : c.unwrap_or.result ≡ cond out many 0 = rw (c.unwrap_or.ensures, moved) (told_moved out many) in
    (λ i. record { missing = c.copy_whole-missing.ensures.0 i; current = current-is i; types = types-is i; ids = ids-is i; packed = packed-is i; moved = moved-is i }, copy-is)
