-- What the writer lays down is read back, by the laws of writing.
use Prim.Native.Nat.{ℕ, ◌+◌, ◌-◌, ◌^◌, ◌≤◌, ◌<◌}
use mathlib.Core.Bool.{Bool, true, false, cond}
use mathlib.Core.List.{List, [], ◌++◌}
use mathlib.Core.Logic.{inl, inr, ⊎_elim}
use mathlib.Core.Path.{◌≡◌, sym, ap, ◌∙◌}
use native.Mathlib.Nat.{add-zero, zero-add}
use native.Mathlib.Omega.{arith}
use lib.Dec.{eqb}
use lib.ListN.{drop, get_or, length, replicate, take, get_or-replicate, length-replicate, get_or-append}
use lib.Seq.{sets, get_or-append-add}
use Rattle.trace.specs.Layout.{header_of, header_size, name_offset}
use Rattle.trace.specs.declared.Header.{Header}
use Rattle.words.proofs.Runs.{byte_is, fields_length, run_byte}
use Rattle.words.specs.Fields.{field_bytes}
use Rattle.words.specs.Words.{lowest_first, number_bytes, split}
use Rattle.words.specs.declared.Order.{Order}
use Rattle.words.specs.declared.Order.TheVariants.{Big, Little}
use Rattle.writing.proofs.EntryBytes.{entry_length, field_is, flag_back, free_back, free_flag, free_zeros, name_run, pointer_back, type_back}
use Rattle.writing.proofs.FreshBytes.{header_back}
use Rattle.writing.proofs.SlotBytes.{slot_back}
use Rattle.trace.proofs.SameBytes.{same_header}
use Rattle.writing.specs.Arguments.{IsHeader, IsObject}
use Rattle.writing.specs.Bytes.{entry_bytes, fitted, header_bytes, header_fields, if_thread}
use Rattle.writing.specs.declared.Object.{Object}
use Rattle.demands.specs.Layouts.{EntryRead, Layouts}
use Rattle.demands.specs.NotRead.{ReservedInHeader, Within}

-- a header at the front of a buffer, byte by byte
stored_byte : (h : Header) (s : List ℕ) → header_size ≤ length s → (k : ℕ) → k < header_size → get_or (sets s 0 (header_bytes h)) k 0 ≡ get_or (header_bytes h) k 0
unfolding header_bytes
stored_byte h s fits k below =
    let long = fields_length h.order (header_fields h) in
    rw (zero-add k) at (run_byte (header_bytes h) s 0 k (omega arith) (omega arith))

header_stored : (h : Header) (s : List ℕ) → IsHeader h → header_size ≤ length s → header_of (sets s 0 (header_bytes h)) ≡ h
header_stored h s is fits = same_header (header_bytes h) (sets s 0 (header_bytes h)) (λ k below aside. rw (zero-add k) (stored_byte h s fits k (omega arith))) ∙ header_back h is

-- zeros between other bytes, as the reserved fields are in either order
zeros_within : (front back : List ℕ) (n i : ℕ) → Within (length front) n i → get_or (front ++ (replicate n 0 ++ back)) i 0 ≡ 0
zeros_within front back n i (from, to) =
    ap (λ (j : ℕ). get_or (front ++ (replicate n 0 ++ back)) j 0) (omega arith) ∙ get_or-append-add front (replicate n 0 ++ back) (i - length front) 0
    ∙ get_or-append (replicate n 0) back 0 (i - length front) (rw length-replicate (omega arith)) ∙ get_or-replicate n (i - length front) 0 0 (omega arith)

reserved_zero : (o : Order) (h : Header) (i : ℕ) → ReservedInHeader i → get_or (field_bytes o (header_fields h)) i 0 ≡ 0
unfolding field_bytes number_bytes lowest_first split
reserved_zero Big h i (inl half) = zeros_within (field_bytes Big (take 4 (header_fields h))) (field_bytes Big (drop 5 (header_fields h))) 2 i half
reserved_zero Big h i (inr words) = zeros_within (field_bytes Big (take 10 (header_fields h))) [] 12 i words
reserved_zero Little h i (inl half) = zeros_within (field_bytes Little (take 4 (header_fields h))) (field_bytes Little (drop 5 (header_fields h))) 2 i half
reserved_zero Little h i (inr words) = zeros_within (field_bytes Little (take 10 (header_fields h))) [] 12 i words

reserved_stored : (h : Header) (s : List ℕ) → header_size ≤ length s → (i : ℕ) → ReservedInHeader i → get_or (sets s 0 (header_bytes h)) i 0 ≡ 0
unfolding header_bytes
reserved_stored h s fits i reserved =
    stored_byte h s fits i (⊎_elim (λ within. omega (arith, within.1)) (λ within. omega (arith, within.1)) reserved) ∙ reserved_zero h.order h i reserved

-- a reserved byte stays one where it is given for a thread alone
thread_small : (object : Object) (reserved : ℕ) → reserved < 2 ^ 8 → if_thread object reserved < 2 ^ 8
thread_small object reserved small = by (eqb object.object_type 1)
  where
    by : (thread : Bool) → cond thread reserved 0 < 2 ^ 8
    by true = small
    by false = omega arith

entry_read : (o : Order) (object : Object) (name s : List ℕ) (size at : ℕ) → IsObject object → at + (name_offset + size) ≤ length s
    → EntryRead o object name size (sets s at (entry_bytes o size object name)) at
unfolding fitted
entry_read o object name s size at is fits =
    let within : at + length (entry_bytes o size object name) ≤ length s = rw (entry_length o size object name) fits in
    let field = field_is o size object name s at within in
    record {
      flag = rw add-zero at (sym (byte_is _ _ _) ∙ field 0 (omega arith) (omega arith));
      in_use = flag_back o size object name s at within;
      type = type_back o size object name s at within is.type;
      reserved_one = sym (byte_is _ _ _) ∙ field 2 (omega arith) (thread_small object _ is.reserved_one);
      reserved_two = sym (byte_is _ _ _) ∙ field 3 (omega arith) (thread_small object _ is.reserved_two);
      pointer = pointer_back o size object name s at within is.pointer;
      parameter_one = field 5 (omega arith) is.parameter_one;
      parameter_two = field 6 (omega arith) is.parameter_two;
      name-bytes = name_run o size object name s at within;
    }

pub layouts : Layouts
layouts = record {
  header = header_stored;
  reserved = reserved_stored;
  entry = entry_read;
  free = λ s size at fits some. (free_back s size at fits some, free_flag s size at fits some, free_zeros s size at fits some);
  slot = λ o slot s at is fits. slot_back o slot s at fits is;
}
