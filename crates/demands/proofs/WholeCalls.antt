-- The whole case is made by its six calls: each computes, from the dump that the one before it left.
use Rattle.std.specs.Prelude.{Ok}
use Prim.Native.Nat.{ℕ, zero, suc}
use mathlib.Core.List.{List, ◌++◌, append-nil}
use mathlib.Core.Path.{◌≡◌, refl, sym, ap, ◌∙◌}
use native.Mathlib.Nat.{zero-add}
use native.Mathlib.Omega.{arith}
use lib.ListN.{length, replicate}
use lib.Seq.{sets, sets-eq, drop-length}
use Rattle.rows.specs.Rows.{first_broken}
use Rattle.text.specs.Ascii.{ascii}
use Rattle.trace.specs.Layout.{slot_size, with_current}
use Rattle.trace.specs.Table.{row2, row4, row5}
use Rattle.words.specs.Each.{Each}
use Rattle.words.specs.Masks.{width_to}
use Rattle.words.specs.declared.Order.{Order}
use Rattle.words.specs.declared.Order.TheVariants.{Big, Little}
use Rattle.writing.proofs.Opened.{open_writing}
use Rattle.writing.proofs.Answers.{by_passing}
use Rattle.writing.proofs.FreshBytes.{fresh_length}
use Rattle.writing.specs.Bytes.{entry_bytes, free_entry, header_bytes, slot_bytes}
use Rattle.writing.specs.Table.{row24}
use Rattle.writing.specs.Writing.{Change, formatting, fresh_bytes, fresh_header, left, recording, registering, said}
use Rattle.demands.specs.History.{NeverBack, NoneFormats, Typed, accepted_writes, after, given}
use Rattle.demands.specs.WholeCase.{first_write, four_writes, fourth_write, middle, newest, oldest, pump, second_write, third_write, whole_calls, whole_dump, whole_format, whole_fresh, whole_header}
use Rattle.demands.proofs.Typed.{given_words}

-- the dump with current at a slot, an entry, and three slots
unfoldable dump : Order → ℕ → List ℕ → List ℕ → List ℕ → List ℕ → List ℕ
dump o current entry a b c = header_bytes (with_current (whole_header o) current) ++ entry ++ a ++ b ++ c

unused : List ℕ
unused = replicate 32 0

named : Order → List ℕ
named o = entry_bytes o 8 pump (ascii "pump")

-- the dump after each call: the last write takes the first one's slot
abbrev fresh_dump : Order → List ℕ
fresh_dump o = dump o 0x20000048 (free_entry 24) unused unused unused

abbrev with_pump : Order → List ℕ
with_pump o = dump o 0x20000048 (named o) unused unused unused

abbrev with_first : Order → List ℕ
with_first o = dump o 0x20000068 (named o) (slot_bytes o (given first_write)) unused unused

abbrev with_second : Order → List ℕ
with_second o = dump o 0x20000088 (named o) (slot_bytes o (given first_write)) (slot_bytes o oldest) unused

abbrev with_third : Order → List ℕ
with_third o = dump o 0x20000048 (named o) (slot_bytes o (given first_write)) (slot_bytes o oldest) (slot_bytes o middle)

-- a run as long as the list takes its place
over_all : (vs s : List ℕ) → length vs ≡ length s → sets s 0 vs ≡ vs
over_all vs s long = sets-eq vs s 0 (omega arith) ∙ rw (zero-add, long, drop-length) (append-nil vs)

fresh : (o : Order) → fresh_bytes (whole_format o) 168 ≡ fresh_dump o
unfolding open_writing whole_header whole_format dump unused
fresh Big = refl
fresh Little = refl

format_passes : (o : Order) (s : List ℕ) → length s ≡ 168 → first_broken (formatting (whole_format o) s).rows ≡ Ok tt
unfolding width_to first_broken slot_size row2 row4 row5 row24 formatting fresh_header whole_format
format_passes o s e = rw e refl

formatted : (o : Order) (s : List ℕ) → length s ≡ 168 → whole_fresh o s ≡ fresh_dump o
unfolding slot_size formatting fresh_header whole_format
formatted o s e =
    sym (by_passing (formatting (whole_format o) s) s (format_passes o s e)).1
    ∙ rw e (over_all (fresh_bytes (whole_format o) 168) s (fresh_length (whole_format o) 168 ∙ sym e))
    ∙ fresh o

-- a call is accepted, and what it gives and leaves of a buffer
abbrev Did : (List ℕ → Change) → List ℕ → ℕ → List ℕ → Type 0
Did change s n t = (said (change s) ≡ Ok n) × (left (change s) s ≡ t)

record Steps (o : Order) : Type 0 where
  pumped : Did (registering pump (ascii "pump")) (fresh_dump o) 0 (with_pump o)
  first : Did (recording (given first_write)) (with_pump o) 0 (with_first o)
  second : Did (recording (given second_write)) (with_first o) 1 (with_second o)
  third : Did (recording (given third_write)) (with_second o) 2 (with_third o)
  fourth : Did (recording (given fourth_write)) (with_third o) 0 (whole_dump o)

steps : (o : Order) → Steps o
unfolding open_writing given first_write second_write third_write fourth_write whole_header pump oldest middle newest whole_dump dump unused named
steps Big = record { pumped = (refl, refl); first = (refl, refl); second = (refl, refl); third = (refl, refl); fourth = (refl, refl) }
steps Little = record { pumped = (refl, refl); first = (refl, refl); second = (refl, refl); third = (refl, refl); fourth = (refl, refl) }

-- formatting gives three slots
pub three_slots : (o : Order) (s : List ℕ) → length s ≡ 168 → said (formatting (whole_format o) s) ≡ Ok 3
unfolding slot_size formatting fresh_header whole_format
three_slots o s e = sym (by_passing (formatting (whole_format o) s) s (format_passes o s e)).0 ∙ rw e

-- what the third demand supposes of the calls
pub calls_typed : Each Typed whole_calls
unfolding pump first_write second_write third_write fourth_write
calls_typed = (omega arith, (given_words first_write refl, (given_words second_write refl, (given_words third_write refl, (given_words fourth_write refl, tt)))))

pub none_formats : (s : List ℕ) → NoneFormats recording whole_calls s
none_formats s = (tt, (tt, (tt, (tt, (tt, tt)))))

pub times_rise : NeverBack four_writes
unfolding first_write second_write third_write fourth_write
times_rise zero below = omega arith
times_rise (suc zero) below = omega arith
times_rise (suc (suc zero)) below = omega arith
times_rise (suc (suc (suc i))) below = absurd (omega arith)

pub calls_make : (o : Order) (s : List ℕ) → length s ≡ 168 → after recording whole_calls (whole_fresh o s) ≡ whole_dump o
calls_make o s long =
    let did = steps o in
    ap (after recording whole_calls) (formatted o s long)
    ∙ rw (did.pumped.1, did.first.1, did.second.1, did.third.1) did.fourth.1

pub writes_accepted : (o : Order) (s : List ℕ) → length s ≡ 168 → accepted_writes recording whole_calls (whole_fresh o s) ≡ four_writes
writes_accepted o s long =
    let did = steps o in
    ap (accepted_writes recording whole_calls) (formatted o s long)
    ∙ rw (did.pumped.1, did.first.0, did.first.1, did.second.0, did.second.1, did.third.0, did.third.1, did.fourth.0)
