-- A name file's rows stand between those of the dump and the reading and those of a position and the room: so where the first pass they decide, and where they pass themselves the others do.
use Rattle.std.specs.Prelude.{Err, Some}
use Prim.Native.Nat.{ℕ}
use mathlib.Core.List.{List, ◌++◌}
use mathlib.Core.Path.{◌≡◌, refl, sym, ◌∙◌}
use Rattle.events.specs.Events.{event_of}
use Rattle.events.specs.Listing.{reading_rows}
use Rattle.events.specs.declared.Reading.{Reading}
use Rattle.naming.specs.Finding.{find_name_with}
use Rattle.naming.specs.Records.{file_rows}
use Rattle.rows.proofs.Rows.{then_kept, then_refused, then_rest, then_same}
use Rattle.rows.specs.Rows.{Accepted, Row, first_broken}
use Rattle.rows.specs.declared.Refusal.{Refusal}
use Rattle.trace.specs.Layout.{header_of}
use Rattle.trace.specs.Slots.{event_count}
use Rattle.trace.specs.Table.{dump_rows}
use Rattle.demands.proofs.EveryCall.{gave_refused}
use Rattle.demands.specs.NameFiles.{PassedByFile, RefusedByFile}

module _ (f s : List ℕ) where
  module _ (x : Refusal) (refused : first_broken (file_rows (Some f)) ≡ Err x) where
    behind : (rows : List Row) → Accepted rows → first_broken (rows ++ file_rows (Some f)) ≡ Err x
    behind rows passed = sym (then_rest rows (file_rows (Some f)) passed) ∙ refused

    between : (rows more : List Row) → Accepted rows → first_broken (rows ++ file_rows (Some f) ++ more) ≡ Err x
    between rows more passed = sym (then_refused (rows ++ file_rows (Some f)) more x (behind rows passed))

    read : (r : Reading) (more : List Row) → Accepted (dump_rows s (header_of s)) → Accepted (reading_rows r (event_count s (header_of s)))
        → first_broken (dump_rows s (header_of s) ++ (reading_rows r (event_count s (header_of s)) ++ file_rows (Some f) ++ more)) ≡ Err x
    read r more sound terms = sym (then_rest (dump_rows s (header_of s)) _ sound) ∙ between (reading_rows r (event_count s (header_of s))) more terms

    pub refused_by_file : RefusedByFile f s x
    unfolding event_of find_name_with
    refused_by_file = record {
      name = λ sound pointer. rw (behind _ sound);
      event = λ sound position. rw (between (dump_rows s (header_of s)) _ sound);
      listing = λ sound r terms old new answer. gave_refused _ _ old new answer x (read r _ sound terms);
      line = λ sound r terms position old new answer. gave_refused _ _ old new answer x (read r _ sound terms);
    }

  module _ (accepted : Accepted (file_rows (Some f))) where
    aside : (rows more : List Row) → first_broken (rows ++ file_rows (Some f) ++ more) ≡ first_broken (rows ++ more)
    aside rows more = then_same (rows ++ file_rows (Some f)) rows (then_kept rows (file_rows (Some f)) accepted) refl

    pub passed_by_file : PassedByFile f s
    passed_by_file = record {
      name = then_kept _ (file_rows (Some f)) accepted;
      event = λ position. aside (dump_rows s (header_of s)) _;
      listing = λ r room. aside (dump_rows s (header_of s) ++ reading_rows r (event_count s (header_of s))) _;
      line = λ r position room. aside (dump_rows s (header_of s) ++ reading_rows r (event_count s (header_of s))) _;
    }
