-- The calls of document 01, with a name file or without, the call that writes a record of one, mending, and the check in pieces: whatever a contract allows is the
-- answer of which the demands speak.
use Rattle.std.specs.Prelude as std
use Rattle.std.specs.Prelude.{ℕ, List, ◌≡◌, length, None, option_copied, unwrap_or}
use denote.Triple.Clauses.{Ended, Lasts}
use Rattle.dump.proofs as dump
use Rattle.dump.specs.contracts as dump-contracts
use Rattle.events.specs.Events.{event_of}
use Rattle.events.specs.Listing.{Gave, line_at, line_rows, listing_rows, listing_text}
use Rattle.filer.proofs as filer
use Rattle.filer.specs.contracts as filer-contracts
use Rattle.finder.proofs as finder
use Rattle.finder.specs.contracts as finder-contracts
use Rattle.formatter.proofs as formatter
use Rattle.formatter.specs.contracts as formatter-contracts
use Rattle.listing.proofs as listing
use Rattle.listing.specs.contracts as listing-contracts
use Rattle.mender.proofs as mender
use Rattle.mender.specs.contracts as mender-contracts
use Rattle.mending.specs.Mending.{copy_of, mend_of, mending_rows}
use Rattle.mending.specs.declared.Mended as mended
use Rattle.naming.specs.Finding.{find_name_with}
use Rattle.pieces.proofs.Pieces as pieces
use Rattle.pieces.specs.contracts.Pieces as pieces-contracts
use Rattle.pieces.specs.Pieces.{begun, fed, finished}
use Rattle.recorder.proofs as recorder
use Rattle.recorder.specs.contracts as recorder-contracts
use Rattle.registrar.proofs as registrar
use Rattle.registrar.specs.contracts as registrar-contracts
use Rattle.rows.specs.Lent.{left_in}
use Rattle.rows.specs.Rows.{first_broken}
use Rattle.rows.specs.declared.Refusal.{Refusal}
use Rattle.trace.specs.Check.{check_of}
use Rattle.trace.specs.Layout.{header_of}
use Rattle.trace.specs.Names.{find_name, name_found, name_length, name_start}
use Rattle.trace.specs.Parts.{PartOf, whichever}
use Rattle.walk.proofs as walk
use Rattle.walk.specs.contracts as walk-contracts
use Rattle.writing.specs.Writing.{Change, filing, formatting, left, recording, registering, removing, said}
use Rattle.contracts.specs.Settled.{Answer, Arguments, Lives, Result, Telling}

-- a fact of the arguments a, of the result x, and of last, which has at its parameter's place what a buffer that is lent to be written holds at exit
abbrev pub Allows : (T : Ended) → Telling T → ((κs : Lives T) (a : Arguments T κs) (x : Result T κs) (last : Lasts T κs a) → Type 0) → Type 0
Allows T learnt only = (κs : Lives T) (a : Arguments T κs) (p : Answer T learnt κs a) → only κs a p.result p.left

-- what a call that writes gives and leaves
abbrev pub Changed : (List ℕ → Change) → List ℕ → List ℕ → std.Result ℕ Refusal → Type 0
Changed change old new x = (x ≡ said (change old)) × (new ≡ left (change old) old)

-- what mending gives, and leaves in the second buffer
abbrev pub Mended : List ℕ → List ℕ → List ℕ → std.Result mended.Mended Refusal → Type 0
Mended s old new x = (x ≡ mend_of s (length old)) × (new ≡ left_in old (first_broken (mending_rows s (header_of s) (length old))) (copy_of s (header_of s)))

pub record Calls : Type 0 where
  -- check(dump)
  pub check : Allows dump-contracts.check.ended dump.check.Reads.Learnt (λ κs a x last. x ≡ check_of a.0.now)
  -- find_name(dump, names, pointer), with a name file or without
  pub find_name : Allows finder-contracts.find_name.ended finder.find_name.Reads.Learnt (λ κs a x last.
      let s = a.0.now in let file = option_copied a.1.0 in let pointer = a.1.1.0 in
      (x ≡ find_name_with file s pointer) × (file ≡ None → x ≡ find_name s pointer))
  -- found_part(dump, names, found), name_part(dump, names, name): that part of whichever of the two it lies in and not a copy, empty where there is no name, and in
  -- a refusal
  pub found_part : Allows finder-contracts.found_part.ended finder.found_part.Reads.Learnt (λ κs a x last.
      let name = name_found a.1.1.0 in
      PartOf (whichever a.0 (unwrap_or a.1.0 a.0) name) x (name_start name) (name_length name))
  pub name_part : Allows finder-contracts.name_part.ended finder.name_part.Reads.Learnt (λ κs a x last.
      let name = a.1.1.0 in
      PartOf (whichever a.0 (unwrap_or a.1.0 a.0) name) x (name_start name) (name_length name))
  -- event(dump, names, position)
  pub event : Allows walk-contracts.event.ended walk.event.Reads.Learnt (λ κs a x last.
      let s = a.0.now in let file = option_copied a.1.0 in let position = a.1.1.0 in
      x ≡ event_of file s position)
  -- line(dump, names, reading, position, out)
  pub line : Allows listing-contracts.line.ended listing.line.Reads.Learnt (λ κs a x last.
      let s = a.0.now in let file = option_copied a.1.0 in let reading = a.1.1.0 in let position = a.1.1.1.0 in
      let old = a.1.1.1.1.0.now in let new = last.1.1.1.1.0 in
      Gave (line_rows file s (header_of s) reading position (length old)) (line_at file s (header_of s) reading position) old new x)
  -- listing(dump, names, reading, out)
  pub listing : Allows listing-contracts.listing.ended listing.listing.Reads.Learnt (λ κs a x last.
      let s = a.0.now in let file = option_copied a.1.0 in let reading = a.1.1.0 in let old = a.1.1.1.0.now in let new = last.1.1.1.0 in
      Gave (listing_rows file s (header_of s) reading (length old)) (listing_text file s (header_of s) reading) old new x)
  -- format(buffer, format)
  pub format : Allows formatter-contracts.format.ended formatter.format.Reads.Learnt (λ κs a x last.
      let old = a.0.now in let format = a.1.0 in let new = last.0 in
      Changed (formatting format) old new x)
  -- record(buffer, slot)
  pub «record» : Allows recorder-contracts.«record».ended recorder.«record».Reads.Learnt (λ κs a x last.
      let old = a.0.now in let slot = a.1.0 in let new = last.0 in
      Changed (recording slot) old new x)
  -- register(buffer, object, name)
  pub register : Allows registrar-contracts.register.ended registrar.register.Reads.Learnt (λ κs a x last.
      let old = a.0.now in let object = a.1.0 in let name = a.1.1.0.now in let new = last.0 in
      Changed (registering object name) old new x)
  -- remove(buffer, pointer)
  pub remove : Allows registrar-contracts.remove.ended registrar.remove.Reads.Learnt (λ κs a x last.
      let old = a.0.now in let pointer = a.1.0 in let new = last.0 in
      Changed (removing pointer) old new x)
  -- write_name(names, offset, subject, number, name)
  pub write_name : Allows filer-contracts.write_name.ended filer.write_name.Reads.Learnt (λ κs a x last.
      let old = a.0.now in let offset = a.1.0 in let subject = a.1.1.0 in let number = a.1.1.1.0 in let name = a.1.1.1.1.0.now in let new = last.0 in
      Changed (filing subject number name offset) old new x)
  -- mend(dump, copy)
  pub mend : Allows mender-contracts.mend.ended mender.mend.Reads.Learnt (λ κs a x last.
      let s = a.0.now in let old = a.1.0.now in let new = last.1.0 in
      Mended s old new x)
  -- Pieces::begin(), feed(self, piece), finish(self)
  pub begin : Allows pieces-contracts.begin.ended pieces.begin.Reads.Learnt (λ κs a x last. x ≡ begun)
  pub feed : Allows pieces-contracts.feed.ended pieces.feed.Reads.Learnt (λ κs a x last. x ≡ fed a.0 a.1.0.now)
  pub finish : Allows pieces-contracts.finish.ended pieces.finish.Reads.Learnt (λ κs a x last. x ≡ finished a.0)
