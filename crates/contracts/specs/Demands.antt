-- Of the functions themselves, whatever answers their contracts allow: the first demand of the nine calls of document 01, with a name file or without, of the call
-- that writes a record of one, of mending and of the finish of a check in pieces; and the last clause of the second demand of whatever prints.
use Rattle.std.specs.Prelude.{ℕ, ◌^◌, ◌≤◌, ◌<◌, [], ◌∷◌, map, ◌≡◌, length, take, None, Ok, Some, option_copied}
use Rattle.demands.specs.JsonNumbers.{json_numbers, listed_numbers, numbers_of}
use Rattle.demands.specs.Refusals.{Refuses, RefusesAndKeeps}
use Rattle.dump.proofs as dump
use Rattle.dump.specs.contracts as dump-contracts
use Rattle.events.specs.Events.{event_at, event_rows, shown_told}
use Rattle.events.specs.Listing.{fields, line_rows, listing_rows}
use Rattle.filer.proofs as filer
use Rattle.filer.specs.contracts as filer-contracts
use Rattle.finder.proofs as finder
use Rattle.finder.specs.contracts as finder-contracts
use Rattle.formatter.proofs as formatter
use Rattle.formatter.specs.contracts as formatter-contracts
use Rattle.lepsaino_c.proofs as interface
use Rattle.lepsaino_c.specs.contracts as interface-contracts
use Rattle.lines.proofs as lines
use Rattle.lines.specs.contracts as lines-contracts
use Rattle.listing.proofs as listing
use Rattle.listing.specs.contracts as listing-contracts
use Rattle.mender.proofs as mender
use Rattle.mender.specs.contracts as mender-contracts
use Rattle.mending.specs.Mending.{mended_told, mending_rows}
use Rattle.names.proofs as names
use Rattle.names.specs.contracts as names-contracts
use Rattle.naming.specs.Finding.{finding_rows}
use Rattle.numbers.proofs as numbers
use Rattle.numbers.specs.contracts as numbers-contracts
use Rattle.numbers.specs.Pairs.{HasPairs}
use Rattle.pieces.proofs.Pieces as pieces
use Rattle.pieces.specs.contracts.Pieces as pieces-contracts
use Rattle.pieces.specs.Pieces.{finish_rows}
use Rattle.recorder.proofs as recorder
use Rattle.recorder.specs.contracts as recorder-contracts
use Rattle.registrar.proofs as registrar
use Rattle.registrar.specs.contracts as registrar-contracts
use Rattle.rows.specs.Told.{number_told}
use Rattle.text.specs.Numbers.{digits, is_bare}
use Rattle.trace.specs.Check.{checked_told}
use Rattle.trace.specs.Layout.{header_of}
use Rattle.trace.specs.Names.{found_told}
use Rattle.trace.specs.Ring.{keep}
use Rattle.trace.specs.Table.{dump_rows}
use Rattle.walk.proofs as walk
use Rattle.walk.specs.contracts as walk-contracts
use Rattle.writing.specs.Writing.{filing, formatting, recording, registering, removing}
use Rattle.contracts.specs.Calls.{Allows}

-- refused exactly where a row is broken, with the number and place of the first such in the call's order, and then every lent byte is as before
pub record CallsRefuse : Type 0 where
  -- check(dump)
  pub check : Allows dump-contracts.check.ended dump.check.Reads.Learnt (λ κs a x last.
      let s = a.0.now in
      Refuses (dump_rows s (header_of s)) (checked_told x))
  -- find_name(dump, names, pointer)
  pub find_name : Allows finder-contracts.find_name.ended finder.find_name.Reads.Learnt (λ κs a x last.
      let s = a.0.now in let file = option_copied a.1.0 in
      Refuses (finding_rows file s (header_of s)) (found_told x))
  -- event(dump, names, position)
  pub event : Allows walk-contracts.event.ended walk.event.Reads.Learnt (λ κs a x last.
      let s = a.0.now in let file = option_copied a.1.0 in let position = a.1.1.0 in
      Refuses (event_rows file s (header_of s) position) (shown_told x))
  -- line(dump, names, reading, position, out)
  pub line : Allows listing-contracts.line.ended listing.line.Reads.Learnt (λ κs a x last.
      let s = a.0.now in let file = option_copied a.1.0 in let reading = a.1.1.0 in let position = a.1.1.1.0 in
      let old = a.1.1.1.1.0.now in let new = last.1.1.1.1.0 in
      RefusesAndKeeps (line_rows file s (header_of s) reading position (length old)) old new (number_told x))
  -- listing(dump, names, reading, out)
  pub listing : Allows listing-contracts.listing.ended listing.listing.Reads.Learnt (λ κs a x last.
      let s = a.0.now in let file = option_copied a.1.0 in let reading = a.1.1.0 in let old = a.1.1.1.0.now in let new = last.1.1.1.0 in
      RefusesAndKeeps (listing_rows file s (header_of s) reading (length old)) old new (number_told x))
  -- format(buffer, format)
  pub format : Allows formatter-contracts.format.ended formatter.format.Reads.Learnt (λ κs a x last.
      let old = a.0.now in let format = a.1.0 in let new = last.0 in
      RefusesAndKeeps (formatting format old).rows old new (number_told x))
  -- record(buffer, slot)
  pub «record» : Allows recorder-contracts.«record».ended recorder.«record».Reads.Learnt (λ κs a x last.
      let old = a.0.now in let slot = a.1.0 in let new = last.0 in
      RefusesAndKeeps (recording slot old).rows old new (number_told x))
  -- register(buffer, object, name)
  pub register : Allows registrar-contracts.register.ended registrar.register.Reads.Learnt (λ κs a x last.
      let old = a.0.now in let object = a.1.0 in let name = a.1.1.0.now in let new = last.0 in
      RefusesAndKeeps (registering object name old).rows old new (number_told x))
  -- remove(buffer, pointer)
  pub remove : Allows registrar-contracts.remove.ended registrar.remove.Reads.Learnt (λ κs a x last.
      let old = a.0.now in let pointer = a.1.0 in let new = last.0 in
      RefusesAndKeeps (removing pointer old).rows old new (number_told x))
  -- write_name(names, offset, subject, number, name)
  pub write_name : Allows filer-contracts.write_name.ended filer.write_name.Reads.Learnt (λ κs a x last.
      let old = a.0.now in let offset = a.1.0 in let subject = a.1.1.0 in let number = a.1.1.1.0 in let name = a.1.1.1.1.0.now in let new = last.0 in
      RefusesAndKeeps (filing subject number name offset old).rows old new (number_told x))
  -- mend(dump, copy)
  pub mend : Allows mender-contracts.mend.ended mender.mend.Reads.Learnt (λ κs a x last.
      let s = a.0.now in let old = a.1.0.now in let new = last.1.0 in
      RefusesAndKeeps (mending_rows s (header_of s) (length old)) old new (mended_told x))
  -- finish(self), by what the state shows; that this is the whole check of the bytes fed, `checks_in_pieces` says
  pub finish : Allows pieces-contracts.finish.ended pieces.finish.Reads.Learnt (λ κs a x last. Refuses (finish_rows a.0) (checked_told x))

-- of the second demand its last clause: in what leaves, the JSON numbers are the digits of the numbers below two to the fifty-third, in their order.
-- (The rest of it is of the definitions, and `calls` says that these are what the contracts allow.)
pub record NumbersLeave : Type 0 where
  pub line : Allows listing-contracts.line.ended listing.line.Reads.Learnt (λ κs a x last.
      let s = a.0.now in let file = option_copied a.1.0 in let reading = a.1.1.0 in let position = a.1.1.1.0 in let new = last.1.1.1.1.0 in
      (n : ℕ) → x ≡ Ok n → json_numbers (take n new) ≡ map digits (keep is_bare (numbers_of (fields reading position (event_at file s (header_of s) position)))))
  pub listing : Allows listing-contracts.listing.ended listing.listing.Reads.Learnt (λ κs a x last.
      let s = a.0.now in let file = option_copied a.1.0 in let reading = a.1.1.0 in let new = last.1.1.1.0 in
      (n : ℕ) → x ≡ Ok n → json_numbers (take n new) ≡ map digits (keep is_bare (listed_numbers file s (header_of s) reading)))
  -- put_line(out, line, title, name), put_number(out, number), put_name(out, name): where something was written
  pub put_line : Allows lines-contracts.put_line.ended lines.put_line.Reads.Learnt (λ κs a x last.
      let line = a.1.0 in let new = last.0 in
      (x ≡ 0 → ⊥) → json_numbers (take x new) ≡ map digits (keep is_bare (numbers_of line)))
  pub put_number : Allows numbers-contracts.put_number.ended numbers.put_number.Reads.Learnt (λ κs a x last.
      let number = a.1.0 in let new = last.0 in
      (x ≡ 0 → ⊥) → json_numbers (take x new) ≡ map digits (keep is_bare (number ∷ [])))
  pub put_name : Allows names-contracts.put_name.ended names.put_name.Reads.Learnt (λ κs a x last.
      let new = last.0 in
      (x ≡ 0 → ⊥) → json_numbers (take x new) ≡ [])
  -- fit_line, fit_number and fit_name take the same, and the first two a table. It has the two digits of each number below a hundred, as ours has, and the
  -- length that is answered is no more than the output's, which is below two to the 63, as that of every slice is.
  pub fit_line : Allows lines-contracts.fit_line.ended lines.fit_line.Reads.Learnt (λ κs a x last.
      let line = a.1.0 in let table = a.1.1.1.1.0.now in let new = last.0 in
      HasPairs table → x ≤ length new → length new < 2 ^ 63 → json_numbers (take x new) ≡ map digits (keep is_bare (numbers_of line)))
  pub fit_number : Allows numbers-contracts.fit_number.ended numbers.fit_number.Reads.Learnt (λ κs a x last.
      let number = a.1.0 in let table = a.1.1.0.now in let new = last.0 in
      HasPairs table → x ≤ length new → length new < 2 ^ 63 → json_numbers (take x new) ≡ map digits (keep is_bare (number ∷ [])))
  pub fit_name : Allows names-contracts.fit_name.ended names.fit_name.Reads.Learnt (λ κs a x last.
      let new = last.0 in
      x ≤ length new → length new < 2 ^ 63 → json_numbers (take x new) ≡ [])
  -- the calls for C that print
  pub lepsaino_line : Allows interface-contracts.lepsaino_line.ended interface.lepsaino_line.Reads.Learnt (λ κs a x last.
      let s = a.0.now in let reading = a.1.0 in let position = a.1.1.0 in let new = last.1.1.1.0 in
      x.refusal ≡ 0 → json_numbers (take x.value new) ≡ map digits (keep is_bare (numbers_of (fields reading position (event_at None s (header_of s) position)))))
  pub lepsaino_line_with_names : Allows interface-contracts.lepsaino_line_with_names.ended interface.lepsaino_line_with_names.Reads.Learnt (λ κs a x last.
      let s = a.0.now in let reading = a.1.0 in let position = a.1.1.0 in let file = Some a.1.1.1.0.now in let new = last.1.1.1.1.0 in
      x.refusal ≡ 0 → json_numbers (take x.value new) ≡ map digits (keep is_bare (numbers_of (fields reading position (event_at file s (header_of s) position)))))
  pub lepsaino_listing : Allows interface-contracts.lepsaino_listing.ended interface.lepsaino_listing.Reads.Learnt (λ κs a x last.
      let s = a.0.now in let reading = a.1.0 in let new = last.1.1.0 in
      x.refusal ≡ 0 → json_numbers (take x.value new) ≡ map digits (keep is_bare (listed_numbers None s (header_of s) reading)))
  pub lepsaino_listing_with_names : Allows interface-contracts.lepsaino_listing_with_names.ended interface.lepsaino_listing_with_names.Reads.Learnt (λ κs a x last.
      let s = a.0.now in let reading = a.1.0 in let file = Some a.1.1.0.now in let new = last.1.1.1.0 in
      x.refusal ≡ 0 → json_numbers (take x.value new) ≡ map digits (keep is_bare (listed_numbers file s (header_of s) reading)))
  pub lepsaino_number : Allows interface-contracts.lepsaino_number.ended interface.lepsaino_number.Reads.Learnt (λ κs a x last.
      let number = a.1.0 in let new = last.0 in
      (x ≡ 0 → ⊥) → json_numbers (take x new) ≡ map digits (keep is_bare (number ∷ [])))
