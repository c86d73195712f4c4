-- Every public function of the library asks nothing of its caller, and any two answers that its contract allows are equal.
-- Of a function, `ended` is its signature; `Asked` and `Learnt` are its contract as its proof hands it to callers.
use Rattle.std.specs.Prelude.{ℕ, List, ◌≡◌}
use Rattle.std.specs.Borrow.{Bor}
use Rattle.arguments.proofs as arguments
use Rattle.arguments.specs.contracts as arguments-contracts
use Rattle.console.proofs as console
use Rattle.console.specs.contracts as console-contracts
use Rattle.doubles.proofs as doubles
use Rattle.doubles.specs.contracts as doubles-contracts
use Rattle.dump.proofs as dump
use Rattle.dump.specs.contracts as dump-contracts
use Rattle.filer.proofs as filer
use Rattle.filer.specs.contracts as filer-contracts
use Rattle.finder.proofs as finder
use Rattle.finder.specs.contracts as finder-contracts
use Rattle.formatter.proofs as formatter
use Rattle.formatter.specs.contracts as formatter-contracts
use Rattle.header.proofs as header
use Rattle.header.specs.contracts as header-contracts
use Rattle.lines.proofs as lines
use Rattle.lines.specs.contracts as lines-contracts
use Rattle.listing.proofs as listing
use Rattle.listing.specs.contracts as listing-contracts
use Rattle.mender.proofs as mender
use Rattle.mender.specs.contracts as mender-contracts
use Rattle.namer.proofs as namer
use Rattle.namer.specs.contracts as namer-contracts
use Rattle.names.proofs as names
use Rattle.names.specs.contracts as names-contracts
use Rattle.numbers.proofs as numbers
use Rattle.numbers.specs.contracts as numbers-contracts
use Rattle.output.proofs as output
use Rattle.output.specs.contracts as output-contracts
use Rattle.pieces.proofs.Pieces as pieces
use Rattle.pieces.specs.contracts.Pieces as pieces-contracts
use Rattle.recorder.proofs as recorder
use Rattle.recorder.specs.contracts as recorder-contracts
use Rattle.registrar.proofs as registrar
use Rattle.registrar.specs.contracts as registrar-contracts
use Rattle.rows.proofs as rows
use Rattle.rows.specs.contracts as rows-contracts
use Rattle.text.specs.Output.{Fitted, Put, printed}
use Rattle.trace.specs.Parts.{PartOf}
use Rattle.walk.proofs as walk
use Rattle.walk.specs.contracts as walk-contracts
use Rattle.words.proofs as words
use Rattle.words.specs.contracts as words-contracts
use Rattle.contracts.specs.Settled.{Settled, unnamed}

pub record Words : Type 0 where
  pub byte : Settled words-contracts.byte.ended words.byte.Reads.Asked words.byte.Reads.Learnt
  pub in_order : Settled words-contracts.in_order.ended words.in_order.Reads.Asked words.in_order.Reads.Learnt
  pub half : Settled words-contracts.half.ended words.half.Reads.Asked words.half.Reads.Learnt
  pub word : Settled words-contracts.word.ended words.word.Reads.Asked words.word.Reads.Learnt
  pub put_byte : Settled words-contracts.put_byte.ended words.put_byte.Reads.Asked words.put_byte.Reads.Learnt
  pub put_half : Settled words-contracts.put_half.ended words.put_half.Reads.Asked words.put_half.Reads.Learnt
  pub put_word : Settled words-contracts.put_word.ended words.put_word.Reads.Asked words.put_word.Reads.Learnt
  pub put_padded : Settled words-contracts.put_padded.ended words.put_padded.Reads.Asked words.put_padded.Reads.Learnt
  pub offset_from : Settled words-contracts.offset_from.ended words.offset_from.Reads.Asked words.offset_from.Reads.Learnt
  pub pointer_to : Settled words-contracts.pointer_to.ended words.pointer_to.Reads.Asked words.pointer_to.Reads.Learnt
  pub gap : Settled words-contracts.gap.ended words.gap.Reads.Asked words.gap.Reads.Learnt
  pub mask_width : Settled words-contracts.mask_width.ended words.mask_width.Reads.Asked words.mask_width.Reads.Learnt

pub record Rows : Type 0 where
  pub row : Settled rows-contracts.row.ended rows.row.Reads.Asked rows.row.Reads.Learnt
  pub either : Settled rows-contracts.either.ended rows.either.Reads.Asked rows.either.Reads.Learnt
  pub both : Settled rows-contracts.both.ended rows.both.Reads.Asked rows.both.Reads.Learnt
  pub above : Settled rows-contracts.above.ended rows.above.Reads.Asked rows.above.Reads.Learnt
  pub least : Settled rows-contracts.least.ended rows.least.Reads.Asked rows.least.Reads.Learnt

pub record Header : Type 0 where
  pub header_of : Settled header-contracts.header_of.ended header.header_of.Reads.Asked header.header_of.Reads.Learnt
  pub slot_size : Settled header-contracts.slot_size.ended header.slot_size.Reads.Asked header.slot_size.Reads.Learnt
  pub geometry_of : Settled header-contracts.geometry_of.ended header.geometry_of.Reads.Asked header.geometry_of.Reads.Learnt
  pub row2 : Settled header-contracts.row2.ended header.row2.Reads.Asked header.row2.Reads.Learnt
  pub row4 : Settled header-contracts.row4.ended header.row4.Reads.Asked header.row4.Reads.Learnt
  pub row5 : Settled header-contracts.row5.ended header.row5.Reads.Asked header.row5.Reads.Learnt
  pub has_bad_current : Settled header-contracts.has_bad_current.ended header.has_bad_current.Reads.Asked header.has_bad_current.Reads.Learnt
  pub layout_verdict : Settled header-contracts.layout_verdict.ended header.layout_verdict.Reads.Asked header.layout_verdict.Reads.Learnt
  pub header_verdict : Settled header-contracts.header_verdict.ended header.header_verdict.Reads.Asked header.header_verdict.Reads.Learnt

pub record Dump : Type 0 where
  pub check : Settled dump-contracts.check.ended dump.check.Reads.Asked dump.check.Reads.Learnt
  pub registry_verdict : Settled dump-contracts.registry_verdict.ended dump.registry_verdict.Reads.Asked dump.registry_verdict.Reads.Learnt
  pub is_full : Settled dump-contracts.is_full.ended dump.is_full.Reads.Asked dump.is_full.Reads.Learnt
  pub allowed_type : Settled dump-contracts.allowed_type.ended dump.allowed_type.Reads.Asked dump.allowed_type.Reads.Learnt
  pub is_bad_type : Settled dump-contracts.is_bad_type.ended dump.is_bad_type.Reads.Asked dump.is_bad_type.Reads.Learnt
  pub is_out_of_turn : Settled dump-contracts.is_out_of_turn.ended dump.is_out_of_turn.Reads.Asked dump.is_out_of_turn.Reads.Learnt
  pub is_thread : Settled dump-contracts.is_thread.ended dump.is_thread.Reads.Asked dump.is_thread.Reads.Learnt
  pub kind_at : Settled dump-contracts.kind_at.ended dump.kind_at.Reads.Asked dump.kind_at.Reads.Learnt
  pub lowest_entry : Settled dump-contracts.lowest_entry.ended dump.lowest_entry.Reads.Asked dump.lowest_entry.Reads.Learnt

pub record Doubles : Type 0 where
  pub double_of : Settled doubles-contracts.double_of.ended doubles.double_of.Reads.Asked doubles.double_of.Reads.Learnt
  pub through_double : Settled doubles-contracts.through_double.ended doubles.through_double.Reads.Asked doubles.through_double.Reads.Learnt

pub record Output : Type 0 where
  pub put_bytes : Settled output-contracts.put_bytes.ended output.put_bytes.Reads.Asked output.put_bytes.Reads.Learnt
  pub sum : Settled output-contracts.sum.ended output.sum.Reads.Asked output.sum.Reads.Learnt
  pub if_room : Settled output-contracts.if_room.ended output.if_room.Reads.Asked output.if_room.Reads.Learnt

pub record Numbers : Type 0 where
  pub pairs : Settled numbers-contracts.pairs.ended numbers.pairs.Reads.Asked numbers.pairs.Reads.Learnt
  pub is_bare : Settled numbers-contracts.is_bare.ended numbers.is_bare.Reads.Asked numbers.is_bare.Reads.Learnt
  pub number_length : Settled numbers-contracts.number_length.ended numbers.number_length.Reads.Asked numbers.number_length.Reads.Learnt
  pub put_number : Settled numbers-contracts.put_number.ended numbers.put_number.Reads.Asked numbers.put_number.Reads.Learnt
  pub fit_number : Settled numbers-contracts.fit_number.ended numbers.fit_number.Reads.Asked numbers.fit_number.Reads.Learnt
  pub fit : Settled numbers-contracts.NumberPrinted.fit.ended numbers.NumberPrinted.fit.Reads.Asked numbers.NumberPrinted.fit.Reads.Learnt

pub record Names : Type 0 where
  pub name_length : Settled names-contracts.name_length.ended names.name_length.Reads.Asked names.name_length.Reads.Learnt
  pub put_name : Settled names-contracts.put_name.ended names.put_name.Reads.Asked names.put_name.Reads.Learnt
  pub fit_name : Settled names-contracts.fit_name.ended names.fit_name.Reads.Asked names.fit_name.Reads.Learnt
  pub fit : Settled names-contracts.NamePrinted.fit.ended names.NamePrinted.fit.Reads.Asked names.NamePrinted.fit.Reads.Learnt

pub record Lines : Type 0 where
  pub line_length : Settled lines-contracts.line_length.ended lines.line_length.Reads.Asked lines.line_length.Reads.Learnt
  pub put_line : Settled lines-contracts.put_line.ended lines.put_line.Reads.Asked lines.put_line.Reads.Learnt
  pub fit_line : Settled lines-contracts.fit_line.ended lines.fit_line.Reads.Asked lines.fit_line.Reads.Learnt

pub record Namer : Type 0 where
  pub file_verdict : Settled namer-contracts.file_verdict.ended namer.file_verdict.Reads.Asked namer.file_verdict.Reads.Learnt
  pub name_in : Settled namer-contracts.name_in.ended namer.name_in.Reads.Asked namer.name_in.Reads.Learnt
  pub name_at : Settled namer-contracts.name_at.ended namer.name_at.Reads.Asked namer.name_at.Reads.Learnt
  pub first_record : Settled namer-contracts.first_record.ended namer.first_record.Reads.Asked namer.first_record.Reads.Learnt
  pub kind_of : Settled namer-contracts.kind_of.ended namer.kind_of.Reads.Asked namer.kind_of.Reads.Learnt

pub record Finder : Type 0 where
  pub find_name : Settled finder-contracts.find_name.ended finder.find_name.Reads.Asked finder.find_name.Reads.Learnt
  pub found_part : Settled finder-contracts.found_part.ended finder.found_part.Reads.Asked finder.found_part.Reads.Learnt
  pub name_part : Settled finder-contracts.name_part.ended finder.name_part.Reads.Asked finder.name_part.Reads.Learnt
  pub name_with : Settled finder-contracts.name_with.ended finder.name_with.Reads.Asked finder.name_with.Reads.Learnt
  pub name_of : Settled finder-contracts.name_of.ended finder.name_of.Reads.Asked finder.name_of.Reads.Learnt
  pub entry_name : Settled finder-contracts.entry_name.ended finder.entry_name.Reads.Asked finder.entry_name.Reads.Learnt
  pub name_if_entry : Settled finder-contracts.name_if_entry.ended finder.name_if_entry.Reads.Asked finder.name_if_entry.Reads.Learnt
  pub length_to_zero : Settled finder-contracts.length_to_zero.ended finder.length_to_zero.Reads.Asked finder.length_to_zero.Reads.Learnt

pub record Walk : Type 0 where
  pub event : Settled walk-contracts.event.ended walk.event.Reads.Asked walk.event.Reads.Learnt
  pub event_at : Settled walk-contracts.event_at.ended walk.event_at.Reads.Asked walk.event_at.Reads.Learnt
  pub oldest : Settled walk-contracts.oldest.ended walk.oldest.Reads.Asked walk.oldest.Reads.Learnt
  pub next : Settled walk-contracts.next.ended walk.next.Reads.Asked walk.next.Reads.Learnt
  pub slot_at : Settled walk-contracts.slot_at.ended walk.slot_at.Reads.Asked walk.slot_at.Reads.Learnt
  pub sought_by : Settled walk-contracts.sought_by.ended walk.sought_by.Reads.Asked walk.sought_by.Reads.Learnt
  pub event_with : Settled walk-contracts.event_with.ended walk.event_with.Reads.Asked walk.event_with.Reads.Learnt

pub record Listing : Type 0 where
  pub line : Settled listing-contracts.line.ended listing.line.Reads.Asked listing.line.Reads.Learnt
  pub listing : Settled listing-contracts.listing.ended listing.listing.Reads.Asked listing.listing.Reads.Learnt

pub record Recorder : Type 0 where
  pub «record» : Settled recorder-contracts.«record».ended recorder.«record».Reads.Asked recorder.«record».Reads.Learnt

pub record Registrar : Type 0 where
  pub register : Settled registrar-contracts.register.ended registrar.register.Reads.Asked registrar.register.Reads.Learnt
  pub remove : Settled registrar-contracts.remove.ended registrar.remove.Reads.Asked registrar.remove.Reads.Learnt

pub record Formatter : Type 0 where
  pub format : Settled formatter-contracts.format.ended formatter.format.Reads.Asked formatter.format.Reads.Learnt

pub record Filer : Type 0 where
  pub write_name : Settled filer-contracts.write_name.ended filer.write_name.Reads.Asked filer.write_name.Reads.Learnt

pub record Mender : Type 0 where
  pub mend : Settled mender-contracts.mend.ended mender.mend.Reads.Asked mender.mend.Reads.Learnt

pub record Pieces : Type 0 where
  pub begin : Settled pieces-contracts.begin.ended pieces.begin.Reads.Asked pieces.begin.Reads.Learnt
  pub feed : Settled pieces-contracts.feed.ended pieces.feed.Reads.Asked pieces.feed.Reads.Learnt
  pub finish : Settled pieces-contracts.finish.ended pieces.finish.Reads.Asked pieces.finish.Reads.Learnt

pub record Arguments : Type 0 where
  pub number_in : Settled arguments-contracts.number_in.ended arguments.number_in.Reads.Asked arguments.number_in.Reads.Learnt

-- what the programs share, but for the functions that print, open or read a file, and the path of bytes, whose error is the library's: what a program prints is tested against stored text
pub record Console : Type 0 where
  pub word_at : Settled console-contracts.word_at.ended console.word_at.Reads.Asked console.word_at.Reads.Learnt
  pub number_at : Settled console-contracts.number_at.ended console.number_at.Reads.Asked console.number_at.Reads.Learnt
  pub count_changed : Settled console-contracts.count_changed.ended console.count_changed.Reads.Asked console.count_changed.Reads.Learnt

-- every crate with public functions
pub record Library : Type 0 where
  pub words : Words
  pub rows : Rows
  pub header : Header
  pub dump : Dump
  pub doubles : Doubles
  pub output : Output
  pub numbers : Numbers
  pub names : Names
  pub lines : Lines
  pub namer : Namer
  pub finder : Finder
  pub walk : Walk
  pub listing : Listing
  pub recorder : Recorder
  pub registrar : Registrar
  pub formatter : Formatter
  pub filer : Filer
  pub mender : Mender
  pub pieces : Pieces
  pub arguments : Arguments
  pub console : Console

-- what is promised of all that is printed: whatever the type, two answers that the clauses of `fit` and of `put` allow are equal
pub record PrintedOnce : Type 0 where
  pub fit : (text old new other : List ℕ) (n m : ℕ) → Fitted text old new n → Fitted text old other m → (n ≡ m) × (new ≡ other)
  pub put : (text old new other : List ℕ) (n m : ℕ) → Put (printed text old) old new n → Put (printed text old) old other m → (n ≡ m) × (new ≡ other)

-- no exception is left: a `&` has no ghost name, so a part that is handed back is its block, its offset and its bytes
abbrev pub NameOpen : Type 0
NameOpen = (whole part : Bor (List ℕ)) (at size : ℕ) → PartOf whole part at size → PartOf whole (unnamed part) at size × (unnamed part ≡ part)
