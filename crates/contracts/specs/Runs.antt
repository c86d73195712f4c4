-- The third demand of the functions themselves: whatever answers their contracts allow, from formatting to the listing.
use Rattle.std.specs.Prelude.{ℕ, ◌^◌, ◌≤◌, ◌<◌, List, [], ◌∷◌, ◌++◌, ◌≡◌, drop, length, Err, None, Ok, option_copied}
use Rattle.demands.specs.Demands.{Shows}
use Rattle.demands.specs.History.{Call, Read, Typed, Write, check, event, find, format, given, if_accepted, last_of, line, list, read, register, remove, write}
use Rattle.demands.specs.Shown.{ReadingAccepted, lines_of}
use Rattle.dump.proofs as dump
use Rattle.dump.specs.contracts as dump-contracts
use Rattle.events.specs.declared.Reading.{Reading}
use Rattle.finder.proofs as finder
use Rattle.finder.specs.contracts as finder-contracts
use Rattle.formatter.proofs as formatter
use Rattle.formatter.specs.contracts as formatter-contracts
use Rattle.listing.proofs as listing
use Rattle.listing.specs.contracts as listing-contracts
use Rattle.naming.specs.Records.{file_rows}
use Rattle.recorder.proofs as recorder
use Rattle.recorder.specs.contracts as recorder-contracts
use Rattle.registrar.proofs as registrar
use Rattle.registrar.specs.contracts as registrar-contracts
use Rattle.rows.specs.Rows.{Accepted}
use Rattle.rows.specs.declared.Refusal.{Refusal}
use Rattle.walk.proofs as walk
use Rattle.walk.specs.contracts as walk-contracts
use Rattle.words.specs.Each.{Each}
use Rattle.writing.specs.declared.Format.{Format}
use Rattle.writing.specs.declared.Object.{Object}
use Rattle.contracts.specs.Settled.{Answer, Arguments, Lives}

-- a call that reads a buffer s, with a name file or without, and an answer that its contract allows
pub data ReadAnswered (s : List ℕ) : Read → Type 0 where
  -- check(dump)
  checked : (κs : Lives dump-contracts.check.ended) (a : Arguments dump-contracts.check.ended κs) (p : Answer dump-contracts.check.ended dump.check.Reads.Learnt κs a)
      → a.0.now ≡ s → ReadAnswered s check
  -- find_name(dump, names, pointer)
  found : {pointer : ℕ} (κs : Lives finder-contracts.find_name.ended) (a : Arguments finder-contracts.find_name.ended κs)
      (p : Answer finder-contracts.find_name.ended finder.find_name.Reads.Learnt κs a)
      → a.0.now ≡ s → a.1.1.0 ≡ pointer → ReadAnswered s (find pointer)
  -- event(dump, names, position)
  shown : {position : ℕ} (κs : Lives walk-contracts.event.ended) (a : Arguments walk-contracts.event.ended κs) (p : Answer walk-contracts.event.ended walk.event.Reads.Learnt κs a)
      → a.0.now ≡ s → a.1.1.0 ≡ position → ReadAnswered s (event position)
  -- line(dump, names, reading, position, out)
  printed : {reading : Reading} {position : ℕ} {out : List ℕ} (κs : Lives listing-contracts.line.ended) (a : Arguments listing-contracts.line.ended κs)
      (p : Answer listing-contracts.line.ended listing.line.Reads.Learnt κs a)
      → a.0.now ≡ s → a.1.1.0 ≡ reading → a.1.1.1.0 ≡ position → a.1.1.1.1.0.now ≡ out → ReadAnswered s (line reading position out)
  -- listing(dump, names, reading, out)
  listed : {reading : Reading} {out : List ℕ} (κs : Lives listing-contracts.listing.ended) (a : Arguments listing-contracts.listing.ended κs)
      (p : Answer listing-contracts.listing.ended listing.listing.Reads.Learnt κs a)
      → a.0.now ≡ s → a.1.1.0 ≡ reading → a.1.1.1.0.now ≡ out → ReadAnswered s (list reading out)

-- a call on a buffer s and an answer that its contract allows, the writes accepted by it, and the buffer that it leaves
pub data Answered (s : List ℕ) : Call → List Write → List ℕ → Type 0 where
  -- record(buffer, slot)
  recorded : {w : Write} (κs : Lives recorder-contracts.«record».ended) (a : Arguments recorder-contracts.«record».ended κs)
      (p : Answer recorder-contracts.«record».ended recorder.«record».Reads.Learnt κs a)
      → a.0.now ≡ s → a.1.0 ≡ given w → Answered s (write w) (if_accepted p.result w) p.left.0
  -- register(buffer, object, name)
  registered : {object : Object} {name : List ℕ} (κs : Lives registrar-contracts.register.ended) (a : Arguments registrar-contracts.register.ended κs)
      (p : Answer registrar-contracts.register.ended registrar.register.Reads.Learnt κs a)
      → a.0.now ≡ s → a.1.0 ≡ object → a.1.1.0.now ≡ name → Answered s (register object name) [] p.left.0
  -- remove(buffer, pointer)
  removed : {pointer : ℕ} (κs : Lives registrar-contracts.remove.ended) (a : Arguments registrar-contracts.remove.ended κs)
      (p : Answer registrar-contracts.remove.ended registrar.remove.Reads.Learnt κs a)
      → a.0.now ≡ s → a.1.0 ≡ pointer → Answered s (remove pointer) [] p.left.0
  -- format(buffer, format), refused
  unformatted : {f : Format} {fault : Refusal} (κs : Lives formatter-contracts.format.ended) (a : Arguments formatter-contracts.format.ended κs)
      (p : Answer formatter-contracts.format.ended formatter.format.Reads.Learnt κs a)
      → a.0.now ≡ s → a.1.0 ≡ f → p.result ≡ Err fault → Answered s (format f) [] p.left.0
  -- a call that reads: it leaves the buffer as it is, which the logic takes for granted of what is lent to be read
  lent : {q : Read} → ReadAnswered s q → Answered s (read q) [] s

-- calls one after another on a buffer, the writes among them that were accepted, and the buffer that they leave
pub data Ran : List ℕ → List Call → List Write → List ℕ → Type 0 where
  none : {s : List ℕ} → Ran s [] [] s
  next : {s t u : List ℕ} {c : Call} {cs : List Call} {ws more : List Write} → Answered s c ws t → Ran t cs more u → Ran s (c ∷ cs) (ws ++ more) u

-- listing(dump, names, reading, out) of a buffer t, with a name file or without: the lines of writes, where rate, unit, serial, the name file and room are accepted
abbrev pub Lists : List Write → List ℕ → Type 0
Lists ws t =
    (κs : Lives listing-contracts.listing.ended) (a : Arguments listing-contracts.listing.ended κs) (p : Answer listing-contracts.listing.ended listing.listing.Reads.Learnt κs a)
    → let file = option_copied a.1.0 in
    a.0.now ≡ t → ReadingAccepted a.1.1.0 (length ws) → Accepted (file_rows file)
    → let text = lines_of file t a.1.1.0 ws in
    let old = a.1.1.1.0.now in
    length text ≤ length old → (p.result ≡ Ok (length text)) × (p.left.1.1.1.0 ≡ text ++ drop (length text) old)

-- no name file is accepted
abbrev pub NoFileAccepted : Type 0
NoFileAccepted = Accepted (file_rows None)

-- format(buffer, format), then calls, then the listing, with a name file or without, arguments having the width that their types say
abbrev pub Runs : Type 0
Runs =
    (κs : Lives formatter-contracts.format.ended) (a : Arguments formatter-contracts.format.ended κs)
    (p : Answer formatter-contracts.format.ended formatter.format.Reads.Learnt κs a) (k n : ℕ) (calls : List Call) (writes : List Write) (t : List ℕ)
    → p.result ≡ Ok n → a.1.0.base < 2 ^ 32 → Ran p.left.0 calls writes t → Each Typed calls → length writes ≡ k
    → Shows a.1.0.mask k n writes t × Lists (last_of n writes) t × NoFileAccepted
