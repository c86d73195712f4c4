-- Each line is an object of RFC 8259 with the members of document 01: it is that of its parts.
use Rattle.std.specs.Prelude.{None, Option, Some}
use Prim.Native.Nat.{ℕ, ◌+◌, ◌*◌, ◌<◌}
use mathlib.Core.Bool.{Bool, true, false, and-eq-true_iff, not, ◌&&◌}
use mathlib.Core.List.{List, [], ◌∷◌, map}
use mathlib.Core.Path.{◌≡◌, refl, sym, ap, ◌∙◌}
use native.Mathlib.Decide.{dec_lt}
use native.Mathlib.Omega.{arith}
use lib.Dec.{eqb}
use lib.ListN.{get_or-eq_default, drop, get_or, take, length-take}
use lib.Seq.{get_or-drop, get_or-take}
use borrow.Author.Tests.{eqb-false, not-true}
use Rattle.events.specs.Events.{event_at}
use Rattle.events.specs.Listing.{fields, line_of, title_in}
use Rattle.events.specs.declared.Event.{Event}
use Rattle.text.specs.Lines.{context, event_parts, line, object_text, parts, truth, value_text}
use Rattle.text.specs.Numbers.{quoted}
use Rattle.text.specs.ReadBack.{IsName}
use Rattle.text.specs.declared.Context.{Context}
use Rattle.text.specs.declared.Context.TheVariants.{Init, Isr, Thread}
use Rattle.text.specs.declared.Line.{Line}
use Rattle.trace.specs.Names.{file_bytes, name_bytes}
use Rattle.trace.specs.declared.Name.TheVariants.{Filed, Named}
use Rattle.trace.specs.declared.Name.{Name}
use Rattle.words.specs.Each.{Each}
use Rattle.words.specs.Words.{AreBytes}
use Rattle.demands.specs.Json.{json_text, object}
use Rattle.demands.specs.JsonLines.{Distinct, IsObject, IsTitle, JsonLines, by_text, gone_text, line_members}
use Rattle.demands.proofs.Json.{numbers_found, numbers_found_first}
use Rattle.demands.proofs.JsonNumbers.{numbers_are, object_numbers}
use Rattle.demands.proofs.JsonTexts.{NamedPart, member_of, members, members_are, members_written}
use Rattle.demands.proofs.Plain.{line_plain}

context_text : (by : Context) → quoted (context by) ≡ by_text by
unfolding quoted context
context_text Init = refl
context_text Isr = refl
context_text Thread = refl

gone-text : (gone : Bool) → value_text (truth gone) ≡ gone_text gone
unfolding value_text
gone-text true = refl
gone-text false = refl

parts_named : (l : Line) (event : Option (Option (List ℕ))) (n : Option (List ℕ)) → IsTitle event → IsName n → Each NamedPart (parts l event n)
unfolding event_parts parts
parts_named l None n titled is = search
parts_named l (Some title) n titled is = search

-- the members are the parts', with an event's name and without
parts_are : (l : Line) (event : Option (Option (List ℕ))) (n : Option (List ℕ)) → map member_of (parts l event n) ≡ line_members l event n
unfolding event_parts parts value_text
parts_are l None n = rw (← context_text l.by, ← gone-text l.gone)
parts_are l (Some title) n = rw (← context_text l.by, ← gone-text l.gone)

line_object : (l : Line) (event : Option (Option (List ℕ))) (n : Option (List ℕ)) → IsTitle event → IsName n → IsObject l event n (line l event n)
unfolding line object_text json_text
line_object l event n titled is =
    let are = parts_named l event n titled is in
    let plain = line_plain l event n in
    let ms = members (parts l event n) plain are in
    let text = members_written (parts l event n) plain are in
    record {
      members = ms;
      is_text = rw text;
      are = members_are (parts l event n) plain are ∙ parts_are l event n;
      numbers = sym (numbers_found (object ms)) ∙ rw (text, ← numbers_are l event n) (object_numbers (parts l event n) plain);
    }

-- names with different codes differ
abbrev code : List ℕ → ℕ
code [] = 0
code (c ∷ text) = 256 * code text + c

abbrev is_new : List ℕ → List (List ℕ) → Bool
is_new a [] = true
is_new a (b ∷ more) = not (eqb (code a) (code b)) && is_new a more

new : (a : List ℕ) (more : List (List ℕ)) → is_new a more ≡ true → Each (λ b. a ≡ b → ⊥) more
new a [] test = tt
new a (b ∷ more) test =
    let tests = (and-eq-true_iff _ (is_new a more)).0 test in
    (λ same. eqb-false (code a) (code b) (not-true _ tests.0) (ap code same), new a more tests.1)

abbrev are_new : List (List ℕ) → Bool
are_new [] = true
are_new (a ∷ more) = is_new a more && are_new more

all_new : (names : List (List ℕ)) → are_new names ≡ true → Distinct names
all_new [] test = tt
all_new (a ∷ more) test =
    let tests = (and-eq-true_iff (is_new a more) (are_new more)).0 test in
    (new a more tests.0, all_new more tests.1)

names_distinct : (l : Line) (event : Option (Option (List ℕ))) (n : Option (List ℕ)) → Distinct (map (λ m. m.name) (line_members l event n))
names_distinct l None n = all_new (map (λ m. m.name) (line_members l None n)) refl
names_distinct l (Some title) n = all_new (map (λ m. m.name) (line_members l (Some title) n)) refl

-- a name in a dump or in a name file is of bytes
part_bytes : (s : List ℕ) (at size : ℕ) → AreBytes s → AreBytes (take size (drop at s))
part_bytes s at size bytes i = by (dec_lt i size)
  where
    by : Dec (i < size) → get_or (take size (drop at s)) i 0 < 256
    by (yes within) = rw (get_or-take size (drop at s) i 0 within, get_or-drop at s i 0) (bytes (at + i))
    by (no past) = rw (get_or-eq_default (take size (drop at s)) 0 {n = i} (rw length-take (omega arith))) (omega arith)

module _ (file : Option (List ℕ)) (s : List ℕ) (of-dump : AreBytes s) (of-file : AreBytes (file_bytes file)) where
  name-bytes : (n : Option Name) → IsName (name_bytes file s n)
  unfolding name_bytes
  name-bytes None = tt
  name-bytes (Some (Named kind at size)) = part_bytes s at size of-dump
  name-bytes (Some (Filed at size)) = part_bytes (file_bytes file) at size of-file

  title_bytes : (e : Event) → IsTitle (title_in file s e)
  unfolding title_in
  title_bytes e = by file (name-bytes e.title)
    where
      by : (given : Option (List ℕ)) → IsName (name_bytes given s e.title) → IsTitle (title_in given s e)
      by None is = tt
      by (Some f) is = is

pub json_lines : JsonLines
unfolding line_of
json_lines = record {
  line_object = line_object;
  listed_object = λ file s h r position of-dump of-file.
      let event = event_at file s h position in
      line_object (fields r position event) (title_in file s event) (name_bytes file s event.name) (title_bytes file s of-dump of-file event) (name-bytes file s of-dump of-file event.name);
  names_distinct = names_distinct;
  numbers_found = numbers_found;
  numbers_found_first = numbers_found_first;
}
