-- Keys: equal ones have one unit and one serial, and those of lines that were written are equal where a page takes them for one.
use Rattle.std.specs.Prelude.{Option}
use Prim.Native.Nat.{ℕ, ◌+◌, ◌^◌, ◌≤◌, ◌<◌}
use mathlib.Core.List.{List, [], ◌++◌, append-nil}
use mathlib.Core.Logic.{◌⊎◌, inl, inr}
use mathlib.Core.Path.{◌≡◌, sym, ap, ◌∙◌}
use native.Mathlib.Decide.{dec_lt}
use native.Mathlib.Omega.{arith}
use lib.Dec.{ltb}
use borrow.Author.Tests.{eqb-false, le-ltb, leb-false, lt-ltb}
use Rattle.events.specs.Listing.{term_rows}
use Rattle.events.specs.declared.Reading.{Reading}
use Rattle.rows.proofs.Rows.{Among, among, here, unbroken}
use Rattle.rows.specs.Rows.{Accepted, Row}
use Rattle.text.specs.Numbers.{is_bare, number}
use Rattle.trace.proofs.Passed.{key_terms}
use Rattle.trace.specs.Keys.{key}
use Rattle.trace.specs.Layout.{header_of}
use Rattle.trace.specs.Slots.{event_count}
use Rattle.trace.specs.Table.{dump_rows, row14, row15, row25}
use Rattle.demands.specs.Keys.{Keys, key_at}
use Rattle.demands.specs.Page.{TakenForOne, WrittenLine, by_itself, in_listing, key_text, line_in, read_by_page}
use Rattle.demands.specs.Shown.{ReadingAccepted}
use Rattle.demands.proofs.Answers.{gave_accepted, passed_behind, wrote_front}
use Rattle.demands.proofs.BareNumbers.{bare_numbers}
use Rattle.demands.proofs.Page.{first_line, line_found, line_key, object}

-- equal keys of readings that are accepted have one unit and one serial
key_parts : (one two : Reading) (m n p q : ℕ) → ReadingAccepted one m → ReadingAccepted two n → p < m → q < n → key_at one p ≡ key_at two q
    → (one.unit ≡ two.unit) × (one.serial + p ≡ two.serial + q)
unfolding key
key_parts one two m n p q first second p-below q-below same =
    let units : one.unit ≡ two.unit = omega (arith, first.serial, second.serial) in
    (units, omega arith)

serials_apart : (one two : Reading) (m n p q : ℕ) → p < m → q < n → (one.serial + m ≤ two.serial) ⊎ (two.serial + n ≤ one.serial) → one.serial + p ≡ two.serial + q → ⊥
serials_apart one two m n p q p-below q-below (inl before) same = omega arith
serials_apart one two m n p q p-below q-below (inr behind) same = omega arith

-- unit 8192 begins at two to the fifty-third
one_form : (r : Reading) (m p : ℕ) → ReadingAccepted r m → p < m → is_bare (key_at r p) ≡ ltb r.unit 8192
unfolding is_bare key
one_form r m p fits below = by (dec_lt r.unit 8192)
  where
    by : Dec (r.unit < 8192) → ltb (key_at r p) (2 ^ 53) ≡ ltb r.unit 8192
    by (yes lower) = lt-ltb (key_at r p) (2 ^ 53) (omega (arith, fits.serial)) ∙ sym (lt-ltb r.unit 8192 lower)
    by (no higher) = le-ltb (key_at r p) (2 ^ 53) (omega arith) ∙ sym (le-ltb r.unit 8192 (omega arith))

accepted : (r : Reading) (n : ℕ) {rows : List Row} → Accepted rows → Among (row14 r.rate) rows → Among (row15 r.unit r.serial n) rows → ReadingAccepted r n
unfolding row14
accepted r n passed rate terms =
    let fits = key_terms r.unit r.serial n (unbroken passed (row15 r.unit r.serial n) terms) in
    record { rate = omega (arith, eqb-false r.rate 0 (unbroken passed (row14 r.rate) rate)); unit = fits.0; serial = fits.1 }

-- what a line that was written tells: its reading was accepted for so many events, this is one of them, and here is its key
record OfEvent (r : Reading) (p : ℕ) (line : List ℕ) : Type 0 where
  events : ℕ
  reading : ReadingAccepted r events
  one_of : p < events
  has_key : key_text line ≡ number (key_at r p)

of_line : (file : Option (List ℕ)) (s : List ℕ) (r : Reading) (p : ℕ) (line : List ℕ) {rows : List Row} → Accepted rows → Among (row14 r.rate) rows
    → Among (row15 r.unit r.serial (event_count s (header_of s))) rows → p < event_count s (header_of s) → line ≡ object file s (header_of s) r p → OfEvent r p line
of_line file s r p line passed rate terms below is =
    record { events = event_count s (header_of s); reading = accepted r _ passed rate terms; one_of = below; has_key = ap key_text is ∙ line_key file s (header_of s) r p }

of_event : (r : Reading) (p : ℕ) (line : List ℕ) → WrittenLine r p line → OfEvent r p line
unfolding row25
of_event r p line (in_listing file s old new n gave below is) =
    let text = wrote_front _ _ old new n gave ∙ sym (append-nil _) in
    of_line file s r p line (gave_accepted _ _ old new n gave) (search among depth 20) (search among depth 20) below
    (is ∙ ap (λ (t : List ℕ). line_in t p) text ∙ line_found file s (header_of s) r _ p [] below)
of_event r p line (by_itself file s old new n gave is) =
    let passed = gave_accepted _ _ old new n gave in
    let text = wrote_front _ _ old new n gave ∙ sym (append-nil _) in
    of_line file s r p line passed (search among depth 20) (search among depth 20)
    (leb-false _ _ (unbroken (passed_behind (dump_rows s (header_of s) ++ term_rows file r (event_count s (header_of s))) _ passed) (row25 p (event_count s (header_of s))) here))
    (is ∙ ap (λ (t : List ℕ). line_in t 0) text ∙ first_line file s (header_of s) r p [])

on_page : (one two : Reading) (p q : ℕ) (a b : List ℕ) → WrittenLine one p a → WrittenLine two q b
    → TakenForOne (read_by_page (key_text a)) (read_by_page (key_text b)) → (one.unit ≡ two.unit) × (one.serial + p ≡ two.serial + q)
on_page one two p q a b first second taken =
    let x = of_event one p a first in
    let y = of_event two q b second in
    let same = bare_numbers.on_page (key_at one p) (key_at two q) (rw (x.has_key, y.has_key) at taken) in
    key_parts one two x.events y.events p q x.reading y.reading x.one_of y.one_of same

pub keys : Keys
unfolding key
keys = record {
  one_listing = λ r p q same. omega arith;
  other_unit = λ one two m n p q first second p-below q-below other same. other (key_parts one two m n p q first second p-below q-below same).0;
  other_serials = λ one two m n p q first second p-below q-below aside same.
      serials_apart one two m n p q p-below q-below aside (key_parts one two m n p q first second p-below q-below same).1;
  one_form = one_form;
  written = λ r p line wrote. (of_event r p line wrote).has_key;
  on_page = on_page;
}
