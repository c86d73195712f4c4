-- A line of a listing is what stands before its 0A, and its key what stands before the first comma, for neither has that byte within.
use Rattle.std.specs.Prelude.{Option}
use Prim.Native.Nat.{ℕ, zero, suc, ◌+◌, ◌<◌}
use mathlib.Core.Bool.{Bool, true, false}
use mathlib.Core.List.{List, [], ◌∷◌, ◌++◌, append_assoc}
use mathlib.Core.Logic.{⊎_elim}
use mathlib.Core.Path.{◌≡◌, refl, sym, ap, ◌∙◌}
use native.Mathlib.Nat.{add-zero, eq-or-lt_of_le, le_of_suc-le-suc, zero-add}
use native.Mathlib.Omega.{arith}
use borrow.Author.Tests.{eq-eqb, ne_eqb}
use Rattle.events.specs.Events.{event_at}
use Rattle.events.specs.Listing.{fields, line_at, line_of, lines_to, title_in}
use Rattle.events.specs.declared.Reading.{Reading}
use Rattle.text.specs.Ascii.{choose}
use Rattle.text.specs.Lines.{Part, line, numeric, object_text, part, part_text, parts, value_text}
use Rattle.text.specs.Numbers.{digits, is_bare, number, quoted}
use Rattle.trace.specs.Names.{name_bytes}
use Rattle.trace.specs.declared.Header.{Header}
use Rattle.demands.specs.Keys.{key_at}
use Rattle.demands.specs.Page.{behind, key_text, line_in, up_to}
use Rattle.demands.proofs.OneLine.{line_unbroken}
use Rattle.demands.proofs.Plain.{All, both, byte, digits_all, no_byte}

-- no byte of a text is c
abbrev Without : ℕ → List ℕ → Type 0
Without c text = All (λ b. b ≡ c → ⊥) text

up-to : {c : ℕ} {text : List ℕ} (rest : List ℕ) → Without c text → up_to c (text ++ (c ∷ rest)) ≡ text
unfolding up_to
up-to {c} rest no_byte = rw (eq-eqb c c refl)
up-to {c} rest (byte {c = b} other more) = rw (ne_eqb b c other) (ap (λ (t : List ℕ). b ∷ t) (up-to rest more))

from_behind : {c : ℕ} {text : List ℕ} (rest : List ℕ) → Without c text → behind c (text ++ (c ∷ rest)) ≡ rest
unfolding behind
from_behind {c} rest no_byte = rw (eq-eqb c c refl)
from_behind {c} rest (byte {c = b} other more) = rw (ne_eqb b c other) (from_behind rest more)

module _ (file : Option (List ℕ)) (s : List ℕ) (h : Header) (r : Reading) where
  -- a line without its 0A
  abbrev pub object : ℕ → List ℕ
  object p = let event = event_at file s h p in object_text (parts (fields r p event) (title_in file s event) (name_bytes file s event.name))

  ended : (p : ℕ) (rest : List ℕ) → line_at file s h r p ++ rest ≡ object p ++ (0x0A ∷ rest)
  unfolding line_of line
  ended p rest = append_assoc (object p) (0x0A ∷ []) rest

  unbroken_object : (p : ℕ) → Without 0x0A (object p)
  unbroken_object p = line_unbroken _ _ _

  pub first_line : (p : ℕ) (rest : List ℕ) → line_in (line_at file s h r p ++ rest) 0 ≡ object p
  unfolding line_in
  first_line p rest = rw (ended p rest) (up-to rest (unbroken_object p))

  -- n lines are passed over
  lines_passed : (n p : ℕ) (rest : List ℕ) → line_in (lines_to n file s h r ++ rest) (n + p) ≡ line_in rest p
  unfolding lines_to line_in
  lines_passed zero p rest = ap (line_in rest) (zero-add p)
  lines_passed (suc n) p rest =
      let more : suc n + p ≡ n + suc p = omega arith in
      rw (append_assoc (lines_to n file s h r) (line_at file s h r n) rest)
      (ap (line_in (lines_to n file s h r ++ (line_at file s h r n ++ rest))) more ∙ lines_passed n (suc p) (line_at file s h r n ++ rest)
      ∙ ap (λ (t : List ℕ). line_in t p) (rw (ended n rest) (from_behind rest (unbroken_object n))))

  next_line : (n : ℕ) (rest : List ℕ) → line_in (lines_to n file s h r ++ (line_at file s h r n ++ rest)) n ≡ object n
  next_line n rest = ap (line_in (lines_to n file s h r ++ (line_at file s h r n ++ rest))) (sym (add-zero n)) ∙ lines_passed n 0 (line_at file s h r n ++ rest) ∙ first_line n rest

  pub line_found : (n p : ℕ) (rest : List ℕ) → p < n → line_in (lines_to n file s h r ++ rest) p ≡ object p
  unfolding lines_to
  line_found zero p rest below = absurd (omega arith)
  line_found (suc n) p rest below =
      rw (append_assoc (lines_to n file s h r) (line_at file s h r n) rest)
      (⊎_elim (λ last. rw last (next_line n rest)) (line_found n p (line_at file s h r n ++ rest)) (eq-or-lt_of_le (le_of_suc-le-suc below)))

-- a number has no comma, so the key, which comes first, ends at one
number_whole : (n : ℕ) → Without 0x2C (number n)
unfolding number quoted
number_whole n = by (is_bare n)
  where
    ones : Without 0x2C (digits n)
    ones = digits_all (λ b. b ≡ 0x2C → ⊥) (λ d below. omega arith) n

    by : (bare : Bool) → Without 0x2C (choose bare (digits n) (quoted (digits n)))
    by true = ones
    by false = byte {c = 0x22} (omega arith) (both ones (byte {c = 0x22} (omega arith) no_byte))

first_text : (k : ℕ) (p : Part) (ps : List Part) → key_text (object_text (part "key" (numeric k) ∷ p ∷ ps)) ≡ number k
unfolding object_text part_text value_text quoted
first_text k p ps = rw (append_assoc (number k), append_assoc (number k)) (up-to _ (number_whole k))

pub line_key : (file : Option (List ℕ)) (s : List ℕ) (h : Header) (r : Reading) (p : ℕ) → key_text (object file s h r p) ≡ number (key_at r p)
unfolding parts fields
line_key file s h r p = first_text _ _ _
