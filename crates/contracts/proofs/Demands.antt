-- What the demands say of the definitions holds of what the contracts allow.
use Rattle.std.specs.Prelude.{Ok, Result}
use Rattle.rows.specs.Told.{number_told}
use Rattle.rows.specs.declared.Refusal.{Refusal}
use Prim.Native.Nat.{ℕ, ◌^◌, ◌≤◌, ◌<◌}
use mathlib.Core.List.{List}
use mathlib.Core.Path.{◌≡◌, sym, ap, ◌∙◌}
use native.Mathlib.Omega.{arith}
use lib.ListN.{drop, length, take}
use lib.Seq.{take_at}
use Rattle.demands.proofs.Demands.{demands}
use Rattle.demands.proofs.JsonNumbers.{one_line_numbers, one_name, one_number}
use Rattle.demands.specs.Demands.{Writes}
use Rattle.demands.specs.JsonNumbers.{json_numbers}
use Rattle.demands.specs.Refusals.{RefusesAndKeeps}
use Rattle.events.specs.Listing.{Gave}
use Rattle.lepsaino_c.specs.Answers.{GaveNumbers, number_answer}
use Rattle.lepsaino_c.specs.declared.answers.Answer.{Answer}
use Rattle.lines.proofs.Pairs.{line-by}
use Rattle.numbers.proofs.Alike.{number_by_lem}
use Rattle.rows.specs.Rows.{Accepted, Row}
use Rattle.text.proofs.Output.{fitted_all, fitted_same, is_put, some_said}
use Rattle.text.specs.Output.{Fitted, Put, printed}
use Rattle.writing.specs.Writing.{Change, filing, formatting, recording, registering, removing}
use Rattle.contracts.specs.Calls.{Changed}
use Rattle.contracts.specs.Demands.{CallsRefuse, NumbersLeave}
use Rattle.contracts.proofs.Calls.{calls}
use Rattle.contracts.proofs.Interface.{zero_accepts}

changed_writes : (change : List ℕ → Change) (old new : List ℕ) (x : Result ℕ Refusal) → Writes (change old) old → Changed change old new x
    → RefusesAndKeeps (change old).rows old new (number_told x)
changed_writes change old new x writes did = (rw did.0 writes.0, λ some. did.1 ∙ writes.1 (rw did.0 at some))

pub calls_refuse : CallsRefuse
calls_refuse = record {
  check = λ κs a p. rw (calls.check κs a p) (demands.first.checking _);
  find_name = λ κs a p. rw (calls.find_name κs a p).0 (demands.first.finding_with _ _ _);
  event = λ κs a p. rw (calls.event κs a p) (demands.first.event _ _ _);
  line = λ κs a p. demands.first.line _ _ _ _ _ _ _ (calls.line κs a p);
  listing = λ κs a p. demands.first.listing _ _ _ _ _ _ (calls.listing κs a p);
  format = λ κs a p. changed_writes (formatting a.1.0) _ _ _ (demands.first.formatting _ _) (calls.format κs a p);
  «record» = λ κs a p. changed_writes (recording a.1.0) _ _ _ (demands.first.recording _ _) (calls.«record» κs a p);
  register = λ κs a p. changed_writes (registering a.1.0 a.1.1.0.now) _ _ _ (demands.first.registering _ _ _) (calls.register κs a p);
  remove = λ κs a p. changed_writes (removing a.1.0) _ _ _ (demands.first.removing _ _) (calls.remove κs a p);
  write_name = λ κs a p.
      changed_writes (filing a.1.1.0 a.1.1.1.0 a.1.1.1.1.0.now a.1.0) _ _ _ (demands.first.filing _ _ _ _ _) (calls.write_name κs a p);
  mend = λ κs a p.
      let did = calls.mend κs a p in
      let keeps = demands.first.mending a.0.now a.1.0.now in
      (rw did.0 keeps.0, λ some. did.1 ∙ keeps.1 (rw did.0 at some));
  finish = λ κs a p. rw (calls.finish κs a p) (demands.first.finishing _);
}

-- the front of an output, where a printer has written
front : (text old new : List ℕ) (n : ℕ) → Put (printed text old) old new n → (n ≡ 0 → ⊥) → take n new ≡ text
front text old new n put some =
    let done = is_put text old (some_said text old put some) put in
    ap (take n) done.bytes ∙ take_at text (drop (length text) old) n (sym done.count)

-- and where one has fitted its text in
fitted_front : (text old new : List ℕ) (n : ℕ) → Fitted text old new n → n ≤ length new → length new < 2 ^ 63 → take n new ≡ text
fitted_front text old new n fitted room short =
    let same = fitted_same text old fitted.bytes in
    let done = fitted_all text (omega arith) (omega (arith, fitted.count)) fitted in
    ap (take n) done.bytes ∙ take_at text (drop (length text) old) n (sym done.count)

-- what a line or a listing for C has written, where it was accepted
handed : (rows : List Row) (text old new : List ℕ) (x : Answer) → Accepted rows → GaveNumbers rows text old new x
    → Gave rows text old new (Ok (length text)) × (x.value ≡ length text)
unfolding number_answer number_told
handed rows text old new x passed gave =
    (rw passed at gave.gave, ap (λ (answer : Answer). answer.value) (rw passed at gave.answered))

pub numbers_leave : NumbersLeave
numbers_leave = record {
  line = λ κs a p n written. demands.second.line_numbers _ _ _ _ _ _ n (rw written at (calls.line κs a p));
  listing = λ κs a p n written. demands.second.numbers _ _ _ _ _ n (rw written at (calls.listing κs a p));
  put_line = λ κs a p some. ap json_numbers (front _ _ _ _ p.allowed some) ∙ one_line_numbers _ _ _;
  put_number = λ κs a p some. ap json_numbers (front _ _ _ _ p.allowed some) ∙ one_number _;
  put_name = λ κs a p some. ap json_numbers (front _ _ _ _ p.allowed some) ∙ one_name _;
  fit_line = λ κs a p rule room short. ap json_numbers (fitted_front _ _ _ _ (rw (line-by _ rule _ _ _) at p.allowed) room short) ∙ one_line_numbers _ _ _;
  fit_number = λ κs a p rule room short. ap json_numbers (fitted_front _ _ _ _ (rw (number_by_lem _ rule _) at p.allowed) room short) ∙ one_number _;
  fit_name = λ κs a p room short. ap json_numbers (fitted_front _ _ _ _ p.allowed room short) ∙ one_name _;
  lepsaino_line = λ κs a p none.
      let (wrote, size) = handed _ _ _ _ _ (zero_accepts.line _ _ _ _ _ _ _ p.allowed none) p.allowed in
      ap (λ (n : ℕ). json_numbers (take n p.left.1.1.1.0)) size ∙ demands.second.line_numbers _ _ _ _ _ _ _ wrote;
  lepsaino_line_with_names = λ κs a p none.
      let (wrote, size) = handed _ _ _ _ _ (zero_accepts.line _ _ _ _ _ _ _ p.allowed none) p.allowed in
      ap (λ (n : ℕ). json_numbers (take n p.left.1.1.1.1.0)) size ∙ demands.second.line_numbers _ _ _ _ _ _ _ wrote;
  lepsaino_listing = λ κs a p none.
      let (wrote, size) = handed _ _ _ _ _ (zero_accepts.listing _ _ _ _ _ _ p.allowed none) p.allowed in
      ap (λ (n : ℕ). json_numbers (take n p.left.1.1.0)) size ∙ demands.second.numbers _ _ _ _ _ _ wrote;
  lepsaino_listing_with_names = λ κs a p none.
      let (wrote, size) = handed _ _ _ _ _ (zero_accepts.listing _ _ _ _ _ _ p.allowed none) p.allowed in
      ap (λ (n : ℕ). json_numbers (take n p.left.1.1.1.0)) size ∙ demands.second.numbers _ _ _ _ _ _ wrote;
  lepsaino_number = λ κs a p some. ap json_numbers (front _ _ _ _ p.allowed some) ∙ one_number _;
}
