-- What the contracts allow is what the definitions say, call by call; so the third demand holds of runs.
use Rattle.std.specs.Prelude.{Ok, Result, Option, option_copied}
use Rattle.rows.specs.declared.Refusal.{Refusal}
use Prim.Native.Nat.{ℕ, ◌-◌, ◌≤◌, min}
use mathlib.Core.List.{List, ◌++◌}
use mathlib.Core.Path.{◌≡◌, refl, sym, ap, ap₂, ◌∙◌, subst, subst₂}
use native.Mathlib.Omega.{arith}
use lib.ListN.{drop, length, length-drop}
use Rattle.demands.proofs.Demands.{demands}
use Rattle.demands.specs.Demands.{Shows}
use Rattle.demands.specs.History.{Call, DoesNotFormat, NoneFormats, Write, accepted_writes, after, if_accepted, last_of, left_by, writes_by}
use Rattle.demands.specs.Shown.{ReadingAccepted, lines_of}
use Rattle.events.specs.Listing.{Gave, listing_rows, listing_text}
use Rattle.events.specs.declared.Reading.{Reading}
use Rattle.naming.specs.Records.{file_rows}
use Rattle.rows.specs.Rows.{Accepted, first_broken}
use Rattle.trace.specs.Layout.{header_of}
use Rattle.writing.specs.Writing.{formatting, left, recording, said}
use Rattle.contracts.specs.Runs.{Answered, Lists, NoFileAccepted, Ran, Runs, lent, next, none, recorded, registered, removed, unformatted}
use Rattle.contracts.proofs.Calls.{calls}

answered : {s t : List ℕ} {c : Call} {ws : List Write} → Answered s c ws t → (ws ≡ writes_by recording c s) × (t ≡ left_by recording c s) × DoesNotFormat c s
answered (recorded {w = w} κs a p here slot) =
    let did = calls.«record» κs a p in
    rw (← here, ← slot) (ap (λ (o : Result ℕ Refusal). if_accepted o w) did.0, did.1, tt)
answered (registered κs a p here object name) = rw (← here, ← object, ← name) (refl, (calls.register κs a p).1, tt)
answered (removed κs a p here pointer) = rw (← here, ← pointer) (refl, (calls.remove κs a p).1, tt)
answered (unformatted {fault = fault} κs a p here f refused) =
    let did = calls.format κs a p in
    rw (← here, ← f) (refl, did.1, (fault, sym did.0 ∙ refused))
answered (lent one) = (refl, refl, tt)

ran : {s u : List ℕ} {cs : List Call} {ws : List Write} → Ran s cs ws u
    → (ws ≡ accepted_writes recording cs s) × (u ≡ after recording cs s) × NoneFormats recording cs s
ran none = (refl, refl, tt)
ran (next {cs = cs} one more) =
    let here = answered one in
    let rest = ran more in (
      ap₂ (λ (ws more : List Write). ws ++ more) here.0 (rest.0 ∙ ap (accepted_writes recording cs) here.1),
      rest.1 ∙ ap (after recording cs) here.1,
      (here.2, subst (NoneFormats recording cs) here.1 rest.2),
    )

no-file : NoFileAccepted
unfolding first_broken
no-file = refl

-- of a buffer with so many writes, whatever a listing is allowed to give, with the name file or without
shown_lists : (mask k n : ℕ) (ws : List Write) (t : List ℕ) → length ws ≡ k → Shows mask k n ws t
    → (file : Option (List ℕ)) (s : List ℕ) (r : Reading) (old new : List ℕ) (answer : Result ℕ Refusal) → s ≡ t → ReadingAccepted r (length (last_of n ws)) → Accepted (file_rows file)
    → let text = lines_of file t r (last_of n ws) in
    length text ≤ length old → Gave (listing_rows file s (header_of s) r (length old)) (listing_text file s (header_of s) r) old new answer
    → (answer ≡ Ok (length text)) × (new ≡ text ++ drop (length text) old)
shown_lists mask k n ws t many shows file s r old new answer here accepted passed fits gave =
    let listed : length (last_of n ws) ≡ min k n = length-drop (length ws - n) ws ∙ omega arith in
    shows.lists file r old new answer (subst (ReadingAccepted r) listed accepted) passed fits
    (subst (λ (s : List ℕ). Gave (listing_rows file s (header_of s) r (length old)) (listing_text file s (header_of s) r) old new answer) here gave)

pub runs : Runs
runs κs a p k n cs ws t done word run typed many = (shows, lists, no-file)
  where
    made : (p.result ≡ said (formatting a.1.0 a.0.now)) × (p.left.0 ≡ left (formatting a.1.0 a.0.now) a.0.now)
    made = calls.format κs a p

    writes : ws ≡ accepted_writes recording cs (left (formatting a.1.0 a.0.now) a.0.now)
    writes = (ran run).0 ∙ ap (accepted_writes recording cs) made.1

    last : t ≡ after recording cs (left (formatting a.1.0 a.0.now) a.0.now)
    last = (ran run).1 ∙ ap (after recording cs) made.1

    shows : Shows a.1.0.mask k n ws t
    shows =
        subst₂ (λ (ws : List Write) (t : List ℕ). Shows a.1.0.mask k n ws t) (sym writes) (sym last)
        (demands.third k n a.1.0 a.0.now cs word (sym made.0 ∙ done) typed (subst (NoneFormats recording cs) made.1 (ran run).2) (ap length (sym writes) ∙ many))

    lists : Lists (last_of n ws) t
    lists κs a p here accepted passed fits = shown_lists _ k n ws t many shows (option_copied a.1.0) _ _ _ _ _ here accepted passed fits (calls.listing κs a p)
