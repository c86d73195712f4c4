-- Rows 1 to 10 give 26 exactly where an end that is right is missed, and 7 or 9 for one that is not; and what was cut is so with more bytes too, as long as these do not reach the end.
use Rattle.std.specs.Prelude.{Err, Ok}
use Prim.Native.Nat.{ℕ, suc, ◌+◌, ◌-◌, ◌≤◌, ◌<◌}
use mathlib.Core.Bool.{Bool, true, false, cond, true≢false}
use mathlib.Core.List.{List, [], ◌∷◌, ◌++◌}
use mathlib.Core.Logic.{inl, inr}
use mathlib.Core.Path.{◌≡◌, refl, sym, ap, ◌∙◌}
use native.Mathlib.Omega.{arith}
use lib.Dec.{ltb}
use borrow.Author.Tests.{eq-eqb, le-ltb, lt-ltb, ltb-false, ltb-true}
use Rattle.rows.proofs.Numbered.{by_number, front_passed, front_without}
use Rattle.rows.proofs.Rows.{among, kept_too, one_kept, passed_before, then_broken, then_rest, unbroken}
use Rattle.rows.specs.Rows.{Accepted, Row, first_broken, Verdict}
use Rattle.rows.specs.declared.Refusal.{Refusal}
use Rattle.trace.proofs.Opened.{open_rows}
use Rattle.trace.proofs.Passed.{buffer_sized, dump_long, dump_short, entries_end, keeps, one_pointer, registry_sized, registry_within, slots_end, start_rows}
use Rattle.trace.specs.Layout.{buffer_end, buffer_start, entry_count, entry_size, header_size, most_bytes, registry_end, slot_count, slot_size}
use Rattle.trace.specs.Table.{before_ends, header_rows, layout_rows, row1, row7, row8, row9, row10, row26}
use Rattle.trace.specs.declared.Header.{Header}
use Rattle.demands.specs.Cut.{CutShort, MissedEnd, Missing, RegistryThere, RightBuffer, RightRegistry}
use Rattle.demands.specs.Refusals.{given_at}

-- a length without a whole header gets 1
pub header_missed : (h : Header) (n : ℕ) → n < header_size → first_broken (header_rows h n) ≡ Err (given_at 1 0)
unfolding first_broken row1
header_missed h n below = rw (lt-ltb n header_size below)

-- 1 to 6 say the same of all lengths that have a header and are not too long
begun_same : (h : Header) (m n : ℕ) → header_size ≤ m → m ≤ most_bytes → header_size ≤ n → n ≤ most_bytes → first_broken (before_ends h n) ≡ first_broken (before_ends h m)
unfolding first_broken open_rows
begun_same h m n long short other-long other-short = simp le-ltb

pub begun_at : (h : Header) (m : ℕ) → Accepted (start_rows h m) → (n : ℕ) → header_size ≤ n → n ≤ most_bytes → Accepted (before_ends h n)
begun_at h m passed n long short =
    begun_same h m n (dump_long h m [] passed) (dump_short h m [] passed) long short ∙ passed_before (before_ends h m) (row7 h ∷ []) passed

-- ends that have passed are right
pub registry_right : (h : Header) (n : ℕ) (more : List Row) → first_broken (start_rows h n ++ more) ≡ Ok tt → RightRegistry h
registry_right h n more passed = record { parts = entry_count h; whole = entries_end h n more passed; most = (registry_sized h n more passed).1 }

module _ (h : Header) (n : ℕ) (more : List Row) (passed : first_broken (layout_rows h n ++ more) ≡ Ok tt) where
  registry_there : RegistryThere h n
  registry_there = (registry_right h n _ passed, registry_within h n more passed, one_pointer h n more passed)

  pub buffer_right : RightBuffer h
  buffer_right = let sized = buffer_sized h n more passed in (sized.0, record { parts = slot_count h; whole = slots_end h n more passed; most = sized.1 })

module _ (h : Header) (n : ℕ) where
  -- and those that are right pass
  start_passed : Accepted (before_ends h n) → RightRegistry h → Accepted (start_rows h n)
  unfolding row7
  start_passed begun right =
      sym (then_rest (before_ends h n) (row7 h ∷ []) begun)
      ∙ one_kept (row7 h)
      (keeps (suc (registry_end h)) header_size (suc most_bytes) (registry_end h) (registry_end h - header_size) right.parts (entry_size h) (omega (arith, right.whole, right.most)))

  abbrev there_rows : List Row
  there_rows = start_rows h n ++ (row26 (registry_end h) n ∷ row8 h ∷ [])

  there_passed : Accepted (before_ends h n) → RegistryThere h n → Accepted there_rows
  unfolding row8 row26
  there_passed begun there =
      sym (then_rest (start_rows h n) (row26 (registry_end h) n ∷ row8 h ∷ []) (start_passed begun there.0))
      ∙ kept_too (row26 (registry_end h) n) _ (le-ltb n (registry_end h) there.1) (one_kept (row8 h) (rw (eq-eqb _ _ there.2)))

  pub layout_passed : Accepted (before_ends h n) → RegistryThere h n → RightBuffer h → Accepted (layout_rows h n)
  unfolding row9
  layout_passed begun there (some, right) =
      sym (then_rest there_rows (row9 h ∷ []) (there_passed begun there))
      ∙ one_kept (row9 h)
      (keeps (buffer_end h) (buffer_start h) (suc most_bytes) (buffer_end h) (buffer_end h - buffer_start h) right.parts (slot_size h)
      (omega (arith, some, right.whole, right.most)))

  -- while one that is not is refused
  pub registry_nonsense : Accepted (before_ends h n) → (RightRegistry h → ⊥) → first_broken (header_rows h n) ≡ Err (given_at 7 0)
  unfolding row7
  registry_nonsense begun wrong = by (row7 h).broken refl
    where
      by : (b : Bool) → (row7 h).broken ≡ b → first_broken (header_rows h n) ≡ Err (given_at 7 0)
      by true broken = then_broken (before_ends h n) (row7 h) _ begun broken
      by false kept = absurd (wrong (registry_right h n [] (sym (then_rest (before_ends h n) (row7 h ∷ []) begun) ∙ one_kept (row7 h) kept)))

  pub buffer_nonsense : Accepted (before_ends h n) → RegistryThere h n → (RightBuffer h → ⊥) → first_broken (header_rows h n) ≡ Err (given_at 9 0)
  unfolding row9
  buffer_nonsense begun there wrong = by (row9 h).broken refl
    where
      by : (b : Bool) → (row9 h).broken ≡ b → first_broken (header_rows h n) ≡ Err (given_at 9 0)
      by true broken = then_broken there_rows (row9 h) _ (there_passed begun there) broken
      by false kept = absurd (wrong (buffer_right h n [] (sym (then_rest there_rows (row9 h ∷ []) (there_passed begun there)) ∙ one_kept (row9 h) kept)))

module _ (h : Header) (n k : ℕ) where
  -- 26 is given where bytes are missing
  given-at : (rows more : List Row) (end : ℕ) → Accepted rows → Missing n k end → first_broken (rows ++ (row26 end n ∷ more)) ≡ Err (given_at 26 k)
  unfolding row26
  given-at rows more end passed missing =
      let place : end - n ≡ k = omega (arith, missing) in
      then_broken rows (row26 end n) more passed (lt-ltb n end (omega (arith, missing))) ∙ ap (λ (j : ℕ). Err (given_at 26 j)) place

  pub short_given : CutShort h n k → first_broken (header_rows h n) ≡ Err (given_at 26 k)
  short_given cut = by cut.1
    where
      by : MissedEnd h n k → first_broken (header_rows h n) ≡ Err (given_at 26 k)
      by (inl (right, missing)) = given-at (start_rows h n) _ (registry_end h) (start_passed h n cut.0 right) missing
      by (inr (there, right, missing)) = given-at (layout_rows h n) _ (buffer_end h) (layout_passed h n cut.0 there right) missing

  -- and where it is given, it says which end is missed, and by how much
  pub given_short : first_broken (header_rows h n) ≡ Err (given_at 26 k) → CutShort h n k
  unfolding first_broken open_rows
  given_short refused = (
    passed_before (before_ends h n) (row7 h ∷ []) start,
    by (ltb n (registry_end h)) (ltb n (buffer_end h)) refl refl (by_number (header_rows h n) (given_at 26 k) refused),
  )
    where
      start : Accepted (start_rows h n)
      start = front_without (start_rows h n) (row26 (registry_end h) n ∷ row8 h ∷ row9 h ∷ row26 (buffer_end h) n ∷ row10 h ∷ []) (given_at 26 k) refused refl

      place : {j : ℕ} → ◌≡◌ {A = Verdict} (Err (given_at 26 j)) (Err (given_at 26 k)) → j ≡ k
      place {j} said = let same : given_at 26 j ≡ given_at 26 k = cc in ap (λ (f : Refusal). f.place) same

      by : (r b : Bool) → ltb n (registry_end h) ≡ r → ltb n (buffer_end h) ≡ b
          → cond {A = Verdict} r (Err (given_at 26 (registry_end h - n))) (cond b (Err (given_at 26 (buffer_end h - n))) (Ok tt)) ≡ Err (given_at 26 k)
          → MissedEnd h n k
      by true b before behind said = let below = ltb-true n (registry_end h) before in inl (registry_right h n [] start, omega (arith, place said))
      by false true before behind said =
          let below = ltb-true n (buffer_end h) behind in
          let layout = front_passed (layout_rows h n) (row26 (buffer_end h) n ∷ row10 h ∷ []) (given_at 26 k) refused (one_kept (row26 (registry_end h) n) before) in
          inr (registry_there h n [] layout, buffer_right h n [] layout, omega (arith, place said))
      by false false before behind said = let clash : true ≡ false = cc in absurd (true≢false clash)

  -- it has its header
  pub cut_long : CutShort h n k → header_size ≤ n
  unfolding row1
  cut_long cut = ltb-false n header_size (unbroken cut.0 (row1 n) (search among depth 20))

  -- with more bytes, but not so many, it is cut by the others
  pub still_cut : CutShort h n k → (m : ℕ) → n ≤ m → m < n + k → CutShort h m (n + k - m)
  still_cut cut m from below = by cut.1
    where
      longer : m ≤ most_bytes → Accepted (before_ends h m)
      longer short = begun_same h n m (cut_long cut) (omega arith) (omega (arith, cut_long cut)) short ∙ cut.0

      by : MissedEnd h n k → CutShort h m (n + k - m)
      by (inl (right, missing)) = (longer (omega (arith, missing, right.most)), inl (right, omega (arith, missing)))
      by (inr ((right, reached, start), (some, whole), missing)) =
          (longer (omega (arith, missing, whole.most)), inr ((right, omega (arith, reached), start), (some, whole), omega (arith, missing)))
