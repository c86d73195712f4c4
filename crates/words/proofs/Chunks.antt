-- Bytes read or stored in one piece are those read or stored one by one, and so are the numbers that they make.
use Rattle.std.proofs.Common.{◌≡◌, ℕ, ◌+◌, ◌-◌, ◌/◌, ◌%◌, ◌^◌, ◌<◌, ◌≤◌, List, ◌++◌, length, take, drop, replicate, refl, sym, ap, ◌∙◌, arith, append-nil, length-drop, length-take-le, take_all, min}
use native.Mathlib.Decide.{dec_lt}
use Rattle.std.proofs.lemmas.List.{drop_all}
use Rattle.std.specs.Int.{w16, w32, from_le_bytes, to_le_bytes}
use borrow.Rule.Slice.PartMut.{mid_of, put_mid}
use lib.Seq.{sets, sets-eq}
use Rattle.words.specs.Words.{AreBytes, bytes_at, joined, lowest_first, number_at, number_bytes, split}
use Rattle.words.specs.declared.Order.{Order}
use Rattle.words.specs.declared.Order.TheVariants.{Little}
use Rattle.words.proofs.Laws.{drop_bytes, read_bytes}
use Rattle.words.proofs.Parts.{front_stored}
use Rattle.words.proofs.Runs.{cut_bytes}

-- the rest from a place on, or from the end where that place is past it
drop_min : (s : List ℕ) (at : ℕ) → drop (min at (length s)) s ≡ drop at s
drop_min s at = by (dec_lt (length s) at)
  where
    by : Dec (length s < at) → drop (min at (length s)) s ≡ drop at s
    by (yes past) = drop_all (min at (length s)) s (omega arith) ∙ sym (drop_all at s (omega arith))
    by (no within) = ap (λ (place : ℕ). drop place s) (omega arith)

abbrev pub rest_from : List ℕ → ℕ → List ℕ
rest_from s from = take (length s - from) (drop from s)

module _ (n : ℕ) (s : List ℕ) (at : ℕ) where
  dropped : bytes_at (drop at s) 0 n ≡ bytes_at s at n
  dropped = drop_bytes n s at 0 ∙ ap (λ (place : ℕ). bytes_at s place n) (omega arith)

  pub bytes_of_rest : (from : ℕ) → from ≡ min at (length s) → bytes_at (rest_from s from) 0 n ≡ bytes_at s at n
  bytes_of_rest from is =
      let all : rest_from s from ≡ drop from s = take_all (length s - from) (drop from s) (omega (arith, length-drop from s)) in
      ap (λ (bytes : List ℕ). bytes_at bytes 0 n) (all ∙ ap (λ (place : ℕ). drop place s) is ∙ drop_min s at) ∙ dropped

  -- where there are so many, they are a part
  pub part_of : (k : ℕ) → k ≡ n → at + n ≤ length s → take k (drop at s) ≡ bytes_at s at n
  part_of k same fits =
      let none : 0 ≡ n - length (drop at s) = omega (arith, length-drop at s) in
      ap (λ (count : ℕ). take count (drop at s)) same ∙ sym (append-nil (take n (drop at s)))
      ∙ ap (λ (missing : ℕ). take n (drop at s) ++ replicate missing 0) none ∙ sym (cut_bytes n (drop at s)) ∙ dropped

-- bytes stored over as many others
pub stored_over : (vs s : List ℕ) → length vs ≡ length s → sets s 0 vs ≡ vs
stored_over vs s same =
    sets-eq vs s 0 (omega arith) ∙ ap (λ (rest : List ℕ). vs ++ rest) (drop_all (0 + length vs) s (omega arith)) ∙ append-nil vs

pub stored_whole : (vs s : List ℕ) (at k : ℕ) → k ≡ length vs → at + length vs ≤ length s → put_mid at k s vs ≡ sets s at vs
stored_whole vs s at k same fits =
    let room : length (mid_of at k s) ≡ k = length-take-le k (drop at s) (omega (arith, length-drop at s)) in
    ap (put_mid at k s) (sym (stored_over vs (mid_of at k s) (omega arith))) ∙ front_stored vs s at k (omega arith)

pub all_bytes : (n : ℕ) (s : List ℕ) → length s ≡ n → bytes_at s 0 n ≡ s
all_bytes n s same =
    let none : n - length s ≡ 0 = omega arith in
    cut_bytes n s ∙ ap (λ (missing : ℕ). take n s ++ replicate missing 0) none ∙ append-nil (take n s) ∙ take_all n s (omega arith)

two_joined : (bs s : List ℕ) (at : ℕ) → bs ≡ bytes_at s at 2 → from_le_bytes w16 bs ≡ joined (bytes_at s at 2)
unfolding bytes_at joined
two_joined bs s at e = rw e (omega arith)

four_joined : (bs s : List ℕ) (at : ℕ) → bs ≡ bytes_at s at 4 → from_le_bytes w32 bs ≡ joined (bytes_at s at 4)
unfolding bytes_at joined
four_joined bs s at e = rw e (omega arith)

split_bytes : (n : ℕ) (s : List ℕ) (at : ℕ) → AreBytes s → split n (joined (bytes_at s at n)) ≡ bytes_at s at n
unfolding number_at number_bytes lowest_first
split_bytes n s at small = read_bytes Little n s at small

-- the numbers that two and four bytes make, which stand in an order
module _ (o : Order) (bs s : List ℕ) (at : ℕ) (small : AreBytes s) where
  pub two_read : (v : ℕ) → v ≡ from_le_bytes w16 bs → bs ≡ bytes_at s at 2 → joined (number_bytes o 2 v) ≡ number_at o 2 s at
  unfolding number_at number_bytes
  two_read v read e =
      let low : v ≡ joined (bytes_at s at 2) = read ∙ two_joined bs s at e in
      rw low (ap (λ (part : List ℕ). joined (lowest_first o part)) (split_bytes 2 s at small))

  pub four_read : (v : ℕ) → v ≡ from_le_bytes w32 bs → bs ≡ bytes_at s at 4 → joined (number_bytes o 4 v) ≡ number_at o 4 s at
  unfolding number_at number_bytes
  four_read v read e =
      let low : v ≡ joined (bytes_at s at 4) = read ∙ four_joined bs s at e in
      rw low (ap (λ (part : List ℕ). joined (lowest_first o part)) (split_bytes 4 s at small))

-- and the bytes of a number
pub two_bytes : (v : ℕ) → to_le_bytes w16 v ≡ split 2 v
unfolding split
two_bytes v = refl

pub four_bytes : (v : ℕ) → to_le_bytes w32 v ≡ split 4 v
unfolding split
four_bytes v =
    let third : v / 256 ^ 2 % 256 ≡ v / 256 / 256 % 256 = omega arith in
    let fourth : v / 256 ^ 3 % 256 ≡ v / 256 / 256 / 256 % 256 = omega arith in
    cc
