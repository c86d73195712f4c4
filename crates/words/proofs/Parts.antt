-- A part of known length: what is read in it is read of the whole, and what is stored in it is stored in the whole. So a total read or store of such a part needs no test of the end.
use Rattle.std.proofs.Common.{◌≡◌, ℕ, suc, ◌+◌, ◌<◌, ◌≤◌, List, [], ◌∷◌, length, get_or, take, drop, set, ◌∙◌, add-zero, add_assoc, add-suc, arith, get_or-drop, get_or-take, drop-set-lt}
use lib.Seq.{sets, take-set-le, take-set-lt, drop-set-add}
use borrow.Rule.Slice.PartMut.{mid_of, put_mid, post_of, put_same}
use Rattle.words.specs.Words.{number_at, word_at}
use Rattle.words.specs.declared.Order.{Order}
use Rattle.words.proofs.Runs.{same_number}

pub part_byte : (s : List ℕ) (at size k : ℕ) → k < size → get_or (mid_of at size s) k 0 ≡ get_or s (at + k) 0
part_byte s at size k within = get_or-take size (drop at s) k 0 within ∙ get_or-drop at s k 0

pub part_read : (o : Order) (n : ℕ) (s : List ℕ) (at size k : ℕ) → k + n ≤ size → number_at o n (mid_of at size s) k ≡ number_at o n s (at + k)
part_read o n s at size k within =
    same_number o n (mid_of at size s) s k (at + k) (λ j below. rw add_assoc (part_byte s at size (k + j) (omega arith)))

pub part_word : (o : Order) (s : List ℕ) (at size : ℕ) → 4 ≤ size → word_at o (mid_of at size s) 0 ≡ word_at o s at
part_word o s at size within = rw add-zero at (part_read o 4 s at size 0 (omega arith))

-- one store moves into the whole
module _ (s : List ℕ) (at size k v : ℕ) (within : k < size) where
  front_kept : take at (set s (at + k) v) ≡ take at s
  front_kept = take-set-le at s (at + k) v (omega arith)

  part_set : mid_of at size (set s (at + k) v) ≡ set (mid_of at size s) k v
  part_set = rw drop-set-add (take-set-lt size (drop at s) k v within)

  rest_kept : post_of at size (set s (at + k) v) ≡ post_of at size s
  rest_kept = rw drop-set-add (drop-set-lt size (drop at s) k v within)

pub part_stored : (vs s : List ℕ) (at size k : ℕ) → k + length vs ≤ size → put_mid at size s (sets (mid_of at size s) k vs) ≡ sets s (at + k) vs
part_stored [] s at size k within = put_same at size s
part_stored (v ∷ vs) s at size k within =
    let here : k < size = omega arith in
    let later = part_stored vs (set s (at + k) v) at size (suc k) (omega arith) in
    rw (front_kept s at size k v here, part_set s at size k v here, rest_kept s at size k v here, add-suc) at later

pub front_stored : (vs s : List ℕ) (at size : ℕ) → length vs ≤ size → put_mid at size s (sets (mid_of at size s) 0 vs) ≡ sets s at vs
front_stored vs s at size within = rw add-zero at (part_stored vs s at size 0 (omega arith))
