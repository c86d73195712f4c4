-- That the words of a write have 32 bits computes.
use Prim.Native.Nat.{ℕ, zero, suc, ◌^◌, ◌<◌}
use mathlib.Core.Bool.{Bool, true, ◌&&◌, and-eq-true_iff}
use mathlib.Core.List.{List, [], ◌∷◌}
use mathlib.Core.Path.{◌≡◌}
use native.Mathlib.Nat.{mod-lt}
use native.Mathlib.Omega.{arith}
use borrow.Author.Tests.{ltb-true}
use lib.Dec.{ltb}
use lib.ListN.{get_or, length}
use lib.Pow.{pow_pos}
use Rattle.writing.specs.Arguments.{IsSlot}
use Rattle.demands.specs.History.{Write, given}

abbrev are_words : List ℕ → Bool
are_words [] = true
are_words (v ∷ vs) = ltb v (2 ^ 32) && are_words vs

word_at : (vs : List ℕ) → are_words vs ≡ true → (i : ℕ) → i < length vs → get_or vs i 0 < 2 ^ 32
word_at [] are i below = absurd (omega arith)
word_at (v ∷ vs) are zero below = ltb-true v (2 ^ 32) ((and-eq-true_iff (ltb v (2 ^ 32)) (are_words vs)).0 are).0
word_at (v ∷ vs) are (suc i) below = word_at vs ((and-eq-true_iff (ltb v (2 ^ 32)) (are_words vs)).0 are).1 i (omega arith)

abbrev words_in : Write → List ℕ
words_in w = w.pointer ∷ w.field ∷ w.id ∷ w.first ∷ w.second ∷ w.third ∷ w.fourth ∷ []

pub given_words : (w : Write) → are_words (words_in w) ≡ true → IsSlot (given w)
unfolding given
given_words w are =
    let at = word_at (words_in w) are in
    record {
      pointer = at 0 (omega arith);
      field = at 1 (omega arith);
      id = at 2 (omega arith);
      stamp = mod-lt w.time (pow_pos 32);
      first = at 3 (omega arith);
      second = at 4 (omega arith);
      third = at 5 (omega arith);
      fourth = at 6 (omega arith);
    }
