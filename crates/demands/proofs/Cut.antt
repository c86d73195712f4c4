-- The first bytes of a dump, and a dump with bytes appended, have its header: what they get is what rows 1 to 10 say of that header and another length.
use Prim.Native.Nat.{ℕ, ◌+◌, ◌-◌, ◌≤◌, ◌<◌}
use mathlib.Core.List.{List, [], ◌++◌}
use mathlib.Core.Logic.{inl, inr}
use mathlib.Core.Path.{◌≡◌}
use native.Mathlib.Decide.{dec_lt}
use native.Mathlib.Nat.{zero-add}
use native.Mathlib.Omega.{arith}
use lib.ListN.{get_or-append, get_or, length, length-append, length-take, take}
use lib.Seq.{get_or-take, length-take-le}
use Rattle.rows.proofs.Rows.{passed_before}
use Rattle.rows.specs.Rows.{Accepted}
use Rattle.trace.proofs.Passed.{dump_short, one_pointer, registry_sized, slots_end, slots_start, slots_within, start_rows}
use Rattle.trace.proofs.SameBytes.{same_header}
use Rattle.trace.specs.Layout.{buffer_end, header_of, header_size, most_bytes, registry_end}
use Rattle.trace.specs.Table.{before_ends, header_rows}
use Rattle.trace.specs.declared.Header.{Header}
use Rattle.demands.specs.Cut.{CutAt, CutShort, MissedEnd, NonsenseEnd, RegistryThere, Resumed}
use Rattle.demands.specs.EveryCall.{AllRefused, SomeRefused}
use Rattle.demands.specs.NotRead.{NotRead}
use Rattle.demands.specs.Refusals.{given_at}
use Rattle.demands.proofs.CutShort.{begun_at, buffer_nonsense, buffer_right, cut_long, given_short, header_missed, registry_nonsense, registry_right, short_given, still_cut}
use Rattle.demands.proofs.EveryCall.{all_refused, cut_by_header}
use Rattle.demands.proofs.NotRead.{not_read}

pub says_cut : (s : List ℕ) (k : ℕ) → CutShort (header_of s) (length s) k → AllRefused s (given_at 26 k)
says_cut s k cut = all_refused s (given_at 26 k) (short_given (header_of s) (length s) k cut)

pub only_cut : (s : List ℕ) (k : ℕ) → SomeRefused s (given_at 26 k) → CutShort (header_of s) (length s) k
only_cut s k some = given_short (header_of s) (length s) k (cut_by_header s k some)

pub nonsense : (s : List ℕ) → Accepted (before_ends (header_of s) (length s)) → NonsenseEnd s
nonsense s begun = record {
  of_registry = λ wrong. all_refused s _ (registry_nonsense (header_of s) (length s) begun wrong);
  of_buffer = λ there wrong. all_refused s _ (buffer_nonsense (header_of s) (length s) begun there wrong);
}

-- the first n bytes
module _ (s : List ℕ) (n : ℕ) (passed : Accepted (header_rows (header_of s) (length s))) where
  abbrev h : Header
  h = header_of s

  abbrev front : List ℕ
  front = take n s

  -- header, registry and slots lie behind one another, and within the dump
  begins : header_size ≤ registry_end h
  begins = (registry_sized h (length s) _ passed).0

  goes_on : registry_end h ≤ buffer_end h
  goes_on = omega (arith, slots_start h (length s) _ passed, slots_end h (length s) _ passed)

  within : buffer_end h ≤ length s
  within = slots_within h (length s) [] passed

  short : length s ≤ most_bytes
  short = dump_short h (length s) _ passed

  begun : header_size ≤ n → n ≤ length s → Accepted (before_ends h n)
  begun long fewer = begun_at h (length s) (passed_before (start_rows h (length s)) _ passed) n long (omega (arith, short))

  -- where they are enough for the header they have it, and their own length
  front_cut : header_size ≤ n → n ≤ length s → (k : ℕ) → CutShort h n k → AllRefused front (given_at 26 k)
  front_cut long fewer k cut =
      says_cut front k (rw (same_header s front (λ i below aside. rw zero-add (get_or-take n s i 0 (omega arith))), length-take-le n s fewer) cut)

  pub cut : CutAt s n
  cut = record {
    in_header = λ below. all_refused front _ (header_missed (header_of front) (length front) (omega (arith, length-take n s)));
    in-registry = λ long below.
        let fewer : n ≤ length s = omega (arith, goes_on, within) in
        front_cut long fewer _ (begun long fewer, inl (registry_right h (length s) _ passed, omega arith));
    in_slots = λ reaches below.
        let long : header_size ≤ n = omega (arith, begins) in
        let fewer : n ≤ length s = omega (arith, within) in
        let there : RegistryThere h n = (registry_right h (length s) _ passed, reaches, one_pointer h (length s) _ passed) in
        front_cut long fewer _ (begun long fewer, inr (there, buffer_right h (length s) _ passed, omega arith));
    whole = λ from.
        not_read s front
        (record {
          size = inr (omega (arith, begins, goes_on, within, short), omega (arith, begins, goes_on, within, short, length-take n s));
          same = λ i read. by from i read (dec_lt i n);
        });
  }
    where
      by : buffer_end h ≤ n → (i : ℕ) → (NotRead h i → ⊥) → Dec (i < n) → get_or front i 0 ≡ get_or s i 0
      by from i read (yes below) = get_or-take n s i 0 below
      by from i read (no past) = absurd (read (inr (inr (omega (arith, begins, goes_on)))))

-- a dump that gets 26, with bytes appended
module _ (s : List ℕ) (k : ℕ) (given : SomeRefused s (given_at 26 k)) (more : List ℕ) where
  was_cut : CutShort (header_of s) (length s) k
  was_cut = only_cut s k given

  longer : length (s ++ more) ≡ length s + length more
  longer = length-append s more

  header_appended : header_of (s ++ more) ≡ header_of s
  header_appended =
      same_header s (s ++ more) (λ i below aside. rw zero-add (get_or-append s more 0 i (omega (arith, cut_long (header_of s) (length s) k was_cut))))

  fewer_missing : length more < k → AllRefused (s ++ more) (given_at 26 (k - length more))
  fewer_missing fewer =
      let rest : length s + k - length (s ++ more) ≡ k - length more = omega (arith, longer) in
      says_cut (s ++ more) _ (rw (header_appended, ← rest) (still_cut (header_of s) (length s) k was_cut (length (s ++ more)) (omega (arith, longer)) (omega (arith, longer))))

  -- a 26 that is given again is for the buffer end, where it was for the registry end
  cut_again : k ≤ length more → (j : ℕ) → CutShort (header_of s) (length (s ++ more)) j
      → (length s + k ≡ registry_end (header_of s)) × (length (s ++ more) + j ≡ buffer_end (header_of s)) × (1 ≤ j)
  cut_again all j cut = by cut.1 was_cut.1
    where
      by : MissedEnd (header_of s) (length (s ++ more)) j → MissedEnd (header_of s) (length s) k
          → (length s + k ≡ registry_end (header_of s)) × (length (s ++ more) + j ≡ buffer_end (header_of s)) × (1 ≤ j)
      by (inl registry) (inl before) = absurd (omega (arith, longer, registry.1, before.1))
      by (inl registry) (inr before) = absurd (omega (arith, longer, registry.1, before.0.1))
      by (inr slots) (inl before) = (before.1.1, slots.2.1, slots.2.0)
      by (inr slots) (inr before) = absurd (omega (arith, longer, slots.2, before.2))

pub resumed : (s : List ℕ) (k : ℕ) → SomeRefused s (given_at 26 k) → Resumed s k
resumed s k given = record {
  fewer = fewer_missing s k given;
  reached = λ more all j again. cut_again s k given more all j (rw (header_appended s k given more) at (only_cut (s ++ more) j again));
}
