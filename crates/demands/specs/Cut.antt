-- An upload that was cut is told from a nonsense end (document 02, A1): every call that reads a trace buffer says so (mending only of the registry end), with the count of missing bytes,
-- and that many bytes appended reach the end that was missed.
use Rattle.std.specs.Prelude.{ℕ, ◌+◌, ◌-◌, ◌*◌, ◌≤◌, ◌<◌, List, ◌++◌, ◌⊎◌, ◌≡◌, length, take}
use Rattle.rows.specs.Rows.{Accepted}
use Rattle.trace.specs.Layout.{buffer_end, buffer_start, entry_size, header_of, header_size, most_bytes, registry_end, slot_size}
use Rattle.trace.specs.Table.{before_ends}
use Rattle.trace.specs.declared.Header.{Header}
use Rattle.demands.specs.EveryCall.{AllRefused, SomeRefused}
use Rattle.demands.specs.NotRead.{SameAnswers}
use Rattle.demands.specs.Refusals.{given_at}

-- an end offset that is right, whatever the dump's length: a number of whole parts behind a start, and at most 65,536
pub record RightEnd (start size end : ℕ) : Type 0 where
  pub parts : ℕ
  pub whole : start + parts * size ≡ end
  pub most : end ≤ most_bytes

-- the registry has whole entries or none, the buffer whole slots and at least one
abbrev pub RightRegistry : Header → Type 0
RightRegistry h = RightEnd header_size (entry_size h) (registry_end h)

abbrev pub RightBuffer : Header → Type 0
RightBuffer h = (buffer_start h < buffer_end h) × RightEnd (buffer_start h) (slot_size h) (buffer_end h)

-- the registry is there, and the slots start where it ends
abbrev pub RegistryThere : Header → ℕ → Type 0
RegistryThere h n = RightRegistry h × (registry_end h ≤ n) × (h.buffer_start ≡ h.registry_end)

-- n bytes have come, and k, at least one, are missing up to an end
abbrev pub Missing : ℕ → ℕ → ℕ → Type 0
Missing n k end = (1 ≤ k) × (n + k ≡ end)

-- an end that is right is missed: the registry end, or, where the registry is there, the buffer end
abbrev pub MissedEnd : Header → ℕ → ℕ → Type 0
MissedEnd h n k = (RightRegistry h × Missing n k (registry_end h)) ⊎ (RegistryThere h n × RightBuffer h × Missing n k (buffer_end h))

-- an upload that was cut after n bytes: 1 to 6 pass, and k bytes are missing up to an end that is right
abbrev pub CutShort : Header → ℕ → ℕ → Type 0
CutShort h n k = Accepted (before_ends h n) × MissedEnd h n k

-- where 1 to 6 pass, an end that is not right, as one above 65,536, is nonsense and gets 7 or 9, whatever the length
pub record NonsenseEnd (s : List ℕ) : Type 0 where
  pub of_registry : (RightRegistry (header_of s) → ⊥) → AllRefused s (given_at 7 0)
  pub of_buffer : RegistryThere (header_of s) (length s) → (RightBuffer (header_of s) → ⊥) → AllRefused s (given_at 9 0)

-- what the first n bytes of a dump get: 1 within the header, 26 before either end with what is missing up to it, and from the buffer end on what the whole dump gets
pub record CutAt (s : List ℕ) (n : ℕ) : Type 0 where
  pub in_header : n < header_size → AllRefused (take n s) (given_at 1 0)
  pub in-registry : header_size ≤ n → n < registry_end (header_of s) → AllRefused (take n s) (given_at 26 (registry_end (header_of s) - n))
  pub in_slots : registry_end (header_of s) ≤ n → n < buffer_end (header_of s) → AllRefused (take n s) (given_at 26 (buffer_end (header_of s) - n))
  pub whole : buffer_end (header_of s) ≤ n → SameAnswers s (take n s)

-- what is so of any bytes appended to a dump that gets 26 with the place k
pub record Resumed (s : List ℕ) (k : ℕ) : Type 0 where
  -- while fewer than k have come, the others are missing
  pub fewer : (more : List ℕ) → length more < k → AllRefused (s ++ more) (given_at 26 (k - length more))
  -- once they have come, and maybe others behind them, no 26 is given for that end: one that is given is for the buffer end, and it was the registry end
  -- that was missed
  pub reached : (more : List ℕ) → k ≤ length more → (j : ℕ) → SomeRefused (s ++ more) (given_at 26 j)
      → (length s + k ≡ registry_end (header_of s)) × (length (s ++ more) + j ≡ buffer_end (header_of s)) × (1 ≤ j)
