-- Order, time and keys in document 01's own words, of a dump that passes the check.
use Rattle.std.specs.Prelude.{ℕ, suc, ◌+◌, ◌*◌, ◌%◌, ◌^◌, ◌≤◌, ◌<◌, true, false, List, ◌≡◌, length}
use Rattle.trace.specs.Keys.{key}
use Rattle.trace.specs.Layout.{current_slot, slot_count}
use Rattle.trace.specs.Ring.{oldest_first, slot_of}
use Rattle.trace.specs.Slots.{event_count}
use Rattle.trace.specs.Table.{row15}
use Rattle.trace.specs.Times.{gap, microseconds, stamp_of, ticks_of}
use Rattle.trace.specs.declared.Header.{Header}
use Rattle.demands.specs.Masks.{range}
use Rattle.demands.specs.Turns.{current_is_used}

pub record OrderAndTime (s : List ℕ) (h : Header) : Type 0 where
  -- there are as many events as used slots, and at most 2,046
  pub all_listed : length (oldest_first s h) ≡ event_count s h
  pub at_most : event_count s h ≤ 2046
  -- a ring that has gone round starts at current and goes on from the last slot to the first; another starts at slot 0
  pub gone_round : current_is_used s h ≡ true → (event_count s h ≡ slot_count h) × ((p : ℕ) → p < event_count s h → slot_of s h p ≡ (current_slot h + p) % slot_count h)
  pub not_round : current_is_used s h ≡ false → (event_count s h ≡ current_slot h) × ((p : ℕ) → p < event_count s h → slot_of s h p ≡ p)
  -- a stamp counts only under the mask, and a gap below the timer range is the time gone
  pub under_mask : (earlier later : ℕ) → gap h.mask (earlier % range h.mask) (later % range h.mask) ≡ gap h.mask earlier later
  pub time_gone : (stamp gone : ℕ) → gone < range h.mask → gap h.mask stamp (stamp + gone) ≡ gone
  -- ticks of an event are the sum of gaps since the oldest, whose ticks are 0
  pub ticks_oldest : ticks_of s h 0 ≡ 0
  pub ticks_next : (p : ℕ) → ticks_of s h (suc p) ≡ ticks_of s h p + gap h.mask (stamp_of s h p) (stamp_of s h (suc p))
  -- the product stays below two to the 63
  pub product : (p : ℕ) → p < event_count s h → ticks_of s h p * 1000000 < 2 ^ 63
  -- microseconds never pass the ticks' exact time, and fall short of it by less than one
  pub not_above : (ticks rate : ℕ) → 1 ≤ rate → microseconds ticks rate * rate ≤ ticks * 1000000
  pub not_below : (ticks rate : ℕ) → 1 ≤ rate → ticks * 1000000 < suc (microseconds ticks rate) * rate
  -- where row 15 is not broken, a key fits 64 bits
  pub key_fits : (unit serial p : ℕ) → (row15 unit serial (event_count s h)).broken ≡ false → p < event_count s h → key unit serial p < 2 ^ 64
