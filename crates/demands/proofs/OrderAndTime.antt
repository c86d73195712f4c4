-- What is listed, and when it happened, is as document 01 says.
use Rattle.std.specs.Prelude.{Ok}
use Prim.Native.Nat.{ℕ, suc, ◌*◌, ◌^◌, ◌≤◌, ◌<◌}
use mathlib.Core.Bool.{false}
use mathlib.Core.List.{List}
use mathlib.Core.Path.{◌≡◌, refl, sym}
use native.Mathlib.Nat.{div-mul-le_self, div-add-mod', mod-lt, suc-mul}
use native.Mathlib.Omega.{arith}
use Rattle.rows.specs.Rows.{first_broken}
use Rattle.trace.proofs.Passed.{key_terms}
use Rattle.trace.proofs.Ring.{count_is, events_most, first_count, first_slot, round_count, round_slot}
use Rattle.trace.proofs.Times.{product_below}
use Rattle.trace.specs.Keys.{key}
use Rattle.trace.specs.Slots.{event_count}
use Rattle.trace.specs.Table.{dump_rows, row15}
use Rattle.trace.specs.Times.{gap, microseconds, ticks_of}
use Rattle.trace.specs.declared.Header.{Header}
use Rattle.words.proofs.Circles.{minus_gone, minus_low}
use Rattle.words.specs.Masks.{width}
use Rattle.demands.specs.OrderAndTime.{OrderAndTime}

pub not_above : (ticks rate : ℕ) → microseconds ticks rate * rate ≤ ticks * 1000000
unfolding microseconds
not_above ticks rate = div-mul-le_self (ticks * 1000000) rate

pub not_below : (ticks rate : ℕ) → 1 ≤ rate → ticks * 1000000 < suc (microseconds ticks rate) * rate
unfolding microseconds
not_below ticks rate some = rw suc-mul (omega (arith, div-add-mod' (ticks * 1000000) rate, mod-lt (ticks * 1000000) some))

module _ (s : List ℕ) (h : Header) (passed : first_broken (dump_rows s h) ≡ Ok tt) where
  fits : (unit serial p : ℕ) → (row15 unit serial (event_count s h)).broken ≡ false → p < event_count s h → key unit serial p < 2 ^ 64
  unfolding key
  fits unit serial p kept below = omega (arith, key_terms unit serial (event_count s h) kept)

  pub order_and_time : OrderAndTime s h
  unfolding gap ticks_of
  order_and_time = record {
    all_listed = sym (count_is s h passed);
    at_most = events_most s h passed;
    gone_round = λ used. (round_count s h passed used, round_slot s h passed used);
    not_round = λ unused. (first_count s h passed unused, first_slot s h passed unused);
    under_mask = λ earlier later. minus_low (width h.mask) later earlier;
    time_gone = λ stamp gone below. minus_gone (width h.mask) stamp gone below;
    ticks_oldest = refl;
    ticks_next = λ p. refl;
    product = product_below s h passed;
    not_above = λ ticks rate some. not_above ticks rate;
    not_below = not_below;
    key_fits = fits;
  }
