-- How a task's own jobs may come from the start of a busy window on, and what a number says that its bound comes to.
use Rattle.std.proofs.Common.{ℕ, ◌<◌, ◌≤◌, List, [], ◌∷◌, Option, Some, None, arith}
use Rattle.cpa_units.specs.declared.bound.Bound.{Bound}
use Rattle.cpa_units.specs.declared.bound.Bound.TheVariants.{Within}
use Rattle.cpa_units.specs.Bounds.{IsAtMost}
use Rattle.cpa_units.proofs.BoundLaws.{IsAtMost_refl, IsAtMost_trans}
use Rattle.cpa_events.specs.declared.stream.Stream.{Stream}
use Rattle.cpa_events.specs.Events.{Model, eta_plus, delta_minus}
use Rattle.cpa_events.proofs.EventLaws.{IsNoDenser_refl}
use Rattle.cpa_phase.specs.Phases.{phase_of, earliest_arrival, arrivals}
use Rattle.cpa_offset.specs.Offsets.{demand, others, window_bound, bound_from, apart_bound}
use Rattle.cpa_offset.proofs.WindowBoundLaws.{late-le_busy}
use Rattle.cpa_offset.proofs.BoundLaws.{le-offset_bound, others-alone}
use Rattle.cpa_offset.proofs.ApartLaws.{apart_bound-grows}
use Rattle.cpa_offset_can.specs.CanOffsets.{frames_bound, can_bound_from, can_apart_bound}
use Rattle.cpa_offset_can.proofs.CanLaws.{le-can_offset_bound, can_apart_bound-grows}
use Rattle.cpa_clock.specs.declared.anchor.Anchor.{Anchor}
use Rattle.cpa_clock.specs.Anchors.{placed_at}
use Rattle.cpa_clock.specs.Rivals.{ClockedRival, joint_of, rest_of}
use Rattle.cpa_clock.specs.Clocked.{preemptive_at, can_at}

-- by the place of the start on the clock of an input's only stream, or wherever it is
pub record OwnWindow : Type 0 where
  pub known : Option ℕ
  pub cycle : ℕ
  pub earliest : ℕ → ℕ → ℕ
  pub events : ℕ → ℕ → ℕ

abbrev pub off_clock : Model → OwnWindow
off_clock own = record { known = None; cycle = 1; earliest = λ x. delta_minus own; events = λ x. eta_plus own }

abbrev pub on_clock : (ℕ → ℕ) → Stream → Anchor → OwnWindow
on_clock cycle m a =
    record {
      known = Some a.clock;
      cycle = cycle a.clock;
      earliest = λ x. earliest_arrival m (phase_of m a.offset x);
      events = λ x. arrivals m (phase_of m a.offset x);
    }

abbrev pub own_window : (ℕ → ℕ) → Option Anchor → Model → OwnWindow
own_window cycle (Some a) (m ∷ ms) = on_clock cycle m a
own_window cycle (Some a) [] = off_clock []
own_window cycle None own = off_clock own

module _ (worst blocking : ℕ) (rivals : List ClockedRival) (cycle : ℕ → ℕ) (count limit r : ℕ) where
  -- what others ask for in a window that starts at x of a clock, if it is known where it is on one
  abbrev pub asked_by : Option ℕ → ℕ → ℕ → Bound
  asked_by known x w = others (joint_of known rivals) (rest_of known rivals cycle count) x w

  wherever : (x w : ℕ) → IsAtMost (asked_by None x w) (rest_of None rivals cycle count w)
  wherever x w = rw (others-alone (rest_of None rivals cycle count) x w) (IsAtMost_refl (rest_of None rivals cycle count w))

  apart-within : (own : Model) → IsAtMost (apart_bound own worst blocking (rest_of None rivals cycle count) limit) (Within r) → (x : ℕ) → IsAtMost (window_bound (demand worst blocking (asked_by None x)) (delta_minus own) limit) (Within r)
  apart-within own h x =
      let here : IsAtMost (window_bound (demand worst blocking (asked_by None x)) (delta_minus own) limit) (apart_bound own worst blocking (asked_by None x) limit) =
      late-le_busy (demand worst blocking (asked_by None x)) (delta_minus own) limit
      in
      IsAtMost_trans (window_bound (demand worst blocking (asked_by None x)) (delta_minus own) limit) (apart_bound own worst blocking (asked_by None x) limit) (Within r) here
      (IsAtMost_trans (apart_bound own worst blocking (asked_by None x) limit) (apart_bound own worst blocking (rest_of None rivals cycle count) limit) (Within r)
      (apart_bound-grows own own worst worst blocking blocking (asked_by None x) (rest_of None rivals cycle count) limit (IsNoDenser_refl own) (omega arith) (omega arith) (wherever x)) h)

  -- where a bound is at most r, so is that of each start
  pub preemptive-within : (anchor : Option Anchor) (own : Model) → IsAtMost (preemptive_at anchor own worst blocking rivals cycle count limit) (Within r)
      → (x : ℕ) → 0 < x → x ≤ (own_window cycle anchor own).cycle → IsAtMost (window_bound (demand worst blocking (asked_by (own_window cycle anchor own).known x)) ((own_window cycle anchor own).earliest x) limit) (Within r)
  preemptive-within (Some a) (m ∷ ms) h x some le =
      IsAtMost_trans (bound_from (placed_at m a worst) blocking (joint_of (Some a.clock) rivals) (rest_of (Some a.clock) rivals cycle count) limit x) (preemptive_at (Some a) (m ∷ ms) worst blocking rivals cycle count limit) (Within r)
      (le-offset_bound (placed_at m a worst) blocking (joint_of (Some a.clock) rivals) (rest_of (Some a.clock) rivals cycle count) limit (cycle a.clock) x some le) h
  preemptive-within (Some a) [] h x some le = apart-within [] h x
  preemptive-within None own h x some le = apart-within own h x

  module _ (bit : ℕ) where
    can_apart-within : (own : Model) → IsAtMost (can_apart_bound own worst blocking (rest_of None rivals cycle count) bit limit) (Within r) → (x : ℕ) → IsAtMost (frames_bound worst blocking (asked_by None x) (eta_plus own) (delta_minus own) bit limit) (Within r)
    can_apart-within own h x =
        IsAtMost_trans (can_apart_bound own worst blocking (asked_by None x) bit limit) (can_apart_bound own worst blocking (rest_of None rivals cycle count) bit limit) (Within r)
        (can_apart_bound-grows own own worst worst blocking blocking (asked_by None x) (rest_of None rivals cycle count) bit limit (IsNoDenser_refl own) (omega arith) (omega arith) (wherever x)) h

    -- and so on a CAN bus
    pub can-within : (anchor : Option Anchor) (own : Model) → IsAtMost (can_at anchor own worst blocking rivals cycle count bit limit) (Within r)
        → (x : ℕ) → 0 < x → x ≤ (own_window cycle anchor own).cycle → IsAtMost (frames_bound worst blocking (asked_by (own_window cycle anchor own).known x) ((own_window cycle anchor own).events x) ((own_window cycle anchor own).earliest x) bit limit) (Within r)
    can-within (Some a) (m ∷ ms) h x some le =
        IsAtMost_trans (can_bound_from (placed_at m a worst) blocking (joint_of (Some a.clock) rivals) (rest_of (Some a.clock) rivals cycle count) bit limit x) (can_at (Some a) (m ∷ ms) worst blocking rivals cycle count bit limit) (Within r)
        (le-can_offset_bound (placed_at m a worst) blocking (joint_of (Some a.clock) rivals) (rest_of (Some a.clock) rivals cycle count) bit limit (cycle a.clock) x some le) h
    can-within (Some a) [] h x some le = can_apart-within [] h x
    can-within None own h x some le = can_apart-within own h x
