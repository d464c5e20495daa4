-- The bound under round robin grows, and the code's demand is that of the definition.
use Rattle.std.proofs.Common.{◌≡◌, ℕ, ◌+◌, ◌*◌, ◌<◌, ◌≤◌, List, [], ◌∷◌, Option, Some, None, refl, arith}
use Rattle.std.proofs.Math.Nat.{mul-le-mul_left, mul-le-mul_right, le_trans}
use Rattle.std.proofs.lemmas.List.Sums.{sum_by-cons}
use Rattle.std.specs.Int.{div_ceil}
use Rattle.cpa_units.specs.declared.bound.Bound.{Bound}
use Rattle.cpa_units.specs.declared.bound.Bound.TheVariants.{Within, Overload}
use Rattle.cpa_units.specs.Bounds.{IsAtMost, RespectsLimit, bound_min, bound_times, sum_bounds}
use Rattle.cpa_units.proofs.NumberLaws.{div_ceil-mono}
use Rattle.cpa_units.proofs.BoundLaws.{bound_plus-mono, bound_times-mono, bound_min-mono, bound_plus-ge_left}
use Rattle.cpa_events.specs.Events.{Model}
use Rattle.cpa_events.specs.Events.{delta_minus, IsNoDenser}
use Rattle.cpa_events.proofs.EventLaws.{eta_plus-mono, eta_plus-denser, delta_minus-denser}
use Rattle.cpa_window.specs.declared.rivals.Rival.{Rival}
use Rattle.cpa_window.specs.Rivals.{IsInputNoDenser, IsNoHeavier, AreNoHeavier}
use Rattle.cpa_window.specs.Walk.{IsSteady}
use Rattle.cpa_window.proofs.RivalLaws.{sum_bounds-mono}
use Rattle.cpa_window.proofs.BusyWindowLaws.{busy_window_bound-grows, busy_window_bound-low, busy_window_bound-high}
use Rattle.cpa_rr.specs.RoundRobin.{events_with_backlog, work_in_rounds, round_robin_demand, round_robin_bound}
use Rattle.cpa_rr.specs.RoundRobinWork.{slots_or_work, share_of, shares_of, round_robin_work, IsSettled}

events_with_backlog-mono : (m n : Option Model) (a b : Bound) (w : ℕ) → IsInputNoDenser m n → IsAtMost a b → IsAtMost (events_with_backlog m a w) (events_with_backlog n b w)
events_with_backlog-mono m None a b w d h = tt
events_with_backlog-mono None (Some n) a b w d h = absurd d
events_with_backlog-mono (Some m) (Some n) a Overload w d h = tt
events_with_backlog-mono (Some m) (Some n) Overload (Within b) w d h = absurd h
events_with_backlog-mono (Some m) (Some n) (Within a) (Within b) w d h =
    le_trans (eta_plus-denser m n (w + a) d) (eta_plus-mono n (w + a) (w + b) (omega arith))

work_in_rounds-mono : (rounds rounds' : ℕ) (r s : Rival) (w : ℕ) → rounds ≤ rounds' → IsNoHeavier r s → IsAtMost (work_in_rounds rounds r w) (work_in_rounds rounds' s w)
work_in_rounds-mono rounds rounds' r s w h k =
    let slots : rounds * r.slot ≤ rounds' * s.slot = rw k.slot (mul-le-mul_right s.slot h) in
    bound_min-mono (Within (rounds * r.slot)) (Within (rounds' * s.slot)) _ _ slots
    (bound_times-mono (events_with_backlog r.model r.bound w) (events_with_backlog s.model s.bound w) r.worst s.worst (events_with_backlog-mono r.model s.model r.bound s.bound w k.model k.bound) k.worst)

pub round_robin_bound-mono : (own own' : Model) (worst worst' slot : ℕ) (rs ss : List Rival) (limit : ℕ) → IsNoDenser own own' → worst ≤ worst' → AreNoHeavier rs ss → IsAtMost (round_robin_bound own worst slot rs limit) (round_robin_bound own' worst' slot ss limit)
round_robin_bound-mono own own' worst worst' slot rs ss limit d h k =
    busy_window_bound-grows (round_robin_demand worst slot rs) (round_robin_demand worst' slot ss) (delta_minus own) (delta_minus own') limit
    (λ q w.
    let more : q * worst ≤ q * worst' = mul-le-mul_left q h in
    let rounds = div_ceil-mono (q * worst) (q * worst') slot more in
    bound_plus-mono (Within (q * worst)) (Within (q * worst')) _ _ more
    (sum_bounds-mono (λ r. work_in_rounds (div_ceil (q * worst) slot) r w) (λ r. work_in_rounds (div_ceil (q * worst') slot) r w) rs ss
    (λ r s. work_in_rounds-mono (div_ceil (q * worst) slot) (div_ceil (q * worst') slot) r s w rounds) k))
    (λ q. delta_minus-denser own own' q d)

pub round_robin_bound-low : (own : Model) (worst slot : ℕ) (rivals : List Rival) (limit : ℕ) → IsAtMost (Within worst) (round_robin_bound own worst slot rivals limit)
round_robin_bound-low own worst slot rivals limit =
    busy_window_bound-low (round_robin_demand worst slot rivals) own limit worst (λ w. bound_plus-ge_left worst (1 * worst) _ (omega arith))

pub round_robin_bound-high : (own : Model) (worst slot : ℕ) (rivals : List Rival) (limit : ℕ) → RespectsLimit limit (round_robin_bound own worst slot rivals limit)
round_robin_bound-high own worst slot rivals limit = busy_window_bound-high (round_robin_demand worst slot rivals) (delta_minus own) limit

-- each job asks for a tick, so a busy window has a last job
pub round_robin_demand-ge : (worst slot : ℕ) (rivals : List Rival) (q w : ℕ) → 0 < worst → IsAtMost (Within q) (round_robin_demand worst slot rivals q w)
round_robin_demand-ge worst slot rivals q w some =
    let own : q * 1 ≤ q * worst = mul-le-mul_left q some in
    bound_plus-ge_left q (q * worst) _ (omega arith)

-- ---- the demand is a number

bounded_share : (slots worst : ℕ) (m : Option Model) (bound : Bound) (window : ℕ) → bound_min (Within slots) (bound_times (events_with_backlog m bound window) worst) ≡ Within (slots_or_work slots worst m bound window)
bounded_share slots worst (Some m) (Within bound) window = refl
bounded_share slots worst (Some m) Overload window = refl
bounded_share slots worst None bound window = refl

bounded_shares : (rounds : ℕ) (rivals : List Rival) (window : ℕ) → sum_bounds (λ r. work_in_rounds rounds r window) rivals ≡ Within (shares_of rivals rounds window)
bounded_shares rounds [] window = refl
bounded_shares rounds (r ∷ rs) window =
    rw (bounded_share (rounds * r.slot) r.worst r.model r.bound window, bounded_shares rounds rs window, sum_by-cons (λ r. share_of r rounds window) r rs) refl

pub demand-number : (worst slot : ℕ) (rivals : List Rival) (q w : ℕ) → Within (round_robin_work worst slot rivals q w) ≡ round_robin_demand worst slot rivals q w
demand-number worst slot rivals q w = rw (bounded_shares (div_ceil (q * worst) slot) rivals w) refl

-- ---- windows that are known from the last one

-- until a rival sends something new, a longer window asks for no more than the jobs that it has more
pub round_robin_work-steady : (worst slot : ℕ) (rivals : List Rival) (jobs from until : ℕ) → IsSettled (shares_of rivals) (div_ceil (jobs * worst) slot) from until → IsSteady (round_robin_work worst slot rivals) worst jobs from until
round_robin_work-steady worst slot rivals jobs from until s =
    record {
      adds = λ q v w j f lt le.
          let own : jobs * worst ≤ q * worst = mul-le-mul_right worst j in
          let rounds = div_ceil-mono (jobs * worst) (q * worst) slot own in
          omega (arith, s.stays (div_ceil (q * worst) slot) (div_ceil ((q + 1) * worst) slot) v w rounds f lt le);
    }
