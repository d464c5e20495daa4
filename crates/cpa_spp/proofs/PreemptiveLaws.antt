-- The bound under preemptive priority grows, and the code's demand is that of the definition.
use Rattle.std.proofs.Common.{◌≡◌, ℕ, zero, suc, ◌+◌, ◌*◌, ◌<◌, ◌≤◌, true, false, List, refl, ap, arith}
use Rattle.std.proofs.Math.Nat.{mul-le-mul_left}
use Rattle.cpa_units.specs.declared.bound.Bound.{Bound}
use Rattle.cpa_units.specs.declared.bound.Bound.TheVariants.{Within, Overload}
use Rattle.cpa_units.specs.Bounds.{IsAtMost, RespectsLimit, bound_plus}
use Rattle.cpa_units.proofs.BoundLaws.{bound_plus-mono, bound_plus-ge_left}
use Rattle.cpa_events.specs.Events.{Model}
use Rattle.cpa_events.specs.Events.{delta_minus, IsNoDenser}
use Rattle.cpa_events.proofs.EventLaws.{delta_minus-denser}
use Rattle.cpa_window.specs.declared.rivals.Rival.{Rival}
use Rattle.cpa_window.specs.Rivals.{work_in, bounded_work, some_unbounded, AreNoHeavier}
use Rattle.cpa_window.specs.BusyWindow.{windows_of}
use Rattle.cpa_window.proofs.WindowLaws.{window-overload}
use Rattle.cpa_window.proofs.RivalLaws.{work_in-mono, work_in-bounded, work_in-unbounded}
use Rattle.cpa_window.proofs.BusyWindowLaws.{busy_window_bound-grows, busy_window_bound-low, busy_window_bound-high, busy_window_bound-same, busy_window_bound-overload}
use Rattle.cpa_spp.specs.Preemptive.{preemptive_demand, preemptive_bound}

pub preemptive_bound-mono : (own own' : Model) (worst worst' blocking blocking' : ℕ) (rs ss : List Rival) (limit : ℕ) → IsNoDenser own own' → worst ≤ worst' → blocking ≤ blocking' → AreNoHeavier rs ss → IsAtMost (preemptive_bound own worst blocking rs limit) (preemptive_bound own' worst' blocking' ss limit)
preemptive_bound-mono own own' worst worst' blocking blocking' rs ss limit d h b k =
    busy_window_bound-grows (preemptive_demand worst blocking rs) (preemptive_demand worst' blocking' ss) (delta_minus own) (delta_minus own') limit
    (λ q w. bound_plus-mono (Within (blocking + q * worst)) (Within (blocking' + q * worst')) (work_in rs w) (work_in ss w) (omega (arith, b, own_jobs q)) (work_in-mono rs ss w k))
    (λ q. delta_minus-denser own own' q d)
  where
    own_jobs : (q : ℕ) → q * worst ≤ q * worst'
    own_jobs q = mul-le-mul_left q h

pub preemptive_bound-low : (own : Model) (worst blocking : ℕ) (rivals : List Rival) (limit : ℕ) → IsAtMost (Within worst) (preemptive_bound own worst blocking rivals limit)
preemptive_bound-low own worst blocking rivals limit =
    busy_window_bound-low (preemptive_demand worst blocking rivals) own limit worst (λ w. bound_plus-ge_left worst (blocking + 1 * worst) (work_in rivals w) (omega arith))

pub preemptive_bound-high : (own : Model) (worst blocking : ℕ) (rivals : List Rival) (limit : ℕ) → RespectsLimit limit (preemptive_bound own worst blocking rivals limit)
preemptive_bound-high own worst blocking rivals limit = busy_window_bound-high (preemptive_demand worst blocking rivals) (delta_minus own) limit

-- rivals that bring the same work leave the same bound: neither their slots nor their bounds count
pub preemptive_bound-same : (own : Model) (worst blocking : ℕ) (rs ss : List Rival) (limit : ℕ) → ((w : ℕ) → work_in rs w ≡ work_in ss w) → preemptive_bound own worst blocking rs limit ≡ preemptive_bound own worst blocking ss limit
preemptive_bound-same own worst blocking rs ss limit same =
    busy_window_bound-same (preemptive_demand worst blocking rs) (preemptive_demand worst blocking ss) (delta_minus own) limit (λ q w. ap (bound_plus (Within (blocking + q * worst))) (same w))

-- each job asks for a tick, so a busy window has a last job
pub preemptive_demand-ge : (worst blocking : ℕ) (rivals : List Rival) (q w : ℕ) → 0 < worst → IsAtMost (Within q) (preemptive_demand worst blocking rivals q w)
preemptive_demand-ge worst blocking rivals q w some =
    let own : q * 1 ≤ q * worst = mul-le-mul_left q some in
    bound_plus-ge_left q (blocking + q * worst) (work_in rivals w) (omega arith)

-- where all inputs are bounded, the demand is a number
pub demand-bounded : (worst blocking : ℕ) (rivals : List Rival) (q w : ℕ) → some_unbounded rivals ≡ false → Within (blocking + q * worst + bounded_work rivals w) ≡ preemptive_demand worst blocking rivals q w
demand-bounded worst blocking rivals q w h = rw (work_in-bounded rivals w h) refl

no_room_at : (worst blocking : ℕ) (b : Bound) → 0 < worst → ¬ IsAtMost (bound_plus (Within (blocking + 1 * worst)) b) (Within 0)
no_room_at worst blocking (Within b) some h = omega arith
no_room_at worst blocking Overload some h = h

no_room : (worst blocking : ℕ) (rivals : List Rival) (v : ℕ) → 0 < worst → some_unbounded rivals ≡ true → ¬ IsAtMost (preemptive_demand worst blocking rivals 1 v) (Within v)
no_room worst blocking rivals zero some h k = no_room_at worst blocking (work_in rivals 0) some k
no_room worst blocking rivals (suc v) some h k = rw (work_in-unbounded rivals v h) at k

-- where one is not, there is no bound
pub unbounded-overload : (own : Model) (worst blocking : ℕ) (rivals : List Rival) (limit : ℕ) → 0 < worst → some_unbounded rivals ≡ true → preemptive_bound own worst blocking rivals limit ≡ Overload
unbounded-overload own worst blocking rivals limit some h =
    busy_window_bound-overload (windows_of (preemptive_demand worst blocking rivals) limit) (delta_minus own) limit
    (window-overload (preemptive_demand worst blocking rivals 1) 0 limit (λ v first le. no_room worst blocking rivals v some h))
