-- What others ask for elsewhere, and tasks that aren't on one clock.
use Rattle.std.proofs.Common.{◌≡◌, ℕ, zero, suc, ◌+◌, ◌*◌, ◌<◌, ◌≤◌, true, List, All, ap, arith}
use Rattle.std.proofs.Math.Nat.{mul-le-mul_left}
use Rattle.cpa_units.specs.declared.bound.Bound.{Bound}
use Rattle.cpa_units.specs.declared.bound.Bound.TheVariants.{Within, Overload}
use Rattle.cpa_units.specs.Bounds.{IsAtMost, bound_plus}
use Rattle.cpa_units.proofs.BoundLaws.{IsAtMost_refl, IsAtMost_trans, bound_plus-mono, bound_plus-ge_left}
use Rattle.cpa_events.specs.Events.{Model, delta_minus, IsNoDenser}
use Rattle.cpa_events.proofs.EventLaws.{delta_minus-denser}
use Rattle.cpa_window.specs.declared.rivals.Rival.{Rival}
use Rattle.cpa_window.specs.Rivals.{work_in, some_unbounded, AreNoHeavier}
use Rattle.cpa_window.specs.BusyWindow.{windows_of}
use Rattle.cpa_window.proofs.WindowLaws.{window-overload}
use Rattle.cpa_window.proofs.RivalLaws.{work_in-mono, work_in-unbounded}
use Rattle.cpa_window.proofs.BusyWindowLaws.{busy_window_bound-grows, busy_window_bound-same, busy_window_bound-overload}
use Rattle.cpa_spp.specs.Preemptive.{preemptive_demand, preemptive_bound}
use Rattle.cpa_phase.specs.declared.clock.Clock.{Clock}
use Rattle.cpa_phase.specs.Clocks.{clocks_work}
use Rattle.cpa_phase.specs.Growth.{AreClocksNoDenser, plain_clocks_work, IsSingle}
use Rattle.cpa_phase.proofs.WorkLaws.{clocks_work-denser, clocks_work-le_plain, singles_work}
use Rattle.cpa_offset.specs.Offsets.{demand, elsewhere, apart_bound}

-- ---- what others ask for elsewhere

pub elsewhere-grows : (clocks clocks' : List Clock) (free free' : List Rival) (w : ℕ) → AreClocksNoDenser clocks clocks' → AreNoHeavier free free' → IsAtMost (elsewhere clocks free w) (elsewhere clocks' free' w)
elsewhere-grows clocks clocks' free free' w c f =
    bound_plus-mono (Within (clocks_work clocks w)) (Within (clocks_work clocks' w)) (work_in free w) (work_in free' w) (clocks_work-denser clocks clocks' w c) (work_in-mono free free' w f)

pub elsewhere-le_plain : (clocks : List Clock) (free : List Rival) (w : ℕ) → IsAtMost (elsewhere clocks free w) (bound_plus (Within (plain_clocks_work clocks w)) (work_in free w))
elsewhere-le_plain clocks free w =
    bound_plus-mono (Within (clocks_work clocks w)) (Within (plain_clocks_work clocks w)) (work_in free w) (work_in free w) (clocks_work-le_plain clocks w) (IsAtMost_refl (work_in free w))

pub elsewhere-singles : (clocks : List Clock) (free : List Rival) (w : ℕ) → All IsSingle clocks → elsewhere clocks free w ≡ bound_plus (Within (plain_clocks_work clocks w)) (work_in free w)
elsewhere-singles clocks free w one = ap (λ n. bound_plus (Within n) (work_in free w)) (singles_work clocks w one)

-- ---- tasks that aren't on one clock

pub apart_bound-grows : (own own' : Model) (worst worst' blocking blocking' : ℕ) (rest rest' : ℕ → Bound) (limit : ℕ) → IsNoDenser own own' → worst ≤ worst' → blocking ≤ blocking' → ((w : ℕ) → IsAtMost (rest w) (rest' w)) → IsAtMost (apart_bound own worst blocking rest limit) (apart_bound own' worst' blocking' rest' limit)
apart_bound-grows own own' worst worst' blocking blocking' rest rest' limit o h b r =
    busy_window_bound-grows (demand worst blocking rest) (demand worst' blocking' rest') (delta_minus own) (delta_minus own') limit
    (λ q w.
    let jobs : q * worst ≤ q * worst' = mul-le-mul_left q h in
    bound_plus-mono (Within (blocking + q * worst)) (Within (blocking' + q * worst')) (rest w) (rest' w) (omega (arith, b, jobs)) (r w))
    (λ q. delta_minus-denser own own' q o)

pub apart_bound-plain : (own : Model) (worst blocking : ℕ) (rest : ℕ → Bound) (rivals : List Rival) (limit : ℕ) → ((w : ℕ) → rest w ≡ work_in rivals w) → apart_bound own worst blocking rest limit ≡ preemptive_bound own worst blocking rivals limit
apart_bound-plain own worst blocking rest rivals limit same =
    busy_window_bound-same (demand worst blocking rest) (preemptive_demand worst blocking rivals) (delta_minus own) limit
    (λ q w. ap (bound_plus (Within (blocking + q * worst))) (same w))

-- an input without a bound leaves none
no_room : (worst blocking : ℕ) (clocks : List Clock) (free : List Rival) (v : ℕ) → 0 < worst → some_unbounded free ≡ true → ¬ IsAtMost (demand worst blocking (elsewhere clocks free) 1 v) (Within v)
no_room worst blocking clocks free zero some h k =
    let least : IsAtMost (Within worst) (demand worst blocking (elsewhere clocks free) 1 0) = bound_plus-ge_left worst (blocking + 1 * worst) (elsewhere clocks free 0) (omega arith) in
    let none : worst ≤ 0 = IsAtMost_trans (Within worst) (demand worst blocking (elsewhere clocks free) 1 0) (Within 0) least k in
    omega arith
no_room worst blocking clocks free (suc v) some h k = rw (work_in-unbounded free v h) at k

pub apart_bound-unbounded : (own : Model) (worst blocking : ℕ) (clocks : List Clock) (free : List Rival) (limit : ℕ) → 0 < worst → some_unbounded free ≡ true → apart_bound own worst blocking (elsewhere clocks free) limit ≡ Overload
apart_bound-unbounded own worst blocking clocks free limit some h =
    let d : ℕ → ℕ → Bound = demand worst blocking (elsewhere clocks free) in
    busy_window_bound-overload (windows_of d limit) (delta_minus own) limit
    (window-overload (d 1) 0 limit (λ v first le. no_room worst blocking clocks free v some h))
