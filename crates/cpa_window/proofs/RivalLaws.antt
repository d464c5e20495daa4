-- The work of rivals: it grows with them, and it is a number where their inputs are bounded.
use Rattle.std.proofs.Common.{◌≡◌, ℕ, zero, suc, ◌≤◌, true, false, List, [], ◌∷◌, Option, Some, None, map, refl, sym, ◌∙◌, ap, inl, inr, is_none, arith}
use Rattle.std.specs.List.{sum_by}
use Rattle.std.proofs.lemmas.Bool.{or_parts, or_cases}
use Rattle.std.proofs.lemmas.List.Sums.{sum_by-cons, sum_by-le-sum_by}
use Rattle.std.proofs.Math.Nat.{mul-le-mul_right}
use Rattle.cpa_units.specs.declared.bound.Bound.{Bound}
use Rattle.cpa_units.specs.declared.bound.Bound.TheVariants.{Within, Overload}
use Rattle.cpa_units.specs.Bounds.{IsAtMost, bound_plus, bound_times, sum_bounds}
use Rattle.cpa_units.proofs.BoundLaws.{IsAtMost_refl, zero_at_most, bound_plus-mono, bound_times-mono, bound_plus-overload}
use Rattle.cpa_events.specs.Events.{Model}
use Rattle.cpa_events.proofs.EventLaws.{eta_plus-zero, eta_plus-mono, eta_plus-denser}
use Rattle.cpa_window.specs.declared.rivals.Rival.{Rival}
use Rattle.cpa_window.specs.Rivals.{events_in, work_in, some_unbounded, bounded_events, rival_work, bounded_work, IsInputNoDenser, IsNoHeavier, AreNoHeavier}

pub events_in-mono : (a b : Option Model) (w : ℕ) → IsInputNoDenser a b → IsAtMost (events_in a w) (events_in b w)
events_in-mono (Some m) (Some n) w d = eta_plus-denser m n w d
events_in-mono None (Some n) w d = absurd d
events_in-mono None None w d = IsAtMost_refl (events_in None w)
events_in-mono (Some m) None zero d = omega (arith, eta_plus-zero m)
events_in-mono (Some m) None (suc w) d = tt

-- a sum over lists of which the second is rival by rival no lighter
pub sum_bounds-mono : (f g : Rival → Bound) (rs ss : List Rival) → ((r s : Rival) → IsNoHeavier r s → IsAtMost (f r) (g s)) → AreNoHeavier rs ss → IsAtMost (sum_bounds f rs) (sum_bounds g ss)
sum_bounds-mono f g [] ss step h = zero_at_most (sum_bounds g ss)
sum_bounds-mono f g (r ∷ rs) [] step h = absurd h
sum_bounds-mono f g (r ∷ rs) (s ∷ ss) step h =
    bound_plus-mono (f r) (g s) (sum_bounds f rs) (sum_bounds g ss) (step r s h.0) (sum_bounds-mono f g rs ss step h.1)

pub work_in-mono : (rs ss : List Rival) (w : ℕ) → AreNoHeavier rs ss → IsAtMost (work_in rs w) (work_in ss w)
work_in-mono rs ss w h =
    sum_bounds-mono (λ r. bound_times (events_in r.model w) r.worst) (λ r. bound_times (events_in r.model w) r.worst) rs ss
    (λ r s k. bound_times-mono (events_in r.model w) (events_in s.model w) r.worst s.worst (events_in-mono r.model s.model w k.model) k.worst) h

-- ---- bounded inputs

events_in-bounded : (m : Option Model) (w : ℕ) → is_none m ≡ false → events_in m w ≡ Within (bounded_events m w)
events_in-bounded (Some m) w h = refl
events_in-bounded None w h = cc

pub work_in-bounded : (rivals : List Rival) (w : ℕ) → some_unbounded rivals ≡ false → work_in rivals w ≡ Within (sum_by (rival_work w) rivals)
work_in-bounded [] w h = refl
work_in-bounded (r ∷ rs) w h =
    let parts = or_parts (is_none r.model) (some_unbounded rs) h in
    let here = events_in-bounded r.model w parts.0 in
    let rest = work_in-bounded rs w parts.1 in
    let whole = sum_by-cons (rival_work w) r rs in
    rw (here, rest, whole) refl

events_in-unbounded : (m : Option Model) (w : ℕ) → is_none m ≡ true → events_in m (suc w) ≡ Overload
events_in-unbounded (Some m) w h = cc
events_in-unbounded None w h = refl

pub work_in-unbounded : (rivals : List Rival) (w : ℕ) → some_unbounded rivals ≡ true → work_in rivals (suc w) ≡ Overload
work_in-unbounded [] w h = cc
work_in-unbounded (r ∷ rs) w h =
    elim (or_cases (is_none r.model) (some_unbounded rs) h) [
      | inl here ↦ rw (events_in-unbounded r.model w here) refl
      | inr there ↦ rw (work_in-unbounded rs w there) (bound_plus-overload (bound_times (events_in r.model (suc w)) r.worst))
    ]

bounded_events-mono : (m : Option Model) (v w : ℕ) → v ≤ w → bounded_events m v ≤ bounded_events m w
bounded_events-mono (Some m) v w h = eta_plus-mono m v w h
bounded_events-mono None v w h = omega arith

-- a longer window has no less work
pub bounded_work-mono : (rivals : List Rival) (v w : ℕ) → v ≤ w → bounded_work rivals v ≤ bounded_work rivals w
bounded_work-mono rivals v w h =
    sum_by-le-sum_by (rival_work v) (rival_work w) rivals (λ r. mul-le-mul_right r.worst (bounded_events-mono r.model v w h))

-- ---- other rivals with the same work

-- what a rival's work depends on: its input and its execution, and neither its slot nor its bound
abbrev pub load_of : Rival → Option Model × ℕ
load_of r = (r.model, r.worst)

-- the work of one load in a window
load_work : ℕ → Option Model × ℕ → Bound
load_work w load = bound_times (events_in load.0 w) load.1

work_in-loads : (rivals : List Rival) (w : ℕ) → work_in rivals w ≡ sum_bounds (load_work w) (map load_of rivals)
unfolding load_work
work_in-loads [] w = refl
work_in-loads (r ∷ rs) w = ap (bound_plus (bound_times (events_in r.model w) r.worst)) (work_in-loads rs w)

-- rivals with the same loads bring the same work
pub work_in-same : (rs ss : List Rival) (w : ℕ) → map load_of rs ≡ map load_of ss → work_in rs w ≡ work_in ss w
work_in-same rs ss w same = work_in-loads rs w ∙ ap (sum_bounds (load_work w)) same ∙ sym (work_in-loads ss w)
