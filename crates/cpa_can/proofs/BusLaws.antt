-- How long the bus is busy at least, and what is left of a bound where the first frame can't start.
use Rattle.std.proofs.Common.{◌≡◌, ℕ, ◌+◌, ◌-◌, ◌*◌, ◌<◌, ◌≤◌, false, List, Option, Some, None, IfSome, IfNone, inl, inr, refl, arith}
use Rattle.std.proofs.Math.Nat.{mul-le-mul_right}
use Rattle.std.proofs.lemmas.Bool.{cases_lt}
use Rattle.cpa_units.specs.declared.bound.Bound.{Bound}
use Rattle.cpa_units.specs.declared.bound.Bound.TheVariants.{Within, Overload}
use Rattle.cpa_events.specs.Events.{Model}
use Rattle.cpa_events.specs.Events.{eta_plus, IsModel}
use Rattle.cpa_events.proofs.EventLaws.{eta_plus-one}
use Rattle.cpa_window.specs.declared.rivals.Rival.{Rival}
use Rattle.cpa_window.specs.Rivals.{bounded_work, some_unbounded}
use Rattle.cpa_window.specs.Windows.{window, IsWindow}
use Rattle.cpa_window.proofs.WindowLaws.{window-is}
use Rattle.cpa_window.proofs.RivalLaws.{bounded_work-mono}
use Rattle.cpa_can.specs.Can.{can_busy_demand, can_response, greatest_in_busy_window, can_bound}
use Rattle.cpa_can.specs.CanWork.{busy_work, start_work, IsCrowdedBelow}
use Rattle.cpa_can.proofs.FrameLaws.{frame_start, response-none, greatest-overload}

-- a window in which no shorter one than `from` has room may be looked for from there on
pub window-further : (demand : ℕ → ℕ) (first from limit : ℕ) (found : Bound) → first ≤ from → ((v : ℕ) → first ≤ v → v < from → v < demand v)
    → IsWindow (λ v. Within (demand v)) from limit found → IsWindow (λ v. Within (demand v)) first limit found
window-further demand first from limit (Within w) later crowded is = (
  omega (arith, later, is.0),
  is.1,
  is.2,
  λ v low less room. elim (cases_lt v from) [
    | inl before ↦ absurd (let full = crowded v low before in omega arith)
    | inr past ↦ is.3 v past less room
  ],
)
window-further demand first from limit Overload later crowded is =
    λ v low within room.
    elim (cases_lt v from) [
      | inl before ↦ absurd (let full = crowded v low before in omega arith)
      | inr past ↦ is v past within room
    ]

-- the bus is busy until the first frame is through, where that is as long as a bit
pub busy-crowded : (own : Model) (worst blocking bit : ℕ) (rivals : List Rival) (first v : ℕ) → IsModel own → bit ≤ worst
    → IsCrowdedBelow (start_work worst blocking bit rivals 0) first → 1 ≤ v → v < first + worst → v < busy_work own worst blocking rivals v
busy-crowded own worst blocking bit rivals first v is_model long crowded some before =
    let frame : 1 * worst ≤ eta_plus own v * worst = mul-le-mul_right worst (eta_plus-one own v is_model some) in
    elim (cases_lt v worst) [
      | inl short ↦ omega (arith, frame, short)
      | inr past ↦
          let start : v - worst < blocking + 0 * worst + bounded_work rivals (v - worst + bit) = crowded (v - worst) (omega (arith, past, before)) in
          let later : bounded_work rivals (v - worst + bit) ≤ bounded_work rivals v = bounded_work-mono rivals (v - worst + bit) v (omega (arith, past, long)) in
          omega (arith, frame, start, later, past)
    ]

-- where the first frame can't start within the limit there is no bound
module _ (own : Model) (worst blocking : ℕ) (rivals : List Rival) (bit limit : ℕ) (is_model : IsModel own) (bounded : some_unbounded rivals ≡ false) (past : IsWindow (λ v. Within (start_work worst blocking bit rivals 0 v)) 0 limit Overload) where
  unstarted_at : (busy : Bound) → IsWindow (can_busy_demand own worst blocking rivals) 1 limit busy → greatest_in_busy_window (can_response own worst blocking rivals bit limit) (eta_plus own) busy ≡ Overload
  unstarted_at Overload is = refl
  unstarted_at (Within busy) is =
      let one : 1 ≤ eta_plus own busy = eta_plus-one own busy is_model (omega (arith, is.0)) in
      let start = frame_start own worst blocking rivals bit limit bounded 0 Overload past in
      greatest-overload own worst blocking rivals bit limit 1 (eta_plus own busy) (omega arith) one (response-none own worst blocking rivals bit limit 1 start)

  pub unstarted : can_bound own worst blocking rivals bit limit ≡ Overload
  unstarted = unstarted_at (window (can_busy_demand own worst blocking rivals) 1 limit) (window-is (can_busy_demand own worst blocking rivals) 1 limit)

-- so the busy window may be looked for from there on
module _ (own : Model) (worst blocking bit : ℕ) (rivals : List Rival) (first limit : ℕ) (is_model : IsModel own) (some : 1 ≤ worst) (long : bit ≤ worst) (crowded : IsCrowdedBelow (start_work worst blocking bit rivals 0) first) where
  busy-from : (found : Bound) → IsWindow (λ v. Within (busy_work own worst blocking rivals v)) (first + worst) limit found → IsWindow (λ v. Within (busy_work own worst blocking rivals v)) 1 limit found
  busy-from found is = window-further (busy_work own worst blocking rivals) 1 (first + worst) limit found (omega (arith, some)) (λ v one less. busy-crowded own worst blocking bit rivals first v is_model long crowded one less) is

  pub busy-found : (o : Option ℕ) → IfSome o (λ w. IsWindow (λ v. Within (busy_work own worst blocking rivals v)) (first + worst) limit (Within w)) → IfSome o (λ w. IsWindow (λ v. Within (busy_work own worst blocking rivals v)) 1 limit (Within w))
  busy-found None is = tt
  busy-found (Some w) is = busy-from (Within w) is

  pub busy-none : (o : Option ℕ) → IfNone o (IsWindow (λ v. Within (busy_work own worst blocking rivals v)) (first + worst) limit Overload) → IfNone o (IsWindow (λ v. Within (busy_work own worst blocking rivals v)) 1 limit Overload)
  busy-none None is = busy-from Overload is
  busy-none (Some w) is = tt
