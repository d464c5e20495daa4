-- Where the first frame starts late, the bound is greater.
use Rattle.std.proofs.Common.{◌≡◌, ℕ, ◌+◌, ◌≤◌, false, List, inl, inr, arith}
use Rattle.std.proofs.lemmas.Bool.{cases_lt}
use Rattle.cpa_units.specs.declared.bound.Bound.{Bound}
use Rattle.cpa_units.specs.declared.bound.Bound.TheVariants.{Within, Overload}
use Rattle.cpa_units.specs.Bounds.{IsAtMost, bound_plus, bound_minus, capped, greatest_of}
use Rattle.cpa_units.proofs.BoundLaws.{IsAtMost_trans, le-greatest_of, capped-within, capped-past}
use Rattle.cpa_events.specs.Events.{Model}
use Rattle.cpa_events.specs.Events.{eta_plus, IsModel}
use Rattle.cpa_events.proofs.EventLaws.{delta_minus-one, eta_plus-one}
use Rattle.cpa_window.specs.declared.rivals.Rival.{Rival}
use Rattle.cpa_window.specs.Rivals.{some_unbounded}
use Rattle.cpa_window.specs.Windows.{window, IsWindow}
use Rattle.cpa_window.proofs.WindowLaws.{window-is}
use Rattle.cpa_window.proofs.WalkLaws.{window-later}
use Rattle.cpa_can.specs.Can.{can_busy_demand, can_start, can_response, greatest_in_busy_window, can_bound}
use Rattle.cpa_can.specs.CanWork.{start_work}
use Rattle.cpa_can.proofs.FrameLaws.{frame_start}

-- a frame that is done within some time has started within it
started : (limit worst most : ℕ) (start : Bound) → IsAtMost (bound_minus (capped limit (bound_plus start (Within worst))) 0) (Within most) → IsAtMost start (Within most)
started limit worst most Overload h = h
started limit worst most (Within begin) h =
    elim (cases_lt limit (begin + worst)) [
      | inl past ↦ let none = rw (capped-past limit (begin + worst) past) at h in absurd none
      | inr within ↦ let ends = rw (capped-within limit (begin + worst) within) at h in omega (arith, ends)
    ]

module _ (own : Model) (worst blocking : ℕ) (rivals : List Rival) (bit limit most latest : ℕ) (is_model : IsModel own) (cut : (v : ℕ) → v ≤ limit → v ≤ most → v ≤ latest) (bounded : some_unbounded rivals ≡ false) (past : IsWindow (λ v. Within (start_work worst blocking bit rivals 0 v)) 0 latest Overload) where
  response : ℕ → Bound
  response = can_response own worst blocking rivals bit limit

  late_start : ¬ IsAtMost (can_start worst blocking rivals bit limit 1) (Within most)
  late_start h =
      let demand : ℕ → Bound = λ v. Within (start_work worst blocking bit rivals 0 v) in
      let is : IsWindow demand 0 limit (window demand 0 limit) = window-is demand 0 limit in
      let same : can_start worst blocking rivals bit limit 1 ≡ window demand 0 limit = frame_start own worst blocking rivals bit limit bounded 0 (window demand 0 limit) is in
      window-later (start_work worst blocking bit rivals 0) latest limit most (window demand 0 limit) cut past is (rw same at h)

  late_at : (busy : Bound) → IsWindow (can_busy_demand own worst blocking rivals) 1 limit busy → ¬ IsAtMost (greatest_in_busy_window response (eta_plus own) busy) (Within most)
  unfolding response
  late_at Overload is h = h
  late_at (Within busy) is h =
      let one : 1 ≤ eta_plus own busy = eta_plus-one own busy is_model (omega (arith, is.0)) in
      let first : IsAtMost (response 1) (Within most) = IsAtMost_trans (response 1) (greatest_of response (eta_plus own busy)) (Within most) (le-greatest_of response (eta_plus own busy) 1 (omega arith) one) h in
      late_start (started limit worst most (can_start worst blocking rivals bit limit 1) (rw (delta_minus-one own) at first))

  pub late : ¬ IsAtMost (can_bound own worst blocking rivals bit limit) (Within most)
  unfolding response
  late = late_at (window (can_busy_demand own worst blocking rivals) 1 limit) (window-is (can_busy_demand own worst blocking rivals) 1 limit)
