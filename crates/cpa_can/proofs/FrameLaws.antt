-- What code that walks through the frames of a busy window knows.
use Rattle.std.proofs.Common.{◌≡◌, ℕ, zero, suc, ◌+◌, ◌-◌, ◌<◌, ◌≤◌, true, false, max, List, refl, ap, arith}
use Rattle.cpa_units.specs.declared.bound.Bound.{Bound}
use Rattle.cpa_units.specs.declared.bound.Bound.TheVariants.{Within, Overload}
use Rattle.cpa_units.specs.Numbers.{IsExecution}
use Rattle.cpa_units.specs.Bounds.{IsAtMost, greatest_of}
use Rattle.cpa_units.proofs.BoundLaws.{greatest_of-overload, greatest_of-next, capped-within, capped-past}
use Rattle.cpa_events.specs.Events.{Model}
use Rattle.cpa_events.specs.Events.{delta_minus, eta_plus}
use Rattle.cpa_window.specs.declared.rivals.Rival.{Rival}
use Rattle.cpa_window.specs.Rivals.{some_unbounded}
use Rattle.cpa_window.specs.Windows.{window, IsWindow}
use Rattle.cpa_window.specs.Walk.{IsSteady, IsReady}
use Rattle.cpa_window.proofs.WindowLaws.{window-from, window-overload}
use Rattle.cpa_window.proofs.WalkLaws.{IsReady-next}
use Rattle.cpa_window.proofs.RivalLaws.{work_in-bounded, work_in-unbounded}
use Rattle.cpa_can.specs.Can.{can_busy_demand, can_demand, can_start, can_response, greatest_in_busy_window, can_bound}
use Rattle.cpa_can.specs.CanWork.{busy_work, start_work, start_work-mono, start_work-more}

no_room : (own : Model) (worst blocking : ℕ) (rivals : List Rival) (v : ℕ) → 1 ≤ v → some_unbounded rivals ≡ true → ¬ IsAtMost (can_busy_demand own worst blocking rivals v) (Within v)
no_room own worst blocking rivals zero one h k = absurd (omega arith)
no_room own worst blocking rivals (suc v) one h k = rw (work_in-unbounded rivals v h) at k

module _ (own : Model) (worst blocking : ℕ) (rivals : List Rival) (bit limit : ℕ) where
  -- without a busy window there is no bound
  pub idle-overload : window (can_busy_demand own worst blocking rivals) 1 limit ≡ Overload → can_bound own worst blocking rivals bit limit ≡ Overload
  idle-overload e = ap (greatest_in_busy_window (can_response own worst blocking rivals bit limit) (eta_plus own)) e

  -- with an unbounded rival the bus is always busy
  pub unbounded-overload : some_unbounded rivals ≡ true → can_bound own worst blocking rivals bit limit ≡ Overload
  unbounded-overload h =
      idle-overload (window-overload (can_busy_demand own worst blocking rivals) 1 limit (λ v first le. no_room own worst blocking rivals v first h))

  -- the walk has looked at so many frames
  pub record IsUnderWay (earlier from steady greatest : ℕ) : Type 0 where
    pub ready : IsReady (start_work worst blocking bit rivals) worst earlier from steady
    pub so_far : greatest_of (can_response own worst blocking rivals bit limit) earlier ≡ Within greatest

  -- a frame that ends past the limit has no response
  pub response-past : (begin q : ℕ) → can_start worst blocking rivals bit limit q ≡ Within begin → limit < begin + worst → can_response own worst blocking rivals bit limit q ≡ Overload
  response-past begin q e h = rw (e, capped-past limit (begin + worst) h) refl

  response-within : (begin q : ℕ) → can_start worst blocking rivals bit limit q ≡ Within begin → begin + worst ≤ limit → can_response own worst blocking rivals bit limit q ≡ Within (begin + worst - delta_minus own q)
  response-within begin q e h = rw (e, capped-within limit (begin + worst) h) refl

  module _ (bounded : some_unbounded rivals ≡ false) where
    -- the busy window as the code finds it
    pub busy_window : (found : Bound) → IsWindow (λ v. Within (busy_work own worst blocking rivals v)) 1 limit found → window (can_busy_demand own worst blocking rivals) 1 limit ≡ found
    busy_window found h =
        window-from (λ v. Within (busy_work own worst blocking rivals v)) (can_busy_demand own worst blocking rivals) 1 limit found
        (λ v. rw (work_in-bounded rivals v bounded) refl) h

    start-bounded : (earlier v : ℕ) → Within (start_work worst blocking bit rivals earlier v) ≡ can_demand worst blocking rivals bit (earlier + 1) v
    start-bounded earlier v =
        let e : earlier + 1 - 1 ≡ earlier = omega arith in
        rw (e, work_in-bounded rivals (v + bit) bounded) refl

    -- and the start of a frame
    pub frame_start : (earlier : ℕ) (begin : Bound) → IsWindow (λ v. Within (start_work worst blocking bit rivals earlier v)) 0 limit begin → can_start worst blocking rivals bit limit (earlier + 1) ≡ begin
    frame_start earlier begin h =
        window-from (λ v. Within (start_work worst blocking bit rivals earlier v)) (can_demand worst blocking rivals bit (earlier + 1)) 0 limit begin (start-bounded earlier) h

    -- the walk goes on
    pub next : (earlier from steady greatest begin steady' : ℕ) → IsExecution worst → IsUnderWay earlier from steady greatest → IsWindow (λ v. Within (start_work worst blocking bit rivals earlier v)) 0 limit (Within begin) → IsSteady (start_work worst blocking bit rivals) worst earlier begin steady' → begin + worst ≤ limit → IsUnderWay (earlier + 1) (begin + worst) steady' (max greatest (begin + worst - delta_minus own (earlier + 1)))
    next earlier from steady greatest begin steady' execution now h s within =
        let same : earlier + 1 - 1 ≡ earlier = omega arith in
        record {
          ready = IsReady-next (start_work worst blocking bit rivals) worst earlier limit begin steady' (start_work-mono worst blocking bit rivals) (start_work-more worst blocking bit rivals) execution.some h s;
          so_far =
              greatest_of-next (can_response own worst blocking rivals bit limit) (earlier + 1) greatest (begin + worst - delta_minus own (earlier + 1)) (omega arith) (rw same now.so_far)
              (response-within begin (earlier + 1) (frame_start earlier (Within begin) h) within);
        }

  -- a frame without a start has no response
  pub response-none : (q : ℕ) → can_start worst blocking rivals bit limit q ≡ Overload → can_response own worst blocking rivals bit limit q ≡ Overload
  response-none q e = rw e refl

  -- and leaves no greatest
  pub greatest-overload : (q frames : ℕ) → 0 < q → q ≤ frames → can_response own worst blocking rivals bit limit q ≡ Overload → greatest_of (can_response own worst blocking rivals bit limit) frames ≡ Overload
  greatest-overload q frames one in_range e = greatest_of-overload (can_response own worst blocking rivals bit limit) frames q one in_range e

  -- the bound by the frames of the busy window
  pub bound-busy : (busy : ℕ) → window (can_busy_demand own worst blocking rivals) 1 limit ≡ Within busy → can_bound own worst blocking rivals bit limit ≡ greatest_of (can_response own worst blocking rivals bit limit) (eta_plus own busy)
  bound-busy busy is = ap (greatest_in_busy_window (can_response own worst blocking rivals bit limit) (eta_plus own)) is
