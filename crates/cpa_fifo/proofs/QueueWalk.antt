-- What the walk back through a busy window knows.
use Rattle.std.proofs.Common.{◌≡◌, ℕ, zero, suc, ◌+◌, ◌-◌, ◌<◌, ◌≤◌, true, false, List, refl, ap, inl, inr, arith}
use Rattle.std.proofs.lemmas.Bool.{cases_lt}
use Rattle.cpa_units.specs.declared.bound.Bound.{Bound}
use Rattle.cpa_units.specs.declared.bound.Bound.TheVariants.{Within, Overload}
use Rattle.cpa_units.specs.Bounds.{IsAtMost, greatest_of}
use Rattle.cpa_units.proofs.BoundLaws.{IsAtMost_antisymm, le-greatest_of, greatest_of-le}
use Rattle.cpa_events.specs.Events.{Model}
use Rattle.cpa_events.specs.Events.{delta_minus, eta_plus, IsModel}
use Rattle.cpa_events.proofs.EventLaws.{eta_plus-mono, eta_plus-one, delta_minus-below, delta_minus-room}
use Rattle.cpa_window.specs.declared.rivals.Rival.{Rival}
use Rattle.cpa_window.specs.Rivals.{some_unbounded}
use Rattle.cpa_window.specs.Windows.{window, IsWindow}
use Rattle.cpa_window.proofs.WindowLaws.{window-from, window-overload}
use Rattle.cpa_window.proofs.RivalLaws.{work_in-bounded, work_in-unbounded}
use Rattle.cpa_fifo.specs.Fifo.{fifo_demand, fifo_response, greatest_while_busy, fifo_bound}
use Rattle.cpa_fifo.specs.FifoWork.{queue_work, IsConstantFrom}

-- the responses in all windows above one are at most the greatest so far, and some window has that
pub record IsGreatestFrom (work : ℕ → ℕ) (busy window greatest : ℕ) : Type 0 where
  pub within : window ≤ busy
  pub above : (w : ℕ) → window < w → w ≤ busy → work w ≤ greatest + (w - 1)
  pub at : ℕ
  pub some : 0 < at
  pub low : at ≤ busy
  pub has : greatest ≡ work at - (at - 1)

-- ---- how far back the work is the same

pub events-constant : (m : Model) (window : ℕ) → IsModel m → 0 < window → IsConstantFrom (eta_plus m) window (delta_minus m (eta_plus m window) + 1)
events-constant m window regular some =
    let one : 1 ≤ eta_plus m window = eta_plus-one m window regular some in
    let before : delta_minus m (eta_plus m window) < window = delta_minus-below m (eta_plus m window) window (omega arith) (omega arith) in
    record {
      some = omega arith;
      low = omega arith;
      same = λ v from to.
          omega (arith, delta_minus-room m (eta_plus m window) regular, eta_plus-mono m (delta_minus m (eta_plus m window) + 1) v from, eta_plus-mono m v window to);
    }

pub constant-here : (work : ℕ → ℕ) (window : ℕ) → 0 < window → IsConstantFrom work window window
constant-here work window some =
    record { some = some; low = omega arith; same = λ v from to. let e : v ≡ window = omega arith in ap work e }

-- ---- the walk

module _ (work : ℕ → ℕ) (mono : (v w : ℕ) → v ≤ w → work v ≤ work w) (busy : ℕ) where
  pub begin : 0 < busy → IsGreatestFrom work busy busy (work 1)
  begin some = record { within = omega arith; above = λ w low high. absurd (omega arith); at = 1; some = omega arith; low = omega arith; has = omega arith }

  -- where the busy window has room, nothing is greater than it
  pub within_busy : (last greatest : ℕ) → work busy ≤ busy → IsGreatestFrom work busy last greatest → greatest ≤ busy
  within_busy last greatest room now = omega (arith, now.has, mono now.at busy now.low)

  -- no window down to what is asked for without the greatest has more
  pub pass : (last greatest : ℕ) → IsGreatestFrom work busy last greatest → work last < greatest + last → IsGreatestFrom work busy (work last - greatest) greatest
  pass last greatest now less =
      record {
        within = omega (arith, now.within);
        above = λ w low high.
            elim (cases_lt last w) [
              | inl old ↦ now.above w old high
              | inr new ↦ omega (arith, mono w last new)
            ];
        at = now.at;
        some = now.some;
        low = now.low;
        has = now.has;
      }

  -- the first window with as much work has the greatest
  pub rise : (last greatest from : ℕ) → IsGreatestFrom work busy last greatest → greatest + last ≤ work last → IsConstantFrom work last from → IsGreatestFrom work busy (from - 1) (work last - (from - 1))
  rise last greatest from now more constant =
      record {
        within = omega (arith, now.within, constant.low);
        above = λ w low high.
            elim (cases_lt last w) [
              | inl old ↦ omega (arith, now.above w old high, constant.low)
              | inr new ↦ omega (arith, mono w last new)
            ];
        at = from;
        some = constant.some;
        low = omega (arith, now.within, constant.low);
        has = omega (arith, constant.same from (omega arith) constant.low);
      }

module _ (own : Model) (worst : ℕ) (rivals : List Rival) where
  -- with an unbounded rival the resource is always busy
  no_room : (v : ℕ) → 1 ≤ v → some_unbounded rivals ≡ true → ¬ IsAtMost (fifo_demand own worst rivals v) (Within v)
  no_room zero one h k = absurd (omega arith)
  no_room (suc v) one h k = rw (work_in-unbounded rivals v h) at k

  module _ (limit : ℕ) where
    pub idle-overload : window (fifo_demand own worst rivals) 1 limit ≡ Overload → fifo_bound own worst rivals limit ≡ Overload
    idle-overload e = ap (greatest_while_busy (fifo_response own worst rivals)) e

    pub unbounded-overload : some_unbounded rivals ≡ true → fifo_bound own worst rivals limit ≡ Overload
    unbounded-overload h =
        idle-overload (window-overload (fifo_demand own worst rivals) 1 limit (λ v first le. no_room v first h))

    pub bound-busy : (busy : ℕ) → window (fifo_demand own worst rivals) 1 limit ≡ Within busy → fifo_bound own worst rivals limit ≡ greatest_of (fifo_response own worst rivals) busy
    bound-busy busy is = ap (greatest_while_busy (fifo_response own worst rivals)) is

    -- the busy window as the code finds it
    pub busy_window : some_unbounded rivals ≡ false → (found : Bound) → IsWindow (λ v. Within (queue_work own worst rivals v)) 1 limit found → window (fifo_demand own worst rivals) 1 limit ≡ found
    busy_window bounded found h =
        window-from (λ v. Within (queue_work own worst rivals v)) (fifo_demand own worst rivals) 1 limit found
        (λ v. rw (work_in-bounded rivals v bounded) refl) h

  response-is : some_unbounded rivals ≡ false → (w : ℕ) → fifo_response own worst rivals w ≡ Within (queue_work own worst rivals w - (w - 1))
  response-is bounded w = rw (work_in-bounded rivals w bounded) refl

  -- at its end the walk has the greatest of all
  pub finished : some_unbounded rivals ≡ false → (busy greatest : ℕ) → IsGreatestFrom (queue_work own worst rivals) busy 0 greatest → greatest_of (fifo_response own worst rivals) busy ≡ Within greatest
  finished bounded busy greatest now =
      IsAtMost_antisymm (greatest_of (fifo_response own worst rivals) busy) (Within greatest)
      (greatest_of-le (fifo_response own worst rivals) busy (Within greatest) (λ w one le. rw (response-is bounded w) (omega (arith, now.above w one le))))
      (rw (now.has, ← response-is bounded now.at) (le-greatest_of (fifo_response own worst rivals) busy now.at now.some now.low))
