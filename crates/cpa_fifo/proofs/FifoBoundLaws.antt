-- The bound of a queue grows, and it is in range.
use Rattle.std.proofs.Common.{◌≡◌, ℕ, zero, suc, ◌-◌, ◌*◌, ◌<◌, ◌≤◌, List, true, ap, refl, inl, inr, arith}
use Rattle.std.proofs.lemmas.Bool.{cases_Bool}
use Rattle.std.proofs.Math.Nat.{mul-le-mul, mul-le-mul_right}
use Rattle.cpa_units.specs.declared.bound.Bound.{Bound}
use Rattle.cpa_units.specs.declared.bound.Bound.TheVariants.{Within, Overload}
use Rattle.cpa_units.specs.Bounds.{IsAtMost, RespectsLimit, bound_minus, greatest_of}
use Rattle.cpa_units.proofs.BoundLaws.{IsAtMost_trans, bound_plus-mono, bound_minus-mono, le-greatest_of, greatest_of-le, greatest_of-mono, bound_minus-ge, bound_plus-ge_left}
use Rattle.cpa_events.specs.Events.{Model}
use Rattle.cpa_events.specs.Events.{eta_plus, IsModel, IsNoDenser}
use Rattle.cpa_events.proofs.EventLaws.{eta_plus-denser, eta_plus-one}
use Rattle.cpa_window.specs.declared.rivals.Rival.{Rival}
use Rattle.cpa_window.specs.Rivals.{work_in, some_unbounded, AreNoHeavier}
use Rattle.cpa_window.specs.Windows.{window, IsWindow}
use Rattle.cpa_window.proofs.WindowLaws.{window-is, window-mono, window-limit}
use Rattle.cpa_window.proofs.RivalLaws.{work_in-mono, work_in-bounded, work_in-unbounded}
use Rattle.cpa_fifo.specs.Fifo.{fifo_demand, fifo_response, greatest_while_busy, fifo_bound}
use Rattle.cpa_fifo.specs.FifoWork.{queue_work-mono}

-- ---- grows

fifo_demand-mono : (own own' : Model) (worst worst' : ℕ) (rs ss : List Rival) (w : ℕ) → IsNoDenser own own' → worst ≤ worst' → AreNoHeavier rs ss → IsAtMost (fifo_demand own worst rs w) (fifo_demand own' worst' ss w)
fifo_demand-mono own own' worst worst' rs ss w d h l =
    let more : eta_plus own w * worst ≤ eta_plus own' w * worst' = mul-le-mul (eta_plus-denser own own' w d) h in
    bound_plus-mono (Within (eta_plus own w * worst)) (Within (eta_plus own' w * worst')) (work_in rs w) (work_in ss w) more (work_in-mono rs ss w l)

greatest_while_busy-mono : (f g : ℕ → Bound) (a b : Bound) → ((q : ℕ) → IsAtMost (f q) (g q)) → IsAtMost a b → IsAtMost (greatest_while_busy f a) (greatest_while_busy g b)
greatest_while_busy-mono f g a Overload h l = tt
greatest_while_busy-mono f g Overload (Within b) h l = absurd l
greatest_while_busy-mono f g (Within a) (Within b) h l = greatest_of-mono f g a b l (λ q one le. h q)

pub fifo_bound-mono : (own own' : Model) (worst worst' : ℕ) (rs ss : List Rival) (limit : ℕ) → IsNoDenser own own' → worst ≤ worst' → AreNoHeavier rs ss → IsAtMost (fifo_bound own worst rs limit) (fifo_bound own' worst' ss limit)
fifo_bound-mono own own' worst worst' rs ss limit d h l =
    greatest_while_busy-mono (fifo_response own worst rs) (fifo_response own' worst' ss) _ _
    (λ q. bound_minus-mono (fifo_demand own worst rs q) (fifo_demand own' worst' ss q) (q - 1) (q - 1) (fifo_demand-mono own own' worst worst' rs ss q d h l) (omega arith))
    (window-mono (fifo_demand own worst rs) (fifo_demand own' worst' ss) 1 limit (λ w. fifo_demand-mono own own' worst worst' rs ss w d h l))

-- ---- in range

-- a longer window asks for no less, where some demand is a number
demand-longer : (own : Model) (worst : ℕ) (rivals : List Rival) (v w : ℕ) → 0 < v → v ≤ w → IsAtMost (fifo_demand own worst rivals v) (fifo_demand own worst rivals w)
demand-longer own worst rivals v w some le =
    elim (cases_Bool (some_unbounded rivals)) [
      | inl unbounded ↦ rw (work_in-past w unbounded (omega arith)) tt
      | inr bounded ↦ rw (work_in-bounded rivals v bounded, work_in-bounded rivals w bounded) (queue_work-mono own worst rivals v w le)
    ]
  where
    work_in-past : (w : ℕ) → some_unbounded rivals ≡ true → 0 < w → work_in rivals w ≡ Overload
    work_in-past zero unbounded above = absurd (omega arith)
    work_in-past (suc u) unbounded above = work_in-unbounded rivals u unbounded

response-within : (a : Bound) (busy gone : ℕ) → IsAtMost a (Within busy) → IsAtMost (bound_minus a gone) (Within busy)
response-within (Within a) busy gone h = omega arith
response-within Overload busy gone h = h

in_window-at : (own : Model) (worst : ℕ) (rivals : List Rival) (limit : ℕ) (busy : Bound) → IsWindow (fifo_demand own worst rivals) 1 limit busy → IsAtMost (greatest_while_busy (fifo_response own worst rivals) busy) busy
in_window-at own worst rivals limit Overload is = tt
in_window-at own worst rivals limit (Within busy) is =
    greatest_of-le (fifo_response own worst rivals) busy (Within busy)
    (λ q one le. response-within (fifo_demand own worst rivals q) busy (q - 1) (IsAtMost_trans (fifo_demand own worst rivals q) (fifo_demand own worst rivals busy) (Within busy) (demand-longer own worst rivals q busy one le) is.2))

pub fifo_bound-in_window : (own : Model) (worst : ℕ) (rivals : List Rival) (limit : ℕ) → IsAtMost (fifo_bound own worst rivals limit) (window (fifo_demand own worst rivals) 1 limit)
fifo_bound-in_window own worst rivals limit =
    in_window-at own worst rivals limit (window (fifo_demand own worst rivals) 1 limit) (window-is (fifo_demand own worst rivals) 1 limit)

respects-at : (limit : ℕ) (a b : Bound) → IsAtMost a b → RespectsLimit limit b → (b ≡ Overload → a ≡ Overload) → RespectsLimit limit a
respects-at limit (Within a) (Within b) h r same = omega arith
respects-at limit (Within a) Overload h r same = let none = same refl in cc
respects-at limit Overload b h r same = tt

pub fifo_bound-limit : (own : Model) (worst : ℕ) (rivals : List Rival) (limit : ℕ) → RespectsLimit limit (fifo_bound own worst rivals limit)
fifo_bound-limit own worst rivals limit =
    respects-at limit (fifo_bound own worst rivals limit) (window (fifo_demand own worst rivals) 1 limit) (fifo_bound-in_window own worst rivals limit)
    (window-limit (fifo_demand own worst rivals) 1 limit) (λ e. ap (greatest_while_busy (fifo_response own worst rivals)) e)

bound-ge_at : (own : Model) (worst : ℕ) (rivals : List Rival) (limit : ℕ) (busy : Bound) → IsModel own → IsWindow (fifo_demand own worst rivals) 1 limit busy → IsAtMost (Within worst) (greatest_while_busy (fifo_response own worst rivals) busy)
bound-ge_at own worst rivals limit Overload m is = tt
bound-ge_at own worst rivals limit (Within busy) m is =
    let one : 1 ≤ eta_plus own 1 = eta_plus-one own 1 m (omega arith) in
    let job : 1 * worst ≤ eta_plus own 1 * worst = mul-le-mul_right worst one in
    IsAtMost_trans (Within worst) (fifo_response own worst rivals 1) (greatest_of (fifo_response own worst rivals) busy)
    (bound_minus-ge worst 0 (fifo_demand own worst rivals 1) refl (bound_plus-ge_left worst (eta_plus own 1 * worst) (work_in rivals 1) (omega arith)))
    (le-greatest_of (fifo_response own worst rivals) busy 1 (omega arith) is.0)

pub fifo_bound-ge : (own : Model) (worst : ℕ) (rivals : List Rival) (limit : ℕ) → IsModel own → IsAtMost (Within worst) (fifo_bound own worst rivals limit)
fifo_bound-ge own worst rivals limit m =
    bound-ge_at own worst rivals limit (window (fifo_demand own worst rivals) 1 limit) m (window-is (fifo_demand own worst rivals) 1 limit)

-- ---- by the work alone

pub fifo_bound-same : (own own' : Model) (worst worst' : ℕ) (rs ss : List Rival) (limit : ℕ) → ((w : ℕ) → fifo_demand own worst rs w ≡ fifo_demand own' worst' ss w) → fifo_bound own worst rs limit ≡ fifo_bound own' worst' ss limit
fifo_bound-same own own' worst worst' rs ss limit same =
    let e : fifo_demand own worst rs ≡ fifo_demand own' worst' ss = λ i w. same w i in
    ap (λ demand. greatest_while_busy (λ w. bound_minus (demand w) (w - 1)) (window demand 1 limit)) e
