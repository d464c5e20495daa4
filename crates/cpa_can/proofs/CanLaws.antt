-- The bound on a CAN bus grows, and it is in range.
use Rattle.std.proofs.Common.{◌≡◌, ℕ, ◌+◌, ◌-◌, ◌*◌, ◌≤◌, List, ap, arith}
use Rattle.std.proofs.Math.Nat.{mul-le-mul, mul-le-mul_left, le_trans}
use Rattle.cpa_units.specs.declared.bound.Bound.{Bound}
use Rattle.cpa_units.specs.declared.bound.Bound.TheVariants.{Within, Overload}
use Rattle.cpa_units.specs.Bounds.{IsAtMost, RespectsLimit, bound_plus, bound_minus, capped, greatest_of}
use Rattle.cpa_units.proofs.BoundLaws.{IsAtMost_trans, bound_plus-mono, bound_minus-mono, capped-mono, le-greatest_of, greatest_of-mono, greatest_of-limit, bound_minus-limit, capped-limit, bound_minus-ge, bound_plus-ge_right, capped-ge}
use Rattle.cpa_events.specs.Events.{Model}
use Rattle.cpa_events.specs.Events.{delta_minus, eta_plus, IsModel, IsNoDenser}
use Rattle.cpa_events.proofs.EventLaws.{eta_plus-mono, eta_plus-denser, delta_minus-denser, delta_minus-one, eta_plus-one}
use Rattle.cpa_window.specs.declared.rivals.Rival.{Rival}
use Rattle.cpa_window.specs.Rivals.{work_in, AreNoHeavier}
use Rattle.cpa_window.specs.Windows.{window, IsWindow}
use Rattle.cpa_window.proofs.WindowLaws.{window-is, window-mono}
use Rattle.cpa_window.proofs.RivalLaws.{work_in-mono}
use Rattle.cpa_can.specs.Can.{can_busy_demand, can_demand, can_start, can_response, greatest_in_busy_window, can_bound}

greatest_in_busy_window-mono : (f g : ℕ → Bound) (m n : ℕ → ℕ) (a b : Bound) → ((q : ℕ) → IsAtMost (f q) (g q)) → ((v w : ℕ) → v ≤ w → m v ≤ n w) → IsAtMost a b → IsAtMost (greatest_in_busy_window f m a) (greatest_in_busy_window g n b)
greatest_in_busy_window-mono f g m n a Overload h k l = tt
greatest_in_busy_window-mono f g m n Overload (Within b) h k l = absurd l
greatest_in_busy_window-mono f g m n (Within a) (Within b) h k l = greatest_of-mono f g (m a) (n b) (k a b l) (λ q one le. h q)

can_response-mono : (own own' : Model) (worst worst' blocking blocking' : ℕ) (rs ss : List Rival) (bit limit q : ℕ) → IsNoDenser own own' → worst ≤ worst' → blocking ≤ blocking' → AreNoHeavier rs ss → IsAtMost (can_response own worst blocking rs bit limit q) (can_response own' worst' blocking' ss bit limit q)
can_response-mono own own' worst worst' blocking blocking' rs ss bit limit q d h k l =
    let start : IsAtMost (can_start worst blocking rs bit limit q) (can_start worst' blocking' ss bit limit q) =
    window-mono (can_demand worst blocking rs bit q) (can_demand worst' blocking' ss bit q) 0 limit (λ w.
    let more : (q - 1) * worst ≤ (q - 1) * worst' = mul-le-mul_left (q - 1) h in
    bound_plus-mono (Within (blocking + (q - 1) * worst)) (Within (blocking' + (q - 1) * worst')) (work_in rs (w + bit)) (work_in ss (w + bit)) (omega arith) (work_in-mono rs ss (w + bit) l)) in
    bound_minus-mono _ _ (delta_minus own q) (delta_minus own' q)
    (capped-mono limit _ _ (bound_plus-mono _ _ (Within worst) (Within worst') start h))
    (delta_minus-denser own own' q d)

pub can_bound-mono : (own own' : Model) (worst worst' blocking blocking' : ℕ) (rs ss : List Rival) (bit limit : ℕ) → IsNoDenser own own' → worst ≤ worst' → blocking ≤ blocking' → AreNoHeavier rs ss → IsAtMost (can_bound own worst blocking rs bit limit) (can_bound own' worst' blocking' ss bit limit)
can_bound-mono own own' worst worst' blocking blocking' rs ss bit limit d h k l =
    greatest_in_busy_window-mono (can_response own worst blocking rs bit limit) (can_response own' worst' blocking' ss bit limit) (eta_plus own) (eta_plus own') _ _
    (λ q. can_response-mono own own' worst worst' blocking blocking' rs ss bit limit q d h k l)
    (λ v w le. le_trans (eta_plus-denser own own' v d) (eta_plus-mono own' v w le))
    (window-mono (can_busy_demand own worst blocking rs) (can_busy_demand own' worst' blocking' ss) 1 limit (λ w.
    let more : eta_plus own w * worst ≤ eta_plus own' w * worst' = mul-le-mul (eta_plus-denser own own' w d) h in
    bound_plus-mono (Within (blocking + eta_plus own w * worst)) (Within (blocking' + eta_plus own' w * worst')) (work_in rs w) (work_in ss w) (omega arith) (work_in-mono rs ss w l)))

greatest_in_busy_window-limit : (limit : ℕ) (f : ℕ → Bound) (events : ℕ → ℕ) (busy : Bound) → ((q : ℕ) → RespectsLimit limit (f q)) → RespectsLimit limit (greatest_in_busy_window f events busy)
greatest_in_busy_window-limit limit f events (Within busy) h = greatest_of-limit limit f (events busy) h
greatest_in_busy_window-limit limit f events Overload h = tt

pub can_bound-limit : (own : Model) (worst blocking : ℕ) (rivals : List Rival) (bit limit : ℕ) → RespectsLimit limit (can_bound own worst blocking rivals bit limit)
can_bound-limit own worst blocking rivals bit limit =
    greatest_in_busy_window-limit limit (can_response own worst blocking rivals bit limit) (eta_plus own) (window (can_busy_demand own worst blocking rivals) 1 limit) (λ q.
    let frame = bound_plus (window (can_demand worst blocking rivals bit q) 0 limit) (Within worst) in
    bound_minus-limit limit (delta_minus own q) (capped limit frame) (capped-limit limit frame))

can_bound-ge_at : (own : Model) (worst blocking : ℕ) (rivals : List Rival) (bit limit : ℕ) (busy : Bound) → IsModel own → IsWindow (can_busy_demand own worst blocking rivals) 1 limit busy → IsAtMost (Within worst) (greatest_in_busy_window (can_response own worst blocking rivals bit limit) (eta_plus own) busy)
can_bound-ge_at own worst blocking rivals bit limit Overload m h = tt
can_bound-ge_at own worst blocking rivals bit limit (Within busy) m h =
    let long : 1 ≤ busy = h.0 in
    let one : 1 ≤ eta_plus own busy = eta_plus-one own busy m (omega arith) in
    let start = window (can_demand worst blocking rivals bit 1) 0 limit in
    IsAtMost_trans (Within worst) (can_response own worst blocking rivals bit limit 1) (greatest_of (can_response own worst blocking rivals bit limit) (eta_plus own busy))
    (bound_minus-ge worst (delta_minus own 1) (capped limit (bound_plus start (Within worst))) (delta_minus-one own) (capped-ge limit worst (bound_plus start (Within worst)) (bound_plus-ge_right worst start)))
    (le-greatest_of (can_response own worst blocking rivals bit limit) (eta_plus own busy) 1 (omega arith) one)

pub can_bound-ge : (own : Model) (worst blocking : ℕ) (rivals : List Rival) (bit limit : ℕ) → IsModel own → IsAtMost (Within worst) (can_bound own worst blocking rivals bit limit)
can_bound-ge own worst blocking rivals bit limit m =
    can_bound-ge_at own worst blocking rivals bit limit (window (can_busy_demand own worst blocking rivals) 1 limit) m (window-is (can_busy_demand own worst blocking rivals) 1 limit)

-- rivals that bring the same work leave the same bound: neither their slots nor their bounds count
pub can_bound-same : (own : Model) (worst blocking : ℕ) (rs ss : List Rival) (bit limit : ℕ) → ((w : ℕ) → work_in rs w ≡ work_in ss w) → can_bound own worst blocking rs bit limit ≡ can_bound own worst blocking ss bit limit
can_bound-same own worst blocking rs ss bit limit same =
    let e : work_in rs ≡ work_in ss = λ i w. same w i in
    ap (λ work. greatest_in_busy_window
    (λ q. bound_minus (capped limit (bound_plus (window (λ w. bound_plus (Within (blocking + (q - 1) * worst)) (work (w + bit))) 0 limit) (Within worst))) (delta_minus own q))
    (eta_plus own)
    (window (λ w. bound_plus (Within (blocking + eta_plus own w * worst)) (work w)) 1 limit)) e
