-- Where tasks move from above a task to below it, its bound doesn't rise: each leaves the interference, in which it has its
-- execution at least once, and enters the blocking at most once.
use Rattle.std.proofs.Common.{◌≡◌, ℕ, zero, suc, ◌+◌, ◌-◌, ◌*◌, ◌<◌, ◌≤◌, ◌==◌, ◌&&◌, ◌||◌, ◌⊎◌, not, max, Bool, true, false, cond, List, [], ◌∷◌, map, length, get_or, refl, ap, sym, ◌∙◌, inl, inr, arith}
use Rattle.std.specs.Prelude.{filter, fold}
use Rattle.std.specs.List.{sum_by}
use Rattle.std.proofs.lemmas.Bool.{cases_Bool, cases_lt}
use Rattle.std.proofs.lemmas.List.{length-map}
use Rattle.std.proofs.lemmas.List.Elements.{All-map}
use Rattle.std.proofs.lemmas.List.Sums.{sum_by-cons}
use Rattle.std.proofs.Math.Nat.{mul-le-mul_left, mul-le-mul_right}
use Rattle.std.proofs.Math.ListN.{get_or-eq_default}
use Rattle.cpa_units.specs.declared.places.SourceId.{SourceId}
use Rattle.cpa_units.specs.declared.bound.Bound.{Bound}
use Rattle.cpa_units.specs.declared.bound.Bound.TheVariants.{Within, Overload}
use Rattle.cpa_units.specs.Bounds.{IsAtMost, bound_plus}
use Rattle.cpa_units.proofs.BoundLaws.{IsAtMost_trans, bound_plus-mono, bound_minus-mono, capped-mono, greatest_of-mono}
use Rattle.cpa_events.specs.Events.{Model}
use Rattle.cpa_events.specs.Events.{eta_plus, delta_minus, IsModel}
use Rattle.cpa_events.proofs.EventLaws.{eta_plus-mono, eta_plus-one}
use Rattle.cpa_window.specs.declared.rivals.Rival.{Rival}
use Rattle.cpa_window.specs.Rivals.{work_in}
use Rattle.cpa_window.specs.Windows.{window, IsWindow}
use Rattle.cpa_window.proofs.WindowLaws.{window-is, window-least}
use Rattle.cpa_window.specs.BusyWindow.{windows_of}
use Rattle.cpa_window.proofs.BusyWindowLaws.{busy_window_bound-mono}
use Rattle.cpa_spp.specs.Preemptive.{preemptive_demand, preemptive_bound}
use Rattle.cpa_can.specs.Can.{can_busy_demand, can_demand, can_response, can_bound, greatest_in_busy_window}
use Rattle.cpa_model.specs.declared.entries.Task.{Task}
use Rattle.cpa_model.specs.declared.entries.Kind.{Kind}
use Rattle.cpa_model.specs.declared.entries.Kind.TheVariants.{Preemptive, RoundRobin, Tdma, Can, Fifo, Ceiling}
use Rattle.cpa_model.specs.SystemLists.{SystemLists, task_at, resource_at, task_places, streams_of, no_resource, no_task}
use Rattle.cpa_model.specs.Rules.{IsSystem, IsResource, IsTask, KindFits}
use Rattle.cpa_clock.specs.Gathered.{anchors_at}
use Rattle.cpa_model.specs.Clocks.{clock_cycle}
use Rattle.cpa_assign.specs.Orders.{is_task_on, is_off_clocks}
use Rattle.cpa_events.specs.Streams.{IsStream}
use Rattle.cpa_model.proofs.SystemLaws.{streams_of-some}
use Rattle.cpa_model.specs.Streams.{source_stream}
use Rattle.cpa_local.proofs.ResponseLaws.{source-is_stream}
use Rattle.cpa_assign.specs.Placing.{sources_model, rival_at, rivals_at, is_below, placed_between, placed_blocking, placed_by_kind, source_anchors, clocked_rival_at, placed_on_clocks, placed_by_clocks, placed_bound}
use Rattle.cpa_assign.proofs.BelowLaws.{between-small, between-fewer}
use Rattle.cpa_assign.proofs.ClockTradeLaws.{clocked-fewer}

-- ---- windows of demands that are compared from their first length on

window-mono_from_at : (demand demand' : ℕ → Bound) (first limit : ℕ) (w : Bound) → ((v : ℕ) → first ≤ v → IsAtMost (demand v) (demand' v)) → IsWindow demand' first limit w → IsAtMost (window demand first limit) w
window-mono_from_at demand demand' first limit Overload d h = tt
window-mono_from_at demand demand' first limit (Within w) d h =
    window-least demand first limit w h.0 h.1 (IsAtMost_trans (demand w) (demand' w) (Within w) (d w h.0) h.2)

window-mono_from : (demand demand' : ℕ → Bound) (first limit : ℕ) → ((v : ℕ) → first ≤ v → IsAtMost (demand v) (demand' v)) → IsAtMost (window demand first limit) (window demand' first limit)
window-mono_from demand demand' first limit d = window-mono_from_at demand demand' first limit (window demand' first limit) d (window-is demand' first limit)

-- where something is asked for at once, the first length doesn't matter
window-mono_past_zero : (demand demand' : ℕ → Bound) (limit : ℕ) (w : Bound) → ¬ IsAtMost (demand' 0) (Within 0) → ((v : ℕ) → 1 ≤ v → IsAtMost (demand v) (demand' v)) → IsWindow demand' 0 limit w → IsAtMost (window demand 0 limit) w
window-mono_past_zero demand demand' limit Overload some d h = tt
window-mono_past_zero demand demand' limit (Within zero) some d h = absurd (some h.2)
window-mono_past_zero demand demand' limit (Within (suc w)) some d h =
    window-least demand 0 limit (suc w) h.0 h.1 (IsAtMost_trans (demand (suc w)) (demand' (suc w)) (Within (suc w)) (d (suc w) (omega arith)) h.2)

-- ---- less blocking and interference together, no greater a bound

shifted : (a b c : ℕ) (v w : Bound) → IsAtMost (bound_plus (Within a) v) (bound_plus (Within b) w) → IsAtMost (bound_plus (Within (a + c)) v) (bound_plus (Within (b + c)) w)
shifted a b c v Overload h = tt
shifted a b c (Within v) (Within w) h = omega arith
shifted a b c Overload (Within w) h = absurd h

greatest_in-mono : (f g : ℕ → Bound) (m : ℕ → ℕ) (a b : Bound) → ((q : ℕ) → IsAtMost (f q) (g q)) → ((v w : ℕ) → v ≤ w → m v ≤ m w) → IsAtMost a b → IsAtMost (greatest_in_busy_window f m a) (greatest_in_busy_window g m b)
greatest_in-mono f g m a Overload h k l = tt
greatest_in-mono f g m Overload (Within b) h k l = absurd l
greatest_in-mono f g m (Within a) (Within b) h k l = greatest_of-mono f g (m a) (m b) (k a b l) (λ q one le. h q)

module _ (own : Model) (worst blocking blocking' : ℕ) (rs ss : List Rival) (bit limit : ℕ) (some : 1 ≤ bit) (less : (w : ℕ) → 1 ≤ w → IsAtMost (bound_plus (Within blocking) (work_in rs w)) (bound_plus (Within blocking') (work_in ss w))) where
  response-trade : (q : ℕ) → IsAtMost (can_response own worst blocking rs bit limit q) (can_response own worst blocking' ss bit limit q)
  response-trade q =
      let start = window-mono_from (can_demand worst blocking rs bit q) (can_demand worst blocking' ss bit q) 0 limit
      (λ w first. shifted blocking blocking' ((q - 1) * worst) (work_in rs (w + bit)) (work_in ss (w + bit)) (less (w + bit) (omega arith))) in
      bound_minus-mono _ _ (delta_minus own q) (delta_minus own q)
      (capped-mono limit _ _ (bound_plus-mono _ _ (Within worst) (Within worst) start (omega arith)))
      (omega arith)

  can_bound-trade : IsAtMost (can_bound own worst blocking rs bit limit) (can_bound own worst blocking' ss bit limit)
  can_bound-trade =
      greatest_in-mono (can_response own worst blocking rs bit limit) (can_response own worst blocking' ss bit limit) (eta_plus own) _ _
      response-trade (λ v w le. eta_plus-mono own v w le)
      (window-mono_from (can_busy_demand own worst blocking rs) (can_busy_demand own worst blocking' ss) 1 limit
      (λ w first. shifted blocking blocking' (eta_plus own w * worst) (work_in rs w) (work_in ss w) (less w first)))

something_at : (a : ℕ) (b : Bound) → 1 ≤ a → ¬ IsAtMost (bound_plus (Within a) b) (Within 0)
something_at a (Within b) some h = omega arith
something_at a Overload some h = h

module _ (own : Model) (worst blocking blocking' : ℕ) (rs ss : List Rival) (limit : ℕ) (some : 1 ≤ worst) (less : (w : ℕ) → 1 ≤ w → IsAtMost (bound_plus (Within blocking) (work_in rs w)) (bound_plus (Within blocking') (work_in ss w))) where
  jobs-trade : (q : ℕ) → 0 < q → IsAtMost (windows_of (preemptive_demand worst blocking rs) limit q) (windows_of (preemptive_demand worst blocking' ss) limit q)
  jobs-trade q one =
      let each : q * 1 ≤ q * worst = mul-le-mul_left q some in
      window-mono_past_zero (preemptive_demand worst blocking rs q) (preemptive_demand worst blocking' ss q) limit (window (preemptive_demand worst blocking' ss q) 0 limit)
      (something_at (blocking' + q * worst) (work_in ss 0) (omega (arith, each)))
      (λ w first. shifted blocking blocking' (q * worst) (work_in rs w) (work_in ss w) (less w first))
      (window-is (preemptive_demand worst blocking' ss q) 0 limit)

  preemptive_bound-trade : IsAtMost (preemptive_bound own worst blocking rs limit) (preemptive_bound own worst blocking' ss limit)
  preemptive_bound-trade =
      busy_window_bound-mono (windows_of (preemptive_demand worst blocking rs) limit) (windows_of (preemptive_demand worst blocking' ss) limit) (delta_minus own) (delta_minus own) limit jobs-trade (λ q. omega arith)

-- ---- what moves leaves at least as much as it brings

-- what a place adds to a sum over those that pass
picked : (ℕ → Bool) → (ℕ → ℕ) → ℕ → ℕ
picked p f j = cond (p j) (f j) 0

sum_over : (ℕ → Bool) → (ℕ → ℕ) → List ℕ → ℕ
sum_over p f js = sum_by f (filter p js)

greatest_over : (ℕ → Bool) → (ℕ → ℕ) → List ℕ → ℕ
greatest_over p f js = fold (λ most j. max most (f j)) 0 (filter p js)

fold-most : (f : ℕ → ℕ) (most : ℕ) (js : List ℕ) → fold (λ most j. max most (f j)) most js ≡ max most (fold (λ most j. max most (f j)) 0 js)
fold-most f most [] = omega arith
fold-most f most (j ∷ js) =
    let a = fold-most f (max most (f j)) js in
    let b = fold-most f (max 0 (f j)) js in
    omega (arith, a, b)

sum-step : (p : ℕ → Bool) (f : ℕ → ℕ) (j : ℕ) (js : List ℕ) → sum_over p f (j ∷ js) ≡ picked p f j + sum_over p f js
unfolding sum_over picked
sum-step p f j js =
    elim (cases_Bool (p j)) [
      | inl passes ↦ rw passes (sum_by-cons f j (filter p js))
      | inr fails ↦ rw fails (omega arith)
    ]

greatest-step : (p : ℕ → Bool) (f : ℕ → ℕ) (j : ℕ) (js : List ℕ) → greatest_over p f (j ∷ js) ≡ max (picked p f j) (greatest_over p f js)
unfolding greatest_over picked
greatest-step p f j js =
    elim (cases_Bool (p j)) [
      | inl passes ↦ rw passes (let e = fold-most f (max 0 (f j)) (filter p js) in omega (arith, e))
      | inr fails ↦ rw fails (omega arith)
    ]

-- a place that counts for less, and which is below only where it was below or has left those above
record IsTrade (fewer above below' below : ℕ → Bool) (f' f g : ℕ → ℕ) (j : ℕ) : Type 0 where
  less : picked fewer g j ≤ picked above g j
  trade : (picked below' f' j ≤ picked below f j) ⊎ (picked below' f' j + picked fewer g j ≤ picked above g j)

traded : (fewer above below' below : ℕ → Bool) (f' f g : ℕ → ℕ) (js : List ℕ) → ((j : ℕ) → IsTrade fewer above below' below f' f g j)
    → (greatest_over below' f' js + sum_over fewer g js ≤ greatest_over below f js + sum_over above g js) × (sum_over fewer g js ≤ sum_over above g js)
unfolding greatest_over sum_over
traded fewer above below' below f' f g [] h = (omega arith, omega arith)
traded fewer above below' below f' f g (j ∷ js) h =
    let it = h j in
    let rest = traded fewer above below' below f' f g js h in
    let a = sum-step fewer g j js in
    let b = sum-step above g j js in
    let c = greatest-step below' f' j js in
    let d = greatest-step below f j js in
    let less = it.less in
    elim it.trade [
      | inl stays ↦ (omega (arith, rest.0, rest.1, a, b, c, d, less, stays), omega (arith, rest.1, a, b, less))
      | inr moves ↦ (omega (arith, rest.0, rest.1, a, b, c, d, less, moves), omega (arith, rest.1, a, b, less))
    ]

picked-less : (p q : ℕ → Bool) (f g : ℕ → ℕ) (j : ℕ) → p j ≡ q j → f j ≤ g j → picked p f j ≤ picked q g j
unfolding picked
picked-less p q f g j same less =
    elim (cases_Bool (q j)) [
      | inl passes ↦ rw (same, passes) less
      | inr fails ↦ rw (same, fails) (omega arith)
    ]

picked-kept : (fewer above : ℕ → Bool) (g : ℕ → ℕ) (j : ℕ) → (fewer j ≡ true → above j ≡ true) → picked fewer g j ≤ picked above g j
unfolding picked
picked-kept fewer above g j moved =
    elim (cases_Bool (fewer j)) [
      | inl high ↦ rw (high, moved high) (omega arith)
      | inr low ↦ rw low (omega arith)
    ]

picked-some : (p : ℕ → Bool) (f : ℕ → ℕ) (j : ℕ) → p j ≡ true → picked p f j ≡ f j
unfolding picked
picked-some p f j passes = rw passes refl

picked-none : (p : ℕ → Bool) (f : ℕ → ℕ) (j : ℕ) → p j ≡ false → picked p f j ≡ 0
unfolding picked
picked-none p f j fails = rw fails refl

picked-le : (p : ℕ → Bool) (f : ℕ → ℕ) (j : ℕ) → picked p f j ≤ f j
unfolding picked
picked-le p f j = elim (cases_Bool (p j)) [ inl passes ↦ rw passes (omega arith) | inr fails ↦ rw fails (omega arith) ]

module _ (s : SystemLists) (r i : ℕ) (fewer above : ℕ → Bool) (rules : IsSystem s) (there : i < length s.tasks) (moved : (j : ℕ) → fewer j ≡ true → above j ≡ true) where
  worst_of : ℕ → ℕ
  worst_of j = (task_at s j).worst

  -- by how long one of its jobs that has begun keeps task i waiting, below those of a set
  held_of : (ℕ → Bool) → Kind → ℕ → ℕ
  held_of test kind j = placed_between s r test i kind j

  held_of-le : (test : ℕ → Bool) (kind : Kind) (j : ℕ) → held_of test kind j ≤ worst_of j
  unfolding held_of worst_of
  held_of-le test kind j = between-small s r test i kind j

  held_of-fewer : (kind : Kind) (j : ℕ) → held_of fewer kind j ≤ held_of above kind j
  unfolding held_of
  held_of-fewer kind j = between-fewer s r i fewer above moved kind j

  work_of : ℕ → ℕ → ℕ
  work_of w j = eta_plus (sources_model s j) w * worst_of j

  sources-are_model : (j : ℕ) → j < length s.tasks → IsModel (sources_model s j)
  sources-are_model j less =
      record {
        some = omega (arith, length-map (streams_of s j) (λ (k : SourceId). source_stream s k.0), streams_of-some s rules j less);
        each = All-map IsStream (λ (k : SourceId). source_stream s k.0) (streams_of s j) (λ k d within. source-is_stream s [] rules (get_or (streams_of s j) k d).0);
      }

  -- a task above has its execution at least once in a window
  once_worst : (w j : ℕ) → 1 ≤ w → worst_of j ≤ work_of w j
  unfolding work_of worst_of
  once_worst w j some =
      elim (cases_lt j (length s.tasks)) [
        | inl less ↦
            let once : 1 ≤ eta_plus (sources_model s j) w = eta_plus-one (sources_model s j) w (sources-are_model j less) some in
            let all : 1 * (task_at s j).worst ≤ eta_plus (sources_model s j) w * (task_at s j).worst = mul-le-mul_right (task_at s j).worst once in
            omega (arith, all)
        | inr past ↦ let none : (task_at s j).worst ≡ 0 = ap (λ (t : Task). t.worst) (get_or-eq_default s.tasks no_task past) in omega (arith, none)
      ]

  not_below : (test : ℕ → Bool) (j : ℕ) → test j ≡ true → is_below s r test i j ≡ false
  not_below test j h =
      elim (cases_Bool (is_task_on s r j)) [
        | inl there ↦ rw (there, h) refl
        | inr elsewhere ↦ rw elsewhere refl
      ]

  trades : (kind : Kind) (w j : ℕ) → 1 ≤ w → IsTrade fewer above (is_below s r fewer i) (is_below s r above i) (held_of fewer kind) (held_of above kind) (work_of w) j
  unfolding work_of
  trades kind w j some =
      let once : worst_of j ≤ work_of w j = once_worst w j some in
      let brings : picked (is_below s r fewer i) (held_of fewer kind) j ≤ held_of fewer kind j = picked-le (is_below s r fewer i) (held_of fewer kind) j in
      let less : picked fewer (work_of w) j ≤ picked above (work_of w) j = picked-kept fewer above (work_of w) j (moved j) in
      elim (cases_Bool (fewer j)) [
        | inl high ↦
            let none = picked-none (is_below s r fewer i) (held_of fewer kind) j (not_below fewer j high) in
            record { less = less; trade = inl (omega (arith, none)) }
        | inr low ↦
            let left = picked-none fewer (work_of w) j low in
            elim (cases_Bool (above j)) [
              | inl higher ↦
                  let had = picked-some above (work_of w) j higher in
                  record { less = less; trade = inr (omega (arith, left, had, once, brings, held_of-le fewer kind j)) }
              | inr lower ↦
                  let same : is_below s r fewer i j ≡ is_below s r above i j = ap (λ (b : Bool). is_task_on s r j && not (b || j == i)) (low ∙ sym lower) in
                  record { less = less; trade = inl (picked-less (is_below s r fewer i) (is_below s r above i) (held_of fewer kind) (held_of above kind) j same (held_of-fewer kind j)) }
            ]
      ]

  work_in-listed : (w : ℕ) (js : List ℕ) → work_in (map (rival_at s) js) w ≡ Within (sum_by (work_of w) js)
  unfolding work_of worst_of
  work_in-listed w [] = refl
  work_in-listed w (j ∷ js) = rw (work_in-listed w js, sum_by-cons (work_of w) j js) refl

  -- the blocking and the interference of a window, together
  no_more_together : (kind : Kind) (w : ℕ) → 1 ≤ w
      → IsAtMost (bound_plus (Within (placed_blocking s r fewer i kind)) (work_in (rivals_at s fewer) w)) (bound_plus (Within (placed_blocking s r above i kind)) (work_in (rivals_at s above) w))
  unfolding sum_over greatest_over held_of
  no_more_together kind w some =
      rw (work_in-listed w (filter fewer (task_places s)), work_in-listed w (filter above (task_places s)))
      (traded fewer above (is_below s r fewer i) (is_below s r above i) (held_of fewer kind) (held_of above kind) (work_of w) (task_places s) (λ j. trades kind w j some)).0

  by_priority-fewer : (kind : Kind)
      → IsAtMost (preemptive_bound (sources_model s i) (task_at s i).worst (placed_blocking s r fewer i kind) (rivals_at s fewer) (resource_at s r).limit)
      (preemptive_bound (sources_model s i) (task_at s i).worst (placed_blocking s r above i kind) (rivals_at s above) (resource_at s r).limit)
  by_priority-fewer kind =
      let own : IsTask s (task_at s i) = rules.tasks i no_task there in
      preemptive_bound-trade (sources_model s i) (task_at s i).worst (placed_blocking s r fewer i kind) (placed_blocking s r above i kind) (rivals_at s fewer) (rivals_at s above) (resource_at s r).limit
      (omega (arith, own.some_best, own.ordered)) (no_more_together kind)

  placed_by_kind-fewer : (kind : Kind) → KindFits kind → IsAtMost (placed_by_kind s r fewer i kind) (placed_by_kind s r above i kind)
  placed_by_kind-fewer Preemptive fit = by_priority-fewer Preemptive
  placed_by_kind-fewer (Can bit) fit =
      can_bound-trade (sources_model s i) (task_at s i).worst (placed_blocking s r fewer i (Can bit)) (placed_blocking s r above i (Can bit)) (rivals_at s fewer) (rivals_at s above) bit (resource_at s r).limit
      fit.0 (no_more_together (Can bit))
  placed_by_kind-fewer RoundRobin fit = tt
  placed_by_kind-fewer (Tdma gap) fit = tt
  placed_by_kind-fewer Fifo fit = tt
  placed_by_kind-fewer Ceiling fit = by_priority-fewer Ceiling

  on_clocks-fewer : IsAtMost (placed_on_clocks s r fewer i) (placed_on_clocks s r above i)
  on_clocks-fewer =
      clocked-fewer fewer above moved (clocked_rival_at s) (task_at s i).worst 0 (clock_cycle s) (length s.sources) (resource_at s r).limit (task_places s) (sources_model s i) (anchors_at (source_anchors s i))

  placed_by_clocks-fewer : (kind : Kind) → IsAtMost (placed_by_clocks s r fewer i kind) (placed_by_clocks s r above i kind)
  placed_by_clocks-fewer Preemptive = on_clocks-fewer
  placed_by_clocks-fewer RoundRobin = tt
  placed_by_clocks-fewer (Tdma gap) = tt
  placed_by_clocks-fewer (Can bit) = tt
  placed_by_clocks-fewer Fifo = tt
  placed_by_clocks-fewer Ceiling = on_clocks-fewer

  kind_fits : KindFits (resource_at s r).kind
  kind_fits =
      elim (cases_lt r (length s.resources)) [
        | inl less ↦ let it : IsResource (resource_at s r) = rules.resources r no_resource less in it.kind_fits
        | inr past ↦ rw (get_or-eq_default s.resources no_resource past) tt
      ]

  -- where tasks move from above to below, the bound doesn't rise
  pub fewer_above : IsAtMost (placed_bound s r fewer i) (placed_bound s r above i)
  unfolding placed_bound
  fewer_above =
      elim (cases_Bool (is_off_clocks s r)) [
        | inl off ↦ rw off (placed_by_kind-fewer (resource_at s r).kind kind_fits)
        | inr on ↦ rw on (placed_by_clocks-fewer (resource_at s r).kind)
      ]
