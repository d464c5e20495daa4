-- The local bound of a queue: a job ends within it, from what was known before.
use Rattle.std.proofs.Common.{◌≡◌, ℕ, zero, suc, ◌+◌, ◌-◌, ◌*◌, ◌<◌, ◌≤◌, List, [], ◌∷◌, map, Option, Some, None, inl, inr, arith}
use Rattle.std.specs.List.{sum_by, AllByRecursion}
use Rattle.std.proofs.lemmas.Bool.{cases_lt}
use Rattle.std.proofs.lemmas.List.Sums.{sum_by-cons}
use Rattle.std.proofs.Math.Nat.{mul-le-mul_right}
use Rattle.cpa_units.specs.declared.bound.Bound.{Bound}
use Rattle.cpa_units.specs.declared.bound.Bound.TheVariants.{Within, Overload}
use Rattle.cpa_units.specs.Bounds.{IsAtMost, bound_minus, bound_times, greatest_of}
use Rattle.cpa_units.proofs.BoundLaws.{IsAtMost_trans, le-greatest_of}
use Rattle.cpa_events.specs.Events.{Model}
use Rattle.cpa_events.specs.Events.{eta_plus}
use Rattle.cpa_window.specs.declared.rivals.Rival.{Rival}
use Rattle.cpa_window.specs.Rivals.{events_in, work_in}
use Rattle.cpa_window.specs.Windows.{window, IsWindow}
use Rattle.cpa_window.proofs.WindowLaws.{window-is}
use Rattle.cpa_fifo.specs.Fifo.{fifo_demand, greatest_while_busy, fifo_bound}
use Rattle.cpa_sound.specs.Course.{Course, Arrives}
use Rattle.cpa_sound.proofs.Serving.{work, IsPending, IsNoLater, IsQuiet, IsInOrder, ComesWithin, AnyOf}
use Rattle.cpa_sound.proofs.CourseLaws.{work-mono, work_between, arrived-mono, ended-mono, incomplete, quiet_received, arrival_of}
use Rattle.cpa_sound.proofs.LevelLaws.{plus-within, sum-within, sum-le, all_map}
use Rattle.cpa_sound.proofs.BusyLaws.{InOrder, QuietAt, BusyAt, PendingAt, LosesAtMost, loses-first, last_quiet, total, asked, served, window-lt}

-- ---- what a number that the bound comes to says

response-within : (a : Bound) (gone r : ℕ) → IsAtMost (bound_minus a gone) (Within r) → IsAtMost a (Within (r + gone))
response-within (Within a) gone r h = omega arith
response-within Overload gone r h = h

fifo_facts-at : (demand : ℕ → Bound) (limit r : ℕ) (busy : Bound) → IsWindow demand 1 limit busy → IsAtMost (greatest_while_busy (λ w. bound_minus (demand w) (w - 1)) busy) (Within r) → (l : ℕ) × (1 ≤ l) × IsAtMost (demand l) (Within l) × ((w : ℕ) → 0 < w → w ≤ l → IsAtMost (demand w) (Within (r + (w - 1))))
fifo_facts-at demand limit r (Within l) is h = (
  l,
  is.0,
  is.2,
  λ w some le.
      response-within (demand w) (w - 1) r
      (IsAtMost_trans (bound_minus (demand w) (w - 1)) (greatest_of (λ v. bound_minus (demand v) (v - 1)) l) (Within r) (le-greatest_of (λ v. bound_minus (demand v) (v - 1)) l w some le) h),
)
fifo_facts-at demand limit r Overload is h = absurd h

-- some window has room, and each up to it asks for no more than the bound past its last tick
pub fifo_facts : (own : Model) (worst : ℕ) (rivals : List Rival) (limit r : ℕ) → IsAtMost (fifo_bound own worst rivals limit) (Within r) → (l : ℕ) × (1 ≤ l) × IsAtMost (fifo_demand own worst rivals l) (Within l) × ((w : ℕ) → 0 < w → w ≤ l → IsAtMost (fifo_demand own worst rivals w) (Within (r + (w - 1))))
fifo_facts own worst rivals limit r h =
    fifo_facts-at (fifo_demand own worst rivals) limit r (window (fifo_demand own worst rivals) 1 limit) (window-is (fifo_demand own worst rivals) 1 limit) h

-- ---- nothing that came later runs

module _ (c : Course) (best worst : ℕ) (o : IsInOrder c best worst) where
  -- a task that runs has a job pending
  pub runs-pending : (t : ℕ) → c.received t < c.received (t + 1) → IsPending c t
  runs-pending t ran =
      elim (cases_lt (c.ended t) (c.arrived (t + 1))) [
        | inl waits ↦ waits
        | inr done ↦ absurd (omega (arith, ran, o.for_arrived (t + 1), o.ended_paid t, work-mono c.needs (c.arrived (t + 1)) (c.ended t) done))
      ]

  -- where no job runs that came after a time, the task receives no more than those up to it need
  pub none_later : (a v : ℕ) → ((u b : ℕ) → a ≤ u → u < a + v → c.received u < c.received (u + 1) → Arrives c (c.ended u) b → b ≤ a) → c.received (a + v) ≤ work c.needs (c.arrived (a + 1))
  none_later a zero early =
      let e : a + 0 ≡ a = omega arith in
      rw e (omega (arith, o.for_arrived a, work-mono c.needs (c.arrived a) (c.arrived (a + 1)) (o.more_arrive a)))
  none_later a (suc v) early =
      let e : a + suc v ≡ (a + v) + 1 = omega arith in
      let before = none_later a v (λ u b from to ran job. early u b from (omega arith) ran job) in
      elim (cases_lt (c.received (a + v)) (c.received ((a + v) + 1))) [
        | inl ran ↦
            let job = arrival_of c best worst o (c.ended (a + v)) ((a + v) + 1) (runs-pending (a + v) ran) in
            let sooner : job.0 ≤ a = early (a + v) job.0 (omega arith) (omega arith) ran job.2 in
            let among : c.ended (a + v) + 1 ≤ c.arrived (a + 1) = omega (arith, job.2.1, arrived-mono c best worst o (job.0 + 1) (a + 1) (omega arith)) in
            rw e (omega (arith, o.one_tick (a + v), o.next_unpaid (a + v), work-mono c.needs (c.ended (a + v) + 1) (c.arrived (a + 1)) among))
        | inr idle ↦ rw e (omega (arith, before, idle))
      ]

-- ---- what a task asks for in a window from a moment on at which nothing of it was left

module _ (c : Course) (best worst : ℕ) (o : IsInOrder c best worst) where
  pub asked-within : (input : Option Model) (t s u e : ℕ) → IsQuiet c s → ComesWithin c input t → s + u ≤ t → IsAtMost (bound_times (events_in input u) worst) (Within e) → work c.needs (c.arrived (s + u)) ≤ c.received s + e
  asked-within (Some m) t s u e quiet comes h within =
      let few = comes s u h in
      let a : ℕ = c.arrived s in
      let b : ℕ = c.arrived (s + u) in
      let gone : b - a ≤ eta_plus m u = omega arith in
      let most : (b - a) * worst ≤ eta_plus m u * worst = mul-le-mul_right worst gone in
      let all : eta_plus m u * worst ≤ e = within in
      let order : a ≤ b = arrived-mono c best worst o s (s + u) (omega arith) in
      omega (arith, work_between c best worst o a b order, quiet_received c best worst o s quiet)
  asked-within None t s zero e quiet comes h within =
      let same : s + 0 ≡ s = omega arith in
      rw same (omega (arith, quiet_received c best worst o s quiet))
  asked-within None t s (suc u) e quiet comes h within = absurd within

-- what is known before a time of another task j of the queue on which task i waits
pub record IsQueued (course : ℕ → Course) (best : ℕ → ℕ) (rival : ℕ → Rival) (i t j : ℕ) : Type 0 where
  pub order : InOrder course best rival j
  pub comes : ComesWithin (course j) (rival j).model t
  pub no_later : IsNoLater course i j

module _ (course : ℕ → Course) (best : ℕ → ℕ) (rival : ℕ → Rival) (i : ℕ) (hs : List ℕ) (own : Model) (k a r limit : ℕ) (order : InOrder course best rival i) (arrival : Arrives (course i) k a) (comes : ComesWithin (course i) (Some own) (a + r)) (queued : AllByRecursion (IsQueued course best rival i (a + r)) hs) where
  orders : AllByRecursion (InOrder course best rival) (i ∷ hs)
  orders = (order, all_map (IsQueued course best rival i (a + r)) (InOrder course best rival) (λ j one. one.order) hs queued)

  -- until a job is complete no other task runs a job that came after it
  none_later_by : (v j : ℕ) → (course i).ended (a + v) ≤ k → IsQueued course best rival i (a + r) j → (course j).received (a + v) ≤ asked course best rival (a + 1) j
  unfolding asked
  none_later_by v j still q =
      none_later (course j) (best j) (rival j).worst q.order a v (λ u b from to ran job.
      let open_u : (course i).ended u ≤ k = omega (arith, still, ended-mono (course i) (best i) (rival i).worst order u (a + v) (omega arith)) in
      let own_job = arrival_of (course i) (best i) (rival i).worst order ((course i).ended u) (a + 1) (omega (arith, open_u, arrival.1)) in
      let waits : IsPending (course i) u = omega (arith, open_u, arrival.1, arrived-mono (course i) (best i) (rival i).worst order (a + 1) (u + 1) (omega arith)) in
      omega (arith, own_job.1, q.no_later u b own_job.0 ran job waits own_job.2))

  total_by : (v : ℕ) → (course i).ended (a + v) ≤ k → total course best rival hs (a + v) ≤ sum_by (asked course best rival (a + 1)) hs
  unfolding total
  total_by v still =
      sum-le (λ j. (course j).received (a + v)) (asked course best rival (a + 1)) hs
      (all_map (IsQueued course best rival i (a + r)) (λ j. (course j).received (a + v) ≤ asked course best rival (a + 1) j) (λ j q. none_later_by v j still q) hs queued)

  total-cons : (u : ℕ) → total course best rival (i ∷ hs) u ≡ (course i).received u + total course best rival hs u
  unfolding total
  total-cons u = sum_by-cons (λ j. (course j).received u) i hs

  quiet_both : (s : ℕ) (js : List ℕ) → AllByRecursion (IsQueued course best rival i (a + r)) js → AllByRecursion (QuietAt course best rival s) js → AllByRecursion (λ j. IsQueued course best rival i (a + r) j × IsQuiet (course j) s) js
  quiet_both s [] all quiet = tt
  quiet_both s (j ∷ js) all quiet = ((all.0, quiet.0), quiet_both s js all.1 quiet.1)

  -- what the others ask for
  rivals_ask : (s u d : ℕ) → AllByRecursion (QuietAt course best rival s) hs → s + u ≤ a + r → IsAtMost (work_in (map rival hs) u) (Within d) → sum_by (asked course best rival (s + u)) hs ≤ total course best rival hs s + d
  unfolding asked total
  rivals_ask s u d quiet h within =
      sum-within (λ x. bound_times (events_in x.model u) x.worst) rival (λ j. work (course j).needs ((course j).arrived (s + u))) (λ j. (course j).received s)
      (λ j. IsQueued course best rival i (a + r) j × IsQuiet (course j) s)
      (λ j e one le. asked-within (course j) (best j) (rival j).worst one.0.order (rival j).model (a + r) s u e one.1 one.0.comes h le)
      hs d (quiet_both s hs queued quiet) within

  module _ (serves : (u : ℕ) → AnyOf (PendingAt course best rival u) (i ∷ hs) → total course best rival (i ∷ hs) u < total course best rival (i ∷ hs) (u + 1)) (bounded : IsAtMost (fifo_bound own (rival i).worst (map rival hs) limit) (Within r)) where
    module _ (s : ℕ) (early : s ≤ a) (quiet : QuietAt course best rival s i) (quiets : AllByRecursion (QuietAt course best rival s) hs) (busy : (m : ℕ) → s < m → m ≤ a → AnyOf (BusyAt course best rival m) (i ∷ hs)) where
      serves_from : (u : ℕ) → s + 0 ≤ u → ((w : ℕ) → s ≤ w → w ≤ u → AnyOf (PendingAt course best rival w) (i ∷ hs)) → total course best rival (i ∷ hs) u < total course best rival (i ∷ hs) (u + 1)
      serves_from u h any = serves u (any u (omega arith) (omega arith))

      loses : LosesAtMost course best rival (i ∷ hs) 0 s
      loses = loses-first course best rival (i ∷ hs) orders 0 s serves_from

      -- the job comes in a busy window
      comes_while_busy : (l : ℕ) → 0 < l → IsAtMost (fifo_demand own (rival i).worst (map rival hs) l) (Within l) → a < s + l
      comes_while_busy l some fits =
          elim (cases_lt a (s + l)) [
            | inl before ↦ before
            | inr past ↦
                let ask = plus-within (eta_plus own l * (rival i).worst) (work_in (map rival hs) l) l fits in
                let n : ℕ = (course i).arrived s in
                let few : (course i).arrived (s + l) ≤ n + eta_plus own l = comes s l (omega arith) in
                let gone : n + eta_plus own l - n ≡ eta_plus own l = omega arith in
                let short = window-lt course best rival i hs orders k a s arrival early quiet busy 0 loses (a + r)
                (λ u. sum_by (asked course best rival (s + u)) hs - total course best rival hs s) (λ u h. omega arith)
                (n + eta_plus own l) l (l - eta_plus own l * (rival i).worst) few some past (omega arith)
                (omega (arith, rivals_ask s l (l - eta_plus own l * (rival i).worst) quiets (omega arith) ask.1)) in
                let short' = rw gone at short in
                absurd (omega (arith, short', ask.0))
          ]

      -- all that came up to it is done within what they ask for
      done_by : IsAtMost (fifo_demand own (rival i).worst (map rival hs) (a - s + 1)) (Within (r + (a - s))) → 0 < r → k < (course i).ended (a + r)
      done_by fits soon =
          let ask = plus-within (eta_plus own (a - s + 1) * (rival i).worst) (work_in (map rival hs) (a - s + 1)) (r + (a - s)) fits in
          let here : s + (a - s + 1) ≡ a + 1 = omega arith in
          let there : s + (a - s + r) ≡ a + r = omega arith in
          elim (cases_lt k ((course i).ended (a + r))) [
            | inl done ↦ done
            | inr still ↦
                let up = rw there at (served course best rival i hs orders k a s arrival early quiet busy 0 loses (a - s + r) (inr (rw there still))) in
                let mine = rw here at (asked-within (course i) (best i) (rival i).worst order (Some own) (a + r) s (a - s + 1) (eta_plus own (a - s + 1) * (rival i).worst) quiet comes (omega arith) (omega arith)) in
                let theirs = rw here at (rivals_ask s (a - s + 1) (r + (a - s) - eta_plus own (a - s + 1) * (rival i).worst) quiets (omega arith) ask.1) in
                absurd (
                omega (
                  arith,
                  up,
                  mine,
                  theirs,
                  total_by r still,
                  ask.0,
                  total-cons s,
                  total-cons (a + r),
                  incomplete (course i) (best i) (rival i).worst order k (a + r) still,
                  work-mono (course i).needs (k + 1) ((course i).arrived (a + 1)) (omega (arith, arrival.1)),
                )
                )
          ]

      fifo-local_from : 0 < r → k < (course i).ended (a + r)
      fifo-local_from soon =
          let facts = fifo_facts own (rival i).worst (map rival hs) limit r bounded in
          let within = comes_while_busy facts.0 (omega (arith, facts.1)) facts.2 in
          let e : a - s + 1 - 1 ≡ a - s = omega arith in
          done_by (rw e at (facts.3 (a - s + 1) (omega arith) (omega (arith, within, early)))) soon

    -- the job ends within the bound
    pub fifo-local : 0 < r → k < (course i).ended (a + r)
    fifo-local soon =
        let begin = last_quiet course best rival (i ∷ hs) orders a in
        fifo-local_from begin.0 begin.1 begin.2.0 begin.2.1 begin.3 soon
