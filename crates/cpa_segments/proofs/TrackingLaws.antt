-- A resource that is followed along a run.
use Rattle.std.proofs.Common.{◌≡◌, ◌∙◌, ◌⊎◌, ℕ, zero, suc, ◌+◌, ◌-◌, ◌<◌, ◌≤◌, List, [], ◌∷◌, ◌++◌, length, set, true, false, eqb, cond, nat_lt, Option, Some, None, slice_get, refl, sym, ap, subst, inl, inr, arith, add-one}
use Rattle.std.specs.Option.{option_to_list}
use Rattle.std.proofs.lemmas.Bool.{cases_lt, cases_Bool, eqb-true, eq-eqb, lt-ltb, le-ltb, cond-true, cond-false, false≢true}
use Rattle.std.proofs.lemmas.Option.{slice_get_within}
use Rattle.cpa_model.specs.SystemLists.{SystemLists}
use Rattle.cpa_model.specs.Rules.{IsSystem}
use Rattle.cpa_trace.specs.Trace.{TraceLists}
use Rattle.cpa_sim.specs.declared.jobs.Served.{Served}
use Rattle.cpa_sim.specs.Outcome.{CanReplay, end_of}
use Rattle.cpa_sim.specs.Replays.{FollowedRun}
use Rattle.cpa_sim.specs.Served.{served_at}
use Rattle.cpa_sim.proofs.SimulatorLaws.{ended}
use Rattle.cpa_sim.proofs.StartLaws.{can-run}
use Rattle.cpa_sim.proofs.ServedLaws.{served-on}
use Rattle.cpa_audit.specs.declared.schedule.Segment.{Segment}
use Rattle.cpa_audit.specs.Segments.{is_job, gets, last_served, stop_of, segment_at}
use Rattle.cpa_audit.proofs.SegmentLaws.{same-refl, same-is, gets-is, stops-at}
use Rattle.cpa_segments.specs.declared.tracking.SegmentTracker.{SegmentTracker}
use Rattle.cpa_segments.specs.Tracking.{IsAhead, IsTracking, AreTracking}

is-some : (o : Option Served) (j : Served) → is_job o j ≡ true → o ≡ Some j
is-some None j e = absurd (false≢true e)
is-some (Some k) j e = ap Some (same-is k j e)

-- by the run that a replay itself says
pub tracking-there : (s : SystemLists) (tr : TraceLists) (r t : ℕ) (f : SegmentTracker) → IsTracking s tr r t f → IsTracking f.replay.system f.replay.trace r t f
tracking-there s tr r t f h =
    subst (λ x. IsTracking x f.replay.trace r t f) (sym h.ahead.system) (subst (λ y. IsTracking s y r t f) (sym h.ahead.trace) h)

pub tracking-back : (s : SystemLists) (tr : TraceLists) (r t : ℕ) (f g : SegmentTracker) → IsTracking s tr r t f → IsTracking f.replay.system f.replay.trace r (t + 1) g → IsTracking s tr r (t + 1) g
tracking-back s tr r t f g h k =
    subst (λ x. IsTracking x tr r (t + 1) g) h.ahead.system (subst (λ y. IsTracking f.replay.system y r (t + 1) g) h.ahead.trace k)

pub starts-here : (s : SystemLists) (tr : TraceLists) (r t : ℕ) (f : SegmentTracker) (o : Option Segment) → IsTracking s tr r t f → option_to_list o ≡ segment_at f.replay.system f.replay.trace t r → option_to_list o ≡ segment_at s tr t r
starts-here s tr r t f o h is = is ∙ (ap (λ x. segment_at x f.replay.trace t r) h.ahead.system ∙ ap (λ y. segment_at s y t r) h.ahead.trace)

module _ (s : SystemLists) (tr : TraceLists) (r : ℕ) where
  pub task-there : IsSystem s → CanReplay s tr → (t : ℕ) (j : Served) → r < length s.resources → served_at s tr t r ≡ Some j → j.task.0 < length s.tasks
  task-there rules can t j there got = (served-on s tr (can-run s tr rules can) t r j there got).task

  -- at the start
  pub tracking-start : (f : SegmentTracker) → IsSystem s → CanReplay s tr → f.replay ≡ record { system = s; trace = tr; since = 0; time = 0 } → f.last ≡ None → f.since ≡ 0 → IsTracking s tr r 0 f
  tracking-start f rules can replay last since =
      let time : f.replay.time ≡ 0 = ap (λ (p : FollowedRun). p.time) replay in
      record {
        ahead = record {
          rules = rules;
          can = can;
          system = ap (λ (p : FollowedRun). p.system) replay;
          trace = ap (λ (p : FollowedRun). p.trace) replay;
          since = since ∙ sym (ap (λ (p : FollowedRun). p.since) replay);
          later = λ h. absurd (omega (arith, time, h));
          within = omega (arith, time);
        };
        last = last;
        goes = λ u low high. absurd (omega (arith, since, high));
      }

  -- who got the last tick is in none of it
  pub ahead-last : (f g : SegmentTracker) → IsAhead s tr f → g.replay ≡ f.replay → g.since ≡ f.since → IsAhead s tr g
  ahead-last f g h replay since =
      let time : g.replay.time ≡ f.replay.time = ap (λ (p : FollowedRun). p.time) replay in
      record {
        rules = h.rules;
        can = h.can;
        system = ap (λ (p : FollowedRun). p.system) replay ∙ h.system;
        trace = ap (λ (p : FollowedRun). p.trace) replay ∙ h.trace;
        since = since ∙ (h.since ∙ sym (ap (λ (p : FollowedRun). p.since) replay));
        later = λ more. let m : 0 < f.replay.time = omega (arith, time, more) in omega (arith, h.later m, since, time);
        within = omega (arith, time, h.within);
      }

  -- where another job gets the tick, the replay isn't ahead of it
  pub tracking-behind : (t : ℕ) (f : SegmentTracker) (j : Served) → IsTracking s tr r t f → served_at s tr t r ≡ Some j → is_job f.last j ≡ false → f.since ≤ t
  tracking-behind t f j h got other =
      elim (cases_lt t f.since) [
        | inl less ↦
            let last : f.last ≡ Some j = sym (h.goes t (omega arith) less) ∙ got in
            absurd (false≢true (sym other ∙ (ap (λ o. is_job o j) last ∙ same-refl j)))
        | inr past ↦ past
      ]

  last-is : (t : ℕ) (ran : Option Served) → served_at s tr t r ≡ ran → ran ≡ last_served s tr r (t + 1)
  last-is t ran got = rw add-one (sym got)

  -- where no segment starts, the replay stays where it is
  pub tracking-kept : (t : ℕ) (f g : SegmentTracker) (ran : Option Served) → IsTracking s tr r t f → served_at s tr t r ≡ ran → g.replay ≡ f.replay → g.since ≡ f.since → g.last ≡ ran → IsTracking s tr r (t + 1) g
  tracking-kept t f g ran h got replay since last = record {
    ahead = ahead-last f g h.ahead replay since;
    last = last ∙ last-is t ran got;
    goes = λ u low high.
        let high' : u < f.since = omega (arith, since, high) in
        let was : f.last ≡ ran = sym (h.goes t (omega arith) (omega (arith, low, high'))) ∙ got in
        h.goes u (omega (arith, low)) high' ∙ (was ∙ sym last);
  }

  -- where one starts, it is at its end
  pub tracking-ahead : (t : ℕ) (g : SegmentTracker) (j : Served) → IsAhead s tr g → served_at s tr t r ≡ Some j → g.last ≡ Some j → ((u : ℕ) → t ≤ u → u < g.since → served_at s tr u r ≡ Some j) → IsTracking s tr r (t + 1) g
  tracking-ahead t g j ahead got last goes = record {
    ahead = ahead;
    last = last ∙ last-is t (Some j) got;
    goes = λ u low high. goes u (omega (arith, low)) high ∙ sym last;
  }

  -- to the next moment
  pub tracking-later : (t next : ℕ) (f : SegmentTracker) → IsTracking s tr r (t + 1) f → t < next → ((u : ℕ) → t ≤ u → u < next → served_at s tr u r ≡ served_at s tr t r) → IsTracking s tr r next f
  tracking-later t next f h later same = record {
    ahead = h.ahead;
    last =
        let e : next ≡ suc (next - 1) = omega arith in
        let now : last_served s tr r (suc (next - 1)) ≡ served_at s tr t r = same (next - 1) (omega arith) (omega arith) in
        let now' : last_served s tr r next ≡ served_at s tr t r = subst (λ v. last_served s tr r v ≡ served_at s tr t r) (sym e) now in
        h.last ∙ (sym (last-is t (served_at s tr t r) refl) ∙ sym now');
    goes = λ u low high. h.goes u (omega (arith, low, later)) high;
  }

  -- ---- where a segment stops, of a replay that is past its start, by who got the ticks of the replay's last step

  module _ (j : Served) (start : ℕ) (f : SegmentTracker) (h : IsAhead s tr f) (past : start < f.replay.time) (each : (u : ℕ) → start ≤ u → u < f.since → served_at s tr u r ≡ Some j)
      (ran : Option Served) (last-step : (u : ℕ) → f.replay.since ≤ u → u < f.replay.time → served_at f.replay.system f.replay.trace u r ≡ ran) where
    step-is : (u : ℕ) → f.since ≤ u → u < f.replay.time → served_at s tr u r ≡ ran
    step-is u low high =
        subst (λ x. served_at x tr u r ≡ ran) h.system (subst (λ y. served_at f.replay.system y u r ≡ ran) h.trace (last-step u (omega (arith, h.since, low)) high))

    pub each-more : is_job ran j ≡ true → (u : ℕ) → start ≤ u → u < f.replay.time → served_at s tr u r ≡ Some j
    each-more one u low high =
        elim (cases_lt u f.since) [
          | inl early ↦ each u low early
          | inr late ↦ step-is u late high ∙ is-some ran j one
        ]

    got-by : (u : ℕ) → served_at s tr u r ≡ Some j → gets s tr r j u ≡ true
    got-by u e = gets-is s tr r j u ∙ (ap (λ o. is_job o j) e ∙ same-refl j)

    end-is : end_of f.replay.system f.replay.trace ≡ end_of s tr
    end-is = ap (λ x. end_of x f.replay.trace) h.system ∙ ap (λ x. end_of s x) h.trace

    -- the job goes on to the end of the run
    pub stop-end : is_job ran j ≡ true → nat_lt f.replay.time (end_of f.replay.system f.replay.trace) ≡ false → f.replay.time ≡ stop_of s tr r j start
    stop-end one off =
        let at : f.replay.time ≡ end_of s tr = ended s tr f.replay.time (ap (nat_lt f.replay.time) (sym end-is) ∙ off) h.within in
        sym (stops-at s tr r j start f.replay.time (omega (arith, past)) h.within (λ u low high. got-by u (each-more one u low high)) (λ more. absurd (omega (arith, at, more))))

    -- another one, or nobody, gets the next tick
    pub stop-since : is_job ran j ≡ false → served_at s tr start r ≡ Some j → f.since ≡ stop_of s tr r j start
    stop-since other got =
        let some : f.since < f.replay.time = h.later (omega (arith, past)) in
        let from : start ≤ f.since =
        elim (cases_lt f.since start) [
          | inl before ↦ absurd (false≢true (sym other ∙ (ap (λ o. is_job o j) (sym (step-is start (omega arith) past) ∙ got) ∙ same-refl j)))
          | inr l ↦ l
        ] in
        sym (stops-at s tr r j start f.since from (omega (arith, some, h.within)) (λ u low high. got-by u (each u low high)) (λ more. gets-is s tr r j f.since ∙ (ap (λ o. is_job o j) (step-is f.since (omega arith) some) ∙ other)))

-- ---- all resources

module _ (s : SystemLists) (tr : TraceLists) where
  pub all-at : (k t next : ℕ) (fs : List SegmentTracker) (f : SegmentTracker) → AreTracking s tr k t next fs → slice_get fs k ≡ Some f → IsTracking s tr k t f
  all-at k t next fs f h is = subst (λ u. IsTracking s tr k u f) (cond-false (nat_lt k k) next t (le-ltb k k (omega arith))) (h k f is)

  pub all-first : (t next : ℕ) (fs : List SegmentTracker) → AreTracking s tr 0 t t fs → AreTracking s tr 0 t next fs
  all-first t next fs h r f is =
      subst (λ u. IsTracking s tr r u f) (cond-false (nat_lt r 0) t t (le-ltb r 0 (omega arith)) ∙ sym (cond-false (nat_lt r 0) next t (le-ltb r 0 (omega arith)))) (h r f is)

  at-rest : (r k t next : ℕ) → (r ≡ k → ⊥) → cond (nat_lt r (k + 1)) next t ≡ cond (nat_lt r k) next t
  at-rest r k t next other =
      elim (cases_lt r k) [
        | inl below ↦ cond-true _ next t (lt-ltb r (k + 1) (omega arith)) ∙ sym (cond-true _ next t (lt-ltb r k below))
        | inr above ↦ elim (cases_lt k r) [
          | inl past ↦ cond-false _ next t (le-ltb r (k + 1) (omega arith)) ∙ sym (cond-false _ next t (le-ltb r k above))
          | inr same ↦ absurd (other (omega arith))
        ]
      ]

  get-set_same : (fs : List SegmentTracker) (k : ℕ) (g x : SegmentTracker) → slice_get (set fs k g) k ≡ Some x → x ≡ g
  get-set_same [] k g x e = let z : None ≡ Some x = e in cc
  get-set_same (f ∷ fs) zero g x e = let z : Some g ≡ Some x = e in cc
  get-set_same (f ∷ fs) (suc k) g x e = get-set_same fs k g x e

  get-set_other : (fs : List SegmentTracker) (k r : ℕ) (g x : SegmentTracker) → (r ≡ k → ⊥) → slice_get (set fs k g) r ≡ Some x → slice_get fs r ≡ Some x
  get-set_other [] k r g x n e = e
  get-set_other (f ∷ fs) zero zero g x n e = absurd (n refl)
  get-set_other (f ∷ fs) zero (suc r) g x n e = e
  get-set_other (f ∷ fs) (suc k) zero g x n e = e
  get-set_other (f ∷ fs) (suc k) (suc r) g x n e = get-set_other fs k r g x (λ same. n (ap suc same)) e

  pub all-more : (k t next : ℕ) (fs gs : List SegmentTracker) (g : SegmentTracker) → AreTracking s tr k t next fs → gs ≡ set fs k g → IsTracking s tr k (t + 1) g → t < next
      → ((u : ℕ) → t ≤ u → u < next → served_at s tr u k ≡ served_at s tr t k) → AreTracking s tr (k + 1) t next gs
  all-more k t next fs gs g h is follows later same r x at =
      let at' : slice_get (set fs k g) r ≡ Some x = subst (λ xs. slice_get xs r ≡ Some x) is at in
      elim (cases_Bool (eqb r k)) [
        | inl here ↦
            let one : r ≡ k = eqb-true r k here in
            let x-is : x ≡ g = get-set_same fs k g x (subst (λ q. slice_get (set fs k g) q ≡ Some x) one at') in
            let now : IsTracking s tr k next g = tracking-later s tr k t next g follows later same in
            let time : next ≡ cond (nat_lt r (k + 1)) next t = sym (cond-true _ next t (lt-ltb r (k + 1) (omega arith))) in
            subst (λ u. IsTracking s tr r u x) time (subst (λ y. IsTracking s tr r next y) (sym x-is) (subst (λ q. IsTracking s tr q next g) (sym one) now))
        | inr other ↦
            let n : r ≡ k → ⊥ = λ one. false≢true (sym other ∙ eq-eqb r k one) in
            subst (λ u. IsTracking s tr r u x) (sym (at-rest r k t next n)) (h r x (get-set_other fs k r g x n at'))
      ]

  pub all-all : (n t next : ℕ) (fs : List SegmentTracker) → length fs ≤ n → AreTracking s tr n t next fs → AreTracking s tr 0 next next fs
  all-all n t next fs few h r f is =
      let there : r < n = omega (arith, slice_get_within fs r f is, few) in
      subst (λ u. IsTracking s tr r u f) (cond-true (nat_lt r n) next t (lt-ltb r n there) ∙ sym (cond-false (nat_lt r 0) next next (le-ltb r 0 (omega arith)))) (h r f is)

  get-push : (fs : List SegmentTracker) (f x : SegmentTracker) (r : ℕ) → slice_get (fs ++ f ∷ []) r ≡ Some x → (slice_get fs r ≡ Some x) ⊎ (x ≡ f)
  get-push [] f x zero e = let z : Some f ≡ Some x = e in inr cc
  get-push [] f x (suc r) e = let z : None ≡ Some x = e in cc
  get-push (y ∷ fs) f x zero e = inl e
  get-push (y ∷ fs) f x (suc r) e = get-push fs f x r e

  pub all-none : (fs : List SegmentTracker) → fs ≡ [] → AreTracking s tr 0 0 0 fs
  all-none fs none r f is = let z : None ≡ Some f = subst (λ xs. slice_get xs r ≡ Some f) none is in cc

  pub all-push : (fs gs : List SegmentTracker) (f : SegmentTracker) → AreTracking s tr 0 0 0 fs → gs ≡ fs ++ f ∷ [] → ((r : ℕ) → IsTracking s tr r 0 f) → AreTracking s tr 0 0 0 gs
  all-push fs gs f h is each r x at =
      elim (get-push fs f x r (subst (λ xs. slice_get xs r ≡ Some x) is at)) [
        | inl before ↦ h r x before
        | inr last ↦ subst (λ y. IsTracking s tr r (cond (nat_lt r 0) 0 0) y) (sym last) (subst (λ u. IsTracking s tr r u f) (sym (cond-false (nat_lt r 0) 0 0 (le-ltb r 0 (omega arith)))) (each r))
      ]
