-- Each job of the last task has data: there are jobs along the chain.
use Rattle.std.proofs.Common.{◌≡◌, ◌⊎◌, ℕ, zero, suc, ◌+◌, ◌-◌, ◌<◌, ◌≤◌, true, cond, eqb, List, [], ◌∷◌, length, refl, sym, ◌∙◌, ap, subst, inl, inr, arith}
use Rattle.std.proofs.Math.Dec.{ltb}
use Rattle.std.proofs.lemmas.Bool.{cases_lt, lt-ltb, le-ltb}
use Rattle.cpa_units.specs.declared.bound.Bound.{Bound}
use Rattle.cpa_units.specs.declared.bound.Bound.TheVariants.{Within}
use Rattle.cpa_units.specs.declared.places.SourceId.{SourceId}
use Rattle.cpa_units.specs.declared.places.TaskId.{TaskId}
use Rattle.cpa_units.specs.Bounds.{bound_of, bound_plus}
use Rattle.cpa_model.specs.declared.entries.Activator.TheVariants.{Source}
use Rattle.cpa_model.specs.Rules.{IsSystem}
use Rattle.cpa_model.proofs.SystemLaws.{streams_of-some}
use Rattle.cpa_model.specs.SystemLists.{SystemLists, task_at, streams_of, is_activated_by}
use Rattle.cpa_trace.specs.Trace.{TraceLists, Obeys}
use Rattle.cpa_sound.specs.RunCourse.{course_of}
use Rattle.cpa_sound.specs.BoundsHold.{HasJob, arrival_of, stream_of, SourcesStayNear, HoldIn}
use Rattle.cpa_sound.proofs.FieldLaws.{arrival-is}
use Rattle.cpa_effects.specs.declared.steps.Step.{Step}
use Rattle.cpa_effects.specs.declared.steps.Step.TheVariants.{Register, Merge, Activation}
use Rattle.cpa_effects.specs.declared.steps.Reading.{Reading}
use Rattle.cpa_effects.specs.declared.steps.Passage.{Passage}
use Rattle.cpa_effects.specs.declared.steps.Passage.TheVariants.{By, FromAbove, OfOneSource}
use Rattle.cpa_effects.specs.Bounds.{step_between, wait_of, reading_wait, read_from, task_in, passage_in, last_in, forward_cost, backward_cost, arrives_after, renewed_after, age_by, held_by}
use Rattle.cpa_effects.specs.Effects.{Reads, HasEnded, ReadWithin, ReadsRunning, ReadsBy, IsAmidst, IsLastToEnd, ReadsLast, HasDataOf, RunsOn, IsRunning, IsFed, IsHeld}
use Rattle.cpa_effects.specs.Laws.{IsChain}
use Rattle.cpa_effects.proofs.SumLaws.{within-injective, add-up, arrives-next, renewed-next}
use Rattle.cpa_effects.proofs.JobTimes.{in_order, end-by, counted-by, last-ended, ended-before, arrivals-order, started-at, ends-soon}
use Rattle.cpa_effects.proofs.GroupLaws.{renewed-of}
use Rattle.cpa_effects.proofs.StepLaws.{is_start, starts-then, sole-starter, next-there, next-soon, overwritten-late, started-soon, started-before, renewed-soon}
use Rattle.cpa_effects.proofs.AboveLaws.{IsAbove, above-is, way-of, within-of, runs-of, not-come, arrive-together, twin-ended, has-together, twin-amidst}

module _ (s : SystemLists) (x : List Bound) (tr : TraceLists) (rules : IsSystem s) (obeys : Obeys s tr) (hold : HoldIn s x tr) (near : SourcesStayNear s tr) (tasks : List TaskId) (chain : IsChain s tasks) (reading : Reading) where
  there : (k : ℕ) → k < length tasks → (task_in tasks k).0 < length s.tasks
  there k less = chain.there k (record { 0 = 0 }) less

  module _ (t start due : ℕ) (reads : Reads) (by : ReadsBy reading s tr t reads tasks) where
    within : ReadWithin s tr t reads
    within = within-of reading s tr t reads tasks by

    -- the job that wrote a register last, by a time
    record Writer (i u : ℕ) : Type 0 where
      job : ℕ
      last : IsLastToEnd s tr t i job u
      amidst : IsAmidst s tr t i job
      latest : (b : ℕ) → b < (course_of s tr i).ended u → b ≤ job

    module _ (i u : ℕ) (h : i < length s.tasks) (seen : u ≤ t) (high : u ≤ due) where
      abbrev count : ℕ
      count = (course_of s tr i).ended u

      -- each stream has a job that ended by then
      abbrev Begun : Type 0
      Begun = (q : ℕ) → q < length (streams_of s i) → (early : ℕ) × (early < count) × (stream_of s tr t i early ≡ q)

      begun-running : start ≤ u → IsRunning s tr t i start due → Begun
      begun-running low running q less =
          let run = running q less in
          (run.early, counted-by s tr rules obeys t i run.early run.ended u h run.has (omega (arith, run.before, low)), run.early_own)

      begun-amidst : (b : ℕ) → b < count → IsAmidst s tr t i b → Begun
      begun-amidst b done amidst q less = let goes = amidst q less in (goes.before, omega (arith, goes.is_before, done), goes.before_own)

      after : {q : ℕ} → (run : RunsOn s tr t i q start due) → 0 < count → count ≤ run.late
      after run some =
          let last = last-ended s tr rules obeys t i u h seen some in
          elim (cases_lt run.late count) [
            | inr more ↦ more
            | inl less ↦
                let own = own-end run.late run.there less in
                let late = hold.not_before i run.late t own.0 h run.there own.1.1 in
                absurd (omega (arith, late, own.2, run.after, high, (in_order s tr rules obeys t i h).something))
          ]
        where
          own-end : (l : ℕ) → HasJob s tr t i l → l < count → (ended : ℕ) × HasEnded s tr t i l ended × (ended ≤ u)
          own-end l has_job less =
              let last = last-ended s tr rules obeys t i u h seen (omega (arith, less)) in
              elim (cases_lt l (count - 1)) [
                | inl sooner ↦ let own = ended-before s tr rules obeys t i l (count - 1) last.ended h sooner last.has in (own.0, own.1, omega (arith, own.2, last.early))
                | inr same ↦
                    let eq : count - 1 ≡ l = omega (arith, same, less) in
                    (last.ended, subst (λ k. HasEnded s tr t i k last.ended) eq last.has, last.early)
              ]

      writer : Begun → IsRunning s tr t i start due → Writer i u
      writer begun running =
          let inside : 0 < length (streams_of s i) = omega (arith, streams_of-some s rules i h) in
          let one = begun 0 inside in
          let some : 0 < count = omega (arith, one.1) in
          let last = last-ended s tr rules obeys t i u h seen some in
          record {
            job = count - 1;
            last = record { ended = last.ended; has = last.has; early = last.early; last = last.last };
            amidst = λ q less.
                let own = begun q less in
                let run = running q less in
                record {
                  before = own.0;
                  is_before = omega (arith, own.1);
                  before_own = own.2;
                  after = run.late;
                  is_after = omega (arith, after run some, some);
                  there = run.there;
                  after_own = run.late_own;
                };
            latest = λ b less. omega (arith, less);
          }

    -- a job comes late enough, or what comes anew after one that is amidst and no later does
    record Old (i j : ℕ) (old : Bound) : Type 0 where
      a : ℕ
      is : old ≡ Within a
      low : start + a ≤ arrival_of s tr t i j

    record Renews (i j : ℕ) (renewed : Bound) : Type 0 where
      b : ℕ
      le : b ≤ j
      amidst : IsAmidst s tr t i b
      r : ℕ
      is : renewed ≡ Within r
      low : start + r + 1 ≤ arrival_of s tr t i (b + 1)

    abbrev Late : ℕ → ℕ → Bound → Bound → Type 0
    Late i j old renewed = Old i j old ⊎ Renews i j renewed

    -- the job whose data a job has
    record Before (p c : TaskId) (n : ℕ) (old renewed : Bound) : Type 0 where
      job : ℕ
      has_data : HasDataOf s tr t reads p job c n
      ended : ℕ
      has : HasEnded s tr t p.0 job ended
      early : ended ≤ due
      late : Late p.0 job old renewed

    module _ (p c : TaskId) (n e : ℕ) (hp : p.0 < length s.tasks) (hc : c.0 < length s.tasks) (has : HasEnded s tr t c.0 n e) (high : e ≤ due) (running : IsRunning s tr t p.0 start due)
        (old renewed : Bound) where
      abbrev at : ℕ
      at = reads c.0 n

      read : at ≤ e
      read = within.ended c.0 n e has

      come : arrival_of s tr t c.0 n ≤ at
      come = within.arrived c.0 n has.0

      seen : at ≤ t
      seen = omega (arith, read, end-by s tr rules obeys t c.0 n e hc has)

      soon : at ≤ due
      soon = omega (arith, read, high)

      abbrev Wrote : Type 0
      Wrote = Writer p.0 at

      wrote-running : start ≤ at → Wrote
      wrote-running low = writer p.0 at hp seen soon (begun-running p.0 at hp seen soon low running) running

      wrote-amidst : (b : ℕ) → b < (course_of s tr p.0).ended at → IsAmidst s tr t p.0 b → Wrote
      wrote-amidst b done amidst = writer p.0 at hp seen soon (begun-amidst p.0 at hp seen soon b done amidst) running

      reader-of : (w : Wrote) → ReadsLast s tr t reads p w.job c n
      reader-of w = record { there = has.0; ended = e; is = has; last = w.last; goes_on = inr w.amidst }

      before-by : (w : Wrote) → Late p.0 w.job old renewed → Before p c n old renewed
      before-by w late =
          record {
            job = w.job;
            has_data = inr (reader-of w);
            ended = w.last.ended;
            has = w.last.has;
            early = omega (arith, w.last.early, soon);
            late = late;
          }

      -- what comes anew of the task before, where it overwrites late
      anew : (w : Wrote) (r : ℕ) → renewed ≡ Within r → start + r + 1 ≤ arrival_of s tr t p.0 (w.job + 1) → Before p c n old renewed
      anew w r is low = before-by w (inr (record { b = w.job; le = omega arith; amidst = w.amidst; r = r; is = is; low = low }))

      by_register : (r q : ℕ) → renewed ≡ Within r → bound_of x p.0 ≡ Within q → start + r + q ≤ arrival_of s tr t c.0 n → Before p c n old renewed
      by_register r q is number low =
          let w = wrote-running (omega (arith, low, come)) in
          anew w r is (omega (arith, overwritten-late s tr rules obeys t x hold near p.0 w.job q at hp number seen w.last w.amidst, come, low))

      renews : (k : ℕ) → HasDataOf s tr t reads p k c n → is_activated_by s p.0 c.0 ≡ true → Renews c.0 n (bound_plus renewed (bound_plus (bound_of x p.0) (Within 0))) → Renews p.0 k renewed
      renews k data_of activates v =
          let there_then : HasJob s tr t c.0 v.b = omega (arith, v.le, has.0) in
          let g = renewed-of s tr rules obeys t p c hc activates v.b there_then v.amidst in
          let both = add-up renewed (bound_plus (bound_of x p.0) (Within 0)) v.r v.is in
          let inner = add-up (bound_of x p.0) (Within 0) both.right both.right_is in
          record {
            b = g.before;
            le = started-before s tr rules obeys t x hold near reads p c k n v.b hc activates within data_of v.le g;
            amidst = g.amidst;
            r = both.left;
            is = both.left_is;
            low = omega (arith, v.low, renewed-soon s tr rules obeys t x hold near p c v.b inner.left hc activates inner.left_is g, both.sum, inner.sum);
          }

      by_step : (step : Step) → step_between s p.0 c.0 ≡ step
          → Late c.0 n (bound_plus (read_from step old renewed) (bound_of x p.0)) (bound_plus renewed (bound_plus (bound_of x p.0) (reading_wait step (wait_of s x c.0)))) → Before p c n old renewed
      by_step Activation same late =
          let own = sole-starter s tr rules obeys t p c n hc same has.0 in
          let activates = starts-then (is_activated_by s p.0 c.0) (eqb (length (task_at s c.0).after) 1) (ap is_start same) in
          record {
            job = own.0;
            has_data = inl own.1;
            ended = arrival_of s tr t c.0 n;
            has = started-at s tr rules obeys t p c own.0 n hc own.1;
            early = omega (arith, come, soon);
            late =
                elim late [
                  | inl o ↦
                      let both = add-up old (bound_of x p.0) o.a o.is in
                      inl (record {
                        a = both.left;
                        is = both.left_is;
                        low = omega (arith, o.low, started-soon s tr rules obeys t x hold near p c own.0 n both.right hc both.right_is own.1, both.sum);
                      })
                  | inr v ↦ inr (renews own.0 (inl own.1) activates v)
                ];
          }
      by_step Merge same (inl o) =
          let both = add-up renewed (bound_of x p.0) o.a o.is in
          by_register both.left both.right both.left_is both.right_is (omega (arith, o.low, both.sum))
      by_step Merge same (inr v) =
          let activates = starts-then (is_activated_by s p.0 c.0) (eqb (length (task_at s c.0).after) 1) (ap is_start same) in
          let there_then : HasJob s tr t c.0 v.b = omega (arith, v.le, has.0) in
          let g = renewed-of s tr rules obeys t p c hc activates v.b there_then v.amidst in
          let ended = started-at s tr rules obeys t p c g.before g.started hc g.started_is in
          let order = arrivals-order s tr rules obeys t c.0 g.started n hc has.0 (omega (arith, g.not_after, v.le)) in
          let w = wrote-amidst g.before (counted-by s tr rules obeys t p.0 g.before (arrival_of s tr t c.0 g.started) at hp ended (omega (arith, order, come))) g.amidst in
          before-by w (inr (renews w.job (inr (reader-of w)) activates v))
      by_step Register same (inl o) =
          let both = add-up renewed (bound_of x p.0) o.a o.is in
          by_register both.left both.right both.left_is both.right_is (omega (arith, o.low, both.sum))
      by_step Register same (inr v) =
          let both = add-up renewed (bound_plus (bound_of x p.0) (wait_of s x c.0)) v.r v.is in
          let inner = add-up (bound_of x p.0) (wait_of s x c.0) both.right both.right_is in
          let next = next-soon s tr rules obeys t x hold near c.0 v.b inner.right hc inner.right_is v.amidst in
          let order = arrivals-order s tr rules obeys t c.0 v.b n hc has.0 v.le in
          by_register both.left inner.left both.left_is inner.left_is (omega (arith, v.low, next.1, order, both.sum, inner.sum))

      module _ (above : IsAbove s p.0 c.0) (runs : ReadsRunning s tr t reads c.0) where
        by_above : Late c.0 n renewed (bound_plus renewed (wait_of s x c.0)) → Before p c n old renewed
        by_above late = elim late [
          | inl o ↦ from_above o.a o.is o.low
          | inr v ↦
              let both = add-up renewed (wait_of s x c.0) v.r v.is in
              let next = next-soon s tr rules obeys t x hold near c.0 v.b both.right hc both.right_is v.amidst in
              let order = arrivals-order s tr rules obeys t c.0 v.b n hc has.0 v.le in
              from_above both.left both.left_is (omega (arith, v.low, next.1, order, both.sum))
        ]
          where
            from_above : (r : ℕ) → renewed ≡ Within r → start + r ≤ arrival_of s tr t c.0 n → Before p c n old renewed
            from_above r is low =
                let w = wrote-running (omega (arith, low, come)) in
                anew w r is (omega (arith, not-come s tr rules obeys p c hp hc above t x hold near reads within runs w.job n (reader-of w) w.amidst, come, low))

        by_together : (same : (task_at s p.0).after ≡ (task_at s c.0).after) → (k : SourceId) × ((task_at s c.0).after ≡ Source k ∷ []) → Late c.0 n old (bound_plus renewed (Within 0)) → Before p c n old renewed
        by_together same source late = elim late [
          | inl o ↦
              let w = wrote-running (omega (arith, o.low, come)) in
              let together = has-together s tr rules obeys p c hp hc above same t reads within runs w.job n (inr (reader-of w)) in
              before-by w (inl (record { a = o.a; is = o.is; low = omega (arith, o.low, together) }))
          | inr v ↦
              let both = add-up renewed (Within 0) v.r v.is in
              let none = within-injective 0 both.right both.right_is in
              let twin = twin-amidst s tr rules obeys p c hp hc above same t source v.b v.amidst in
              let done = twin-ended s tr rules obeys p c hp hc above same t reads within runs n has.0 in
              let w = wrote-amidst v.b (omega (arith, done, v.le)) twin in
              let next = arrive-together s tr rules obeys p c hp hc above same t (v.b + 1) (next-there s tr rules obeys t p.0 v.b hp twin) in
              before-by w (inr (record { b = v.b; le = w.latest v.b (omega (arith, done, v.le)); amidst = twin; r = both.left; is = both.left_is; low = omega (arith, v.low, next, both.sum, none) }))
        ]

    -- and so in a place of a chain
    module _ (m n e : ℕ) (inside : m + 1 < length tasks) (has : HasEnded s tr t (task_in tasks (m + 1)).0 n e) (high : e ≤ due) (running : IsRunning s tr t (task_in tasks m).0 start due)
        (late : Late (task_in tasks (m + 1)).0 n (arrives_after reading s x tasks (m + 1)) (renewed_after reading s x tasks (m + 1))) where
      late-by : (g : Passage) → passage_in reading s tasks m ≡ g
          → Late (task_in tasks (m + 1)).0 n (backward_cost g (bound_of x (task_in tasks m).0) (arrives_after reading s x tasks m) (renewed_after reading s x tasks m)) (bound_plus (renewed_after reading s x tasks m) (forward_cost g (bound_of x (task_in tasks m).0) (wait_of s x (task_in tasks (m + 1)).0)))
      late-by g is =
          let response : Bound = bound_of x (task_in tasks m).0 in
          let wait : Bound = wait_of s x (task_in tasks (m + 1)).0 in
          let old : Bound = arrives_after reading s x tasks m in
          let renewed : Bound = renewed_after reading s x tasks m in
          let one : arrives_after reading s x tasks (m + 1) ≡ backward_cost g response old renewed = arrives-next reading s x tasks m ∙ ap (λ h. backward_cost h response old renewed) is in
          let two : renewed_after reading s x tasks (m + 1) ≡ bound_plus renewed (forward_cost g response wait) = renewed-next reading s x tasks m ∙ ap (λ h. bound_plus renewed (forward_cost h response wait)) is in
          subst (λ a. Late (task_in tasks (m + 1)).0 n a (bound_plus renewed (forward_cost g response wait))) one (subst (λ r. Late (task_in tasks (m + 1)).0 n (arrives_after reading s x tasks (m + 1)) r) two late)

      before-in : Before (task_in tasks m) (task_in tasks (m + 1)) n (arrives_after reading s x tasks m) (renewed_after reading s x tasks m)
      before-in =
          let p : TaskId = task_in tasks m in
          let c : TaskId = task_in tasks (m + 1) in
          let hp = there m (omega (arith, inside)) in
          let hc = there (m + 1) inside in
          let old : Bound = arrives_after reading s x tasks m in
          let renewed : Bound = renewed_after reading s x tasks m in
          elim (way-of reading s x tasks m) [
            | inl plain ↦ by_step p c n e hp hc has high running old renewed (step_between s p.0 c.0) refl (late-by (By (step_between s p.0 c.0)) plain.passage_is)
            | inr from_above ↦
                elim from_above [
                  | inl way ↦
                      let runs = runs-of reading s tr t reads tasks by way.runs (m + 1) inside in
                      by_above p c n e hp hc has high running old renewed (above-is s p.0 c.0 way.above) runs (late-by FromAbove way.passage_is)
                  | inr way ↦
                      let runs = runs-of reading s tr t reads tasks by way.runs (m + 1) inside in
                      by_together p c n e hp hc has high running old renewed (above-is s p.0 c.0 way.above) runs way.same way.source (late-by OfOneSource way.passage_is)
                ]
          ]

    -- jobs from a place to the last
    record Carried (n m : ℕ) : Type 0 where
      jobs : ℕ → ℕ
      is : jobs (length tasks - 1) ≡ n
      steps : (k : ℕ) → m ≤ k → k + 1 < length tasks → HasDataOf s tr t reads (task_in tasks k) (jobs k) (task_in tasks (k + 1)) (jobs (k + 1))
      late : Late (task_in tasks m).0 (jobs m) (arrives_after reading s x tasks m) (renewed_after reading s x tasks m)
      ended : ℕ
      has : HasEnded s tr t (task_in tasks m).0 (jobs m) ended
      early : ended ≤ due

    module _ (n e : ℕ) (last_has : HasEnded s tr t (last_in tasks).0 n e) (high : e ≤ due)
        (last_late : Late (last_in tasks).0 n (arrives_after reading s x tasks (length tasks - 1)) (renewed_after reading s x tasks (length tasks - 1)))
        (runs : (k : ℕ) → k + 1 < length tasks → IsRunning s tr t (task_in tasks k).0 start due) where
      carried-last : Carried n (length tasks - 1)
      carried-last =
          record {
            jobs = λ k. n;
            is = refl;
            steps = λ k from less. absurd (omega (arith, from, less));
            late = last_late;
            ended = e;
            has = last_has;
            early = high;
          }

      carried-before : (m : ℕ) → m + 1 < length tasks → Carried n (m + 1) → Carried n m
      carried-before m less next =
          let p = task_in tasks m in
          let found = before-in m (next.jobs (m + 1)) next.ended less next.has next.early (runs m less) next.late in
          let jobs : ℕ → ℕ = λ k. cond (ltb m k) (next.jobs k) found.job in
          let kept : (k : ℕ) → m < k → next.jobs k ≡ jobs k = λ k after. ap (λ b. cond b (next.jobs k) found.job) (sym (lt-ltb m k after)) in
          let new : found.job ≡ jobs m = ap (λ b. cond b (next.jobs m) found.job) (sym (le-ltb m m (omega arith))) in
          record {
            jobs = jobs;
            is = sym (kept (length tasks - 1) (omega (arith, less))) ∙ next.is;
            steps = λ k from inside. one_step m next found.job found.has_data jobs kept new k from inside (cases_lt m k);
            late = subst (λ k. Late p.0 k (arrives_after reading s x tasks m) (renewed_after reading s x tasks m)) new found.late;
            ended = found.ended;
            has = subst (λ k. HasEnded s tr t p.0 k found.ended) new found.has;
            early = found.early;
          }
        where
          one_step : (m : ℕ) (next : Carried n (m + 1)) (job : ℕ) → HasDataOf s tr t reads (task_in tasks m) job (task_in tasks (m + 1)) (next.jobs (m + 1)) → (jobs : ℕ → ℕ)
              → ((k : ℕ) → m < k → next.jobs k ≡ jobs k) → job ≡ jobs m → (k : ℕ) → m ≤ k → k + 1 < length tasks → (m < k) ⊎ (k ≤ m)
              → HasDataOf s tr t reads (task_in tasks k) (jobs k) (task_in tasks (k + 1)) (jobs (k + 1))
          one_step m next job has_data jobs kept new k from inside (inl after) =
              subst (λ b. HasDataOf s tr t reads (task_in tasks k) (jobs k) (task_in tasks (k + 1)) b) (kept (k + 1) (omega (arith, after)))
              (subst (λ a. HasDataOf s tr t reads (task_in tasks k) a (task_in tasks (k + 1)) (next.jobs (k + 1))) (kept k after) (next.steps k (omega (arith, after)) inside))
          one_step m next job has_data jobs kept new k from inside (inr here) =
              let e : m ≡ k = omega (arith, from, here) in
              subst (λ l. HasDataOf s tr t reads (task_in tasks l) (jobs l) (task_in tasks (l + 1)) (jobs (l + 1))) e
              (subst (λ b. HasDataOf s tr t reads (task_in tasks m) (jobs m) (task_in tasks (m + 1)) b) (kept (m + 1) (omega arith))
              (subst (λ a. HasDataOf s tr t reads (task_in tasks m) a (task_in tasks (m + 1)) (next.jobs (m + 1))) new has_data))

      carried : (d m : ℕ) → m + d ≡ length tasks - 1 → Carried n m
      carried zero m e = let e' : length tasks - 1 ≡ m = omega (arith, e) in subst (Carried n) e' carried-last
      carried (suc d) m e = carried-before m (omega (arith, e)) (carried d (m + 1) (omega (arith, e)))

      fed-all : IsFed s tr t reads tasks n e
      fed-all =
          let chained = carried (length tasks - 1) 0 (omega arith) in
          record {
            jobs = chained.jobs;
            is = chained.is;
            goes = record {
              steps = λ k inside. chained.steps k (omega arith) inside;
              last = subst (λ k. HasEnded s tr t (last_in tasks).0 k e) (sym chained.is) last_has;
            };
          }

  -- each job of the last task has data of the first
  pub feeds : (r t start n ended : ℕ) (reads : Reads) → age_by reading s x tasks ≡ Within r → ReadsBy reading s tr t reads tasks → HasEnded s tr t (last_in tasks).0 n ended → start + r ≤ ended
      → ((k : ℕ) → k + 1 < length tasks → IsRunning s tr t (task_in tasks k).0 start ended) → IsFed s tr t reads tasks n ended
  unfolding age_by
  feeds r t start n ended reads is by has old runs =
      let total = add-up (arrives_after reading s x tasks (length tasks - 1)) (bound_of x (last_in tasks).0) r is in
      let h = there (length tasks - 1) (omega (arith, chain.some)) in
      let soon = ends-soon s tr rules obeys t x hold (last_in tasks).0 total.right n ended h total.right_is has in
      fed-all t start ended reads by n ended has (omega arith) (inl (record { a = total.left; is = total.left_is; low = omega (arith, soon, total.sum, old) })) runs

  -- and at any time the register of the last task holds such data
  pub fills : (r t start time : ℕ) (reads : Reads) → held_by reading s x tasks ≡ Within r → ReadsBy reading s tr t reads tasks → start + r ≤ time
      → ((k : ℕ) → k < length tasks → IsRunning s tr t (task_in tasks k).0 start time) → (jobs : ℕ → ℕ) × IsHeld s tr t reads tasks jobs time
  unfolding held_by
  fills r t start time reads is by old runs =
      let i : ℕ = (last_in tasks).0 in
      let inside : length tasks - 1 < length tasks = omega (arith, chain.some) in
      let h = there (length tasks - 1) inside in
      let both = add-up (renewed_after reading s x tasks (length tasks - 1)) (bound_of x i) r is in
      let running = runs (length tasks - 1) inside in
      let some : 0 < length (streams_of s i) = omega (arith, streams_of-some s rules i h) in
      let run = running 0 some in
      let seen : time ≤ t = omega (arith, run.after, arrival-is s tr t i run.late run.there) in
      let high : time ≤ time = omega arith in
      let own = writer t start time reads by i time h seen high (begun-running t start time reads by i time h seen high (omega (arith, old)) running) running in
      let late = overwritten-late s tr rules obeys t x hold near i own.job both.right time h both.right_is seen own.last own.amidst in
      let fed = fed-all t start time reads by own.job own.last.ended own.last.has own.last.early
      (inr (record { b = own.job; le = omega arith; amidst = own.amidst; r = both.left; is = both.left_is; low = omega (arith, late, both.sum, old) })) (λ k less. runs k (omega (arith, less))) in
      let same : own.job ≡ fed.jobs (length tasks - 1) = sym fed.is in (
        fed.jobs,
        record {
          last = subst (λ k. IsLastToEnd s tr t i k time) same own.last;
          amidst = subst (IsAmidst s tr t i) same own.amidst;
          ended = own.last.ended;
          goes = fed.goes;
        },
      )
