-- While a job of higher priority is pending, a task whose region is a tick doesn't run; so a step from above waits less.
use Rattle.std.proofs.Common.{◌≡◌, ◌⊎◌, ℕ, zero, suc, ◌+◌, ◌<◌, ◌≤◌, Bool, true, false, cond, not, eqb, length, List, [], ◌∷◌, Option, Some, None, refl, sym, ◌∙◌, ap, subst, inl, inr, arith}
use Rattle.std.specs.Prelude.{filter, sum_by, unwrap_or, ◌&&◌}
use Rattle.std.specs.List.{list_any, flat_map}
use Rattle.std.proofs.lemmas.Option.{none-some}
use Rattle.std.proofs.lemmas.Bool.{cases_lt, eq-eqb, eqb-true, ltb-true, false≢true}
use Rattle.cpa_units.specs.declared.bound.Bound.{Bound}
use Rattle.cpa_units.specs.declared.bound.Bound.TheVariants.{Within}
use Rattle.cpa_units.specs.declared.places.SourceId.{SourceId}
use Rattle.cpa_units.specs.declared.places.TaskId.{TaskId}
use Rattle.cpa_units.specs.Bounds.{bound_of, bound_plus}
use Rattle.cpa_model.specs.declared.entries.Activator.{Activator}
use Rattle.cpa_model.specs.declared.entries.Activator.TheVariants.{Source, Task}
use Rattle.cpa_model.specs.declared.entries.Kind.{Kind}
use Rattle.cpa_model.specs.declared.entries.Kind.TheVariants.{Preemptive, RoundRobin, Tdma, Can, Fifo, Ceiling}
use Rattle.cpa_model.specs.Chains.{streams_step}
use Rattle.cpa_model.specs.Rules.{IsSystem}
use Rattle.cpa_model.proofs.SystemLaws.{streams_of-activators}
use Rattle.cpa_model.specs.SystemLists.{SystemLists, task_at, priority_of, tasks_on, task_places, source_places, streams_of, is_task, is_source, is_activated_by}
use Rattle.cpa_trace.specs.Trace.{TraceLists, times_of, Obeys}
use Rattle.cpa_sched.specs.States.{IsOn, IsWaiting, HoldsRegion}
use Rattle.cpa_sched.specs.Steps.{kind_of, region_of}
use Rattle.cpa_sched.proofs.OptionLaws.{some-injective}
use Rattle.cpa_sim.proofs.RunLaws.{run-belongs}
use Rattle.cpa_sim.specs.Run.{runs_in, ended_count, run}
use Rattle.cpa_sim.proofs.EventCounts.{events_before}
use Rattle.cpa_sim.proofs.JobCount.{jobs-counted}
use Rattle.cpa_sound.specs.RunCourse.{course_of}
use Rattle.cpa_sound.specs.BoundsHold.{HasJob, arrival_of, SourcesStayNear, HoldIn}
use Rattle.cpa_sound.proofs.Serving.{IsPending}
use Rattle.cpa_sound.proofs.CourseLaws.{arrived-mono, arrives-order}
use Rattle.cpa_sound.proofs.RunLaws.{arrived-zero, arrived-one}
use Rattle.cpa_sound.specs.Course.{Arrives}
use Rattle.cpa_sound.proofs.ChoiceLaws.{waiting_at, state_at, runs-chosen, region-goes_on, region-starts, urgent_waits}
use Rattle.cpa_sound.proofs.StepLaws.{in_waiting, all_at}
use Rattle.cpa_sound.proofs.KindRuns.{pending-waits}
use Rattle.cpa_sound.proofs.FieldLaws.{arrival-is}
use Rattle.cpa_sound.proofs.Soundness.{each_job_has_a_stream}
use Rattle.cpa_effects.specs.declared.steps.Reading.{Reading}
use Rattle.cpa_effects.specs.declared.steps.Reading.TheVariants.{Anywhere, WhileRunning}
use Rattle.cpa_effects.specs.declared.steps.Passage.{Passage}
use Rattle.cpa_effects.specs.declared.steps.Passage.TheVariants.{By, FromAbove, OfOneSource}
use Rattle.cpa_effects.specs.Bounds.{step_between, is_preemptive, is_above, sole_source, is_one_source, have_one_source, task_in, passage_in, wait_of, forward_cost, backward_cost, forward, arrives_after, renewed_after}
use Rattle.cpa_effects.specs.Effects.{Reads, ReadWithin, ReadsRunning, ReadsBy, IsAmidst, FollowsOn, ReadsFirst, IsFirstToKnow, ReadsLast, HasDataOf}
use Rattle.cpa_effects.proofs.JobTimes.{in_order, end-by, end-order, ended-late, arrivals-order, starter-there}
use Rattle.cpa_effects.proofs.SumLaws.{within-injective, add-up, arrives-next, renewed-next}
use Rattle.cpa_effects.proofs.StepLaws.{only-then, next-there, next-soon, knows-soon, Stands, has-plain}

-- ---- kinds of passages

both-true : (a b : Bool) → (a && b) ≡ true → (a ≡ true) × (b ≡ true)
both-true true b e = (refl, e)
both-true false b e = absurd (false≢true e)

not-true : (b : Bool) → not b ≡ true → b ≡ true → ⊥
not-true true e same = false≢true e
not-true false e same = false≢true same

preemptive-is : (k : Kind) → is_preemptive k ≡ true → k ≡ Preemptive
preemptive-is Preemptive e = refl
preemptive-is RoundRobin e = absurd (false≢true e)
preemptive-is (Tdma gap) e = absurd (false≢true e)
preemptive-is (Can bit) e = absurd (false≢true e)
preemptive-is Fifo e = absurd (false≢true e)
preemptive-is Ceiling e = absurd (false≢true e)

pub record IsAbove (s : SystemLists) (p c : ℕ) : Type 0 where
  pub kind : kind_of s (task_at s c).res.0 ≡ Preemptive
  pub one_tick : region_of s c ≡ 1
  pub shared : (task_at s p).res.0 ≡ (task_at s c).res.0
  pub rank : priority_of (task_at s p).turn < priority_of (task_at s c).turn
  pub apart : is_activated_by s p c ≡ true → ⊥

pub above-is : (s : SystemLists) (p c : ℕ) → is_above s p c ≡ true → IsAbove s p c
above-is s p c e =
    let outer = both-true _ _ e in
    let inner = both-true _ _ outer.0 in
    let way = both-true _ _ inner.0 in
    let higher = both-true _ _ inner.1 in
    record {
      kind = preemptive-is (kind_of s (task_at s c).res.0) way.0;
      one_tick = eqb-true (region_of s c) 1 way.1;
      shared = sym (eqb-true (task_at s c).res.0 (task_at s p).res.0 higher.0);
      rank = ltb-true (priority_of (task_at s p).turn) (priority_of (task_at s c).turn) higher.1;
      apart = not-true (is_activated_by s p c) outer.1;
    }

-- a passage costs what it does whenever jobs read, or is from above
pub record GoesPlain (reading : Reading) (s : SystemLists) (x : List Bound) (tasks : List TaskId) (m : ℕ) : Type 0 where
  pub forward_is : forward reading s x tasks m ≡ forward Anywhere s x tasks m
  pub passage_is : passage_in reading s tasks m ≡ By (step_between s (task_in tasks m).0 (task_in tasks (m + 1)).0)

pub record GoesAbove (reading : Reading) (s : SystemLists) (x : List Bound) (tasks : List TaskId) (m : ℕ) : Type 0 where
  pub above : is_above s (task_in tasks m).0 (task_in tasks (m + 1)).0 ≡ true
  pub runs : reading ≡ WhileRunning
  pub forward_is : forward reading s x tasks m ≡ wait_of s x (task_in tasks (m + 1)).0
  pub passage_is : passage_in reading s tasks m ≡ FromAbove

-- or of one source, and costs nothing
pub record GoesTogether (reading : Reading) (s : SystemLists) (tasks : List TaskId) (m : ℕ) : Type 0 where
  pub above : is_above s (task_in tasks m).0 (task_in tasks (m + 1)).0 ≡ true
  pub runs : reading ≡ WhileRunning
  pub same : (task_at s (task_in tasks m).0).after ≡ (task_at s (task_in tasks (m + 1)).0).after
  pub source : (k : SourceId) × ((task_at s (task_in tasks (m + 1)).0).after ≡ Source k ∷ [])
  pub passage_is : passage_in reading s tasks m ≡ OfOneSource

sole-is : (list : List Activator) (k : SourceId) → sole_source list ≡ Some k → list ≡ Source k ∷ []
sole-is [] k e = absurd (none-some _ e)
sole-is (Source m ∷ []) k e = ap (λ o. Source (unwrap_or o m) ∷ []) e
sole-is (Task j ∷ []) k e = absurd (none-some _ e)
sole-is (a ∷ b ∷ more) k e = absurd (none-some _ e)

one-source : (a b : List Activator) (m n : Option SourceId) → sole_source a ≡ m → sole_source b ≡ n → is_one_source m n ≡ true → (a ≡ b) × ((k : SourceId) × (b ≡ Source k ∷ []))
one-source a b (Some k) (Some m) e f same =
    let number : k.0 ≡ m.0 = eqb-true k.0 m.0 same in
    (sole-is a k e ∙ (ap (λ n. Source (record { 0 = n }) ∷ []) number ∙ sym (sole-is b m f)), (m, sole-is b m f))
one-source a b (Some k) None e f same = absurd (false≢true same)
one-source a b None other e f same = absurd (false≢true same)

pub way-of : (reading : Reading) (s : SystemLists) (x : List Bound) (tasks : List TaskId) (m : ℕ)
    → GoesPlain reading s x tasks m ⊎ (GoesAbove reading s x tasks m ⊎ GoesTogether reading s tasks m)
way-of Anywhere s x tasks m = inl (record { forward_is = refl; passage_is = refl })
way-of WhileRunning s x tasks m = by_rank (is_above s p c) refl (have_one_source s p c) refl
  where
    p : ℕ
    p = (task_in tasks m).0

    c : ℕ
    c = (task_in tasks (m + 1)).0

    passage : Bool → Bool → Passage
    passage above one = cond above (cond one OfOneSource FromAbove) (By (step_between s p c))

    by_rank : (above : Bool) → is_above s p c ≡ above → (one : Bool) → have_one_source s p c ≡ one
        → GoesPlain WhileRunning s x tasks m ⊎ (GoesAbove WhileRunning s x tasks m ⊎ GoesTogether WhileRunning s tasks m)
    by_rank true e true f =
        let one = one-source (task_at s p).after (task_at s c).after (sole_source (task_at s p).after) (sole_source (task_at s c).after) refl refl f in
        inr (inr (record { above = e; runs = refl; same = one.0; source = one.1; passage_is = (λ i. passage (e i) (f i)) }))
    by_rank true e false f =
        inr (inl (record {
          above = e;
          runs = refl;
          forward_is = (λ i. forward_cost (passage (e i) (f i)) (bound_of x p) (wait_of s x c));
          passage_is = (λ i. passage (e i) (f i));
        }))
    by_rank false e one f =
        inl (record {
          forward_is = (λ i. forward_cost (passage (e i) (f i)) (bound_of x p) (wait_of s x c));
          passage_is = (λ i. passage (e i) (f i));
        })

pub within-of : (reading : Reading) (s : SystemLists) (tr : TraceLists) (t : ℕ) (reads : Reads) (tasks : List TaskId) → ReadsBy reading s tr t reads tasks → ReadWithin s tr t reads
within-of Anywhere s tr t reads tasks by = by
within-of WhileRunning s tr t reads tasks by = by.0

pub runs-of : (reading : Reading) (s : SystemLists) (tr : TraceLists) (t : ℕ) (reads : Reads) (tasks : List TaskId) → ReadsBy reading s tr t reads tasks → reading ≡ WhileRunning
    → (k : ℕ) → k < length tasks → ReadsRunning s tr t reads (task_in tasks k).0
runs-of reading s tr t reads tasks by runs k less = (subst (λ r. ReadsBy r s tr t reads tasks) runs by).1 k less

-- ---- from above

module _ (s : SystemLists) (tr : TraceLists) (rules : IsSystem s) (obeys : Obeys s tr) (p c : TaskId) (hp : p.0 < length s.tasks) (hc : c.0 < length s.tasks) (above : IsAbove s p.0 c.0) where
  -- no region of the lower one has begun before a tick in which it runs
  no-region : (u : ℕ) → runs_in s tr u (run s tr u) c.0 ≡ true → (o : Option ℕ) → (state_at s tr u (task_at s c.0).res.0).holder ≡ o → (state_at s tr u (task_at s c.0).res.0).holder ≡ None
  no-region u runs None same = same
  no-region u runs (Some h) same =
      let r : ℕ = (task_at s c.0).res.0 in
      let own = some-injective h c.0 (sym (region-goes_on s tr r above.kind u h same) ∙ runs-chosen s tr u c.0 runs) in
      let keeps = (run-belongs s tr u r).turn in
      let holds : HoldsRegion s (state_at s tr u r).left (state_at s tr u r).holder = rw above.kind at keeps in
      let held : HoldsRegion s (state_at s tr u r).left (Some h) = subst (HoldsRegion s (state_at s tr u r).left) same holds in
      let one : region_of s h ≡ 1 = ap (region_of s) own ∙ above.one_tick in
      absurd (omega (arith, held.0, held.1, one))

  -- no job of the higher one is pending in a tick in which the lower one runs
  runs-alone : (u : ℕ) → runs_in s tr u (run s tr u) c.0 ≡ true → IsPending (course_of s tr p.0) u → ⊥
  runs-alone u runs pending =
      let r : ℕ = (task_at s c.0).res.0 in
      let free = no-region u runs (state_at s tr u r).holder refl in
      let urgent = sym (region-starts s tr r above.kind u free) ∙ runs-chosen s tr u c.0 runs in
      let first = urgent_waits s tr u r c.0 urgent in
      let on : IsOn s r p.0 = record { task = hp; here = eq-eqb (task_at s p.0).res.0 r above.shared } in
      let waits : IsWaiting s r (waiting_at s tr u) p.0 = record { on = on; waits_now = pending-waits s tr rules obeys p.0 u pending } in
      let le = all_at (λ j. priority_of (task_at s c.0).turn ≤ priority_of (task_at s j).turn) (filter (waiting_at s tr u) (tasks_on s r)) p.0 first.first (in_waiting s r (waiting_at s tr u) p.0 waits) in
      omega (arith, le, above.rank)

  module _ (t : ℕ) where
    -- a job of it that has arrived has ended by then
    pub ended-then : (k u : ℕ) → HasJob s tr t p.0 k → runs_in s tr u (run s tr u) c.0 ≡ true → arrival_of s tr t p.0 k ≤ u → k < (course_of s tr p.0).ended u
    ended-then k u has runs come =
        let arrival = arrival-is s tr t p.0 k has in
        let mono = arrived-mono (course_of s tr p.0) (task_at s p.0).best (task_at s p.0).worst (in_order s tr rules obeys t p.0 hp) in
        elim (cases_lt k ((course_of s tr p.0).ended u)) [
          | inl done ↦ done
          | inr still ↦ absurd (runs-alone u runs (omega (arith, arrival.0.1, still, mono (arrival_of s tr t p.0 k + 1) (u + 1) (omega (arith, come)))))
        ]

    module _ (x : List Bound) (hold : HoldIn s x tr) (near : SourcesStayNear s tr) (reads : Reads) (within : ReadWithin s tr t reads) (running : ReadsRunning s tr t reads c.0) where
      knows-sooner : (k n w : ℕ) → wait_of s x c.0 ≡ Within w → ReadsFirst s tr t reads p k c n → FollowsOn s tr t c.0 n → arrival_of s tr t c.0 n ≤ arrival_of s tr t p.0 k + w
      knows-sooner k n w wait reader follows =
          let l : ℕ = follows.0 in
          let soon = next-soon s tr rules obeys t x hold near c.0 l w hc wait follows.2 in
          let there : HasJob s tr t c.0 l = omega (arith, reader.first.there, follows.1) in
          let missed = reader.first.first l (omega (arith, follows.1)) in
          let before : reads c.0 l < arrival_of s tr t p.0 k =
          elim (cases_lt (reads c.0 l) (arrival_of s tr t p.0 k)) [
            | inl less ↦ less
            | inr come ↦
                let done = ended-then k (reads c.0 l) reader.has.0 (running l there) come in
                absurd (omega (arith, ended-late s tr rules obeys t p.0 k reader.written (reads c.0 l) hp reader.has done, missed))
          ] in
          let e : l + 1 ≡ n = sym follows.1 in
          let close = rw e at soon.1 in
          omega (arith, close, within.arrived c.0 l there, before)

      pub knows-above : (k n w : ℕ) → wait_of s x c.0 ≡ Within w → IsFirstToKnow s tr t reads p k c n → arrival_of s tr t c.0 n ≤ arrival_of s tr t p.0 k + w
      knows-above k n w wait knows =
          elim knows [
            | inl started ↦ absurd (above.apart (starter-there s tr rules obeys t p c k n hc started).0)
            | inr reader ↦
                elim reader.goes_on [
                  | inl activates ↦ absurd (above.apart activates)
                  | inr follows ↦ knows-sooner k n w wait reader follows
                ]
          ]

      -- what overwrites what is read hasn't come yet
      pub not-come : (k n : ℕ) → ReadsLast s tr t reads p k c n → IsAmidst s tr t p.0 k → reads c.0 n < arrival_of s tr t p.0 (k + 1)
      not-come k n reader amidst =
          let there = next-there s tr rules obeys t p.0 k hp amidst in
          let u : ℕ = reads c.0 n in
          let seen : u ≤ t = omega (arith, within.ended c.0 n reader.ended reader.is, end-by s tr rules obeys t c.0 n reader.ended hc reader.is) in
          elim (cases_lt u (arrival_of s tr t p.0 (k + 1))) [
            | inl less ↦ less
            | inr come ↦
                let done = ended-then (k + 1) u there (running n reader.there) come in
                let own = end-order s tr rules obeys t p.0 (k + 1) u hp there seen done in
                absurd (omega (arith, reader.last.last (k + 1) own.0 (omega arith) own.1, own.2))
          ]

      module _ (k n origin : ℕ) (old renewed : Bound) (stands : Stands s tr rules obeys t x hold near p.0 k origin old renewed) (data_of : HasDataOf s tr t reads p k c n) where
        come-above : (a : ℕ) → renewed ≡ Within a → HasJob s tr t c.0 n × (arrival_of s tr t c.0 n ≤ origin + a)
        come-above a is =
            elim data_of [
              | inl started ↦ absurd (above.apart (starter-there s tr rules obeys t p c k n hc started).0)
              | inr reader ↦
                  elim reader.goes_on [
                    | inl sole ↦ absurd (above.apart (only-then (is_activated_by s p.0 c.0) (eqb (length (task_at s c.0).after) 1) sole).0)
                    | inr amidst ↦ (reader.there, omega (arith, not-come k n reader amidst, stands.renewed_by a k is (omega arith) amidst, within.arrived c.0 n reader.there))
                  ]
            ]

        there-above : HasJob s tr t c.0 n
        there-above = elim data_of [ inl started ↦ started.0 | inr reader ↦ reader.there ]

        pub stands-above : Stands s tr rules obeys t x hold near c.0 n origin renewed (bound_plus renewed (wait_of s x c.0))
        stands-above =
            record {
              there = there-above;
              old_by = λ a is. (come-above a is).1;
              renewed_by = λ r b is le amidst.
                  let both = add-up renewed (wait_of s x c.0) r is in
                  let soon = next-soon s tr rules obeys t x hold near c.0 b both.right hc both.right_is amidst in
                  omega (arith, soon.1, arrivals-order s tr rules obeys t c.0 b n hc there-above le, (come-above both.left both.left_is).1, both.sum);
              order = λ r is. let both = add-up renewed (wait_of s x c.0) r is in (both.left, both.left_is, omega (arith, both.sum));
            }

-- ---- of one source

module _ (s : SystemLists) (tr : TraceLists) (rules : IsSystem s) (obeys : Obeys s tr) (p c : TaskId) (hp : p.0 < length s.tasks) (hc : c.0 < length s.tasks) (above : IsAbove s p.0 c.0)
    (same : (task_at s p.0).after ≡ (task_at s c.0).after) where
  -- as many jobs of both have arrived
  as-many : (t : ℕ) → length ((run s tr t).jobs p.0) ≡ length ((run s tr t).jobs c.0)
  as-many t =
      let count : List Activator → ℕ = λ after.
      sum_by (λ j. cond (list_any (is_task j) after) (ended_count ((run s tr t).jobs j)) 0) (task_places s) + sum_by (λ k. cond (list_any (is_source k) after) (events_before (times_of tr k) (t + 1)) 0) (source_places s) in
      let first : length ((run s tr t).jobs p.0) ≡ count (task_at s p.0).after = jobs-counted s tr t p.0 in
      let second : length ((run s tr t).jobs c.0) ≡ count (task_at s c.0).after = jobs-counted s tr t c.0 in
      first ∙ (ap count same ∙ sym second)

  arrived-as : (u : ℕ) → (course_of s tr p.0).arrived u ≡ (course_of s tr c.0).arrived u
  arrived-as zero = arrived-zero s tr p.0 ∙ sym (arrived-zero s tr c.0)
  arrived-as (suc u) =
      let e : u + 1 ≡ suc u = omega arith in
      subst (λ v. (course_of s tr p.0).arrived v ≡ (course_of s tr c.0).arrived v) e (arrived-one s tr u p.0 ∙ (as-many u ∙ sym (arrived-one s tr u c.0)))

  module _ (t : ℕ) where
    -- job k of one is there where that of the other is, since the same time
    pub is-twin : (k : ℕ) → HasJob s tr t p.0 k → HasJob s tr t c.0 k
    is-twin k has = omega (arith, has, as-many t)

    pub has-twin : (k : ℕ) → HasJob s tr t c.0 k → HasJob s tr t p.0 k
    has-twin k has = omega (arith, has, as-many t)

    pub arrive-together : (k : ℕ) → HasJob s tr t p.0 k → arrival_of s tr t p.0 k ≡ arrival_of s tr t c.0 k
    arrive-together k has =
        let d = course_of s tr c.0 in
        let a : ℕ = arrival_of s tr t p.0 k in
        let b : ℕ = arrival_of s tr t c.0 k in
        let first = arrival-is s tr t p.0 k has in
        let second = arrival-is s tr t c.0 k (is-twin k has) in
        let here : Arrives d k a = (omega (arith, first.0.0, arrived-as a), omega (arith, first.0.1, arrived-as (a + 1))) in
        let o = in_order s tr rules obeys t c.0 hc in
        let one = arrives-order d (task_at s c.0).best (task_at s c.0).worst o k k a b here second.0 (omega arith) in
        let two = arrives-order d (task_at s c.0).best (task_at s c.0).worst o k k b a second.0 here (omega arith) in
        omega (arith, one, two)

    module _ (reads : Reads) (within : ReadWithin s tr t reads) (running : ReadsRunning s tr t reads c.0) where
      -- whenever one reads the other has ended
      pub twin-ended : (k : ℕ) → HasJob s tr t c.0 k → k < (course_of s tr p.0).ended (reads c.0 k)
      twin-ended k has =
          let own = has-twin k has in
          ended-then s tr rules obeys p c hp hc above t k (reads c.0 k) own (running k has) (omega (arith, within.arrived c.0 k has, arrive-together k own))

      pub knows-together : (k n : ℕ) → IsFirstToKnow s tr t reads p k c n → arrival_of s tr t c.0 n ≤ arrival_of s tr t p.0 k
      knows-together k n knows =
          elim knows [
            | inl started ↦ absurd (above.apart (starter-there s tr rules obeys t p c k n hc started).0)
            | inr reader ↦
                let there = is-twin k reader.has.0 in
                let not_after : n ≤ k =
                elim (cases_lt k n) [
                  | inl less ↦ absurd (omega (arith, reader.first.first k less, ended-late s tr rules obeys t p.0 k reader.written (reads c.0 k) hp reader.has (twin-ended k there)))
                  | inr more ↦ more
                ] in
                omega (arith, arrivals-order s tr rules obeys t c.0 n k hc there not_after, arrive-together k reader.has.0)
          ]

      pub not-before : (k n : ℕ) → HasDataOf s tr t reads p k c n → HasJob s tr t c.0 n × HasJob s tr t p.0 k × (n ≤ k)
      not-before k n data_of =
          elim data_of [
            | inl started ↦ absurd (above.apart (starter-there s tr rules obeys t p c k n hc started).0)
            | inr reader ↦
                let u : ℕ = reads c.0 n in
                let seen : u ≤ t = omega (arith, within.ended c.0 n reader.ended reader.is, end-by s tr rules obeys t c.0 n reader.ended hc reader.is) in
                let there = has-twin n reader.there in
                let own = end-order s tr rules obeys t p.0 n u hp there seen (twin-ended n reader.there) in
                let le : n ≤ k =
                elim (cases_lt k n) [
                  | inl less ↦ absurd (omega (arith, reader.last.last n own.0 less own.1, own.2))
                  | inr more ↦ more
                ] in
                (reader.there, reader.last.has.0, le)
          ]

      pub has-together : (k n : ℕ) → HasDataOf s tr t reads p k c n → arrival_of s tr t c.0 n ≤ arrival_of s tr t p.0 k
      has-together k n data_of =
          let it = not-before k n data_of in
          omega (arith, arrivals-order s tr rules obeys t p.0 n k hp it.1 it.2, arrive-together n (has-twin n it.0))

    module _ (source : (k : SourceId) × ((task_at s c.0).after ≡ Source k ∷ [])) where
      one-stream : (i : ℕ) → i < length s.tasks → (task_at s i).after ≡ Source source.0 ∷ [] → length (streams_of s i) ≡ 1
      one-stream i h is = ap length (streams_of-activators s rules i h ∙ ap (flat_map (λ a. streams_step a (streams_of s))) is)

      -- of a job that is amidst the twin is
      pub twin-amidst : (b : ℕ) → IsAmidst s tr t c.0 b → IsAmidst s tr t p.0 b
      twin-amidst b amidst q less =
          let goes = amidst 0 (omega (arith, one-stream c.0 hc source.1)) in
          let after : HasJob s tr t p.0 goes.after = has-twin goes.after goes.there in
          let before : HasJob s tr t p.0 goes.before = omega (arith, after, goes.is_before, goes.is_after) in
          let one = one-stream p.0 hp (same ∙ source.1) in
          record {
            before = goes.before;
            is_before = goes.is_before;
            before_own = omega (arith, (each_job_has_a_stream s tr rules obeys t p.0 goes.before hp before).0, one, less);
            after = goes.after;
            is_after = goes.is_after;
            there = after;
            after_own = omega (arith, (each_job_has_a_stream s tr rules obeys t p.0 goes.after hp after).0, one, less);
          }

      module _ (x : List Bound) (hold : HoldIn s x tr) (near : SourcesStayNear s tr) (reads : Reads) (within : ReadWithin s tr t reads) (running : ReadsRunning s tr t reads c.0)
          (k n origin : ℕ) (old renewed : Bound) (stands : Stands s tr rules obeys t x hold near p.0 k origin old renewed) (data_of : HasDataOf s tr t reads p k c n) where
        pub stands-together : Stands s tr rules obeys t x hold near c.0 n origin old (bound_plus renewed (Within 0))
        stands-together =
            let it = not-before reads within running k n data_of in
            record {
              there = it.0;
              old_by = λ a is. omega (arith, has-together reads within running k n data_of, stands.old_by a is);
              renewed_by = λ r b is le amidst.
                  let both = add-up renewed (Within 0) r is in
                  let none = within-injective 0 both.right both.right_is in
                  let twin = twin-amidst b amidst in
                  let next = arrive-together (b + 1) (next-there s tr rules obeys t p.0 b hp twin) in
                  omega (arith, stands.renewed_by both.left b both.left_is (omega (arith, le, it.2)) twin, next, both.sum, none);
              order = λ r is.
                  let both = add-up renewed (Within 0) r is in
                  let o = stands.order both.left both.left_is in
                  (o.0, o.1, omega (arith, o.2, both.sum));
            }

-- ---- steps of a chain, however its jobs read

module _ (s : SystemLists) (x : List Bound) (tr : TraceLists) (rules : IsSystem s) (obeys : Obeys s tr) (hold : HoldIn s x tr) (near : SourcesStayNear s tr) (tasks : List TaskId)
    (reading : Reading) (t : ℕ) (reads : Reads) (by : ReadsBy reading s tr t reads tasks) (m : ℕ) (inside : m + 1 < length tasks)
    (hp : (task_in tasks m).0 < length s.tasks) (hc : (task_in tasks (m + 1)).0 < length s.tasks) (k n : ℕ) where
  pub goes-soon : (cost : ℕ) → forward reading s x tasks m ≡ Within cost → IsFirstToKnow s tr t reads (task_in tasks m) k (task_in tasks (m + 1)) n
      → arrival_of s tr t (task_in tasks (m + 1)).0 n ≤ arrival_of s tr t (task_in tasks m).0 k + cost
  goes-soon cost is knows =
      let within = within-of reading s tr t reads tasks by in
      elim (way-of reading s x tasks m) [
        | inl plain ↦ knows-soon s tr rules obeys t x hold near reads (task_in tasks m) (task_in tasks (m + 1)) k n cost hp hc within (sym plain.forward_is ∙ is) knows
        | inr from_above ↦
            elim from_above [
              | inl way ↦
                  let above = above-is s (task_in tasks m).0 (task_in tasks (m + 1)).0 way.above in
                  let running = runs-of reading s tr t reads tasks by way.runs (m + 1) inside in
                  knows-above s tr rules obeys (task_in tasks m) (task_in tasks (m + 1)) hp hc above t x hold near reads within running k n cost (sym way.forward_is ∙ is) knows
              | inr way ↦
                  let above = above-is s (task_in tasks m).0 (task_in tasks (m + 1)).0 way.above in
                  let running = runs-of reading s tr t reads tasks by way.runs (m + 1) inside in
                  omega (arith, knows-together s tr rules obeys (task_in tasks m) (task_in tasks (m + 1)) hp hc above way.same t reads within running k n knows)
            ]
      ]

  -- how a job stands leads on to how the next does
  module _ (origin : ℕ) (stands : Stands s tr rules obeys t x hold near (task_in tasks m).0 k origin (arrives_after reading s x tasks m) (renewed_after reading s x tasks m))
      (data_of : HasDataOf s tr t reads (task_in tasks m) k (task_in tasks (m + 1)) n) where
    abbrev Next : Bound → Bound → Type 0
    Next old renewed = Stands s tr rules obeys t x hold near (task_in tasks (m + 1)).0 n origin old renewed

    by_way : (g : Passage) → passage_in reading s tasks m ≡ g
        → Next (backward_cost g (bound_of x (task_in tasks m).0) (arrives_after reading s x tasks m) (renewed_after reading s x tasks m)) (bound_plus (renewed_after reading s x tasks m) (forward_cost g (bound_of x (task_in tasks m).0) (wait_of s x (task_in tasks (m + 1)).0)))
        → Next (arrives_after reading s x tasks (m + 1)) (renewed_after reading s x tasks (m + 1))
    by_way g is next =
        let response : Bound = bound_of x (task_in tasks m).0 in
        let wait : Bound = wait_of s x (task_in tasks (m + 1)).0 in
        let old : Bound = arrives_after reading s x tasks m in
        let renewed : Bound = renewed_after reading s x tasks m in
        let one : backward_cost g response old renewed ≡ arrives_after reading s x tasks (m + 1) = ap (λ h. backward_cost h response old renewed) (sym is) ∙ sym (arrives-next reading s x tasks m) in
        let two : bound_plus renewed (forward_cost g response wait) ≡ renewed_after reading s x tasks (m + 1) = ap (λ h. bound_plus renewed (forward_cost h response wait)) (sym is) ∙ sym (renewed-next reading s x tasks m) in
        subst (λ a. Next a (renewed_after reading s x tasks (m + 1))) one (subst (λ r. Next (backward_cost g response old renewed) r) two next)

    pub stands-next : Next (arrives_after reading s x tasks (m + 1)) (renewed_after reading s x tasks (m + 1))
    stands-next =
        let within = within-of reading s tr t reads tasks by in
        let p : TaskId = task_in tasks m in
        let c : TaskId = task_in tasks (m + 1) in
        let old : Bound = arrives_after reading s x tasks m in
        let renewed : Bound = renewed_after reading s x tasks m in
        elim (way-of reading s x tasks m) [
          | inl plain ↦ by_way (By (step_between s p.0 c.0)) plain.passage_is (has-plain s tr rules obeys t x hold near reads p c k n hp hc within data_of origin old renewed stands)
          | inr from_above ↦
              elim from_above [
                | inl way ↦
                    let above = above-is s p.0 c.0 way.above in
                    let running = runs-of reading s tr t reads tasks by way.runs (m + 1) inside in
                    by_way FromAbove way.passage_is (stands-above s tr rules obeys p c hp hc above t x hold near reads within running k n origin old renewed stands data_of)
                | inr way ↦
                    let above = above-is s p.0 c.0 way.above in
                    let running = runs-of reading s tr t reads tasks by way.runs (m + 1) inside in
                    by_way OfOneSource way.passage_is (stands-together s tr rules obeys p c hp hc above way.same t way.source x hold near reads within running k n origin old renewed stands data_of)
              ]
        ]
