-- Closed vectors bound every run.
use Rattle.std.proofs.Common.{◌≡◌, ℕ, zero, suc, ◌+◌, [], ◌∷◌, ◌<◌, ◌≤◌, length, List, Bool, true, false, Option, Some, None, refl, sym, ◌∙◌, inl, inr, ◌⊎◌, arith, ap, add-one, get_or}
use Rattle.std.proofs.lemmas.Bool.{cases_lt, cases_order, cases_Bool, ltb-true, ltb-false, false≢true}
use Rattle.cpa_units.specs.declared.bound.Bound.{Bound}
use Rattle.cpa_model.specs.declared.entries.Kind.{Kind}
use Rattle.cpa_model.specs.declared.entries.Kind.TheVariants.{Preemptive, RoundRobin, Tdma, Can, Fifo, Ceiling}
use Rattle.cpa_model.specs.SystemLists.{SystemLists, task_at, resource_of, streams_of, stream_at}
use Rattle.cpa_local.specs.Solution.{IsClosed}
use Rattle.cpa_sound.proofs.Serving.{work, EndsAfter}
use Rattle.cpa_trace.specs.Trace.{TraceLists, need, Obeys}
use Rattle.cpa_model.specs.Rules.{IsSystem}
use Rattle.cpa_sound.proofs.RuleLaws.{bit-some}
use Rattle.cpa_sim.specs.Run.{no_job, Progress, is_unset, is_open, ended_count, runs_in, served, run}
use Rattle.cpa_sound.specs.RunCourse.{received_before, course_of}
use Rattle.cpa_sound.proofs.KeepsLaws.{RunsByKind, KeepsSteps}
use Rattle.cpa_sound.proofs.CoursesHold.{SourcesAreNear, IsChain, Passes, CoursesHold}
use Rattle.cpa_sound.proofs.PathLaws.{places_of, chain_from, sum-places}
use Rattle.cpa_model.specs.Rules.{IsLinked}
use Rattle.cpa_units.specs.declared.bound.Bound.TheVariants.{Within}
use Rattle.cpa_units.specs.declared.places.TaskId.{TaskId}
use Rattle.cpa_units.specs.Bounds.{bound_of, sum_bounds}
use Rattle.std.specs.Prelude.{All, drop}
use Rattle.cpa_sound.specs.BoundsHold.{job_at, HasJob, causes_at, stream_of, origin_of, jobs_of_stream, HasArrival, stream_arrival, IsDoneBy, HasPassedBy, SourcesStayNear, HoldIn}
use Rattle.cpa_sound.proofs.CourseLaws.{arrived-mono, ended-mono, complete, paid}
use Rattle.cpa_sound.proofs.Parts.{of_stream, ArePart, count_from}
use Rattle.cpa_sound.proofs.PartLaws.{jobs_in-here, job-order, Member, listed}
use Rattle.cpa_sound.proofs.RunLaws.{served-runs, served-idle, arrived-one}
use Rattle.cpa_sound.proofs.CauseRuns.{source-near, keeps-causes}
use Rattle.cpa_sound.proofs.KindRuns.{order, open-by, preemptive-runs, can-runs, ring-runs}
use Rattle.cpa_sound.proofs.SlotRuns.{slots-run}
use Rattle.cpa_sound.proofs.QueueRuns.{queue-runs}
use Rattle.cpa_sound.proofs.CeilingRuns.{ceiling-runs}
use Rattle.cpa_sound.proofs.FieldLaws.{serve-end, old-job, end-zero, end-new, arrival-is}
use Rattle.cpa_sound.specs.Laws.{LocalBounds, ClosedVectorsBoundEveryRun, LeastSolutionsBoundEveryRun, EachJobHasAStream, ACauseStartsOneJob}
use Rattle.cpa_sound.proofs.LocalBounds.{local_bound}
use Rattle.cpa_units.specs.declared.limits.TheConstants.{MAX_CHAIN}
use Rattle.cpa_sound.proofs.KeepsCauses.{KeepsCauses}
use Rattle.cpa_sound.proofs.CauseStreams.{belongs, stream-origin, one-job}
use Rattle.cpa_sound.proofs.CausalLaws.{as_before, chain_in_range, courses_hold_by}
use Rattle.cpa_sound.proofs.ClockRuns.{clock_lead, came_before, sourced_on_time}
use Rattle.cpa_sound.proofs.TimedCausal.{Timed, timed_first, timed_next, inputs_known}
use Rattle.cpa_sound.specs.JobStreams.{stream_within}
use Rattle.cpa_sched.proofs.OptionLaws.{some-injective}

-- ---- the laws of a run hold in every run

module _ (s : SystemLists) (tr : TraceLists) (rules : IsSystem s) (obeys : Obeys s tr) where
  runs-by_kind : (i : ℕ) → i < length s.tasks → (k : Kind) → (resource_of s i).kind ≡ k → RunsByKind s (course_of s tr) i k
  runs-by_kind i h Preemptive kind = preemptive-runs s tr rules obeys i h kind
  runs-by_kind i h RoundRobin kind = ring-runs s tr rules obeys i h kind
  runs-by_kind i h (Tdma gap) kind = slots-run s tr rules obeys i gap h kind
  runs-by_kind i h (Can bit) kind = (can-runs s tr rules obeys i bit h kind, bit-some s rules i bit h kind)
  runs-by_kind i h Fifo kind = queue-runs s tr rules obeys i h kind
  runs-by_kind i h Ceiling kind = ceiling-runs s tr rules obeys i h kind

  pub steps : KeepsSteps s (course_of s tr)
  steps = record { order = order s tr rules obeys; runs = λ i h. runs-by_kind i h (resource_of s i).kind refl }

  -- ---- ends

  pub closed_of : (o : Option ℕ) (e : ℕ) → o ≡ Some e → is_unset o ≡ false
  closed_of o e h = rw h refl

  end_of_closed : (o : Option ℕ) → is_unset o ≡ false → (e : ℕ) × (o ≡ Some e)
  end_of_closed None h = absurd (false≢true (sym h))
  end_of_closed (Some e) h = (e, refl)

  pub closed-ended : (i : ℕ) → i < length s.tasks → (t k : ℕ) → HasJob s tr t i k → is_open (job_at s tr t i k) ≡ false → k < ended_count ((run s tr t).jobs i)
  closed-ended i h t k has closed =
      complete (course_of s tr i) (task_at s i).best (task_at s i).worst (order s tr rules obeys i h) k t
      (ltb-false (received_before s tr i t) (work (need s tr i) (k + 1)) (sym (open-by s tr rules obeys i h t k has) ∙ closed))

  open-unended : (i : ℕ) → i < length s.tasks → (t k : ℕ) → HasJob s tr t i k → is_open (job_at s tr t i k) ≡ true → ended_count ((run s tr t).jobs i) ≤ k
  open-unended i h t k has still =
      elim (cases_lt k (ended_count ((run s tr t).jobs i))) [
        | inr no_more ↦ no_more
        | inl done ↦
            let lacking = ltb-true (received_before s tr i t) (work (need s tr i) (k + 1)) (sym (open-by s tr rules obeys i h t k has) ∙ still) in
            absurd (omega (arith, lacking, paid (course_of s tr i) (task_at s i).best (task_at s i).worst (order s tr rules obeys i h) k t done))
      ]

  ended-closed : (i : ℕ) → i < length s.tasks → (t k : ℕ) → HasJob s tr t i k → k < ended_count ((run s tr t).jobs i) → is_open (job_at s tr t i k) ≡ false
  ended-closed i h t k has done =
      elim (cases_Bool (is_open (job_at s tr t i k))) [ inl still ↦ absurd (omega (arith, open-unended i h t k has still)) | inr closed ↦ closed ]

  served-end : (t i k : ℕ) → ((get_or (served s tr t (run s tr t) i) k no_job).end ≡ (job_at s tr t i k).end) ⊎ ((is_open (job_at s tr t i k) ≡ true) × ((get_or (served s tr t (run s tr t) i) k no_job).end ≡ Some (t + 1)))
  served-end t i k =
      elim (cases_Bool (runs_in s tr t (run s tr t) i)) [
        | inl e ↦ rw (served-runs s tr t i e) (serve-end (t + 1) ((run s tr t).jobs i) k)
        | inr e ↦ inl (ap (λ js. (get_or js k no_job).end) (served-idle s tr t i e))
      ]

  -- a job's end is the time at which it became complete
  pub end-is : (t i k e : ℕ) → i < length s.tasks → HasJob s tr t i k → (job_at s tr t i k).end ≡ Some e → (u : ℕ) × (e ≡ u + 1) × EndsAfter (course_of s tr i) k u
  end-is zero i k e h has is =
      let none = end-zero s tr i k in
      cc
  end-is (suc t) i k e h has is =
      elim (cases_lt k (length ((run s tr t).jobs i))) [
        | inr new ↦
            let none = end-new s tr t i k new in
            cc
        | inl before ↦
            let same = ap (λ (job : Progress). job.end) (old-job s tr t i k before) in
            elim (served-end t i k) [
              | inl old ↦ end-is t i k e h before (sym old ∙ (sym same ∙ is))
              | inr now ↦ (
                t,
                some-injective e (t + 1) (sym is ∙ (same ∙ now.1)),
                (
                  open-unended i h t k before now.0,
                  rw add-one (closed-ended i h (suc t) k has (closed_of (job_at s tr (suc t) i k).end e is)),
                ),
              )
            ]
      ]

  -- what is complete at a time is complete by it
  pub complete-by : (i k time t : ℕ) → i < length s.tasks → HasJob s tr t i k → time ≤ t → k < ended_count ((run s tr time).jobs i) → IsDoneBy s tr t i k time
  complete-by i k time t h has le done =
      let o = order s tr rules obeys i h in
      let later = ended-mono (course_of s tr i) (task_at s i).best (task_at s i).worst o time t le in
      let some = end_of_closed (job_at s tr t i k).end (ended-closed i h t k has (omega arith)) in
      let when = end-is t i k some.0 h has some.1 in
      record {
        there = has;
        ended = some.0;
        is = some.1;
        by =
            elim (cases_lt when.0 time) [
              | inl sooner ↦ omega (arith, when.1)
              | inr not_sooner ↦ absurd (omega (arith, when.2.0, ended-mono (course_of s tr i) (task_at s i).best (task_at s i).worst o time when.0 not_sooner))
            ];
      }

  -- two arrivals of a stream are two jobs of it, between which come as many of it as between the arrivals
  module _ (t i q n gap : ℕ) (has : HasArrival s tr t i q (n + gap)) where
    abbrev own : ℕ → Bool
    own = of_stream (stream_of s tr t i) q

    abbrev arrived_job : ℕ → ℕ
    arrived_job n = get_or (jobs_of_stream s tr t i q) n 0

    first : Member own (length ((run s tr t).jobs i)) n (arrived_job n)
    first = listed own (length ((run s tr t).jobs i)) n 0 (omega (arith, has))

    second : Member own (length ((run s tr t).jobs i)) (n + gap) (arrived_job (n + gap))
    second = listed own (length ((run s tr t).jobs i)) (n + gap) 0 has

    arrivals-are : ArePart (course_of s tr i) own (arrived_job n) (arrived_job (n + gap)) (stream_arrival s tr t i q n) (stream_arrival s tr t i q (n + gap))
    arrivals-are =
        record {
          first = first.own;
          last = second.own;
          order = job-order own (arrived_job n) (arrived_job (n + gap)) first.own second.own (omega (arith, first.number, second.number));
          comes = (arrival-is s tr t i (arrived_job n) first.there).0;
          follows = (arrival-is s tr t i (arrived_job (n + gap)) second.there).0;
        }

    arrival-by : stream_arrival s tr t i q (n + gap) < t + 1
    arrival-by = omega (arith, (arrival-is s tr t i (arrived_job (n + gap)) second.there).1)

    count-is : count_from own (arrived_job n) (arrived_job (n + gap)) ≡ gap + 1
    count-is = omega (arith, first.number, second.number, jobs_in-here own (arrived_job (n + gap)) second.own)

  module _ (x : List Bound) (closed : IsClosed s x) where
    hold : (t : ℕ) → CoursesHold s x (course_of s tr) (causes_at s tr t) t
    hold t =
        let causes = causes_at s tr t in
        let kept = keeps-causes s tr obeys rules t steps.order in
        let lead = clock_lead s tr obeys rules in
        let first = came_before s tr obeys rules in
        let sourced = sourced_on_time s tr obeys rules steps.order t in
        courses_hold_by s x (course_of s tr) causes t steps kept rules (Timed s x (course_of s tr) causes t steps kept rules lead first sourced)
        (timed_first s x (course_of s tr) causes t steps kept rules lead first sourced) (timed_next s x (course_of s tr) causes t steps kept rules lead first sourced)
        (λ i k a r h number arrival le known also.
        local_bound s x (course_of s tr) (stream_within s causes MAX_CHAIN) lead steps rules closed i h k a r number arrival (as_before s x (course_of s tr) causes t steps kept rules (a + r) (omega arith) known)
        (inputs_known s x (course_of s tr) causes t steps kept rules lead first sourced (a + r) (omega arith) known also))

    sources-near : (t : ℕ) → SourcesStayNear s tr → SourcesAreNear s (course_of s tr) (causes_at s tr t) t
    sources-near t near i k h starts steady = source-near s tr obeys rules t i k h starts (steps.order i h) steady near

    -- ---- passages

    passage-holds : (t due : ℕ) → due ≤ t → (i : TaskId) (further : List TaskId) (k : ℕ) → IsChain s i.0 (places_of further) → HasJob s tr t i.0 k → Passes (course_of s tr) (causes_at s tr t) i.0 k (places_of further) due → HasPassedBy s tr t i k further due
    passage-holds t due le i [] k chain has done = complete-by i.0 k due t chain has le done
    passage-holds t due le i (j ∷ further) k chain has passes =
        let hj = chain_in_range s j.0 (places_of further) chain.2 in
        let soon = arrived-mono (course_of s tr j.0) (task_at s j.0).best (task_at s j.0).worst (steps.order j.0 hj) (due + 1) (t + 1) (omega arith) in
        let there : HasJob s tr t j.0 passes.0 = omega (arith, passes.1, soon, arrived-one s tr t j.0) in
        (passes.0, (there, passes.2), passage-holds t due le j further passes.0 chain.2 there passes.3)

    path-holds : (ts : List TaskId) → 0 < length ts → All (λ (i : TaskId). i.0 < length s.tasks) ts → IsLinked s ts → (r k t : ℕ) → sum_bounds (λ (i : TaskId). bound_of x i.0) ts ≡ Within r → HasJob s tr t (get_or ts 0 (record { 0 = 0 })).0 k → (job_at s tr t (get_or ts 0 (record { 0 = 0 })).0 k).arrival + r ≤ t → HasPassedBy s tr t (get_or ts 0 (record { 0 = 0 })) k (drop 1 ts) ((job_at s tr t (get_or ts 0 (record { 0 = 0 })).0 k).arrival + r)
    path-holds [] some there linked r k t sum has le = absurd (omega arith)
    path-holds (i ∷ further) some there linked r k t sum has le =
        let a : ℕ = (job_at s tr t i.0 k).arrival in
        let chain = chain_from s i further there linked in
        let arrival = (arrival-is s tr t i.0 k has).0 in
        passage-holds t (a + r) le i further k chain has ((hold t).paths i.0 (places_of further) r chain (sum-places x (i ∷ further) ∙ sum) k a (a + r) arrival (omega arith) le)

    pub hold-in : HoldIn s x tr
    hold-in =
        record {
          in_time = λ i r k t h number has le.
              let arrival = (arrival-is s tr t i k has).0 in
              complete-by i k ((job_at s tr t i k).arrival + r) t h has le ((hold t).in_time i r h number k (job_at s tr t i k).arrival arrival le);
          not_before = λ i k t e h has is.
              let arrival = (arrival-is s tr t i k has).0 in
              let when = end-is t i k e h has is in
              let late = (hold t).not_before i h k (job_at s tr t i k).arrival (when.0 + 1) arrival when.2.1 in
              omega (arith, late, when.1);
          paths = λ p r k t path sum has le. path-holds p.tasks path.some path.there path.linked r k t sum has le;
          apart = λ i k gap t m h e has.
              let first = arrival-is s tr t i k (omega arith) in
              let second = arrival-is s tr t i (k + gap) has in
              let far = rw e at ((hold t).apart i h) in
              far k gap (job_at s tr t i k).arrival (job_at s tr t i (k + gap)).arrival first.0 second.0 (omega (arith, second.1));
          streams_apart = λ i q n gap t m st h e is has.
              let z : 0 + q ≡ q = omega arith in
              let streams = rw e at ((hold t).streams i h) in
              let far = rw z at (streams q st is) in
              rw (count-is t i q n gap has) at (far _ _ _ _ (arrivals-are t i q n gap has) (arrival-by t i q n gap has));
          streams_near = λ near i q n gap t m st h steady e is has.
              let z : 0 + q ≡ q = omega arith in
              let streams = rw e at ((hold t).near (sources-near t near) i h steady) in
              let close = rw z at (streams q st is) in
              rw (count-is t i q n gap has) at (close _ _ _ _ (arrivals-are t i q n gap has) (arrival-by t i q n gap has));
        }

-- so each job keeps its bound, where all before did
pub local_bounds : LocalBounds
local_bounds s x tr rules closed obeys t kept apart i r k a h number arrival now =
    let done = (hold s tr rules obeys x closed t).in_time i r h number k a arrival (omega (arith, now)) in
    rw now at done

-- closed vectors bound every run
pub closed_vectors_bound_every_run : ClosedVectorsBoundEveryRun
closed_vectors_bound_every_run s x rules closed tr obeys = hold-in s tr rules obeys x closed

pub least_solutions_bound_every_run : LeastSolutionsBoundEveryRun
least_solutions_bound_every_run s x rules least = closed_vectors_bound_every_run s x rules least.closed

-- ---- what causes lead to

module _ (s : SystemLists) (tr : TraceLists) (rules : IsSystem s) (obeys : Obeys s tr) (t : ℕ) where
  pub causes-kept : KeepsCauses s (course_of s tr) (causes_at s tr t) t
  causes-kept = keeps-causes s tr obeys rules t (order s tr rules obeys)

  pub has-arrived : (i k : ℕ) → HasJob s tr t i k → k < (course_of s tr i).arrived (t + 1)
  has-arrived i k has = omega (arith, has, arrived-one s tr t i)

  own-stream : (i k : ℕ) → i < length s.tasks → HasJob s tr t i k → (stream_of s tr t i k < length (streams_of s i)) × (stream_at s i (stream_of s tr t i k) ≡ origin_of s tr t i k)
  own-stream i k h has = (
    belongs s rules (course_of s tr) (order s tr rules obeys) (causes_at s tr t) t causes-kept MAX_CHAIN i k h (rules.chains i h) (has-arrived i k has),
    stream-origin s rules (course_of s tr) (order s tr rules obeys) (causes_at s tr t) t causes-kept MAX_CHAIN i k h (rules.chains i h) (has-arrived i k has),
  )

  not-twice : (i k l : ℕ) → i < length s.tasks → HasJob s tr t i k → HasJob s tr t i l → causes_at s tr t i k ≡ causes_at s tr t i l → k < l → ⊥
  not-twice i k l h has has' same = one-job s rules (course_of s tr) (order s tr rules obeys) (causes_at s tr t) t causes-kept i k l h (has-arrived i k has) (has-arrived i l has') same

pub each_job_has_a_stream : EachJobHasAStream
each_job_has_a_stream s tr rules obeys t i k h has = own-stream s tr rules obeys t i k h has

pub a_cause_starts_one_job : ACauseStartsOneJob
a_cause_starts_one_job s tr rules obeys t i k l h has has' same =
    elim (cases_order k l) [
      | inl e ↦ e
      | inr o ↦ elim o [
        | inl less ↦ absurd (not-twice s tr rules obeys t i k l h has has' same less)
        | inr more ↦ absurd (not-twice s tr rules obeys t i l k h has' has (sym same) more)
      ]
    ]
