-- When the jobs of a run arrive, end and start others, as it is seen at a time.
use Rattle.std.proofs.Common.{◌≡◌, ℕ, zero, suc, ◌+◌, ◌-◌, ◌<◌, ◌≤◌, ◌++◌, Bool, true, false, cond, length, List, [], ◌∷◌, Option, Some, None, refl, sym, ◌∙◌, ap, subst, inl, inr, arith, get_or, length-append}
use Rattle.std.specs.Prelude.{filter, slice_get}
use Rattle.std.specs.List.{range_with_len}
use Rattle.std.proofs.lemmas.Bool.{cases_lt, cases_Bool, eq-eqb, ltb-true, false≢true}
use Rattle.std.proofs.lemmas.List.Elements.{filter-append}
use Rattle.cpa_units.proofs.PlaceLaws.{places-more}
use Rattle.cpa_units.specs.declared.bound.Bound.{Bound}
use Rattle.cpa_units.specs.declared.bound.Bound.TheVariants.{Within}
use Rattle.cpa_units.specs.declared.places.TaskId.{TaskId}
use Rattle.cpa_units.specs.Bounds.{bound_of}
use Rattle.cpa_events.specs.declared.stream.Stream.{Stream}
use Rattle.cpa_events.specs.Streams.{stream_delta_plus}
use Rattle.cpa_events.specs.Events.{Model}
use Rattle.cpa_model.specs.declared.entries.Activator.TheVariants.{Task}
use Rattle.cpa_model.specs.Rules.{IsSystem}
use Rattle.cpa_model.specs.SystemLists.{SystemLists, task_at, is_activated_by, may_fall_silent}
use Rattle.cpa_local.specs.Inputs.{input}
use Rattle.cpa_trace.specs.Trace.{TraceLists, need, Obeys}
use Rattle.cpa_sched.proofs.OptionLaws.{some-injective}
use Rattle.cpa_sim.specs.declared.jobs.Cause.{Cause}
use Rattle.cpa_sim.specs.Run.{is_unset, is_open, ended_count, run}
use Rattle.cpa_sound.specs.RunCourse.{received_before, course_of}
use Rattle.cpa_sound.specs.BoundsHold.{job_at, HasJob, arrival_of, causes_at, stream_of, jobs_of_stream, HasArrival, IsStartedBy, SourcesStayNear, HoldIn}
use Rattle.cpa_sound.proofs.Serving.{work, IsInOrder, EndsAfter}
use Rattle.cpa_sound.proofs.Parts.{jobs_in, of_stream, IsFed}
use Rattle.cpa_sound.proofs.PartLaws.{jobs_in-zero, jobs_in-here, jobs_in-other, jobs_in-mono, jobs_in-all, job_of, from_end, listed}
use Rattle.cpa_sound.proofs.CourseLaws.{ended-mono, ended-le-arrived, arrives-order, paid}
use Rattle.cpa_sound.proofs.CauseRuns.{keeps-causes}
use Rattle.cpa_sound.proofs.CauseStreams.{same-is, is-same, activator-there}
use Rattle.cpa_sound.proofs.KeepsCauses.{Starts, started_by, KeepsCauses}
use Rattle.cpa_sound.proofs.KindRuns.{order, open-by}
use Rattle.cpa_sound.proofs.RunLaws.{arrived-one}
use Rattle.cpa_sound.proofs.FieldLaws.{arrival-is}
use Rattle.cpa_sound.proofs.Soundness.{closed_of, closed-ended, end-is}
use Rattle.cpa_effects.specs.Effects.{HasEnded, GoesOn}

-- ---- the jobs of a part, in their list

listed-suc : (part : ℕ → Bool) (len : ℕ) → filter part (range_with_len 0 (len + 1)) ≡ filter part (range_with_len 0 len) ++ cond (part len) (len ∷ []) []
listed-suc part len = ap (filter part) (places-more len) ∙ filter-append part (range_with_len 0 len) (len ∷ [])

count-more : (part : ℕ → Bool) (len : ℕ) → length (filter part (range_with_len 0 len)) ≡ jobs_in part len → length (filter part (range_with_len 0 (len + 1))) ≡ jobs_in part (len + 1)
count-more part len before =
    rw (listed-suc part len)
    (elim (cases_Bool (part len)) [
      | inl own ↦ rw own (omega (arith, length-append (filter part (range_with_len 0 len)) (len ∷ []), before, jobs_in-here part len own))
      | inr not_own ↦ rw not_own (omega (arith, length-append (filter part (range_with_len 0 len)) [], before, jobs_in-other part len not_own))
    ])

listed-count : (part : ℕ → Bool) (len : ℕ) → length (filter part (range_with_len 0 len)) ≡ jobs_in part len
listed-count part zero = sym (jobs_in-zero part)
listed-count part (suc len) = let e : len + 1 ≡ suc len = omega arith in subst (λ m. length (filter part (range_with_len 0 m)) ≡ jobs_in part m) e (count-more part len (listed-count part len))

module _ (s : SystemLists) (tr : TraceLists) (rules : IsSystem s) (obeys : Obeys s tr) (t : ℕ) where
  pub in_order : (i : ℕ) → i < length s.tasks → IsInOrder (course_of s tr i) (task_at s i).best (task_at s i).worst
  in_order = order s tr rules obeys

  -- ---- ends and arrivals

  -- a job that has ended was complete by then
  pub counted-end : (i k ended : ℕ) → i < length s.tasks → HasEnded s tr t i k ended → k < ended_count ((run s tr t).jobs i)
  counted-end i k ended h has = closed-ended s tr rules obeys i h t k has.0 (closed_of s tr rules obeys (job_at s tr t i k).end ended has.1)

  -- a job that is complete has an end
  end-of : (o : Option ℕ) → is_unset o ≡ false → (ended : ℕ) × (o ≡ Some ended)
  end-of None h = absurd (false≢true (sym h))
  end-of (Some ended) h = (ended, refl)

  has-end : (i k : ℕ) → k < ended_count ((run s tr t).jobs i) → i < length s.tasks → HasJob s tr t i k → (ended : ℕ) × ((job_at s tr t i k).end ≡ Some ended)
  has-end i k done h has =
      elim (cases_Bool (is_open (job_at s tr t i k))) [
        | inr closed ↦ end-of (job_at s tr t i k).end closed
        | inl still ↦
            let lacking = ltb-true (received_before s tr i t) (work (need s tr i) (k + 1)) (sym (open-by s tr rules obeys i h t k has) ∙ still) in
            absurd (omega (arith, lacking, paid (course_of s tr i) (task_at s i).best (task_at s i).worst (in_order i h) k t done))
      ]

  -- no end is seen that is yet to come
  pub end-by : (i k ended : ℕ) → i < length s.tasks → HasEnded s tr t i k ended → ended ≤ t
  end-by i k ended h has =
      let when = end-is s tr rules obeys t i k ended h has.0 has.1 in
      let done = counted-end i k ended h has in
      elim (cases_lt t ended) [
        | inl late ↦ absurd (omega (arith, when.2.0, done, ended-mono (course_of s tr i) (task_at s i).best (task_at s i).worst (in_order i h) t when.0 (omega (arith, late, when.1))))
        | inr early ↦ early
      ]

  -- a job before one that has ended has ended, no later
  pub ended-before : (i k l ended : ℕ) → i < length s.tasks → k < l → HasEnded s tr t i l ended → (sooner : ℕ) × HasEnded s tr t i k sooner × (sooner ≤ ended)
  ended-before i k l ended h less has =
      let c = course_of s tr i in
      let mono = ended-mono c (task_at s i).best (task_at s i).worst (in_order i h) in
      let done = counted-end i l ended h has in
      let there : HasJob s tr t i k = omega (arith, has.0, less) in
      let own = has-end i k (omega (arith, done, less)) h there in
      let when = end-is s tr rules obeys t i l ended h has.0 has.1 in
      let own_when = end-is s tr rules obeys t i k own.0 h there own.1 in
      let order : own_when.0 ≤ when.0 =
      elim (cases_lt when.0 own_when.0) [
        | inl late ↦ absurd (omega (arith, when.2.1, own_when.2.0, mono (when.0 + 1) own_when.0 (omega (arith, late)), less))
        | inr fine ↦ fine
      ] in
      (own.0, (there, own.1), omega (arith, when.1, own_when.1, order))

  -- of the jobs that ended by a time the last is known by their number
  pub record LastEnded (i k u : ℕ) : Type 0 where
    pub ended : ℕ
    pub has : HasEnded s tr t i k ended
    pub early : ended ≤ u
    pub last : (l later : ℕ) → k < l → HasEnded s tr t i l later → u < later

  -- who ended by a time is counted then
  pub counted-by : (i k ended u : ℕ) → i < length s.tasks → HasEnded s tr t i k ended → ended ≤ u → k < (course_of s tr i).ended u
  counted-by i k ended u h has le =
      let when = end-is s tr rules obeys t i k ended h has.0 has.1 in
      omega (arith, when.2.1, ended-mono (course_of s tr i) (task_at s i).best (task_at s i).worst (in_order i h) (when.0 + 1) u (omega (arith, when.1, le)))

  -- and who is counted ended by then
  pub ended-late : (i k ended u : ℕ) → i < length s.tasks → HasEnded s tr t i k ended → k < (course_of s tr i).ended u → ended ≤ u
  ended-late i k ended u h has done =
      let when = end-is s tr rules obeys t i k ended h has.0 has.1 in
      elim (cases_lt u ended) [
        | inr fine ↦ fine
        | inl late ↦ absurd (omega (arith, when.1, when.2.0, done, ended-mono (course_of s tr i) (task_at s i).best (task_at s i).worst (in_order i h) u when.0 (omega (arith, late, when.1))))
      ]

  pub end-order : (i k u : ℕ) → i < length s.tasks → HasJob s tr t i k → u ≤ t → k < (course_of s tr i).ended u → (ended : ℕ) × HasEnded s tr t i k ended × (ended ≤ u)
  end-order i k u h has le done =
      let own = has-end i k (omega (arith, done, ended-mono (course_of s tr i) (task_at s i).best (task_at s i).worst (in_order i h) u t le)) h has in
      (own.0, (has, own.1), ended-late i k own.0 u h (has, own.1) done)

  pub last-ended : (i u : ℕ) → i < length s.tasks → u ≤ t → 0 < (course_of s tr i).ended u → LastEnded i ((course_of s tr i).ended u - 1) u
  last-ended i u h le some =
      let c = course_of s tr i in
      let mono = ended-mono c (task_at s i).best (task_at s i).worst (in_order i h) in
      let k : ℕ = c.ended u - 1 in
      let done : k < ended_count ((run s tr t).jobs i) = omega (arith, some, mono u t le) in
      let there : HasJob s tr t i k =
      omega (arith, some, mono u (t + 1) (omega (arith, le)), ended-le-arrived c (task_at s i).best (task_at s i).worst (in_order i h) (t + 1), arrived-one s tr t i) in
      let own = has-end i k done h there in
      let when = end-is s tr rules obeys t i k own.0 h there own.1 in
      record {
        ended = own.0;
        has = (there, own.1);
        early =
            elim (cases_lt u own.0) [
              | inl late ↦ absurd (omega (arith, when.1, when.2.0, some, mono u when.0 (omega (arith, late, when.1))))
              | inr fine ↦ fine
            ];
        last = λ l later less has.
            elim (cases_lt u later) [
              | inl fine ↦ fine
              | inr early ↦ absurd (omega (arith, counted-by i l later u h has early, less, some))
            ];
      }

  -- arrivals come in the order of jobs
  pub arrivals-order : (i k l : ℕ) → i < length s.tasks → HasJob s tr t i l → k ≤ l → arrival_of s tr t i k ≤ arrival_of s tr t i l
  arrivals-order i k l h has le =
      let first = arrival-is s tr t i k (omega (arith, has, le)) in
      let second = arrival-is s tr t i l has in
      arrives-order (course_of s tr i) (task_at s i).best (task_at s i).worst (in_order i h) k l (arrival_of s tr t i k) (arrival_of s tr t i l) first.0 second.0 le

  -- ---- what starts jobs

  kept : KeepsCauses s (course_of s tr) (causes_at s tr t) t
  kept = keeps-causes s tr obeys rules t in_order

  come : (i k : ℕ) → HasJob s tr t i k → k < (course_of s tr i).arrived (t + 1)
  come i k has = omega (arith, has, arrived-one s tr t i)

  started-by : (p c : TaskId) (k n : ℕ) → IsStartedBy s tr t p k c n → (causes_at s tr t c.0 n).by ≡ Task p
  started-by p c k n is = ap (λ (cause : Cause). cause.by) is.1

  -- each job was started by one of its task's activators
  pub causes-activated : (i k : ℕ) → i < length s.tasks → HasJob s tr t i k → Starts s i (causes_at s tr t i k).by
  causes-activated i k h has = kept.activated i k h (come i k has)

  pub starter-there : (p c : TaskId) (k n : ℕ) → c.0 < length s.tasks → IsStartedBy s tr t p k c n → Starts s c.0 (Task p) × (p.0 < length s.tasks)
  starter-there p c k n h is =
      let starts : Starts s c.0 (Task p) = subst (Starts s c.0) (started-by p c k n is) (kept.activated c.0 n h (come c.0 n is.0)) in
      (starts, activator-there s rules c.0 (Task p) h starts)

  -- a job that another started arrives when that one ends
  pub started-at : (p c : TaskId) (k n : ℕ) → c.0 < length s.tasks → IsStartedBy s tr t p k c n → HasEnded s tr t p.0 k (arrival_of s tr t c.0 n)
  started-at p c k n h is =
      let known = starter-there p c k n h is in
      let a : ℕ = arrival_of s tr t c.0 n in
      let arrival = arrival-is s tr t c.0 n is.0 in
      let part : ℕ → Bool = started_by (causes_at s tr t) c.0 (Task p) in
      let all : ℕ → Bool = λ j. true in
      let every = jobs_in-all all (λ j. refl) in
      let own : part n ≡ true = is-same (Task p) (causes_at s tr t c.0 n).by (sym (started-by p c k n is)) in
      let fed : IsFed (course_of s tr c.0) (course_of s tr p.0) part all (t + 1) =
      λ u before. kept.fed c.0 p.0 u h known.0 (omega (arith, before)) ∙ sym (every ((course_of s tr p.0).ended u)) in
      let sent = from_end (course_of s tr c.0) (course_of s tr p.0) (task_at s p.0).best (task_at s p.0).worst (task_at s c.0).best (task_at s c.0).worst (in_order p.0 known.1) (in_order c.0 h) part all (t + 1) fed n a (omega (arith, arrival.1)) own arrival.0 in
      let number : jobs_in part n ≡ k =
      ap (λ b. jobs_in (started_by (causes_at s tr t) c.0 b) n) (sym (started-by p c k n is)) ∙ (sym (kept.numbered c.0 n h (come c.0 n is.0)) ∙ ap (λ (cause : Cause). cause.number) is.1) in
      let job : sent.job ≡ k = omega (arith, every sent.job, sent.number, number) in
      let ends : EndsAfter (course_of s tr p.0) k sent.end = subst (λ j. EndsAfter (course_of s tr p.0) j sent.end) job sent.ends in
      let o = in_order p.0 known.1 in
      let mono = ended-mono (course_of s tr p.0) (task_at s p.0).best (task_at s p.0).worst o in
      let le : sent.end + 1 ≤ t = omega (arith, arrival.1, sent.arrives) in
      let there : HasJob s tr t p.0 k =
      omega (arith, ends.1, mono (sent.end + 1) (t + 1) (omega (arith, le)), ended-le-arrived (course_of s tr p.0) (task_at s p.0).best (task_at s p.0).worst o (t + 1), arrived-one s tr t p.0) in
      let done = has-end p.0 k (omega (arith, ends.1, mono (sent.end + 1) t le)) known.1 there in
      let when = end-is s tr rules obeys t p.0 k done.0 known.1 there done.1 in
      let not_sooner : sent.end ≤ when.0 =
      elim (cases_lt when.0 sent.end) [
        | inl less ↦ absurd (omega (arith, when.2.1, ends.0, mono (when.0 + 1) sent.end (omega (arith, less))))
        | inr more ↦ more
      ] in
      let not_later : when.0 ≤ sent.end =
      elim (cases_lt sent.end when.0) [
        | inl more ↦ absurd (omega (arith, when.2.0, ends.1, mono (sent.end + 1) when.0 (omega (arith, more))))
        | inr less ↦ less
      ] in
      let same : done.0 ≡ a = omega (arith, when.1, not_sooner, not_later, sent.arrives) in
      (there, done.1 ∙ ap Some same)

  -- a job that has ended started one of each task that its task activates
  pub starts-one : (p c : TaskId) (k ended : ℕ) → c.0 < length s.tasks → is_activated_by s p.0 c.0 ≡ true → HasEnded s tr t p.0 k ended → (n : ℕ) × IsStartedBy s tr t p k c n
  starts-one p c k ended h activates has =
      let starts : Starts s c.0 (Task p) = activates in
      let hp = activator-there s rules c.0 (Task p) h starts in
      let part : ℕ → Bool = started_by (causes_at s tr t) c.0 (Task p) in
      let all : jobs_in part ((course_of s tr c.0).arrived (t + 1)) ≡ ended_count ((run s tr t).jobs p.0) = kept.fed c.0 p.0 t h starts (omega arith) in
      let found = job_of part k ((course_of s tr c.0).arrived (t + 1)) (omega (arith, all, counted-end p.0 k ended hp has)) in
      let by : (causes_at s tr t c.0 found.0).by ≡ Task p = sym (same-is (Task p) (causes_at s tr t c.0 found.0).by found.3) in
      let number : (causes_at s tr t c.0 found.0).number ≡ k =
      kept.numbered c.0 found.0 h found.1 ∙ (ap (λ b. jobs_in (started_by (causes_at s tr t) c.0 b) found.0) by ∙ found.2) in
      (found.0, (omega (arith, found.1, arrived-one s tr t c.0), λ j. record { by = by j; number = number j }))

  -- ---- in the bounds of a vector

  module _ (x : List Bound) (hold : HoldIn s x tr) where
    -- a job that has ended did so within its task's bound
    pub ends-soon : (i r k ended : ℕ) → i < length s.tasks → bound_of x i ≡ Within r → HasEnded s tr t i k ended → ended ≤ arrival_of s tr t i k + r
    ends-soon i r k ended h number has =
        elim (cases_lt t (arrival_of s tr t i k + r)) [
          | inl soon ↦ omega (arith, soon, end-by i k ended h has)
          | inr past ↦
              let done = hold.in_time i r k t h number has.0 past in
              let same : done.ended ≡ ended = some-injective done.ended ended (sym done.is ∙ has.1) in
              omega (arith, done.by, same)
        ]

    -- a job that isn't seen to end by a time arrived less than its task's bound before
    pub arrived-late : (i r k u : ℕ) → i < length s.tasks → bound_of x i ≡ Within r → HasJob s tr t i k → u ≤ t → ((ended : ℕ) → HasEnded s tr t i k ended → u < ended) → u < arrival_of s tr t i k + r
    arrived-late i r k u h number has le later =
        elim (cases_lt u (arrival_of s tr t i k + r)) [
          | inl soon ↦ soon
          | inr past ↦
              let done = hold.in_time i r k t h number has (omega (arith, past, le)) in
              absurd (omega (arith, later done.ended (has, done.is), done.by, past))
        ]

    -- where a stream goes on, the next job comes no later than its next event
    pub next-arrives : SourcesStayNear s tr → (i k q : ℕ) (m : Model) (st : Stream) → i < length s.tasks → may_fall_silent s i ≡ false → input s x i ≡ Some m → slice_get m q ≡ Some st → GoesOn s tr t i k q
        → arrival_of s tr t i (k + 1) ≤ arrival_of s tr t i k + stream_delta_plus st 2
    next-arrives near i k q m st h steady bounded is goes =
        let own : ℕ → Bool = of_stream (stream_of s tr t i) q in
        let len : ℕ = length ((run s tr t).jobs i) in
        let here = jobs_in-here own goes.before (eq-eqb (stream_of s tr t i goes.before) q goes.before_own) in
        let there = jobs_in-here own goes.after (eq-eqb (stream_of s tr t i goes.after) q goes.after_own) in
        let n : ℕ = jobs_in own (k + 1) - 1 in
        let some : n + 1 ≡ jobs_in own (k + 1) = omega (arith, here, jobs_in-mono own (goes.before + 1) (k + 1) (omega (arith, goes.is_before))) in
        let more : n + 1 < jobs_in own len =
        omega (arith, some, there, jobs_in-mono own (k + 1) goes.after (omega (arith, goes.is_after)), jobs_in-mono own (goes.after + 1) len (omega (arith, goes.there))) in
        let has : HasArrival s tr t i q (n + 1) = omega (arith, more, listed-count own len) in
        let first = listed own len n 0 (omega (arith, has)) in
        let second = listed own len (n + 1) 0 has in
        let one : ℕ = get_or (jobs_of_stream s tr t i q) n 0 in
        let two : ℕ = get_or (jobs_of_stream s tr t i q) (n + 1) 0 in
        let low : one ≤ k =
        elim (cases_lt k one) [
          | inl less ↦ absurd (omega (arith, some, first.number, jobs_in-mono own (k + 1) one (omega (arith, less))))
          | inr more ↦ more
        ] in
        let high : k + 1 ≤ two =
        elim (cases_lt two (k + 1)) [
          | inl less ↦ absurd (omega (arith, some, second.number, jobs_in-here own two second.own, jobs_in-mono own (two + 1) (k + 1) (omega (arith, less))))
          | inr more ↦ more
        ] in
        let close = hold.streams_near near i q n 1 t m st h steady bounded is has in
        let before = arrivals-order i one k h (omega (arith, high, second.there)) low in
        let after = arrivals-order i (k + 1) two h second.there high in
        let e : 1 + 1 ≡ 2 = omega arith in
        omega (arith, close, before, after)
