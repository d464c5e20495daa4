-- What started the jobs of a run: those of one activator come in the order of its events or completions, each of them once.
use Rattle.std.proofs.Common.{◌≡◌, ℕ, zero, suc, ◌+◌, ◌-◌, ◌*◌, ◌<◌, ◌≤◌, ◌++◌, length, List, [], ◌∷◌, map, take, Bool, true, false, eqb, refl, sym, ◌∙◌, ap, inl, inr, arith, get_or, length-append}
use Rattle.std.specs.Prelude.{filter}
use Rattle.std.specs.List.{range_with_len}
use Rattle.std.proofs.lemmas.Bool.{cases_Bool, eq-eqb, ne_eqb}
use Rattle.std.proofs.lemmas.List.{append-nil, map-append, length-map}
use Rattle.std.proofs.lemmas.List.FromFn.{length-range_with_len}
use Rattle.std.proofs.Math.ListN.{get_or-map}
use Rattle.std.proofs.Math.Seq.{take-append_seam}
use Rattle.cpa_model.specs.declared.entries.Activator.{Activator}
use Rattle.cpa_model.specs.declared.entries.Activator.TheVariants.{Source, Task}
use Rattle.cpa_model.specs.Rules.{IsSystem}
use Rattle.cpa_model.specs.Streams.{source_stream}
use Rattle.cpa_model.specs.SystemLists.{SystemLists, source_at, task_at}
use Rattle.cpa_trace.specs.Trace.{TraceLists, times_of, time_of, need, Obeys}
use Rattle.cpa_sim.specs.declared.jobs.Cause.{Cause}
use Rattle.cpa_sim.specs.Run.{no_cause, no_job, Progress, is_open, ended_count, serve, new_jobs, events_at, arriving, runs_in, served, ended_in, ends_in, run}
use Rattle.cpa_sim.proofs.QueueLaws.{serve-here, serve-there, ended-new}
use Rattle.cpa_sim.proofs.RunLaws.{jobs-zero, jobs-suc, ended-is}
use Rattle.cpa_sim.proofs.JobCount.{ended-suc}
use Rattle.cpa_sim.proofs.RangeLaws.{range-split, filter-between}
use Rattle.cpa_sound.specs.RunCourse.{arrived_before, course_of}
use Rattle.cpa_sound.specs.JobStreams.{is_same}
use Rattle.cpa_sound.specs.BoundsHold.{causes_at, SourcesStayNear}
use Rattle.cpa_sound.proofs.Serving.{IsInOrder}
use Rattle.cpa_sound.proofs.Parts.{jobs_in, PartKeepsApart, PartKeepsNear, ArePart, count_from}
use Rattle.cpa_sound.proofs.PartLaws.{jobs_in-zero, jobs_in-here, jobs_in-mono}
use Rattle.cpa_sound.proofs.KeepsCauses.{Starts, started_by, KeepsCauses}
use Rattle.cpa_sound.proofs.CauseStreams.{is-same, activator-there}
use Rattle.cpa_sound.proofs.CauseNumbers.{is_by, numbers_by, numbers-append, part_of, number-at, jobs-taken, arriving-task, arriving-source, AllStart, start-append, start-at, start-arriving}
use Rattle.cpa_sim.proofs.EventCounts.{events_before, before-none, before-suc, before-le}
use Rattle.cpa_sound.proofs.ArrivalLaws.{ends_in-is, in_order-from, is_before, is_from}
use Rattle.cpa_sound.proofs.Timed.{PartKeepsTime}
use Rattle.cpa_sound.proofs.CourseLaws.{arrives-order}
use Rattle.cpa_sound.proofs.RunLaws.{served-runs, served-idle, arrived-zero, arrived-one}
use Rattle.cpa_sound.proofs.FieldLaws.{tick-cause}

-- ---- causes stay with their jobs

causes_of : List Progress → List Cause
causes_of js = map (λ (job : Progress). job.cause) js

serve-causes : (now : ℕ) (js : List Progress) → causes_of (serve now js) ≡ causes_of js
unfolding causes_of
serve-causes now [] = refl
serve-causes now (job ∷ js) =
    elim (cases_Bool (is_open job)) [
      | inl e ↦ rw (serve-here now job js e) (ap (λ c. c ∷ causes_of js) (tick-cause now job))
      | inr e ↦ rw (serve-there now job js e) (ap (λ cs. job.cause ∷ cs) (serve-causes now js))
    ]

new-causes : (needs : ℕ → ℕ) (first now : ℕ) (new : List Cause) → causes_of (new_jobs needs first now new) ≡ new
unfolding causes_of
new-causes needs first now [] = refl
new-causes needs first now (cause ∷ new) = ap (λ cs. cause ∷ cs) (new-causes needs (first + 1) now new)

append-causes : (js ks : List Progress) → causes_of (js ++ ks) ≡ causes_of js ++ causes_of ks
unfolding causes_of
append-causes js ks = map-append (λ (job : Progress). job.cause) js ks

module _ (s : SystemLists) (tr : TraceLists) where
  causes_in : ℕ → ℕ → List Cause
  causes_in t i = causes_of ((run s tr t).jobs i)

  causes-zero : (i : ℕ) → causes_in 0 i ≡ arriving s tr 0 (λ j. []) i
  unfolding causes_in
  causes-zero i = ap causes_of (jobs-zero s tr i) ∙ new-causes (need s tr i) 0 0 (arriving s tr 0 (λ j. []) i)

  served-causes : (t i : ℕ) → causes_of (served s tr t (run s tr t) i) ≡ causes_in t i
  unfolding causes_in
  served-causes t i =
      elim (cases_Bool (runs_in s tr t (run s tr t) i)) [
        | inl e ↦ ap causes_of (served-runs s tr t i e) ∙ serve-causes (t + 1) ((run s tr t).jobs i)
        | inr e ↦ ap causes_of (served-idle s tr t i e)
      ]

  causes-suc : (t i : ℕ) → causes_in (suc t) i ≡ causes_in t i ++ arriving s tr (t + 1) (ended_in s tr t (run s tr t)) i
  unfolding causes_in
  causes-suc t i =
      let js : List Progress = served s tr t (run s tr t) i in
      let new : List Cause = arriving s tr (t + 1) (ended_in s tr t (run s tr t)) i in
      ap causes_of (jobs-suc s tr t i)
      ∙ (append-causes js (new_jobs (need s tr i) (length js) (t + 1) new)
      ∙ (ap (λ cs. cs ++ causes_of (new_jobs (need s tr i) (length js) (t + 1) new)) (served-causes t i)
      ∙ ap (λ cs. causes_of ((run s tr t).jobs i) ++ cs) (new-causes (need s tr i) (length js) (t + 1) new)))

  causes-length : (t i : ℕ) → length (causes_in t i) ≡ length ((run s tr t).jobs i)
  unfolding causes_in causes_of
  causes-length t i = length-map ((run s tr t).jobs i) (λ (job : Progress). job.cause)

  -- what comes later leaves the causes of the jobs so far
  causes-grow : (t more i : ℕ) → (later : List Cause) × (causes_in (t + more) i ≡ causes_in t i ++ later)
  causes-grow t zero i = let e : t + 0 ≡ t = omega arith in ([], rw e (sym (append-nil (causes_in t i))))
  causes-grow t (suc more) i =
      let e : t + suc more ≡ suc (t + more) = omega arith in
      let rest = causes-grow t more i in
      let new : List Cause = arriving s tr (t + more + 1) (ended_in s tr (t + more) (run s tr (t + more))) i in
      (rest.0 ++ new, rw e (causes-suc (t + more) i ∙ (ap (λ cs. cs ++ new) rest.1 ∙ assoc (causes_in t i) rest.0 new)))
    where
      assoc : (xs ys zs : List Cause) → (xs ++ ys) ++ zs ≡ xs ++ (ys ++ zs)
      assoc [] ys zs = refl
      assoc (x ∷ xs) ys zs = ap (λ l. x ∷ l) (assoc xs ys zs)

  causes-take : (t last i : ℕ) → t ≤ last → take (length (causes_in t i)) (causes_in last i) ≡ causes_in t i
  causes-take t last i le =
      let e : t + (last - t) ≡ last = omega arith in
      let grown = rw e at (causes-grow t (last - t) i) in
      ap (take (length (causes_in t i))) grown.1 ∙ take-append_seam (causes_in t i) grown.0

  -- ---- in their order, each once

  -- a job of a task for each of its activator's that is complete
  numbers-task : (i j t : ℕ) → j < length s.tasks → Starts s i (Task (record { 0 = j })) → numbers_by (Task (record { 0 = j })) (causes_in t i) ≡ range_with_len 0 (ended_count ((run s tr t).jobs j))
  numbers-task i j zero h starts =
      let a : Activator = Task (record { 0 = j }) in
      let none : ended_count ((run s tr 0).jobs j) ≡ 0 = rw (jobs-zero s tr j) (ended-new (need s tr j) 0 0 (arriving s tr 0 (λ j. []) j)) in
      ap (numbers_by a) (causes-zero i) ∙ (arriving-task s tr 0 (λ j. []) i j h starts ∙ ap (range_with_len 0) (sym none))
  numbers-task i j (suc t) h starts =
      let a : Activator = Task (record { 0 = j }) in
      let n : ℕ = ended_count ((run s tr t).jobs j) in
      let more : ℕ = ends_in s tr t (run s tr t) j in
      let new : List Cause = arriving s tr (t + 1) (ended_in s tr t (run s tr t)) i in
      let now : numbers_by a new ≡ range_with_len n more = arriving-task s tr (t + 1) (ended_in s tr t (run s tr t)) i j h starts ∙ ended-is s tr t j in
      let z : 0 + n ≡ n = omega arith in
      let whole : range_with_len 0 (n + more) ≡ range_with_len 0 n ++ range_with_len n more = rw z at (range-split 0 n more) in
      let count : n + more ≡ ended_count ((run s tr (suc t)).jobs j) = omega (arith, ended-suc s tr t j, ends_in-is s tr t j) in
      ap (numbers_by a) (causes-suc t i)
      ∙ (numbers-append a (causes_in t i) new
      ∙ (ap (λ ns. ns ++ numbers_by a new) (numbers-task i j t h starts)
      ∙ (ap (λ ns. range_with_len 0 n ++ ns) now ∙ (sym whole ∙ ap (range_with_len 0) count))))

  module _ (obeys : Obeys s tr) where
    -- the events of a source at a time follow those before it
    events-numbers : (k now : ℕ) → events_at tr k now ≡ range_with_len (events_before (times_of tr k) now) (events_before (times_of tr k) (now + 1) - events_before (times_of tr k) now)
    events-numbers k now =
        let times : List ℕ = times_of tr k in
        let order = in_order-from s tr k obeys in
        let more = before-suc times now in
        let few = before-le times (now + 1) in
        filter-between (λ n. eqb (time_of tr k n) now) (events_before times now) (events_before times (now + 1)) (length times) (omega arith) few
        (λ n low. ne_eqb (time_of tr k n) now (λ e. omega (arith, e, is_before times n now order low)))
        (λ n from to. eq-eqb (time_of tr k n) now (omega (arith, is_before times n (now + 1) order to, is_from times n now order (omega (arith, few)) from)))
        (λ n from high. ne_eqb (time_of tr k n) now (λ e. omega (arith, e, is_from times n (now + 1) order high from)))

    -- and a job for each event of a source so far
    numbers-source : (i k t : ℕ) → k < length s.sources → Starts s i (Source (record { 0 = k })) → numbers_by (Source (record { 0 = k })) (causes_in t i) ≡ range_with_len 0 (events_before (times_of tr k) (t + 1))
    numbers-source i k zero h starts =
        let a : Activator = Source (record { 0 = k }) in
        let times : List ℕ = times_of tr k in
        let none = before-none times in
        let now = rw none at (events-numbers k 0) in
        let e : events_before times (0 + 1) - 0 ≡ events_before times (0 + 1) = omega arith in
        ap (numbers_by a) (causes-zero i) ∙ (arriving-source s tr 0 (λ j. []) i k h starts ∙ (now ∙ ap (range_with_len 0) e))
    numbers-source i k (suc t) h starts =
        let a : Activator = Source (record { 0 = k }) in
        let times : List ℕ = times_of tr k in
        let n : ℕ = events_before times (t + 1) in
        let m : ℕ = events_before times (t + 1 + 1) in
        let new : List Cause = arriving s tr (t + 1) (ended_in s tr t (run s tr t)) i in
        let now : numbers_by a new ≡ range_with_len n (m - n) = arriving-source s tr (t + 1) (ended_in s tr t (run s tr t)) i k h starts ∙ events-numbers k (t + 1) in
        let z : 0 + n ≡ n = omega arith in
        let whole : range_with_len 0 (n + (m - n)) ≡ range_with_len 0 n ++ range_with_len n (m - n) = rw z at (range-split 0 n (m - n)) in
        let e : suc t + 1 ≡ t + 1 + 1 = omega arith in
        let count : n + (m - n) ≡ m = omega (arith, before-suc times (t + 1)) in
        ap (numbers_by a) (causes-suc t i)
        ∙ (numbers-append a (causes_in t i) new
        ∙ (ap (λ ns. ns ++ numbers_by a new) (numbers-source i k t h starts)
        ∙ (ap (λ ns. range_with_len 0 n ++ ns) now ∙ (sym whole ∙ ap (range_with_len 0) (count ∙ ap (events_before times) (sym e))))))

    -- ---- what started each job, as it is seen at a time

    module _ (rules : IsSystem s) (last : ℕ) where
      cause-at : (i k : ℕ) → get_or (causes_in last i) k no_cause ≡ causes_at s tr last i k
      unfolding causes_in causes_of
      cause-at i k = get_or-map (λ (job : Progress). job.cause) ((run s tr last).jobs i) k no_job

      part-at : (i : ℕ) (a : Activator) → part_of a (causes_in last i) ≡ started_by (causes_at s tr last) i a
      part-at i a = λ p k. is_same a (cause-at i k p).by

      -- so many of the jobs so far it started
      started-count : (i t n : ℕ) (a : Activator) → t ≤ last → numbers_by a (causes_in t i) ≡ range_with_len 0 n → jobs_in (started_by (causes_at s tr last) i a) (length ((run s tr t).jobs i)) ≡ n
      started-count i t n a le numbers =
          let cs : List Cause = causes_in t i in
          let taken = causes-take t last i le in
          let few : length cs ≤ length (causes_in last i) = shorter i t le in
          let counted = jobs-taken a (causes_in last i) (length cs) few in
          let count : length (filter (is_by a) cs) ≡ n = sym (length-map (filter (is_by a) cs) (λ (cause : Cause). cause.number)) ∙ (ap length numbers ∙ length-range_with_len 0 n) in
          ap (λ p. jobs_in p (length ((run s tr t).jobs i))) (sym (part-at i a))
          ∙ (ap (jobs_in (part_of a (causes_in last i))) (sym (causes-length t i)) ∙ (counted ∙ (ap (λ ds. length (filter (is_by a) ds)) taken ∙ count)))
        where
          shorter : (i t : ℕ) → t ≤ last → length (causes_in t i) ≤ length (causes_in last i)
          shorter i t le =
              let e : t + (last - t) ≡ last = omega arith in
              let grown = rw e at (causes-grow t (last - t) i) in
              omega (arith, ap length grown.1, length-append (causes_in t i) grown.0)

      -- and each of them has its number
      number-of : (i k n : ℕ) (a : Activator) → numbers_by a (causes_in last i) ≡ range_with_len 0 n → k < length ((run s tr last).jobs i) → (causes_at s tr last i k).by ≡ a → (causes_at s tr last i k).number ≡ jobs_in (started_by (causes_at s tr last) i a) k
      number-of i k n a numbers here by =
          let there : k < length (causes_in last i) = omega (arith, causes-length last i) in
          let own : part_of a (causes_in last i) k ≡ true = ap (is_same a) (ap (λ (cause : Cause). cause.by) (cause-at i k) ∙ by) ∙ is-same a a refl in
          let number = number-at a (causes_in last i) 0 n numbers k there own in
          let counted = jobs-taken a (causes_in last i) k (omega (arith, there)) in
          let z : 0 + length (filter (is_by a) (take k (causes_in last i))) ≡ length (filter (is_by a) (take k (causes_in last i))) = omega arith in
          sym (ap (λ (cause : Cause). cause.number) (cause-at i k)) ∙ (number ∙ (z ∙ (sym counted ∙ ap (λ p. jobs_in p k) (part-at i a))))

      all-start : (t i : ℕ) → AllStart s i (causes_in t i)
      all-start zero i = rw (causes-zero i) (start-arriving s tr 0 (λ j. []) i)
      all-start (suc t) i = rw (causes-suc t i) (start-append s i (causes_in t i) (arriving s tr (t + 1) (ended_in s tr t (run s tr t)) i) (all-start t i) (start-arriving s tr (t + 1) (ended_in s tr t (run s tr t)) i))

      -- each job was started by one of its task's activators
      started : (i k : ℕ) → k < (course_of s tr i).arrived (last + 1) → Starts s i (causes_at s tr last i k).by
      started i k here =
          let there : k < length (causes_in last i) = omega (arith, here, arrived-one s tr last i, causes-length last i) in
          rw (← cause-at i k) (start-at s i (causes_in last i) k (all-start last i) there)

      numbered : (i k : ℕ) → i < length s.tasks → k < (course_of s tr i).arrived (last + 1) → (a : Activator) → (causes_at s tr last i k).by ≡ a → (causes_at s tr last i k).number ≡ jobs_in (started_by (causes_at s tr last) i a) k
      numbered i k h here (Source q) by =
          let starts : Starts s i (Source q) = rw by at (started i k here) in
          number-of i k (events_before (times_of tr q.0) (last + 1)) (Source q) (numbers-source i q.0 last (activator-there s rules i (Source q) h starts) starts) (omega (arith, here, arrived-one s tr last i)) by
      numbered i k h here (Task j) by =
          let starts : Starts s i (Task j) = rw by at (started i k here) in
          number-of i k (ended_count ((run s tr last).jobs j.0)) (Task j) (numbers-task i j.0 last (activator-there s rules i (Task j) h starts) starts) (omega (arith, here, arrived-one s tr last i)) by

      fed : (i j t : ℕ) → i < length s.tasks → Starts s i (Task (record { 0 = j })) → t ≤ last → jobs_in (started_by (causes_at s tr last) i (Task (record { 0 = j }))) ((course_of s tr i).arrived (t + 1)) ≡ (course_of s tr j).ended t
      fed i j t h starts le =
          let a : Activator = Task (record { 0 = j }) in
          ap (jobs_in (started_by (causes_at s tr last) i a)) (arrived-one s tr t i)
          ∙ started-count i t (ended_count ((run s tr t).jobs j)) a le (numbers-task i j t (activator-there s rules i a h starts) starts)

      -- ---- the jobs that a source started

      module _ (i k : ℕ) (h : i < length s.tasks) (starts : Starts s i (Source (record { 0 = k }))) (o : IsInOrder (course_of s tr i) (task_at s i).best (task_at s i).worst) where
        abbrev from : ℕ → Bool
        from = started_by (causes_at s tr last) i (Source (record { 0 = k }))

        abbrev times : List ℕ
        times = times_of tr k

        events-so_far : (t : ℕ) → t ≤ last + 1 → jobs_in from (arrived_before s tr i t) ≡ events_before times t
        events-so_far zero le = ap (jobs_in from) (arrived-zero s tr i) ∙ (jobs_in-zero from ∙ sym (before-none times))
        events-so_far (suc t) le =
            let a : Activator = Source (record { 0 = k }) in
            let e : suc t ≡ t + 1 = omega arith in
            rw e (ap (jobs_in from) (arrived-one s tr t i) ∙ started-count i t (events_before times (t + 1)) a (omega arith) (numbers-source i k t (activator-there s rules i a h starts) starts))

        -- the event that started a job came when the job did
        pub record Event (l a : ℕ) : Type 0 where
          pub is_after : a ≤ time_of tr k (jobs_in from l)
          pub is_by : time_of tr k (jobs_in from l) < a + 1
          pub there : jobs_in from l < length times

        pub event : (l a : ℕ) → a < last + 1 → from l ≡ true → (arrived_before s tr i a ≤ l) × (l < arrived_before s tr i (a + 1)) → Event l a
        event l a soon own arrives =
            let n : ℕ = jobs_in from l in
            let order = in_order-from s tr k obeys in
            let low : events_before times a ≤ n = omega (arith, events-so_far a (omega arith), jobs_in-mono from (arrived_before s tr i a) l arrives.0) in
            let high : n < events_before times (a + 1) = omega (arith, events-so_far (a + 1) (omega arith), jobs_in-here from l own, jobs_in-mono from (l + 1) (arrived_before s tr i (a + 1)) (omega (arith, arrives.1))) in
            let inside : n < length times = omega (arith, high, before-le times (a + 1)) in
            record { is_after = is_from times n a order inside low; is_by = is_before times n (a + 1) order high; there = inside }

        -- the numbers of two events, by those of the jobs that they started
        pair : (l m a b : ℕ) → b < last + 1 → ArePart (course_of s tr i) from l m a b → (gap : ℕ) × (jobs_in from l + gap ≡ jobs_in from m) × (count_from from l m ≡ gap + 1)
        pair l m a b soon are =
            let more = jobs_in-mono from l m are.order in
            (jobs_in from m - jobs_in from l, omega (arith, more), omega (arith, more, jobs_in-here from m are.last))

        pub source-apart : PartKeepsApart (course_of s tr i) from (source_stream s k) (last + 1)
        source-apart l m a b are soon =
            let two = pair l m a b soon are in
            let first = event l a (omega (arith, arrives-order (course_of s tr i) (task_at s i).best (task_at s i).worst o l m a b are.comes are.follows are.order)) are.first are.comes in
            let second = event m b soon are.last are.follows in
            let inside : jobs_in from l + two.0 < length times = omega (arith, two.1, second.there) in
            let far = rw two.1 at (obeys.apart k (jobs_in from l) two.0 inside) in
            rw two.2 (omega (arith, far, first.is_after, second.is_by))

        pub source-near : (source_at s k).sporadic ≡ false → SourcesStayNear s tr → PartKeepsNear (course_of s tr i) from (source_stream s k) (last + 1)
        source-near steady near l m a b are soon =
            let two = pair l m a b soon are in
            let first = event l a (omega (arith, arrives-order (course_of s tr i) (task_at s i).best (task_at s i).worst o l m a b are.comes are.follows are.order)) are.first are.comes in
            let second = event m b soon are.last are.follows in
            let inside : jobs_in from l + two.0 < length times = omega (arith, two.1, second.there) in
            let close = rw two.1 at (near k (jobs_in from l) two.0 steady inside) in
            rw two.2 (omega (arith, close, first.is_by, second.is_after))

        -- what a source starts comes within the intervals of its events
        pub source-timed : (lead start : ℕ)
            → ((n : ℕ) → n < length times → (start + n * (source_stream s k).period ≤ time_of tr k n + lead) × (time_of tr k n + lead ≤ start + n * (source_stream s k).period + (source_stream s k).jitter))
            → PartKeepsTime (course_of s tr i) from lead start (source_stream s k) (last + 1)
        source-timed lead start on_time l a own arrival soon =
            let e = event l a soon own arrival in
            let when = on_time (jobs_in from l) e.there in
            (omega (arith, when.0, e.is_by), omega (arith, when.1, e.is_after))

      -- the laws of causes hold in every run
      pub keeps-causes : ((i : ℕ) → i < length s.tasks → IsInOrder (course_of s tr i) (task_at s i).best (task_at s i).worst) → KeepsCauses s (course_of s tr) (causes_at s tr last) last
      keeps-causes orders =
          record {
            activated = λ i k h here. started i k here;
            numbered = λ i k h here. numbered i k h here (causes_at s tr last i k).by refl;
            fed = fed;
            sourced = λ i k h starts. source-apart i k h starts (orders i h);
          }
