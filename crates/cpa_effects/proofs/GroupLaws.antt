-- Where a task activates the next, what is amidst the jobs of the next leads to what is amidst its own.
use Rattle.std.proofs.Common.{◌≡◌, ℕ, zero, suc, ◌+◌, ◌-◌, ◌<◌, ◌≤◌, Bool, true, false, List, [], ◌∷◌, length, eqb, Option, Some, None, is_some, refl, sym, ◌∙◌, ap, inl, inr, arith}
use Rattle.std.specs.Prelude.{◌||◌}
use Rattle.std.specs.List.{list_any, flat_map}
use Rattle.std.proofs.lemmas.Bool.{cases_lt, cases_Bool, eq-eqb, eqb-true, false≢true}
use Rattle.cpa_units.specs.declared.places.SourceId.{SourceId}
use Rattle.cpa_units.specs.declared.places.TaskId.{TaskId}
use Rattle.cpa_model.specs.declared.entries.Activator.{Activator}
use Rattle.cpa_model.specs.declared.entries.Activator.TheVariants.{Source, Task}
use Rattle.cpa_model.specs.Chains.{activators, depth_within, streams_step, streams_within}
use Rattle.cpa_model.specs.Rules.{IsSystem}
use Rattle.cpa_model.specs.SystemLists.{SystemLists, task_at, streams_of, is_activated_by}
use Rattle.cpa_model.proofs.ChainLaws.{streams_by, streams_within-next}
use Rattle.cpa_model.proofs.SystemLaws.{activators_at, streams_within-more, streams_of-some}
use Rattle.cpa_trace.specs.Trace.{TraceLists, Obeys}
use Rattle.cpa_sim.specs.declared.jobs.Cause.{Cause}
use Rattle.cpa_sound.specs.JobStreams.{is_same, streams_before, handed_on, stream_within}
use Rattle.cpa_sound.specs.RunCourse.{course_of}
use Rattle.cpa_sound.specs.BoundsHold.{HasJob, causes_at, stream_of, IsStartedBy}
use Rattle.cpa_sound.proofs.Parts.{jobs_in, of_stream}
use Rattle.cpa_sound.proofs.PartLaws.{jobs_in-here, jobs_in-mono, job_of}
use Rattle.cpa_sound.proofs.CourseLaws.{ended-mono, ended-le-arrived}
use Rattle.cpa_sound.proofs.CauseRuns.{keeps-causes}
use Rattle.cpa_sound.proofs.CauseStreams.{same-is, is-same, before-here, before-there, inside, activator-there, Reaches, reaches-next, reaches-none, before, jobs-of_stream}
use Rattle.cpa_sound.proofs.KeepsCauses.{Starts, started_by, KeepsCauses}
use Rattle.cpa_sound.proofs.RunLaws.{arrived-one}
use Rattle.cpa_effects.specs.Effects.{IsAmidst}
use Rattle.cpa_effects.proofs.JobTimes.{in_order, started-at}

-- ---- streams, followed over one task more

or-left : (a b : Bool) → a ≡ true → (a || b) ≡ true
or-left true b e = refl
or-left false b e = absurd (false≢true e)

or-right : (a b : Bool) → b ≡ true → (a || b) ≡ true
or-right true b e = refl
or-right false b e = e

step-same : (d e : ℕ → List SourceId) (a : Activator) (list : List Activator) → ((j : ℕ) → list_any (is_same (Task (record { 0 = j }))) list ≡ true → length (d j) ≡ length (e j))
    → list_any (is_same a) list ≡ true → length (streams_step a d) ≡ length (streams_step a e)
step-same d e (Source k) list same has = refl
step-same d e (Task j) list same has = same j.0 has

-- as many streams come before those of an activator, where all have as many
before-same : (d e : ℕ → List SourceId) (a : Activator) (list : List Activator) → ((j : ℕ) → list_any (is_same (Task (record { 0 = j }))) list ≡ true → length (d j) ≡ length (e j))
    → streams_before d a list ≡ streams_before e a list
before-same d e a [] same = refl
before-same d e a (other ∷ others) same =
    elim (cases_Bool (is_same a other)) [
      | inl here ↦ before-here d a other others here ∙ sym (before-here e a other others here)
      | inr there ↦
          let rest = before-same d e a others (λ j has. same j (or-right (is_same (Task (record { 0 = j })) other) (list_any (is_same (Task (record { 0 = j }))) others) has)) in
          let first = step-same d e other (other ∷ others) same (or-left (is_same other other) (list_any (is_same other) others) (is-same other other refl)) in
          omega (arith, before-there d a other others there, before-there e a other others there, rest, first)
    ]

some-of : (o : Option ℕ) → is_some o ≡ true → (d : ℕ) × (o ≡ Some d)
some-of None e = absurd (false≢true e)
some-of (Some d) e = (d, refl)

module _ (s : SystemLists) (tr : TraceLists) (rules : IsSystem s) (obeys : Obeys s tr) (t : ℕ) where
  kept : KeepsCauses s (course_of s tr) (causes_at s tr t) t
  kept = keeps-causes s tr obeys rules t (in_order s tr rules obeys t)

  settled : (n i : ℕ) → Reaches s n i → streams_within (activators s.tasks) (suc n) i ≡ streams_within (activators s.tasks) n i
  settled n i reaches = let d = some-of (depth_within (activators s.tasks) n i) reaches in streams_within-more (activators s.tasks) n i d.0 d.1

  -- the stream of a job is the same, once its causes are followed far enough
  stream-settled : (n i k : ℕ) → i < length s.tasks → Reaches s n i → HasJob s tr t i k → stream_within s (causes_at s tr t) (suc n) i k ≡ stream_within s (causes_at s tr t) n i k
  unfolding stream_within
  stream-settled zero i k h reaches has = absurd (reaches-none s i reaches)
  stream-settled (suc n) i k h reaches has =
      let a : Activator = (causes_at s tr t i k).by in
      let one = before-same (streams_within (activators s.tasks) (suc n)) (streams_within (activators s.tasks) n) a (task_at s i).after (λ j starts. ap length (settled n j (reaches-next s n i j reaches starts))) in
      let two = handed (λ j l hj deeper there. stream-settled n j l hj deeper there) a refl in
      (λ z. one z + two z)
    where
      handed : ((j l : ℕ) → j < length s.tasks → Reaches s n j → HasJob s tr t j l → stream_within s (causes_at s tr t) (suc n) j l ≡ stream_within s (causes_at s tr t) n j l)
          → (a : Activator) → (causes_at s tr t i k).by ≡ a
          → handed_on (stream_within s (causes_at s tr t) (suc n)) a (causes_at s tr t i k).number ≡ handed_on (stream_within s (causes_at s tr t) n) a (causes_at s tr t i k).number
      handed deeper (Source q) e = refl
      handed deeper (Task j) e =
          let number : ℕ = (causes_at s tr t i k).number in
          let here : k < (course_of s tr i).arrived (t + 1) = omega (arith, has, arrived-one s tr t i) in
          let starts : Starts s i (Task j) = rw e at (kept.activated i k h here) in
          let ended = started-at s tr rules obeys t j (record { 0 = i }) number k h (has, λ z. record { by = e z; number = number }) in
          deeper j.0 number (activator-there s rules i (Task j) h starts) (reaches-next s n i j.0 reaches starts) ended.0

  module _ (p c : TaskId) (hc : c.0 < length s.tasks) (activates : is_activated_by s p.0 c.0 ≡ true) where
    starts : Starts s c.0 (Task p)
    starts = activates

    hp : p.0 < length s.tasks
    hp = activator-there s rules c.0 (Task p) hc starts

    reaches-c : Reaches s 32 c.0
    reaches-c = rules.chains c.0 hc

    reaches-p : Reaches s 31 p.0
    reaches-p = reaches-next s 31 c.0 p.0 reaches-c starts

    -- the jobs of the next task that its activator started
    abbrev from : ℕ → Bool
    from = started_by (causes_at s tr t) c.0 (Task p)

    come : (l : ℕ) → HasJob s tr t c.0 l → l < (course_of s tr c.0).arrived (t + 1)
    come l has = omega (arith, has, arrived-one s tr t c.0)

    start-of : (l number : ℕ) → HasJob s tr t c.0 l → from l ≡ true → jobs_in from l ≡ number → IsStartedBy s tr t p number c l
    start-of l number has own count =
        let by : (causes_at s tr t c.0 l).by ≡ Task p = sym (same-is (Task p) (causes_at s tr t c.0 l).by own) in
        let is : (causes_at s tr t c.0 l).number ≡ number = kept.numbered c.0 l hc (come l has) ∙ (ap (λ b. jobs_in (started_by (causes_at s tr t) c.0 b) l) by ∙ count) in
        (has, λ z. record { by = by z; number = is z })

    number-of : (l number : ℕ) → IsStartedBy s tr t p number c l → jobs_in from l ≡ number
    number-of l number is =
        let by : (causes_at s tr t c.0 l).by ≡ Task p = ap (λ (cause : Cause). cause.by) is.1 in
        ap (λ b. jobs_in (started_by (causes_at s tr t) c.0 b) l) (sym by) ∙ (sym (kept.numbered c.0 l hc (come l is.0)) ∙ ap (λ (cause : Cause). cause.number) is.1)

    -- of a stream of the activator, a job that started one up to job n, and one that started one after it
    record Two (m n : ℕ) : Type 0 where
      early : ℕ
      early_less : early < jobs_in from (n + 1)
      early_own : stream_of s tr t p.0 early ≡ m
      late : ℕ
      late_more : jobs_in from (n + 1) ≤ late
      late_there : HasJob s tr t p.0 late
      late_own : stream_of s tr t p.0 late ≡ m
      after : ℕ
      after_there : HasJob s tr t c.0 after
      late_less : late < jobs_in from (after + 1)

    module _ (m n : ℕ) (few : m < length (streams_of s p.0)) (amidst : IsAmidst s tr t c.0 n) where
      few-before : m < length (streams_within (activators s.tasks) 31 p.0)
      few-before = omega (arith, few, ap length (settled 31 p.0 reaches-p))

      abbrev place : ℕ
      place = before s 31 c.0 (Task p) + m

      inside-c : place < length (streams_of s c.0)
      inside-c =
          let long = inside (streams_within (activators s.tasks) 31) (task_at s c.0).after (Task p) starts in
          let all = ap length (streams_within-next (activators s.tasks) 32 31 c.0 refl ∙ ap (flat_map (streams_by (activators s.tasks) 31)) (activators_at s.tasks c.0)) in
          omega (arith, few-before, long, all)

      abbrev sent : ℕ → Bool
      sent number = eqb (stream_within s (causes_at s tr t) 31 p.0 number) m

      abbrev part : ℕ → Bool
      part = of_stream (stream_of s tr t c.0) place

      counted : (k : ℕ) → k ≤ (course_of s tr c.0).arrived (t + 1) → jobs_in part k ≡ jobs_in sent (jobs_in from k)
      counted = jobs-of_stream s rules (course_of s tr) (in_order s tr rules obeys t) (causes_at s tr t) t kept 31 c.0 hc reaches-c (Task p) starts m few-before

      own-stream : (x : ℕ) → HasJob s tr t p.0 x → sent x ≡ true → stream_of s tr t p.0 x ≡ m
      own-stream x has own = stream-settled 31 p.0 x hp reaches-p has ∙ eqb-true (stream_within s (causes_at s tr t) 31 p.0 x) m own

      two : Two m n
      two =
          let goes = amidst place inside-c in
          let here = jobs_in-here part goes.before (eq-eqb (stream_of s tr t c.0 goes.before) place goes.before_own) in
          let there = jobs_in-here part goes.after (eq-eqb (stream_of s tr t c.0 goes.after) place goes.after_own) in
          let count : ℕ = jobs_in from (n + 1) in
          let more : ℕ = jobs_in from (goes.after + 1) in
          let up = come goes.after goes.there in
          let first = counted (n + 1) (omega (arith, up, goes.is_after)) in
          let second = counted (goes.after + 1) (omega (arith, up)) in
          let x = job_of sent 0 count (omega (arith, here, first, jobs_in-mono part (goes.before + 1) (n + 1) (omega (arith, goes.is_before)))) in
          let y = job_of sent (jobs_in sent count) more (omega (arith, there, first, second, jobs_in-mono part (n + 1) goes.after (omega (arith, goes.is_after)))) in
          let late : count ≤ y.0 =
          elim (cases_lt y.0 count) [
            | inl less ↦ absurd (omega (arith, y.2, jobs_in-here sent y.0 y.3, jobs_in-mono sent (y.0 + 1) count (omega (arith, less))))
            | inr fine ↦ fine
          ] in
          let o = in_order s tr rules obeys t p.0 hp in
          let all = kept.fed c.0 p.0 t hc starts (omega arith) in
          let y_there : HasJob s tr t p.0 y.0 =
          omega (
            arith,
            y.1,
            jobs_in-mono from (goes.after + 1) ((course_of s tr c.0).arrived (t + 1)) (omega (arith, up)),
            all,
            ended-mono (course_of s tr p.0) (task_at s p.0).best (task_at s p.0).worst o t (t + 1) (omega arith),
            ended-le-arrived (course_of s tr p.0) (task_at s p.0).best (task_at s p.0).worst o (t + 1),
            arrived-one s tr t p.0,
          ) in
          let x_there : HasJob s tr t p.0 x.0 = omega (arith, x.1, late, y_there) in
          record {
            early = x.0;
            early_less = x.1;
            early_own = own-stream x.0 x_there x.3;
            late = y.0;
            late_more = late;
            late_there = y_there;
            late_own = own-stream y.0 y_there y.3;
            after = goes.after;
            after_there = goes.there;
            late_less = y.1;
          }

    -- a job of the activator that started one up to job n, as the last, and is amidst; and the one that the next of it started
    pub record Renewed (n : ℕ) : Type 0 where
      pub before : ℕ
      pub amidst : IsAmidst s tr t p.0 before
      pub started : ℕ
      pub started_is : IsStartedBy s tr t p before c started
      pub not_after : started ≤ n
      pub next : ℕ
      pub next_is : IsStartedBy s tr t p (before + 1) c next
      pub later : n < next
      -- who started a job no earlier isn't before it
      pub order : (l number : ℕ) → IsStartedBy s tr t p number c l → started ≤ l → before ≤ number

    pub renewed-of : (n : ℕ) → HasJob s tr t c.0 n → IsAmidst s tr t c.0 n → Renewed n
    renewed-of n has amidst =
        let one = two 0 n (omega (arith, streams_of-some s rules p.0 hp)) amidst in
        let count : ℕ = jobs_in from (n + 1) in
        let k : ℕ = count - 1 in
        let e : k + 1 ≡ count = omega (arith, one.early_less) in
        let old = job_of from k (n + 1) (omega (arith, one.early_less)) in
        let old_there : HasJob s tr t c.0 old.0 = omega (arith, has, old.1) in
        let new = job_of from count (one.after + 1) (omega (arith, one.late_more, one.late_less)) in
        let new_there : HasJob s tr t c.0 new.0 = omega (arith, one.after_there, new.1) in
        let old_is = start-of old.0 k old_there old.3 old.2 in
        record {
          before = k;
          amidst = λ q less.
              let own = two q n less amidst in
              record {
                before = own.early;
                is_before = omega (arith, own.early_less);
                before_own = own.early_own;
                after = own.late;
                is_after = omega (arith, own.late_more, one.early_less);
                there = own.late_there;
                after_own = own.late_own;
              };
          started = old.0;
          started_is = old_is;
          not_after = omega (arith, old.1);
          next = new.0;
          next_is = start-of new.0 (k + 1) new_there new.3 (new.2 ∙ sym e);
          later =
              elim (cases_lt n new.0) [
                | inl fine ↦ fine
                | inr less ↦ absurd (omega (arith, new.2, jobs_in-here from new.0 new.3, jobs_in-mono from (new.0 + 1) (n + 1) (omega (arith, less))))
              ];
          order = λ l number is le. omega (arith, number-of l number is, old.2, jobs_in-mono from old.0 l le);
        }
