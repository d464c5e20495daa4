-- What comes at any time is answered: there are jobs along the chain.
use Rattle.std.proofs.Common.{◌≡◌, ◌⊎◌, ℕ, zero, suc, ◌+◌, ◌-◌, ◌<◌, ◌≤◌, true, cond, List, length, refl, sym, ◌∙◌, ap, subst, inl, inr, arith}
use Rattle.std.specs.List.{range_with_len}
use Rattle.std.proofs.Math.Dec.{ltb}
use Rattle.std.proofs.lemmas.Bool.{cases_lt, cases_Bool, lt-ltb, le-ltb}
use Rattle.cpa_units.proofs.PlaceLaws.{places-more}
use Rattle.cpa_units.specs.declared.bound.Bound.{Bound}
use Rattle.cpa_units.specs.declared.bound.Bound.TheVariants.{Within}
use Rattle.cpa_units.specs.declared.places.TaskId.{TaskId}
use Rattle.cpa_units.specs.Bounds.{bound_of, bound_plus, sum_bounds}
use Rattle.cpa_model.specs.Rules.{IsSystem}
use Rattle.cpa_model.proofs.SystemLaws.{streams_of-some}
use Rattle.cpa_model.specs.SystemLists.{SystemLists, task_at, streams_of, is_activated_by}
use Rattle.cpa_trace.specs.Trace.{TraceLists, Obeys}
use Rattle.cpa_sched.proofs.OptionLaws.{some-injective}
use Rattle.cpa_sound.specs.BoundsHold.{HasJob, arrival_of, stream_of, SourcesStayNear, HoldIn}
use Rattle.cpa_sound.proofs.FieldLaws.{arrival-is}
use Rattle.cpa_effects.specs.declared.steps.Step.TheVariants.{Register}
use Rattle.cpa_effects.specs.declared.steps.Reading.{Reading}
use Rattle.cpa_effects.specs.declared.steps.Reading.TheVariants.{Anywhere, WhileRunning}
use Rattle.cpa_effects.specs.Bounds.{step_between, is_above, reading_wait, wait_of, task_in, last_in, forward, through, latency_by, reaction_by}
use Rattle.cpa_effects.specs.Effects.{Reads, HasEnded, ReadWithin, ReadsRunning, ReadsBy, FollowsOn, IsFirstToRead, IsFirstToKnow, RunsOn, IsRunning, IsAnswered}
use Rattle.cpa_effects.specs.Laws.{IsChain}
use Rattle.cpa_effects.proofs.SumLaws.{within-injective, AddUp, add-up, sum-last}
use Rattle.cpa_effects.proofs.JobTimes.{end-by, end-order, ended-before, arrivals-order, started-at, starts-one}
use Rattle.cpa_effects.proofs.StepLaws.{waits, reads-soon, knows-soon}
use Rattle.cpa_effects.proofs.AboveLaws.{above-is, way-of, within-of, runs-of, ended-then, is-twin, arrive-together, twin-ended}

-- ---- the first of several

-- a number is the first whose value isn't below another, and no larger than a third
record First (f : ℕ → ℕ) (e last : ℕ) : Type 0 where
  place : ℕ
  within : place ≤ last
  high : e ≤ f place
  first : (l : ℕ) → l < place → f l < e

none-or-first : (f : ℕ → ℕ) (e last : ℕ) → ((l : ℕ) → l < last → f l < e) ⊎ First f e last
none-or-first f e zero = inl (λ l less. absurd (omega (arith, less)))
none-or-first f e (suc last) =
    elim (none-or-first f e last) [
      | inr found ↦ inr (record { place = found.place; within = omega (arith, found.within); high = found.high; first = found.first })
      | inl none ↦
          elim (cases_lt (f last) e) [
            | inl low ↦ inl (λ l less. all none low l (cases_lt l last) less)
            | inr high ↦ inr (record { place = last; within = omega arith; high = high; first = none })
          ]
    ]
  where
    all : ((l : ℕ) → l < last → f l < e) → f last < e → (l : ℕ) → (l < last) ⊎ (last ≤ l) → l < suc last → f l < e
    all none low l (inl before) less = none l before
    all none low l (inr same) less = let e' : last ≡ l = omega (arith, same, less) in subst (λ m. f m < e) e' low

first-high : (f : ℕ → ℕ) (e last : ℕ) → e ≤ f last → First f e last
first-high f e last high =
    elim (none-or-first f e last) [
      | inl none ↦ record { place = last; within = omega arith; high = high; first = none }
      | inr found ↦ found
    ]

-- ---- parts of a sum that is a number

pub record Part (f : ℕ → Bound) (m n total : ℕ) : Type 0 where
  pub sum : ℕ
  pub sum_is : sum_bounds f (range_with_len 0 m) ≡ Within sum
  pub within : sum ≤ total
  -- the next one, where there is one
  pub next : m < n → (one : ℕ) × (f m ≡ Within one) × (sum + one ≤ total)

split-last : (f : ℕ → Bound) (n total : ℕ) → sum_bounds f (range_with_len 0 (suc n)) ≡ Within total → AddUp (sum_bounds f (range_with_len 0 n)) (f n) total
split-last f n total is =
    let e : suc n ≡ n + 1 = omega arith in
    let all = subst (λ k. sum_bounds f (range_with_len 0 k) ≡ Within total) e is in
    add-up (sum_bounds f (range_with_len 0 n)) (f n) total (sym (ap (sum_bounds f) (places-more n) ∙ sum-last f (range_with_len 0 n) n) ∙ all)

pub part-of : (f : ℕ → Bound) (n total m : ℕ) → sum_bounds f (range_with_len 0 n) ≡ Within total → m ≤ n → Part f m n total
part-of f zero total m is le =
    let e : 0 ≡ m = omega (arith, le) in
    record { sum = total; sum_is = subst (λ k. sum_bounds f (range_with_len 0 k) ≡ Within total) e is; within = omega arith; next = λ less. absurd (omega (arith, less)) }
part-of f (suc n) total m is le =
    let last = split-last f n total is in
    elim (cases_lt n m) [
      | inl whole ↦
          let e : suc n ≡ m = omega (arith, whole, le) in
          record { sum = total; sum_is = subst (λ k. sum_bounds f (range_with_len 0 k) ≡ Within total) e is; within = omega arith; next = λ less. absurd (omega (arith, less, whole)) }
      | inr part ↦
          let before = part-of f n last.left m last.left_is part in
          record {
            sum = before.sum;
            sum_is = before.sum_is;
            within = omega (arith, before.within, last.sum);
            next = λ less. by_place last before (cases_lt m n) less;
          }
    ]
  where
    by_place : (last : AddUp (sum_bounds f (range_with_len 0 n)) (f n) total) → (before : Part f m n last.left) → (m < n) ⊎ (n ≤ m) → m < suc n → (one : ℕ) × (f m ≡ Within one) × (before.sum + one ≤ total)
    by_place last before (inl inside) less = let h = before.next inside in (h.0, h.1, omega (arith, h.2, last.sum))
    by_place last before (inr same) less =
        let e : n ≡ m = omega (arith, same, less) in
        (last.right, subst (λ k. f k ≡ Within last.right) e last.right_is, omega (arith, before.within, last.sum))

-- ---- jobs along a chain

module _ (s : SystemLists) (x : List Bound) (tr : TraceLists) (rules : IsSystem s) (obeys : Obeys s tr) (hold : HoldIn s x tr) (near : SourcesStayNear s tr) (tasks : List TaskId) (chain : IsChain s tasks) (reading : Reading) where
  there : (k : ℕ) → k < length tasks → (task_in tasks k).0 < length s.tasks
  there k less = chain.there k (record { 0 = 0 }) less

  module _ (t time due : ℕ) (reads : Reads) (by : ReadsBy reading s tr t reads tasks) where
    within : ReadWithin s tr t reads
    within = within-of reading s tr t reads tasks by

    -- in a task whose streams run on, some job is the first to read at a time between
    record Found (i e : ℕ) : Type 0 where
      job : ℕ
      first : IsFirstToRead s tr t reads i job e
      follows : FollowsOn s tr t i job

    find-first : (i e : ℕ) → i < length s.tasks → IsRunning s tr t i time due → time ≤ e → e ≤ due → Found i e
    find-first i e h running low high =
        let inside : 0 < length (streams_of s i) = omega (arith, streams_of-some s rules i h) in
        let some = running 0 inside in
        let read = within.arrived i some.late some.there in
        let found = first-high (reads i) e some.late (omega (arith, read, some.after, high)) in
        let n : ℕ = found.place in
        let before : (q : ℕ) → q < length (streams_of s i) → (early : ℕ) × (early < n) × (stream_of s tr t i early ≡ q) = λ q less. earlier n found.high (running q less) in
        let one = before 0 inside in
        let e' : n ≡ (n - 1) + 1 = omega (arith, one.1) in
        record {
          job = n;
          first = record { there = omega (arith, found.within, some.there); late = found.high; first = found.first };
          follows = (
            n - 1,
            e',
            λ q less.
                let early = before q less in
                let run = running q less in
                record {
                  before = early.0;
                  is_before = omega (arith, early.1);
                  before_own = early.2;
                  after = run.late;
                  is_after = omega (arith, one.1, later n found.first run);
                  there = run.there;
                  after_own = run.late_own;
                },
          );
        }
      where
        -- a job that ended before that time is before it
        earlier : (n : ℕ) → e ≤ reads i n → {q : ℕ} → RunsOn s tr t i q time due → (early : ℕ) × (early < n) × (stream_of s tr t i early ≡ q)
        earlier n reads_late run =
            let read = within.ended i run.early run.ended run.has in
            let less : run.early < n =
            elim (cases_lt run.early n) [
              | inl less ↦ less
              | inr not_less ↦
                  elim (cases_lt n run.early) [
                    | inr same ↦
                        let eq : n ≡ run.early = omega (arith, same, not_less) in
                        let late = subst (λ k. e ≤ reads i k) eq reads_late in
                        absurd (omega (arith, late, read, run.before, low))
                    | inl sooner ↦
                        let own = ended-before s tr rules obeys t i n run.early run.ended h sooner run.has in
                        absurd (omega (arith, reads_late, within.ended i n own.0 own.1, own.2, run.before, low))
                  ]
            ] in
            (run.early, less, run.early_own)

        -- and one that arrives at its end isn't
        later : (n : ℕ) → ((l : ℕ) → l < n → reads i l < e) → {q : ℕ} → (run : RunsOn s tr t i q time due) → n ≤ run.late
        later n first run =
            elim (cases_lt run.late n) [
              | inl less ↦ absurd (omega (arith, first run.late less, within.arrived i run.late run.there, run.after, high))
              | inr more ↦ more
            ]

    -- a job with room for its bound has ended
    done : (i r k : ℕ) → i < length s.tasks → bound_of x i ≡ Within r → HasJob s tr t i k → arrival_of s tr t i k + r ≤ t → (ended : ℕ) × HasEnded s tr t i k ended × (ended ≤ arrival_of s tr t i k + r)
    done i r k h number has room =
        let it = hold.in_time i r k t h number has room in
        (it.ended, (has, it.is), it.by)

    -- the job that knows of one that has ended
    record Knower (p c : TaskId) (k e : ℕ) : Type 0 where
      job : ℕ
      knows : IsFirstToKnow s tr t reads p k c job
      there : HasJob s tr t c.0 job
      late : e ≤ reads c.0 job

    find-knower : (p c : TaskId) (k e cost : ℕ) → c.0 < length s.tasks → bound_plus (bound_of x p.0) (reading_wait (step_between s p.0 c.0) (wait_of s x c.0)) ≡ Within cost
        → IsRunning s tr t c.0 time due → HasEnded s tr t p.0 k e → time ≤ e → e ≤ due → Knower p c k e
    find-knower p c k e cost hc is running has low high =
        elim (cases_Bool (is_activated_by s p.0 c.0)) [
          | inl activates ↦
              let own = starts-one s tr rules obeys t p c k e hc activates has in
              let at = started-at s tr rules obeys t p c k own.0 hc own.1 in
              let same : e ≡ arrival_of s tr t c.0 own.0 = some-injective e (arrival_of s tr t c.0 own.0) (sym has.1 ∙ at.1) in
              record { job = own.0; knows = inl own.1; there = own.1.0; late = omega (arith, same, within.arrived c.0 own.0 own.1.0) }
          | inr not_so ↦
              let both = add-up (bound_of x p.0) (reading_wait (step_between s p.0 c.0) (wait_of s x c.0)) cost is in
              let register : step_between s p.0 c.0 ≡ Register = rw not_so refl in
              let wait : wait_of s x c.0 ≡ Within both.right = ap (λ step. reading_wait step (wait_of s x c.0)) (sym register) ∙ both.right_is in
              let found = find-first c.0 e hc running low high in
              record {
                job = found.job;
                knows = inr (record { written = e; has = has; first = found.first; goes_on = inr found.follows });
                there = found.first.there;
                late = found.first.late;
              }
        ]

    -- the later of two times
    record Later (a b : ℕ) : Type 0 where
      value : ℕ
      first : a ≤ value
      second : b ≤ value
      least : (n : ℕ) → a ≤ n → b ≤ n → value ≤ n

    later-of : (a b : ℕ) → Later a b
    later-of a b =
        elim (cases_lt a b) [
          | inl less ↦ record { value = b; first = omega (arith, less); second = omega arith; least = λ n one two. two }
          | inr more ↦ record { value = a; first = omega arith; second = more; least = λ n one two. one }
        ]

    -- a job of the task in a place that is the first to know of one before, once it has ended
    record Next (m k limit : ℕ) : Type 0 where
      job : ℕ
      there : HasJob s tr t (task_in tasks (m + 1)).0 job
      late : time ≤ reads (task_in tasks (m + 1)).0 job
      arrives : arrival_of s tr t (task_in tasks (m + 1)).0 job ≤ limit
      knows : (ended : ℕ) → HasEnded s tr t (task_in tasks (m + 1)).0 job ended → ended ≤ due
          → (written : ℕ) × HasEnded s tr t (task_in tasks m).0 k written × (written ≤ due) × IsFirstToKnow s tr t reads (task_in tasks m) k (task_in tasks (m + 1)) job

    -- jobs as far as a place
    record Reached (w m : ℕ) : Type 0 where
      jobs : ℕ → ℕ
      first : IsFirstToRead s tr t reads (task_in tasks 0).0 (jobs 0) time
      follows : FollowsOn s tr t (task_in tasks 0).0 (jobs 0)
      there : HasJob s tr t (task_in tasks m).0 (jobs m)
      late : time ≤ reads (task_in tasks m).0 (jobs m)
      sum : ℕ
      sum_is : sum_bounds (forward reading s x tasks) (range_with_len 0 m) ≡ Within sum
      arrives : arrival_of s tr t (task_in tasks m).0 (jobs m) ≤ time + w + sum
      steps : (ended : ℕ) → HasEnded s tr t (task_in tasks m).0 (jobs m) ended → ended ≤ due
          → (k : ℕ) → k < m → IsFirstToKnow s tr t reads (task_in tasks k) (jobs k) (task_in tasks (k + 1)) (jobs (k + 1))

    module _ (w l : ℕ) (wait : wait_of s x (task_in tasks 0).0 ≡ Within w) (whole : through (forward reading s x tasks) x tasks ≡ Within l) (due_is : due ≡ time + (w + l)) (room : due ≤ t)
        (runs : (k : ℕ) → k < length tasks → IsRunning s tr t (task_in tasks k).0 time due) where
      abbrev last : ℕ
      last = length tasks - 1

      total : AddUp (sum_bounds (forward reading s x tasks) (range_with_len 0 (length tasks - 1))) (bound_of x (last_in tasks).0) l
      total = add-up (sum_bounds (forward reading s x tasks) (range_with_len 0 (length tasks - 1))) (bound_of x (last_in tasks).0) l whole

      inside : (m : ℕ) → m ≤ last → m < length tasks
      inside m le = omega (arith, le, chain.some)

      reached-first : Reached w 0
      reached-first =
          let first : ℕ = (task_in tasks 0).0 in
          let h = there 0 chain.some in
          let found = find-first first time h (runs 0 chain.some) (omega arith) (omega (arith, due_is)) in
          let soon = reads-soon s tr rules obeys t x hold near reads first found.job time w h wait within found.first found.follows in
          record {
            jobs = λ k. found.job;
            first = found.first;
            follows = found.follows;
            there = found.first.there;
            late = found.first.late;
            sum = 0;
            sum_is = refl;
            arrives = omega (arith, soon);
            steps = λ ended has le k less. absurd (omega (arith, less));
          }

      module _ (m k start cost : ℕ) (le : m + 1 ≤ last) (has_job : HasJob s tr t (task_in tasks m).0 k) (late : time ≤ reads (task_in tasks m).0 k) (come : arrival_of s tr t (task_in tasks m).0 k ≤ start)
          (begun : time ≤ start) (fits : start + cost ≤ due) (is : forward reading s x tasks m ≡ Within cost) where
        hp : (task_in tasks m).0 < length s.tasks
        hp = there m (inside m (omega (arith, le)))

        hc : (task_in tasks (m + 1)).0 < length s.tasks
        hc = there (m + 1) (inside (m + 1) le)

        -- one has ended within its bound, and a job knows of it
        next-plain : forward Anywhere s x tasks m ≡ Within cost → Next m k (start + cost)
        next-plain plain =
            let p = task_in tasks m in
            let c = task_in tasks (m + 1) in
            let both = add-up (bound_of x p.0) (reading_wait (step_between s p.0 c.0) (wait_of s x c.0)) cost plain in
            let it = done p.0 both.left k hp both.left_is has_job (omega (arith, come, both.sum, fits, room)) in
            let read = within.ended p.0 k it.0 it.1 in
            let high : it.0 ≤ due = omega (arith, it.2, come, both.sum, fits) in
            let found = find-knower p c k it.0 cost hc plain (runs (m + 1) (inside (m + 1) le)) it.1 (omega (arith, late, read)) high in
            let soon = knows-soon s tr rules obeys t x hold near reads p c k found.job cost hp hc within plain found.knows in
            record {
              job = found.job;
              there = found.there;
              late = omega (arith, late, read, found.late);
              arrives = omega (arith, soon, come);
              knows = λ ended has before. (it.0, it.1, high, found.knows);
            }

        module _ (above : is_above s (task_in tasks m).0 (task_in tasks (m + 1)).0 ≡ true) (by_running : reading ≡ WhileRunning) where
          running : ReadsRunning s tr t reads (task_in tasks (m + 1)).0
          running = runs-of reading s tr t reads tasks by by_running (m + 1) (inside (m + 1) le)

          from : Later (arrival_of s tr t (task_in tasks m).0 k) time
          from = later-of (arrival_of s tr t (task_in tasks m).0 k) time

          low : from.value ≤ start
          low = from.least start come begun

          found : Found (task_in tasks (m + 1)).0 from.value
          found = find-first (task_in tasks (m + 1)).0 from.value hc (runs (m + 1) (inside (m + 1) le)) from.second (omega (arith, low, fits))

          -- or one has ended whenever the next task runs
          next-running : arrival_of s tr t (task_in tasks (m + 1)).0 found.job ≤ start + cost → Next m k (start + cost)
          next-running soon =
              let p = task_in tasks m in
              let c = task_in tasks (m + 1) in
              let u : ℕ = reads c.0 found.job in
              record {
                job = found.job;
                there = found.first.there;
                late = omega (arith, from.second, found.first.late);
                arrives = soon;
                knows = λ ended has before.
                    let read : u ≤ ended = within.ended c.0 found.job ended has in
                    let seen : u ≤ t = omega (arith, read, end-by s tr rules obeys t c.0 found.job ended hc has) in
                    let done_then = ended-then s tr rules obeys p c hp hc (above-is s p.0 c.0 above) t k u has_job (running found.job found.first.there) (omega (arith, from.first, found.first.late)) in
                    let own = end-order s tr rules obeys t p.0 k u hp has_job seen done_then in
                    let not_before = hold.not_before p.0 k t own.0 hp has_job own.1.1 in
                    let not_after : from.value ≤ own.0 = from.least own.0 (omega (arith, not_before)) (omega (arith, late, within.ended p.0 k own.0 own.1)) in (
                      own.0,
                      own.1,
                      omega (arith, own.2, read, before),
                      inr (record {
                        written = own.0;
                        has = own.1;
                        first = record { there = found.first.there; late = own.2; first = λ q less. omega (arith, found.first.first q less, not_after) };
                        goes_on = inr found.follows;
                      }),
                    );
              }

          next-above : wait_of s x (task_in tasks (m + 1)).0 ≡ Within cost → Next m k (start + cost)
          next-above waits_so =
              let soon = reads-soon s tr rules obeys t x hold near reads (task_in tasks (m + 1)).0 found.job from.value cost hc waits_so within found.first found.follows in
              next-running (omega (arith, soon, low))

          -- the job that arrived with it reads late enough
          next-together : (task_at s (task_in tasks m).0).after ≡ (task_at s (task_in tasks (m + 1)).0).after → Next m k (start + cost)
          next-together same =
              let p = task_in tasks m in
              let c = task_in tasks (m + 1) in
              let is_above = above-is s p.0 c.0 above in
              let there_too = is-twin s tr rules obeys p c hp hc is_above same t k has_job in
              let together = arrive-together s tr rules obeys p c hp hc is_above same t k has_job in
              let u : ℕ = reads c.0 k in
              let late_too : time ≤ u =
              elim (cases_lt u time) [
                | inr more ↦ more
                | inl less ↦
                    let own = end-order s tr rules obeys t p.0 k u hp has_job (omega (arith, less, begun, fits, room)) (twin-ended s tr rules obeys p c hp hc is_above same t reads within running k there_too) in
                    absurd (omega (arith, less, own.2, late, within.ended p.0 k own.0 own.1))
              ] in
              let reached_by : from.value ≤ u = from.least u (omega (arith, within.arrived c.0 k there_too, together)) late_too in
              let not_after : found.job ≤ k =
              elim (cases_lt k found.job) [
                | inl less ↦ absurd (omega (arith, found.first.first k less, reached_by))
                | inr more ↦ more
              ] in
              next-running (omega (arith, arrivals-order s tr rules obeys t c.0 found.job k hc there_too not_after, together, come))

        next-in : Next m k (start + cost)
        next-in =
            elim (way-of reading s x tasks m) [
              | inl plain ↦ next-plain (sym plain.forward_is ∙ is)
              | inr from_above ↦
                  elim from_above [
                    | inl way ↦ next-above way.above way.runs (sym way.forward_is ∙ is)
                    | inr way ↦ next-together way.above way.runs way.same
                  ]
            ]

      reached-next : (m : ℕ) → m + 1 ≤ last → Reached w m → Reached w (m + 1)
      reached-next m le before =
          let part = part-of (forward reading s x tasks) last total.left m total.left_is (omega (arith, le)) in
          let same : part.sum ≡ before.sum = within-injective part.sum before.sum (sym part.sum_is ∙ before.sum_is) in
          let next = part.next (omega (arith, le)) in
          let start : ℕ = time + w + before.sum in
          let found = next-in m (before.jobs m) start next.0 le before.there before.late before.arrives (omega arith) (omega (arith, same, next.2, total.sum, due_is)) next.1 in
          let sum_is : sum_bounds (forward reading s x tasks) (range_with_len 0 (m + 1)) ≡ Within (before.sum + next.0) =
          ap (sum_bounds (forward reading s x tasks)) (places-more m) ∙ sum-last (forward reading s x tasks) (range_with_len 0 m) m ∙ (λ i. bound_plus (before.sum_is i) (next.1 i)) in
          let jobs : ℕ → ℕ = λ k. cond (ltb k (m + 1)) (before.jobs k) found.job in
          let old : (k : ℕ) → k < m + 1 → before.jobs k ≡ jobs k = λ k less. ap (λ b. cond b (before.jobs k) found.job) (sym (lt-ltb k (m + 1) less)) in
          let new : found.job ≡ jobs (m + 1) = ap (λ b. cond b (before.jobs (m + 1)) found.job) (sym (le-ltb (m + 1) (m + 1) (omega arith))) in
          record {
            jobs = jobs;
            first = subst (λ k. IsFirstToRead s tr t reads (task_in tasks 0).0 k time) (old 0 (omega arith)) before.first;
            follows = subst (FollowsOn s tr t (task_in tasks 0).0) (old 0 (omega arith)) before.follows;
            there = subst (HasJob s tr t (task_in tasks (m + 1)).0) new found.there;
            late = subst (λ k. time ≤ reads (task_in tasks (m + 1)).0 k) new found.late;
            sum = before.sum + next.0;
            sum_is = sum_is;
            arrives = subst (λ k. arrival_of s tr t (task_in tasks (m + 1)).0 k ≤ time + w + (before.sum + next.0)) new (omega (arith, found.arrives));
            steps = λ ended has early.
                let own = found.knows ended (subst (λ k. HasEnded s tr t (task_in tasks (m + 1)).0 k ended) (sym new) has) early in
                let earlier = before.steps own.0 own.1 own.2 in
                λ k less. one_step m before.jobs earlier found.job own.3 jobs old new k less (cases_lt k m);
          }
        where
          one_step : (m : ℕ) (before : ℕ → ℕ) → ((k : ℕ) → k < m → IsFirstToKnow s tr t reads (task_in tasks k) (before k) (task_in tasks (k + 1)) (before (k + 1)))
              → (job : ℕ) → IsFirstToKnow s tr t reads (task_in tasks m) (before m) (task_in tasks (m + 1)) job → (jobs : ℕ → ℕ)
              → ((k : ℕ) → k < m + 1 → before k ≡ jobs k) → job ≡ jobs (m + 1) → (k : ℕ) → k < m + 1 → (k < m) ⊎ (m ≤ k)
              → IsFirstToKnow s tr t reads (task_in tasks k) (jobs k) (task_in tasks (k + 1)) (jobs (k + 1))
          one_step m before earlier job knows jobs old new k less (inl sooner) =
              subst (λ b. IsFirstToKnow s tr t reads (task_in tasks k) (jobs k) (task_in tasks (k + 1)) b) (old (k + 1) (omega (arith, sooner)))
              (subst (λ a. IsFirstToKnow s tr t reads (task_in tasks k) a (task_in tasks (k + 1)) (before (k + 1))) (old k less) (earlier k sooner))
          one_step m before earlier job knows jobs old new k less (inr here) =
              let e : m ≡ k = omega (arith, less, here) in
              subst (λ n. IsFirstToKnow s tr t reads (task_in tasks n) (jobs n) (task_in tasks (n + 1)) (jobs (n + 1))) e
              (subst (λ b. IsFirstToKnow s tr t reads (task_in tasks m) (jobs m) (task_in tasks (m + 1)) b) new
              (subst (λ a. IsFirstToKnow s tr t reads (task_in tasks m) a (task_in tasks (m + 1)) job) (old m (omega arith)) knows))

      reached : (m : ℕ) → m ≤ last → Reached w m
      reached zero le = reached-first
      reached (suc m) le = let e : m + 1 ≡ suc m = omega arith in subst (Reached w) e (reached-next m (omega (arith, le)) (reached m (omega (arith, le))))

      answered-all : IsAnswered s tr t reads tasks time due
      answered-all =
          let all = reached last (omega arith) in
          let same : all.sum ≡ total.left = within-injective all.sum total.left (sym all.sum_is ∙ total.left_is) in
          let it = done (last_in tasks).0 total.right (all.jobs last) (there last (inside last (omega arith))) total.right_is all.there (omega (arith, all.arrives, same, total.sum, due_is, room)) in
          let high : it.0 ≤ due = omega (arith, it.2, all.arrives, same, total.sum, due_is) in
          record {
            jobs = all.jobs;
            ended = it.0;
            first = all.first;
            follows = all.follows;
            goes = record { steps = λ k less. all.steps it.0 it.1 high k (omega (arith, less)); last = it.1 };
            by = high;
          }

  -- what comes at any time is answered
  pub answers : (r t time : ℕ) (reads : Reads) → reaction_by reading s x tasks ≡ Within r → ReadsBy reading s tr t reads tasks
      → ((k : ℕ) → k < length tasks → IsRunning s tr t (task_in tasks k).0 time (time + r)) → IsAnswered s tr t reads tasks time (time + r)
  unfolding reaction_by latency_by
  answers r t time reads is by runs =
      let both = add-up (wait_of s x (task_in tasks 0).0) (latency_by reading s x tasks) r is in
      let h = there 0 chain.some in
      let v = waits s tr rules obeys t x hold near (task_in tasks 0).0 both.left h both.left_is in
      let run = runs 0 chain.some v.next.place v.inside in
      let seen = arrival-is s tr t (task_in tasks 0).0 run.late run.there in
      answered-all t time (time + r) reads by both.left both.right both.left_is both.right_is (omega (arith, both.sum)) (omega (arith, run.after, seen.1)) runs
