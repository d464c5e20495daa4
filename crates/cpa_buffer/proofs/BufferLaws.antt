-- Where bounds hold, no more jobs are ever pending than the buffers have room for.
use Rattle.std.proofs.Common.{◌≡◌, ℕ, suc, ◌+◌, ◌-◌, ◌<◌, ◌≤◌, max, length, List, [], ◌∷◌, get_or, true, false, cond, Option, Some, None, refl, sym, ◌∙◌, inl, inr, arith, subst}
use Rattle.std.specs.Prelude.{count_by, sum_by, fold}
use Rattle.std.specs.List.{AllByRecursion, range_with_len}
use Rattle.std.proofs.lemmas.Bool.{cases_lt, cases_Bool, false≢true}
use Rattle.std.proofs.lemmas.List.Sums.{sum_by-cons}
use Rattle.cpa_units.specs.declared.bound.Bound.{Bound}
use Rattle.cpa_units.specs.declared.bound.Bound.TheVariants.{Within, Overload}
use Rattle.cpa_units.specs.Bounds.{IsAtMost, bound_of, bound_plus, sum_bounds}
use Rattle.cpa_events.specs.Events.{Model, eta_plus, IsModel}
use Rattle.cpa_events.proofs.EventLaws.{eta_plus-reaches}
use Rattle.cpa_window.specs.Rivals.{IsInput}
use Rattle.cpa_model.specs.SystemLists.{SystemLists}
use Rattle.cpa_model.specs.Rules.{IsSystem}
use Rattle.cpa_local.specs.Inputs.{input}
use Rattle.cpa_local.proofs.ResponseLaws.{input-is_input}
use Rattle.cpa_trace.specs.Trace.{TraceLists}
use Rattle.cpa_model.specs.SystemLists.{tasks_on}
use Rattle.cpa_sched.specs.States.{IsOn}
use Rattle.cpa_sim.specs.Run.{no_job, Progress, is_unset, is_open, run}
use Rattle.cpa_sim.specs.Outcome.{end_of}
use Rattle.cpa_sched.proofs.StepLaws.{tasks_on-are}
use Rattle.cpa_sound.specs.BoundsHold.{job_at, HasJob, HoldIn}
use Rattle.cpa_sound.proofs.FieldLaws.{arrival-is}
use Rattle.cpa_sound.proofs.Soundness.{closed_vectors_bound_every_run, least_solutions_bound_every_run}
use Rattle.cpa_buffer.specs.Buffers.{buffer_at, buffer_of, buffer_on, pending_at, pending_on, highest, peak_of, peak_on}
use Rattle.cpa_buffer.specs.Laws.{HeldBoundsBoundBuffers, ClosedVectorsBoundBuffers, LeastSolutionsBoundBuffers}
use Rattle.cpa_buffer.proofs.WorkLaws.{work-done}

-- ---- the first job that isn't complete, where there is one

-- a place in a list of jobs from which on all that aren't complete stand
record FirstOpen (jobs : List Progress) : Type 0 where
  place : ℕ
  opened : is_open (get_or jobs place no_job) ≡ true
  room : place + count_by is_open jobs ≤ length jobs

counted-open : (job : Progress) (jobs : List Progress) → is_open job ≡ true → count_by is_open (job ∷ jobs) ≡ 1 + count_by is_open jobs
counted-open job jobs e = sum_by-cons (λ j. cond (is_open j) 1 0) job jobs ∙ rw e refl

counted-closed : (job : Progress) (jobs : List Progress) → is_open job ≡ false → count_by is_open (job ∷ jobs) ≡ 0 + count_by is_open jobs
counted-closed job jobs e = sum_by-cons (λ j. cond (is_open j) 1 0) job jobs ∙ rw e refl

count-le : (jobs : List Progress) → count_by is_open jobs ≤ length jobs
count-le [] = omega arith
count-le (job ∷ jobs) =
    elim (cases_Bool (is_open job)) [
      | inl here ↦ omega (arith, counted-open job jobs here, count-le jobs)
      | inr closed ↦ omega (arith, counted-closed job jobs closed, count-le jobs)
    ]

first-open : (jobs : List Progress) → 0 < count_by is_open jobs → FirstOpen jobs
first-open [] some = absurd (omega arith)
first-open (job ∷ jobs) some =
    elim (cases_Bool (is_open job)) [
      | inl here ↦ record { place = 0; opened = here; room = omega (arith, counted-open job jobs here, count-le jobs) }
      | inr closed ↦
          let e = counted-closed job jobs closed in
          let rest = first-open jobs (omega (arith, e, some)) in
          record { place = suc rest.place; opened = rest.opened; room = omega (arith, e, rest.room) }
    ]

open-none : (o : Option ℕ) → is_unset o ≡ true → o ≡ None
open-none None e = refl
open-none (Some t) e = absurd (false≢true e)

-- ---- one task

module _ (s : SystemLists) (x : List Bound) (tr : TraceLists) (hold : HoldIn s x tr) where
  -- it arrived less than its bound ago, and the last of them no later than now: they all are events of one such window
  pending-fit : (t i b : ℕ) (m : Model) → i < length s.tasks → IsModel m → bound_of x i ≡ Within b → input s x i ≡ Some m
      → count_by is_open ((run s tr t).jobs i) ≤ eta_plus m b
  pending-fit t i b m there regular number bounded =
      let n : ℕ = count_by is_open ((run s tr t).jobs i) in
      elim (cases_lt 0 n) [
        | inr none ↦ omega (arith, none)
        | inl some ↦
            let first = first-open ((run s tr t).jobs i) some in
            let k : ℕ = first.place in
            let has : HasJob s tr t i k = omega (arith, first.room, some) in
            let has' : HasJob s tr t i (k + (n - 1)) = omega (arith, first.room, some) in
            let e : (n - 1) + 1 ≡ n = omega (arith, some) in
            let recent : t < (job_at s tr t i k).arrival + b =
            elim (cases_lt t ((job_at s tr t i k).arrival + b)) [
              | inl soon ↦ soon
              | inr past ↦
                  let done = hold.in_time i b k t there number has past in
                  let both = sym (open-none (job_at s tr t i k).end first.opened) ∙ done.is in
                  cc
            ] in
            let far = rw e at (hold.apart i k (n - 1) t m there bounded has') in
            let now = (arrival-is s tr t i (k + (n - 1)) has').1 in
            eta_plus-reaches m n b regular (omega (arith, far, now, recent))
      ]

  suffices : (t i : ℕ) → IsSystem s → i < length s.tasks → (b : Bound) → bound_of x i ≡ b → (m : Option Model) → input s x i ≡ m
      → IsAtMost (Within (count_by is_open ((run s tr t).jobs i))) (buffer_at b m)
  suffices t i rules there Overload number m bounded = tt
  suffices t i rules there (Within b) number None bounded = tt
  suffices t i rules there (Within b) number (Some m) bounded =
      let regular : IsModel m = subst IsInput bounded (input-is_input s x rules i there) in
      pending-fit t i b m there regular number bounded

  pub task-suffices : IsSystem s → (t i : ℕ) → i < length s.tasks → IsAtMost (Within (pending_at s tr t i)) (buffer_of s x i)
  unfolding pending_at buffer_of
  task-suffices rules t i there = suffices t i rules there (bound_of x i) refl (input s x i) refl

-- ---- all tasks of a resource

plus-fit : (a c : ℕ) (b d : Bound) → IsAtMost (Within a) b → IsAtMost (Within c) d → IsAtMost (Within (a + c)) (bound_plus b d)
plus-fit a c (Within b) (Within d) h g = omega (arith, h, g)
plus-fit a c (Within b) Overload h g = tt
plus-fit a c Overload d h g = tt

sum-fits : (f : ℕ → ℕ) (g : ℕ → Bound) (js : List ℕ) → AllByRecursion (λ j. IsAtMost (Within (f j)) (g j)) js → IsAtMost (Within (sum_by f js)) (sum_bounds g js)
sum-fits f g [] all = omega arith
sum-fits f g (j ∷ js) all = rw (sum_by-cons f j js) (plus-fit (f j) (sum_by f js) (g j) (sum_bounds g js) all.0 (sum-fits f g js all.1))

all-map : (P Q : ℕ → Type 0) (js : List ℕ) → ((j : ℕ) → P j → Q j) → AllByRecursion P js → AllByRecursion Q js
all-map P Q [] f all = tt
all-map P Q (j ∷ js) f all = (f j all.0, all-map P Q js f all.1)

pub resource-suffices : (s : SystemLists) (x : List Bound) (tr : TraceLists) → HoldIn s x tr → IsSystem s → (t r : ℕ) → IsAtMost (Within (pending_on s tr t r)) (buffer_on s x r)
unfolding pending_on buffer_on
resource-suffices s x tr hold rules t r =
    sum-fits (pending_at s tr t) (buffer_of s x) (tasks_on s r)
    (all-map (IsOn s r) (λ j. IsAtMost (Within (pending_at s tr t j)) (buffer_of s x j)) (tasks_on s r) (λ j on. task-suffices s x tr hold rules t j on.task) (tasks_on-are s r))

-- ---- the greatest of them

max-fits : (a c : ℕ) (b : Bound) → IsAtMost (Within a) b → IsAtMost (Within c) b → IsAtMost (Within (max a c)) b
max-fits a c (Within b) h g = omega (arith, h, g)
max-fits a c Overload h g = tt

zero-fits : (b : Bound) → IsAtMost (Within 0) b
zero-fits (Within b) = omega arith
zero-fits Overload = tt

fold-fits : (f : ℕ → ℕ) (b : Bound) (so_far : ℕ) (ts : List ℕ) → IsAtMost (Within so_far) b → ((t : ℕ) → IsAtMost (Within (f t)) b) → IsAtMost (Within (fold (λ most t. max most (f t)) so_far ts)) b
fold-fits f b so_far [] h all = h
fold-fits f b so_far (t ∷ ts) h all = fold-fits f b (max so_far (f t)) ts (max-fits so_far (f t) b h (all t)) all

greatest-fits : (f : ℕ → ℕ) (b : Bound) (last : ℕ) → ((t : ℕ) → IsAtMost (Within (f t)) b) → IsAtMost (Within (highest f last)) b
greatest-fits f b last all = fold-fits f b 0 (range_with_len 0 (last + 1)) (zero-fits b) all

pub task-peaks : (s : SystemLists) (x : List Bound) (tr : TraceLists) → HoldIn s x tr → IsSystem s → (i : ℕ) → i < length s.tasks → IsAtMost (Within (peak_of s tr i)) (buffer_of s x i)
unfolding peak_of
task-peaks s x tr hold rules i there = greatest-fits (λ t. pending_at s tr t i) (buffer_of s x i) (end_of s tr) (λ t. task-suffices s x tr hold rules t i there)

pub resource-peaks : (s : SystemLists) (x : List Bound) (tr : TraceLists) → HoldIn s x tr → IsSystem s → (r : ℕ) → IsAtMost (Within (peak_on s tr r)) (buffer_on s x r)
unfolding peak_on
resource-peaks s x tr hold rules r = greatest-fits (λ t. pending_on s tr t r) (buffer_on s x r) (end_of s tr) (λ t. resource-suffices s x tr hold rules t r)

-- ---- the laws

pub held_bounds_bound_buffers : HeldBoundsBoundBuffers
held_bounds_bound_buffers s x rules holds tr obeys =
    let hold = holds tr obeys in
    record {
      task = λ t i there. task-suffices s x tr hold rules t i there;
      resource = λ t r. resource-suffices s x tr hold rules t r;
      task_peak = λ i there. task-peaks s x tr hold rules i there;
      resource_peak = λ r. resource-peaks s x tr hold rules r;
      work = λ t r. work-done s x tr hold t r;
    }

pub closed_vectors_bound_buffers : ClosedVectorsBoundBuffers
closed_vectors_bound_buffers s x rules closed = held_bounds_bound_buffers s x rules (closed_vectors_bound_every_run s x rules closed)

pub least_solutions_bound_buffers : LeastSolutionsBoundBuffers
least_solutions_bound_buffers s x rules least = held_bounds_bound_buffers s x rules (least_solutions_bound_every_run s x rules least)
