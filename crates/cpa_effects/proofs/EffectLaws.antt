-- Where bounds hold, the bounds of chains do.
use Rattle.std.proofs.Common.{◌≡◌, ℕ, zero, suc, ◌+◌, ◌-◌, ◌<◌, ◌≤◌, List, length, sym, subst, inl, inr, arith}
use Rattle.std.proofs.lemmas.Bool.{cases_lt}
use Rattle.std.specs.List.{range_with_len}
use Rattle.cpa_units.specs.declared.bound.Bound.{Bound}
use Rattle.cpa_units.specs.declared.bound.Bound.TheVariants.{Within}
use Rattle.cpa_units.specs.declared.places.TaskId.{TaskId}
use Rattle.cpa_units.specs.Bounds.{bound_of, sum_bounds}
use Rattle.cpa_model.specs.Rules.{IsSystem}
use Rattle.cpa_model.specs.SystemLists.{SystemLists}
use Rattle.cpa_trace.specs.Trace.{TraceLists, Obeys}
use Rattle.cpa_sound.specs.BoundsHold.{HasJob, arrival_of, stream_of, SourcesStayNear, HoldIn}
use Rattle.cpa_sound.proofs.Soundness.{closed_vectors_bound_every_run, least_solutions_bound_every_run, each_job_has_a_stream}
use Rattle.cpa_effects.specs.declared.steps.Reading.{Reading}
use Rattle.cpa_effects.specs.Bounds.{wait_of, task_in, last_in, forward, through, arrives_after, renewed_after, latency_by, reaction_by, age_by, held_by}
use Rattle.cpa_effects.specs.Effects.{Reads, ReadsBy, HasEnded, FollowsOn, IsFirstToRead, GoesForward, GoesBackward, IsHeld}
use Rattle.cpa_effects.specs.Laws.{IsChain, ChainHolds, HeldBoundsBoundChains, ClosedVectorsBoundChains, LeastSolutionsBoundChains, OneStreamGoesOn, HeldIsReaction}
use Rattle.cpa_effects.proofs.SumLaws.{add-up, climb, plus-joins, arrives-first}
use Rattle.cpa_effects.proofs.JobTimes.{started-at, arrivals-order, ends-soon}
use Rattle.cpa_effects.proofs.StepLaws.{next-soon, reads-soon, overwritten-late, Stands}
use Rattle.cpa_effects.proofs.AboveLaws.{within-of, goes-soon, stands-next}
use Rattle.cpa_effects.proofs.AnswerLaws.{answers}
use Rattle.cpa_effects.proofs.FedLaws.{feeds, fills}

module _ (s : SystemLists) (x : List Bound) (tr : TraceLists) (rules : IsSystem s) (obeys : Obeys s tr) (hold : HoldIn s x tr) (near : SourcesStayNear s tr) (tasks : List TaskId) (chain : IsChain s tasks) where
  there : (k : ℕ) → k < length tasks → (task_in tasks k).0 < length s.tasks
  there k less = chain.there k (record { 0 = 0 }) less

  -- when the job in each place arrives
  abbrev comes : ℕ → (ℕ → ℕ) → ℕ → ℕ
  comes t jobs k = arrival_of s tr t (task_in tasks k).0 (jobs k)

  -- steps that keep their costs, and a last job that ends
  passes : (t : ℕ) (jobs : ℕ → ℕ) (ended r : ℕ) (step : ℕ → Bound) → through step x tasks ≡ Within r
      → ((k c : ℕ) → k + 1 < length tasks → step k ≡ Within c → comes t jobs (k + 1) ≤ comes t jobs k + c)
      → HasEnded s tr t (last_in tasks).0 (jobs (length tasks - 1)) ended → ended ≤ comes t jobs 0 + r
  passes t jobs ended r step is steps last =
      let both = add-up (sum_bounds step (range_with_len 0 (length tasks - 1))) (bound_of x (last_in tasks).0) r is in
      let risen = climb (comes t jobs) step (length tasks - 1) both.left both.left_is (λ k c less cost. steps k c (omega (arith, less)) cost) in
      let h = there (length tasks - 1) (omega (arith, chain.some)) in
      let soon = ends-soon s tr rules obeys t x hold (last_in tasks).0 both.right (jobs (length tasks - 1)) ended h both.right_is last in
      omega (arith, risen, soon, both.sum)

  module _ (reading : Reading) where
    passes-on : (t : ℕ) (reads : Reads) (jobs : ℕ → ℕ) (ended : ℕ) → ReadsBy reading s tr t reads tasks → GoesForward s tr t reads tasks jobs ended
        → (k c : ℕ) → k + 1 < length tasks → forward reading s x tasks k ≡ Within c → comes t jobs (k + 1) ≤ comes t jobs k + c
    passes-on t reads jobs ended by goes k c less cost =
        goes-soon s x tr rules obeys hold near tasks reading t reads by k less (there k (omega (arith, less))) (there (k + 1) less) (jobs k) (jobs (k + 1)) c cost (goes.steps k less)

    first-there : (t : ℕ) (reads : Reads) (jobs : ℕ → ℕ) (ended : ℕ) → GoesBackward s tr t reads tasks jobs ended → HasJob s tr t (task_in tasks 0).0 (jobs 0)
    first-there t reads jobs ended goes =
        elim (cases_lt 1 (length tasks)) [
          | inl more ↦
              elim (goes.steps 0 (omega (arith, more))) [
                | inl started ↦ (started-at s tr rules obeys t (task_in tasks 0) (task_in tasks 1) (jobs 0) (jobs 1) (there 1 more) started).0
                | inr reader ↦ reader.last.has.0
              ]
          | inr one ↦ let e : length tasks - 1 ≡ 0 = omega (arith, one, chain.some) in subst (λ k. HasJob s tr t (task_in tasks k).0 (jobs k)) e goes.last.0
        ]

    -- how the job in each place stands to the arrival of the first
    stands-in : (t : ℕ) (reads : Reads) (jobs : ℕ → ℕ) (ended : ℕ) → ReadsBy reading s tr t reads tasks → GoesBackward s tr t reads tasks jobs ended → (m : ℕ) → m < length tasks
        → Stands s tr rules obeys t x hold near (task_in tasks m).0 (jobs m) (comes t jobs 0) (arrives_after reading s x tasks m) (renewed_after reading s x tasks m)
    stands-in t reads jobs ended by goes zero less =
        let first = first-there t reads jobs ended goes in
        record {
          there = first;
          old_by = λ a is. omega arith;
          renewed_by = λ r b is le amidst.
              let both = add-up (wait_of s x (task_in tasks 0).0) (sum_bounds (forward reading s x tasks) (range_with_len 0 0)) r is in
              let soon = next-soon s tr rules obeys t x hold near (task_in tasks 0).0 b both.left (there 0 less) both.left_is amidst in
              omega (arith, soon.1, arrivals-order s tr rules obeys t (task_in tasks 0).0 b (jobs 0) (there 0 less) first le, both.sum);
          order = λ r is. (0, sym (arrives-first reading s x tasks), omega arith);
        }
    stands-in t reads jobs ended by goes (suc m) less =
        let e : m + 1 ≡ suc m = omega arith in
        let before = stands-in t reads jobs ended by goes m (omega (arith, less)) in
        let inside : m + 1 < length tasks = omega (arith, less) in
        subst (λ i. Stands s tr rules obeys t x hold near (task_in tasks i).0 (jobs i) (comes t jobs 0) (arrives_after reading s x tasks i) (renewed_after reading s x tasks i)) e
        (stands-next s x tr rules obeys hold near tasks reading t reads by m inside (there m (omega (arith, less))) (there (m + 1) inside) (jobs m) (jobs (m + 1)) (comes t jobs 0) before (goes.steps m inside))

    keeps_latency : (r t : ℕ) (reads : Reads) (jobs : ℕ → ℕ) (ended : ℕ) → latency_by reading s x tasks ≡ Within r → ReadsBy reading s tr t reads tasks → GoesForward s tr t reads tasks jobs ended → ended ≤ comes t jobs 0 + r
    unfolding latency_by
    keeps_latency r t reads jobs ended is by goes = passes t jobs ended r (forward reading s x tasks) is (passes-on t reads jobs ended by goes) goes.last

    keeps_reaction : (r t time : ℕ) (reads : Reads) (jobs : ℕ → ℕ) (ended : ℕ) → reaction_by reading s x tasks ≡ Within r → ReadsBy reading s tr t reads tasks
        → IsFirstToRead s tr t reads (task_in tasks 0).0 (jobs 0) time → FollowsOn s tr t (task_in tasks 0).0 (jobs 0) → GoesForward s tr t reads tasks jobs ended → ended ≤ time + r
    unfolding reaction_by
    keeps_reaction r t time reads jobs ended is by first follows goes =
        let within = within-of reading s tr t reads tasks by in
        let both = add-up (wait_of s x (task_in tasks 0).0) (latency_by reading s x tasks) r is in
        let soon = reads-soon s tr rules obeys t x hold near reads (task_in tasks 0).0 (jobs 0) time both.left (there 0 chain.some) both.left_is within first follows in
        let rest = keeps_latency both.right t reads jobs ended both.right_is by goes in
        omega (arith, soon, rest, both.sum)

    keeps_age : (r t : ℕ) (reads : Reads) (jobs : ℕ → ℕ) (ended : ℕ) → age_by reading s x tasks ≡ Within r → ReadsBy reading s tr t reads tasks → GoesBackward s tr t reads tasks jobs ended → ended ≤ comes t jobs 0 + r
    unfolding age_by
    keeps_age r t reads jobs ended is by goes =
        let both = add-up (arrives_after reading s x tasks (length tasks - 1)) (bound_of x (last_in tasks).0) r is in
        let inside : length tasks - 1 < length tasks = omega (arith, chain.some) in
        let it = stands-in t reads jobs ended by goes (length tasks - 1) inside in
        let soon = ends-soon s tr rules obeys t x hold (last_in tasks).0 both.right (jobs (length tasks - 1)) ended (there (length tasks - 1) inside) both.right_is goes.last in
        omega (arith, it.old_by both.left both.left_is, soon, both.sum)

    keeps_held : (r t time : ℕ) (reads : Reads) (jobs : ℕ → ℕ) → held_by reading s x tasks ≡ Within r → ReadsBy reading s tr t reads tasks → time ≤ t → IsHeld s tr t reads tasks jobs time → time ≤ comes t jobs 0 + r
    unfolding held_by
    keeps_held r t time reads jobs is by seen held =
        let both = add-up (renewed_after reading s x tasks (length tasks - 1)) (bound_of x (last_in tasks).0) r is in
        let inside : length tasks - 1 < length tasks = omega (arith, chain.some) in
        let it = stands-in t reads jobs held.ended by held.goes (length tasks - 1) inside in
        let late = overwritten-late s tr rules obeys t x hold near (last_in tasks).0 (jobs (length tasks - 1)) both.right time (there (length tasks - 1) inside) both.right_is seen held.last held.amidst in
        omega (arith, it.renewed_by both.left (jobs (length tasks - 1)) both.left_is (omega arith) held.amidst, late, both.sum)

    pub holds : ChainHolds reading s x tr tasks
    holds = record {
      latency = keeps_latency;
      reaction = keeps_reaction;
      answered = answers s x tr rules obeys hold near tasks chain reading;
      age = keeps_age;
      fed = feeds s x tr rules obeys hold near tasks chain reading;
      held = keeps_held;
      filled = fills s x tr rules obeys hold near tasks chain reading;
    }

-- ---- the laws

pub held_bounds_bound_chains : HeldBoundsBoundChains
held_bounds_bound_chains s x rules bounds tr obeys near tasks chain = holds s x tr rules obeys (bounds tr obeys) near tasks chain

pub closed_vectors_bound_chains : ClosedVectorsBoundChains
closed_vectors_bound_chains s x rules closed = held_bounds_bound_chains s x rules (closed_vectors_bound_every_run s x rules closed)

pub least_solutions_bound_chains : LeastSolutionsBoundChains
least_solutions_bound_chains s x rules least = held_bounds_bound_chains s x rules (least_solutions_bound_every_run s x rules least)

pub one_stream_goes_on : OneStreamGoesOn
one_stream_goes_on s tr rules obeys t i k h one has q less =
    let own : (l : ℕ) → HasJob s tr t i l → stream_of s tr t i l ≡ q =
    λ l there. omega (arith, (each_job_has_a_stream s tr rules obeys t i l h there).0, one, less) in
    record {
      before = k;
      is_before = omega arith;
      before_own = own k (omega (arith, has));
      after = k + 1;
      is_after = omega arith;
      there = has;
      after_own = own (k + 1) has;
    }

pub held_is_reaction : HeldIsReaction
unfolding reaction_by latency_by held_by
held_is_reaction reading s x tasks = sym (plus-joins (wait_of s x (task_in tasks 0).0) (sum_bounds (forward reading s x tasks) (range_with_len 0 (length tasks - 1))) (bound_of x (last_in tasks).0))
