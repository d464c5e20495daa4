-- Each generated trace can be replayed.
use Rattle.std.proofs.Common.{◌≡◌, ◌<◌, ◌≤◌, ℕ, ◌+◌, ◌*◌, ◌%◌, ◌==◌, if◌then◌else◌, Bool, true, false, List, [], All, length, slice_index_or, refl, sym, ap, subst, arith, inl, inr}
use Rattle.std.proofs.lemmas.Bool.{cases_lt}
use Rattle.std.proofs.lemmas.List.{get_or_past, length-replicate}
use Rattle.std.proofs.lemmas.List.Sums.{sum_by-le}
use Rattle.std.proofs.Math.Nat.{le_trans, mod-lt}
use Rattle.cpa_units.specs.declared.limits.TheConstants.{MAX_PHASE, MAX_TRACE_JOBS, MAX_TRACE_TIME}
use Rattle.cpa_units.specs.Numbers.{IsExecution}
use Rattle.cpa_units.specs.declared.places.SourceId.{SourceId}
use Rattle.cpa_model.specs.SystemLists.{SystemLists, no_source, no_task, source_at, streams_of, task_at, task_places}
use Rattle.cpa_model.specs.Rules.{IsSystem}
use Rattle.cpa_trace.specs.Trace.{FitsSystem, TraceLists, executions_of, phase_of, time_of, times_of}
use Rattle.cpa_trace.specs.Reading.{jobs_of, task_jobs}
use Rattle.cpa_sim.specs.Outcome.{CanReplay}
use Rattle.rand_pcg.specs.Lcg.{Lcg}
use Rattle.cpa_gen.specs.declared.traces.Lateness.{Lateness}
use Rattle.cpa_gen.specs.Draws.{draw, generator, output}
use Rattle.cpa_gen.specs.MadeTraces.{before_resource, before_source, before_task, drawn_trace, events_made, executions_drawn, has_phase, jobs_made, late_by, late_drawn, lateness_made, made_trace, phase_drawn, phases_of, time_made, times_made, worst_trace, most_made}
use Rattle.cpa_gen.proofs.ListLaws.{table, table_at, table_length}
use Rattle.cpa_gen.proofs.MostLaws.{most_made-jobs, sums-scaled}
use Rattle.cpa_gen.proofs.TimeLaws.{IsLate, few_made, in_time, late_by-within, late_drawn-within, time-within}
use Rattle.cpa_gen.proofs.ObeyLaws.{all_executions, below, drawn_is, drawn_lists, execution_is, no_job, no_phases, nothing, phase_cycle, worst_is, worst_lists}

module _ (s : SystemLists) (kept : IsSystem s) (lates : ℕ → ℕ → ℕ) (within : (j : ℕ) → IsLate (source_at s j) (lates j)) where
  abbrev all_times : List (List ℕ)
  all_times = table (λ j. times_made (most_made s) (source_at s j) (lates j)) (length s.sources)

  there : (j : ℕ) → j < length s.sources → slice_index_or all_times j [] ≡ times_made (most_made s) (source_at s j) (lates j)
  there j l = table_at (λ j. times_made (most_made s) (source_at s j) (lates j)) (length s.sources) j [] l

  past : (j : ℕ) → length s.sources ≤ j → slice_index_or all_times j [] ≡ []
  past j l = get_or_past all_times j [] (omega (arith, l, table_length (λ j. times_made (most_made s) (source_at s j) (lates j)) (length s.sources)))

  abbrev AreTimes : List ℕ → Type 0
  AreTimes times = (n : ℕ) → n < length times → slice_index_or times n 0 ≤ MAX_TRACE_TIME

  made-times : (j : ℕ) → j < length s.sources → AreTimes (times_made (most_made s) (source_at s j) (lates j))
  made-times j l n m =
      let r = source_at s j in
      let known = kept.sources j no_source l in
      let long = table_length (time_made r (lates j)) (events_made (most_made s) r) in
      let less : n < events_made (most_made s) r = omega (arith, m, long) in
      let here = table_at (time_made r (lates j)) (events_made (most_made s) r) n 0 less in
      omega (arith, here, time-within r known (lates j) (within j) n, in_time (most_made s) r known n less)

  all-times : (j : ℕ) → AreTimes (slice_index_or all_times j [])
  all-times j = elim (cases_lt j (length s.sources)) [
    | inl l ↦ subst AreTimes (sym (there j l)) (made-times j l)
    | inr l ↦ subst AreTimes (sym (past j l)) (λ n m. absurd (omega (arith, m)))
  ]

  all-few : (j : ℕ) → length (slice_index_or all_times j []) ≤ most_made s
  all-few j = elim (cases_lt j (length s.sources)) [
    | inl l ↦
        let long = ap length (there j l) in
        omega (arith, long, table_length (time_made (source_at s j) (lates j)) (events_made (most_made s) (source_at s j)), few_made (most_made s) (source_at s j))
    | inr l ↦ let none = ap length (past j l) in omega (arith, none)
  ]

  pub in-time : (tr : TraceLists) → tr.times ≡ all_times → (k n : ℕ) → n < length (times_of tr k) → time_of tr k n ≤ MAX_TRACE_TIME
  in-time tr e k = subst (λ ts. AreTimes (slice_index_or ts k [])) (sym e) (all-times k)

  few-task_jobs : (tr : TraceLists) → tr.times ≡ all_times → (i : ℕ) → task_jobs s tr i ≤ most_made s * length (streams_of s i)
  few-task_jobs tr e i =
      let each : All (λ (k : SourceId). length (times_of tr k.0) ≤ most_made s) (streams_of s i) = λ k d m. rw e (all-few (slice_index_or (streams_of s i) k d).0) in
      omega (arith, sum_by-le (λ (k : SourceId). length (times_of tr k.0)) (most_made s) (streams_of s i) each)

  pub few-jobs : (tr : TraceLists) → tr.times ≡ all_times → jobs_of s tr ≤ MAX_TRACE_JOBS
  few-jobs tr e =
      let all = sums-scaled (most_made s) (task_jobs s tr) (λ i. length (streams_of s i)) (few-task_jobs tr e) (task_places s) in
      le_trans all (most_made-jobs s)

-- even numbers

worst_trace-fits : (s : SystemLists) (late : Lateness) → FitsSystem s (worst_lists s late)
worst_trace-fits s late = record {
  sources = table_length (λ j. times_made (most_made s) (source_at s j) (late_by late (source_at s j))) (length s.sources);
  tasks = length-replicate (length s.tasks) nothing;
  resources = length-replicate (length s.resources) 0;
}

pub worst_trace-replays : (s : SystemLists) (late : Lateness) → IsSystem s → CanReplay s (worst_trace s late)
worst_trace-replays s late kept = subst (CanReplay s) (sym (worst_is s late)) (record {
  fits = worst_trace-fits s late;
  times = in-time s kept (λ j. late_by late (source_at s j)) (λ j. late_by-within late (source_at s j)) (worst_lists s late) refl;
  executions = λ i k m. absurd (no_job (length s.tasks) i k m);
  phases = λ r gap e l. let z = no_phases (length s.resources) r in omega (arith, z);
  few = few-jobs s kept (λ j. late_by late (source_at s j)) (λ j. late_by-within late (source_at s j)) (worst_lists s late) refl;
})

-- odd numbers

drawn_trace-fits : (s : SystemLists) (g : Lcg) → FitsSystem s (drawn_lists s g)
drawn_trace-fits s g = record {
  sources = table_length (λ j. times_made (most_made s) (source_at s j) (late_drawn g (before_source s j) (source_at s j))) (length s.sources);
  tasks = table_length (λ i. executions_drawn g (before_task s i) (task_at s i) (jobs_made s i)) (length s.tasks);
  resources = table_length (phase_drawn s g) (length s.resources);
}

drawn-executions : (s : SystemLists) (g : Lcg) → IsSystem s → (i k : ℕ) → k < length (executions_of (drawn_lists s g) i) → IsExecution (slice_index_or (executions_of (drawn_lists s g) i) k 0)
drawn-executions s g kept i k m = elim (cases_lt i (length s.tasks)) [
  | inl l ↦
      let task = kept.tasks i no_task l in
      let is = execution_is s g i k 0 l m in
      let most = below (task_at s i).best (task_at s i).worst (output g (before_task s i + k)) task.ordered in
      record { some = omega (arith, is, task.some_best); small = omega (arith, is, most, task.worst) }
  | inr l ↦
      let none = get_or_past (all_executions s g) i nothing (omega (arith, l, table_length (λ i. executions_drawn g (before_task s i) (task_at s i) (jobs_made s i)) (length s.tasks))) in
      let short = ap length none in
      absurd (omega (arith, m, short))
]

drawn-phase : (s : SystemLists) (g : Lcg) → IsSystem s → (r : ℕ) → r < length s.resources → phase_drawn s g r ≤ MAX_PHASE
drawn-phase s g kept r l = by_draw (has_phase s r) refl
  where
    by_draw : (b : Bool) → has_phase s r ≡ b → (if b then draw g (before_resource s r) (phases_of s r) else 0) ≤ MAX_PHASE
    by_draw true e =
        let less : draw g (before_resource s r) (phases_of s r) < phases_of s r = mod-lt (output g (before_resource s r)) (omega (arith, phase_cycle s kept r e)) in
        omega (arith, less)
    by_draw false e = omega arith

drawn-phases : (s : SystemLists) (g : Lcg) → IsSystem s → (r : ℕ) → phase_of (drawn_lists s g) r ≤ MAX_PHASE
drawn-phases s g kept r = elim (cases_lt r (length s.resources)) [
  | inl l ↦ let here = table_at (phase_drawn s g) (length s.resources) r 0 l in omega (arith, here, drawn-phase s g kept r l)
  | inr l ↦ let none = get_or_past (table (phase_drawn s g) (length s.resources)) r 0 (omega (arith, l, table_length (phase_drawn s g) (length s.resources))) in omega (arith, none)
]

pub drawn_trace-replays : (s : SystemLists) (g : Lcg) → IsSystem s → CanReplay s (drawn_trace s g)
drawn_trace-replays s g kept = subst (CanReplay s) (sym (drawn_is s g)) (record {
  fits = drawn_trace-fits s g;
  times = in-time s kept (λ j. late_drawn g (before_source s j) (source_at s j)) (λ j. late_drawn-within g (before_source s j) (source_at s j)) (drawn_lists s g) refl;
  executions = drawn-executions s g kept;
  phases = λ r gap e l. drawn-phases s g kept r;
  few = few-jobs s kept (λ j. late_drawn g (before_source s j) (source_at s j)) (λ j. late_drawn-within g (before_source s j) (source_at s j)) (drawn_lists s g) refl;
})

if_even : (s : SystemLists) (late : Lateness) (g : Lcg) (b : Bool) → IsSystem s → CanReplay s (if b then worst_trace s late else drawn_trace s g)
if_even s late g true kept = worst_trace-replays s late kept
if_even s late g false kept = drawn_trace-replays s g kept

-- each generated trace can be replayed
pub made_traces_replay : (s : SystemLists) (number k : ℕ) → IsSystem s → CanReplay s (made_trace s number k)
made_traces_replay s number k kept = if_even s (lateness_made s number k) (generator number k) (k % 2 == 0) kept
