-- Each generated trace obeys its system.
use Rattle.std.proofs.Common.{◌≡◌, ◌<◌, ◌≤◌, ℕ, ◌+◌, ◌-◌, ◌%◌, ◌==◌, if◌then◌else◌, Bool, true, false, List, [], replicate, length, slice_index_or, refl, sym, ap, ◌∙◌, subst, arith, rules, ◌⊎◌, inl, inr}
use Rattle.std.proofs.lemmas.Bool.{cases_lt}
use Rattle.std.proofs.lemmas.Bool.Decides.{Decides-eqb}
use Rattle.std.proofs.lemmas.List.{get_or_default, get_or_past, get_or-replicate, length-replicate}
use Rattle.std.proofs.Math.Nat.{mod-lt}
use Rattle.cpa_events.specs.Streams.{stream_delta_minus}
use Rattle.cpa_model.specs.declared.entries.Kind.{Kind}
use Rattle.cpa_model.specs.declared.entries.Kind.TheVariants.{Can, Ceiling, Fifo, Preemptive, RoundRobin, Tdma}
use Rattle.cpa_model.specs.declared.entries.Turn.{Turn}
use Rattle.cpa_model.specs.declared.entries.Turn.TheVariants.{Priority, Slot, Queued}
use Rattle.cpa_model.specs.Streams.{source_stream}
use Rattle.cpa_model.specs.SystemLists.{SystemLists, cycle_of, no_source, no_task, resource_of, slot_of, resource_at, source_at, task_at}
use Rattle.cpa_model.specs.Rules.{IsSystem, TurnFits}
use Rattle.cpa_local.proofs.CycleLaws.{slot-in_cycle}
use Rattle.std.proofs.lemmas.List.Folds.{Any-from_list_any}
use Rattle.cpa_model.specs.declared.entries.Task.{Task}
use Rattle.cpa_trace.specs.Breaches.{has_tasks, is_tdma}
use Rattle.cpa_trace.specs.Trace.{IsOrdered, IsTrace, KeepsClock, Obeys, TraceLists, time_of, times_of}
use Rattle.rand_pcg.specs.Lcg.{Lcg}
use Rattle.cpa_gen.specs.declared.traces.Lateness.{Lateness}
use Rattle.cpa_gen.specs.Draws.{draw, generator, output}
use Rattle.cpa_gen.specs.MadeTraces.{before_resource, before_source, before_task, begin_made, drawn_trace, events_made, executions_drawn, time_made, has_phase, jobs_made, late_by, late_drawn, lateness_made, made_trace, phase_drawn, phases_of, times_made, worst_trace, most_made}
use Rattle.cpa_gen.proofs.ListLaws.{both, table, table_at, table_length}
use Rattle.cpa_gen.proofs.TimeLaws.{IsLate, late_by-within, late_drawn-within, time-from, time-within}
use Rattle.cpa_gen.proofs.ApartLaws.{listed_apart, listed_at, listed_ordered}

module _ (s : SystemLists) (kept : IsSystem s) (lates : ℕ → ℕ → ℕ) (within : (j : ℕ) → IsLate (source_at s j) (lates j)) where
  abbrev all_times : List (List ℕ)
  all_times = table (λ j. times_made (most_made s) (source_at s j) (lates j)) (length s.sources)

  there : (j : ℕ) → j < length s.sources → slice_index_or all_times j [] ≡ times_made (most_made s) (source_at s j) (lates j)
  there j l = table_at (λ j. times_made (most_made s) (source_at s j) (lates j)) (length s.sources) j [] l

  past : (j : ℕ) → length s.sources ≤ j → slice_index_or all_times j [] ≡ []
  past j l = get_or_past all_times j [] (omega (arith, l, table_length (λ j. times_made (most_made s) (source_at s j) (lates j)) (length s.sources)))

  all_ordered : (j : ℕ) → IsOrdered (slice_index_or all_times j [])
  all_ordered j = by_place (cases_lt j (length s.sources))
    where
      by_place : (j < length s.sources) ⊎ (length s.sources ≤ j) → IsOrdered (slice_index_or all_times j [])
      by_place (inl l) = subst IsOrdered (sym (there j l)) (λ n m. listed_ordered (most_made s) (source_at s j) (kept.sources j no_source l) (lates j) (within j) n m)
      by_place (inr l) = subst IsOrdered (sym (past j l)) (λ n m. absurd (omega (arith, m)))

  abbrev IsApart : ℕ → List ℕ → Type 0
  IsApart j times = (n gap : ℕ) → n + gap < length times → slice_index_or times n 0 + stream_delta_minus (source_stream s j) (gap + 1) ≤ slice_index_or times (n + gap) 0

  all_apart : (j : ℕ) → IsApart j (slice_index_or all_times j [])
  all_apart j = by_place (cases_lt j (length s.sources))
    where
      by_place : (j < length s.sources) ⊎ (length s.sources ≤ j) → IsApart j (slice_index_or all_times j [])
      by_place (inl l) = subst (IsApart j) (sym (there j l)) (λ n gap m. listed_apart (most_made s) (source_at s j) (kept.sources j no_source l) (lates j) (within j) n gap m)
      by_place (inr l) = subst (IsApart j) (sym (past j l)) (λ n gap m. absurd (omega (arith, m)))

  pub times_order : (tr : TraceLists) → tr.times ≡ all_times → IsTrace tr
  times_order tr e = record { ordered = λ k. subst (λ ts. IsOrdered (slice_index_or ts k [])) (sym e) (all_ordered k) }

  pub times_apart : (tr : TraceLists) → tr.times ≡ all_times → (k n gap : ℕ) → n + gap < length (times_of tr k)
      → time_of tr k n + stream_delta_minus (source_stream s k) (gap + 1) ≤ time_of tr k (n + gap)
  times_apart tr e k = subst (λ ts. IsApart k (slice_index_or ts k [])) (sym e) (all_apart k)

  -- each event comes within the jitter after its period's begin
  abbrev IsPunctual : ℕ → List ℕ → Type 0
  IsPunctual j times = (n : ℕ) → n < length times
      → (begin_made (source_at s j) n ≤ slice_index_or times n 0) × (slice_index_or times n 0 ≤ begin_made (source_at s j) n + (source_at s j).jitter)

  made_punctual : (j : ℕ) → j < length s.sources → IsPunctual j (times_made (most_made s) (source_at s j) (lates j))
  made_punctual j l n m =
      let r = source_at s j in
      let known = kept.sources j no_source l in
      let less : n < events_made (most_made s) r = rw (table_length (time_made r (lates j)) (events_made (most_made s) r)) at m in
      rw (listed_at (most_made s) r known (lates j) (within j) n less)
      (time-from r known (lates j) (within j) n, time-within r known (lates j) (within j) n)

  all_punctual : (j : ℕ) → IsPunctual j (slice_index_or all_times j [])
  all_punctual j = by_place (cases_lt j (length s.sources))
    where
      by_place : (j < length s.sources) ⊎ (length s.sources ≤ j) → IsPunctual j (slice_index_or all_times j [])
      by_place (inl l) = subst (IsPunctual j) (sym (there j l)) (made_punctual j l)
      by_place (inr l) = subst (IsPunctual j) (sym (past j l)) (λ n m. absurd (omega (arith, m)))

  -- the clocks start at 0
  pub times_punctual : (tr : TraceLists) → tr.times ≡ all_times → (c : ℕ) → KeepsClock s tr c
  times_punctual tr e c =
      let punctual : (k : ℕ) → IsPunctual k (times_of tr k) = λ k. subst (λ ts. IsPunctual k (slice_index_or ts k [])) (sym e) (all_punctual k) in
      record {
        lead = 0;
        before = λ _. 0;
        not_early = λ k n on m. omega (arith, (punctual k n m).0);
        not_late = λ k n on m. omega (arith, (punctual k n m).1);
      }

-- a cycle with a task has at least its slot
some_slot : (gap : ℕ) (t : Turn) → TurnFits (Tdma gap) t → 1 ≤ slot_of t
some_slot gap (Slot ticks) fits = fits.0
some_slot gap (Priority number) fits = absurd fits
some_slot gap Queued fits = absurd fits

some_cycle : (s : SystemLists) → IsSystem s → (i gap : ℕ) → i < length s.tasks → (resource_of s i).kind ≡ Tdma gap → 0 < cycle_of s (task_at s i).res.0
some_cycle s kept i gap l e =
    let fits = subst (λ k. TurnFits k (task_at s i).turn) e (kept.tasks i no_task l).turn_fits in
    omega (arith, some_slot gap (task_at s i).turn fits, slot-in_cycle s i l)

-- even numbers

abbrev pub nothing : List ℕ
nothing = []

same_everywhere : {X : Type 0} (n i : ℕ) (x : X) → slice_index_or (replicate n x) i x ≡ x
same_everywhere n i x = by_place (cases_lt i n)
  where
    by_place : (i < n) ⊎ (n ≤ i) → slice_index_or (replicate n x) i x ≡ x
    by_place (inl l) = get_or-replicate n i x x l
    by_place (inr l) = get_or_past (replicate n x) i x (omega (arith, l, length-replicate n x))

no_executions : (n i : ℕ) → slice_index_or (replicate n nothing) i nothing ≡ nothing
no_executions n i = same_everywhere n i nothing

pub no_phases : (n i : ℕ) → (let zeros : List ℕ = replicate n 0 in slice_index_or zeros i 0 ≡ 0)
no_phases n i = same_everywhere n i 0

pub no_job : (n i k : ℕ) → k < length (slice_index_or (replicate n nothing) i nothing) → ⊥
no_job n i k m = let z : length (slice_index_or (replicate n nothing) i nothing) ≡ 0 = ap length (no_executions n i) in omega (arith, m, z)

abbrev pub worst_lists : SystemLists → Lateness → TraceLists
worst_lists s late = record {
  times = table (λ j. times_made (most_made s) (source_at s j) (late_by late (source_at s j))) (length s.sources);
  executions = replicate (length s.tasks) [];
  phases = replicate (length s.resources) 0;
}

pub worst_is : (s : SystemLists) (late : Lateness) → worst_trace s late ≡ worst_lists s late
unfolding worst_trace
worst_is s late = refl

pub worst_trace-obeys : (s : SystemLists) (late : Lateness) → IsSystem s → Obeys s (worst_trace s late)
worst_trace-obeys s late kept = subst (Obeys s) (sym (worst_is s late)) (record {
  apart = times_apart s kept (λ j. late_by late (source_at s j)) (λ j. late_by-within late (source_at s j)) (worst_lists s late) refl;
  least = λ i k l m. absurd (no_job (length s.tasks) i k m);
  greatest = λ i k l m. absurd (no_job (length s.tasks) i k m);
  phase = λ i gap l e. let z = no_phases (length s.resources) (task_at s i).res.0 in omega (arith, z, some_cycle s kept i gap l e);
  clocks = λ c l. times_punctual s kept (λ j. late_by late (source_at s j)) (λ j. late_by-within late (source_at s j)) (worst_lists s late) refl c;
})

-- odd numbers

abbrev pub drawn_lists : SystemLists → Lcg → TraceLists
drawn_lists s g = record {
  times = table (λ j. times_made (most_made s) (source_at s j) (late_drawn g (before_source s j) (source_at s j))) (length s.sources);
  executions = table (λ i. executions_drawn g (before_task s i) (task_at s i) (jobs_made s i)) (length s.tasks);
  phases = table (phase_drawn s g) (length s.resources);
}

pub drawn_is : (s : SystemLists) (g : Lcg) → drawn_trace s g ≡ drawn_lists s g
unfolding drawn_trace
drawn_is s g = refl

abbrev pub all_executions : SystemLists → Lcg → List (List ℕ)
all_executions s g = table (λ i. executions_drawn g (before_task s i) (task_at s i) (jobs_made s i)) (length s.tasks)

-- a drawn execution
pub execution_is : (s : SystemLists) (g : Lcg) (i k d : ℕ) → i < length s.tasks → k < length (slice_index_or (all_executions s g) i nothing)
    → slice_index_or (slice_index_or (all_executions s g) i nothing) k d ≡ (task_at s i).best + draw g (before_task s i + k) ((task_at s i).worst - (task_at s i).best + 1)
execution_is s g i k d l m =
    let f : ℕ → ℕ = λ n. (task_at s i).best + draw g (before_task s i + n) ((task_at s i).worst - (task_at s i).best + 1) in
    let here = table_at (λ i. executions_drawn g (before_task s i) (task_at s i) (jobs_made s i)) (length s.tasks) i nothing l in
    let some : k < jobs_made s i = omega (arith, m, ap length here, table_length f (jobs_made s i)) in
    ap (λ xs. slice_index_or xs k d) here ∙ table_at f (jobs_made s i) k d some

pub below : (best worst n : ℕ) → best ≤ worst → best + n % (worst - best + 1) ≤ worst
below best worst n l = let m : n % (worst - best + 1) < worst - best + 1 = mod-lt n (omega arith) in omega (arith, m, l)

phase_below : (s : SystemLists) (g : Lcg) (r : ℕ) (b : Bool) → 0 < cycle_of s r → (if b then draw g (before_resource s r) (phases_of s r) else 0) < cycle_of s r
phase_below s g r true l =
    let less : draw g (before_resource s r) (phases_of s r) < phases_of s r = mod-lt (output g (before_resource s r)) (omega (arith, l)) in
    omega (arith, less)
phase_below s g r false l = l

pub drawn_trace-obeys : (s : SystemLists) (g : Lcg) → IsSystem s → Obeys s (drawn_trace s g)
drawn_trace-obeys s g kept = subst (Obeys s) (sym (drawn_is s g)) (record {
  apart = times_apart s kept (λ j. late_drawn g (before_source s j) (source_at s j)) (λ j. late_drawn-within g (before_source s j) (source_at s j)) (drawn_lists s g) refl;
  least = λ i k l m. rw (execution_is s g i k (task_at s i).worst l m) (omega arith);
  greatest = λ i k l m. rw (execution_is s g i k (task_at s i).worst l m) (below (task_at s i).best (task_at s i).worst (output g (before_task s i + k)) (kept.tasks i no_task l).ordered);
  phase = λ i gap l e.
      let r = (task_at s i).res.0 in
      let here = table_at (phase_drawn s g) (length s.resources) r 0 (kept.tasks i no_task l).placed in
      rw here (phase_below s g r (has_phase s r) (some_cycle s kept i gap l e));
  clocks = λ c l. times_punctual s kept (λ j. late_drawn g (before_source s j) (source_at s j)) (λ j. late_drawn-within g (before_source s j) (source_at s j)) (drawn_lists s g) refl c;
})

if_even : (s : SystemLists) (late : Lateness) (g : Lcg) (b : Bool) → IsSystem s → Obeys s (if b then worst_trace s late else drawn_trace s g)
if_even s late g true kept = worst_trace-obeys s late kept
if_even s late g false kept = drawn_trace-obeys s g kept

-- each generated trace obeys its system
pub made_traces_obey : (s : SystemLists) (number k : ℕ) → IsSystem s → Obeys s (made_trace s number k)
made_traces_obey s number k kept = if_even s (lateness_made s number k) (generator number k) (k % 2 == 0) kept

tdma_gap : (k : Kind) → is_tdma k ≡ true → (gap : ℕ) × (k ≡ Tdma gap)
tdma_gap (Tdma gap) e = (gap, refl)
tdma_gap Preemptive e = absurd (search (rules, e))
tdma_gap RoundRobin e = absurd (search (rules, e))
tdma_gap (Can bit) e = absurd (search (rules, e))
tdma_gap Fifo e = absurd (search (rules, e))
tdma_gap Ceiling e = absurd (search (rules, e))

-- a resource for which a phase is drawn has a cycle
pub phase_cycle : (s : SystemLists) → IsSystem s → (r : ℕ) → has_phase s r ≡ true → 0 < cycle_of s r
phase_cycle s kept r e =
    let parts = both (is_tdma (resource_at s r).kind) (has_tasks s r) e in
    let some = Any-from_list_any (λ (t : Task). t.res.0 == r) s.tasks parts.1 in
    let there : some.0 < length s.tasks = some.2 in
    let on : (task_at s some.0).res.0 ≡ r =
    ap (λ (t : Task). t.res.0) (get_or_default s.tasks some.0 no_task some.1 there ∙ some.3) ∙ (Decides-eqb some.1.res.0 r).0 some.4 in
    let tdma = tdma_gap (resource_at s r).kind parts.0 in
    subst (λ q. 0 < cycle_of s q) on (some_cycle s kept some.0 tdma.0 there (ap (λ q. (resource_at s q).kind) on ∙ tdma.1))
