-- That a trace without a breach obeys, and that one that obeys has none.
use Rattle.std.proofs.Common.{◌≡◌, ◌∙◌, ◌↔◌, ℕ, zero, suc, ◌+◌, ◌-◌, ◌<◌, ◌≤◌, ◌⊎◌, Bool, true, false, not, ◌&&◌, ◌==◌, nat_le, if◌then◌else◌, List, [], length, get_or, Option, Some, None, option_map, refl, sym, ap, arith, add-zero, inl, inr}
use native.Mathlib.Nat.{zero-mul}
use Rattle.std.specs.Option.{is_some}
use Rattle.std.proofs.lemmas.Bool.{false≢true, ltb-false, le-ltb, eq-eqb, eqb-true}
use Rattle.std.proofs.lemmas.Bool.Decides.{nat_tests}
use Rattle.std.proofs.lemmas.List.{get_or_past, get_or_default}
use Rattle.std.proofs.lemmas.List.Folds.{list_any_at, Any-from_list_any}
use Rattle.std.proofs.lemmas.Option.{none-some}
use Rattle.cpa_events.specs.declared.stream.Stream.{Stream}
use Rattle.cpa_events.specs.Streams.{stream_delta_minus}
use Rattle.cpa_model.specs.declared.entries.Kind.{Kind}
use Rattle.cpa_model.specs.declared.entries.Kind.TheVariants.{Preemptive, RoundRobin, Tdma, Can, Fifo, Ceiling}
use Rattle.cpa_model.specs.declared.entries.Task.{Task}
use Rattle.cpa_model.specs.Rules.{IsSystem}
use Rattle.cpa_model.specs.SystemLists.{SystemLists, resource_at, resource_of, task_at, cycle_of, no_task, no_resource}
use Rattle.cpa_trace.specs.declared.breach.Breach.{Breach}
use Rattle.cpa_trace.specs.declared.breach.Breach.TheVariants.{Phase}
use Rattle.cpa_model.specs.Streams.{source_stream}
use Rattle.cpa_trace.specs.Trace.{TraceLists, times_of, time_of, executions_of, phase_of, need, FitsSystem, Obeys}
use Rattle.cpa_trace.specs.Breaches.{first_some, is_too_soon, first_before, first_too_soon, close_at, close_by, close_breach, is_out_of_range, execution_breach, is_tdma, has_tasks, phase_breach, clock_breach, or_else, first_breach}
use Rattle.cpa_trace.proofs.SearchLaws.{FailsBelow, first_below-none, first_below-fails, first_below-is, is_some-none, none-is_some, first_some-none, first_some-fails}
use Rattle.cpa_trace.proofs.CloseLaws.{delta-gaps}
use Rattle.cpa_trace.proofs.KeepsLaws.{clocks-is}

-- any two of some times are as far apart as a stream says
abbrev AreApart : Stream → List ℕ → Type 0
AreApart m times = (n gap : ℕ) → n + gap < length times → get_or times n 0 + stream_delta_minus m (gap + 1) ≤ get_or times (n + gap) 0

delta-one : (m : Stream) → stream_delta_minus m (0 + 1) ≡ 0
delta-one m = delta-gaps m 0 ∙ rw (zero-mul, zero-mul) (omega arith)

close_at-none : (k n : ℕ) (times : List ℕ) (o : Option ℕ) → is_some o ≡ true → close_at k times (Some n) o ≡ None → ⊥
close_at-none k n times None some e = false≢true some
close_at-none k n times (Some i) some e = none-some _ (sym e)

too_soon-none : (k : ℕ) (m : Stream) (times : List ℕ) (o : Option ℕ) → first_too_soon m times ≡ o → close_by k m times o ≡ None → first_too_soon m times ≡ None
too_soon-none k m times None is e = is
too_soon-none k m times (Some n) is e =
    absurd (close_at-none k n times (first_before m times n) (first_below-is (λ n. is_some (first_before m times n)) (length times) n is).passes e)

apart-from : (m : Stream) (times : List ℕ) → first_too_soon m times ≡ None → AreApart m times
apart-from m times none n zero h = rw (delta-one m, add-zero, add-zero) (omega arith)
apart-from m times none n (suc gap) h =
    let fails = first_below-fails (λ k. is_some (first_before m times k)) (length times) none (n + suc gap) h in
    let before = none-is_some (first_before m times (n + suc gap)) fails in
    let test = first_below-fails (is_too_soon m times (n + suc gap)) (n + suc gap) before n (omega arith) in
    let e : n + suc gap - n ≡ suc gap = omega arith in
    rw e at (ltb-false _ _ test)

none-apart : (m : Stream) (times : List ℕ) → AreApart m times → first_too_soon m times ≡ None
none-apart m times apart = first_below-none (λ n. is_some (first_before m times n)) (length times) (λ n there.
    is_some-none (is_too_soon m times n) n (λ i less.
    let e : i + (n - i) ≡ n = omega arith in
    let far = rw e at (apart i (n - i) (omega arith)) in
    le-ltb _ _ far))

in_range : (best worst x : ℕ) → not (nat_le best x && nat_le x worst) ≡ false → (best ≤ x) × (x ≤ worst)
in_range best worst x e = (grind (arith, nat_tests), grind (arith, nat_tests))

not_out : (best worst x : ℕ) → best ≤ x → x ≤ worst → not (nat_le best x && nat_le x worst) ≡ false
not_out best worst x h k = grind (arith, nat_tests)

not_le : (a b : ℕ) → nat_le a b ≡ false → b < a
not_le a b e = grind (arith, nat_tests)

lt-not_le : (a b : ℕ) → b < a → nat_le a b ≡ false
lt-not_le a b h = grind (arith, nat_tests)

map-none : {A B : Type 0} (f : A → B) (o : Option A) → option_map f o ≡ None → o ≡ None
map-none f None e = refl
map-none f (Some x) e = absurd (none-some (f x) (sym e))

or_else-none : {X : Type 0} (o p : Option X) → or_else o p ≡ None → (o ≡ None) × (p ≡ None)
or_else-none None p e = (refl, e)
or_else-none (Some x) p e = absurd (none-some x (sym e))

no_breach : (a b c : Bool) (x : Breach) → (if a && b && c then Some x else None) ≡ None → a ≡ true → b ≡ true → c ≡ false
no_breach true true true x e h k = absurd (none-some x (sym e))
no_breach true true false x e h k = refl
no_breach true false c x e h k = absurd (false≢true k)
no_breach false b c x e h k = absurd (false≢true h)

breach-none : (a b c : Bool) (x : Breach) → (a ≡ true → b ≡ true → c ≡ false) → (if a && b && c then Some x else None) ≡ None
breach-none true true true x h = absurd (false≢true (sym (h refl refl)))
breach-none true true false x h = refl
breach-none true false c x h = refl
breach-none false b c x h = refl

tdma-gap : (kind : Kind) → is_tdma kind ≡ true → (gap : ℕ) × (kind ≡ Tdma gap)
tdma-gap Preemptive e = absurd (false≢true e)
tdma-gap RoundRobin e = absurd (false≢true e)
tdma-gap (Tdma gap) e = (gap, refl)
tdma-gap (Can bit) e = absurd (false≢true e)
tdma-gap Fifo e = absurd (false≢true e)
tdma-gap Ceiling e = absurd (false≢true e)

module _ (s : SystemLists) (kept : IsSystem s) (tr : TraceLists) (fits : FitsSystem s tr) where
  apart : first_some (close_breach s tr) (length s.sources) ≡ None → (k n gap : ℕ) → n + gap < length (times_of tr k) → time_of tr k n + stream_delta_minus (source_stream s k) (gap + 1) ≤ time_of tr k (n + gap)
  apart none k =
      let split : (k < length s.sources) ⊎ (length s.sources ≤ k) = grind arith in
      elim split [
        | inl there ↦
            let here = first_some-fails (close_breach s tr) (length s.sources) k none there in
            apart-from (source_stream s k) (times_of tr k) (too_soon-none k (source_stream s k) (times_of tr k) (first_too_soon (source_stream s k) (times_of tr k)) refl here)
        | inr past ↦ λ n gap h.
            let empty : times_of tr k ≡ [] = get_or_past tr.times k [] (rw fits.sources past) in
            let long = ap length empty in
            absurd (omega arith)
      ]

  in_range-from : first_some (execution_breach s tr) (length s.tasks) ≡ None → (i k : ℕ) → i < length s.tasks → k < length (executions_of tr i) → ((task_at s i).best ≤ need s tr i k) × (need s tr i k ≤ (task_at s i).worst)
  in_range-from none i k there listed =
      let here = first_some-fails (execution_breach s tr) (length s.tasks) i none there in
      let fails = first_below-fails (is_out_of_range (task_at s i) (executions_of tr i)) (length (executions_of tr i)) (map-none _ _ here) k listed in
      rw (get_or_default (executions_of tr i) k (task_at s i).worst 0 listed) (in_range (task_at s i).best (task_at s i).worst (get_or (executions_of tr i) k 0) fails)

  placed : (r gap : ℕ) → (resource_at s r).kind ≡ Tdma gap → r < length s.resources
  placed r gap kind =
      let split : (r < length s.resources) ⊎ (length s.resources ≤ r) = grind arith in
      elim split [
        | inl there ↦ there
        | inr past ↦
            let none = get_or_past s.resources r no_resource past in
            let other : Preemptive ≡ Tdma gap = rw none at kind in
            cc other
      ]

  has-task : (i r : ℕ) → i < length s.tasks → (task_at s i).res.0 ≡ r → has_tasks s r ≡ true
  has-task i r there on = list_any_at (λ (t : Task). t.res.0 == r) s.tasks i no_task there (eq-eqb _ _ on)

  task-of : (r : ℕ) → has_tasks s r ≡ true → (i : ℕ) × (i < length s.tasks) × ((task_at s i).res.0 ≡ r)
  task-of r has =
      let any = Any-from_list_any (λ (t : Task). t.res.0 == r) s.tasks has in
      let at : task_at s any.0 ≡ any.1 = get_or_default s.tasks any.0 no_task any.1 any.2 ∙ any.3 in
      (any.0, any.2, rw at (eqb-true _ _ any.4))

  below_by : (r : ℕ) → phase_breach s tr r ≡ None → is_tdma (resource_at s r).kind ≡ true → has_tasks s r ≡ true → phase_of tr r < cycle_of s r
  below_by r none tdma has =
      not_le (cycle_of s r) (phase_of tr r) (no_breach (is_tdma (resource_at s r).kind) (has_tasks s r) (nat_le (cycle_of s r) (phase_of tr r)) (Phase (record { 0 = r })) none tdma has)

  below_cycle : first_some (phase_breach s tr) (length s.resources) ≡ None → (i gap : ℕ) → i < length s.tasks → (resource_of s i).kind ≡ Tdma gap → phase_of tr (task_at s i).res.0 < cycle_of s (task_at s i).res.0
  below_cycle none i gap there kind =
      let here = first_some-fails (phase_breach s tr) (length s.resources) (task_at s i).res.0 none (placed (task_at s i).res.0 gap kind) in
      below_by (task_at s i).res.0 here (rw kind refl) (has-task i (task_at s i).res.0 there refl)

  pub obeys-from : first_breach s tr ≡ None → Obeys s tr
  obeys-from none =
      let sources = or_else-none _ _ none in
      let tasks = or_else-none _ _ sources.1 in
      let resources = or_else-none _ _ tasks.1 in
      record {
        apart = apart sources.0;
        least = λ i k h l. (in_range-from tasks.0 i k h l).0;
        greatest = λ i k h l. (in_range-from tasks.0 i k h l).1;
        phase = below_cycle resources.0;
        clocks = (clocks-is s kept tr).0 resources.1;
      }

  no_close : Obeys s tr → FailsBelow (λ k. is_some (close_breach s tr k)) (length s.sources)
  no_close obeys k there =
      let none = none-apart (source_stream s k) (times_of tr k) (obeys.apart k) in
      let here : close_breach s tr k ≡ None = ap (close_by k (source_stream s k) (times_of tr k)) none in
      rw here refl

  no_execution : Obeys s tr → FailsBelow (λ i. is_some (execution_breach s tr i)) (length s.tasks)
  no_execution obeys i there =
      let none = first_below-none (is_out_of_range (task_at s i) (executions_of tr i)) (length (executions_of tr i)) (λ k listed.
      let least = rw (get_or_default (executions_of tr i) k (task_at s i).worst 0 listed) at (obeys.least i k there listed) in
      let greatest = rw (get_or_default (executions_of tr i) k (task_at s i).worst 0 listed) at (obeys.greatest i k there listed) in
      not_out (task_at s i).best (task_at s i).worst (get_or (executions_of tr i) k 0) least greatest) in
      rw none refl

  no_phase : Obeys s tr → FailsBelow (λ r. is_some (phase_breach s tr r)) (length s.resources)
  no_phase obeys r there =
      let here : phase_breach s tr r ≡ None = breach-none _ _ _ _ (λ tdma has.
      let task = task-of r has in
      let gap = tdma-gap (resource_at s r).kind tdma in
      let kind : (resource_of s task.0).kind ≡ Tdma gap.0 = rw task.2 gap.1 in
      let below = rw task.2 at (obeys.phase task.0 gap.0 task.1 kind) in
      lt-not_le (cycle_of s r) (phase_of tr r) below) in
      rw here refl

  pub obeys-none : Obeys s tr → first_breach s tr ≡ None
  obeys-none obeys =
      let close = first_some-none (close_breach s tr) (length s.sources) (no_close obeys) in
      let execution = first_some-none (execution_breach s tr) (length s.tasks) (no_execution obeys) in
      let phase = first_some-none (phase_breach s tr) (length s.resources) (no_phase obeys) in
      let clock = (clocks-is s kept tr).1 obeys.clocks in
      ap (λ o. or_else o (or_else (first_some (execution_breach s tr) (length s.tasks)) (or_else (first_some (phase_breach s tr) (length s.resources)) (first_some (clock_breach s tr) (length s.sources))))) close
      ∙ ap (λ o. or_else o (or_else (first_some (phase_breach s tr) (length s.resources)) (first_some (clock_breach s tr) (length s.sources)))) execution
      ∙ ap (λ o. or_else o (first_some (clock_breach s tr) (length s.sources))) phase ∙ clock

  pub obeys-is : (first_breach s tr ≡ None) ↔ Obeys s tr
  obeys-is = (obeys-from, obeys-none)
