-- What a breach says of is there.
use Rattle.std.proofs.Common.{◌≡◌, ℕ, ◌+◌, ◌<◌, Bool, true, false, not, if◌then◌else◌, length, List, Option, Some, None, refl}
use Rattle.std.specs.Prelude.{option_map, IfSome}
use Rattle.std.specs.Option.{is_some, option_and_then}
use Rattle.cpa_events.specs.declared.stream.Stream.{Stream}
use Rattle.cpa_model.specs.Clocks.{clock_of}
use Rattle.cpa_model.specs.Streams.{source_stream}
use Rattle.cpa_model.specs.SystemLists.{SystemLists}
use Rattle.cpa_trace.specs.declared.breach.Breach.{Breach}
use Rattle.cpa_trace.specs.declared.breach.Breach.TheVariants.{Exec, Phase, Clock}
use Rattle.cpa_trace.specs.Trace.{TraceLists, times_of, time_of}
use Rattle.cpa_trace.specs.Breaches.{first_below, first_some, first_too_soon, first_before, close_at, close_by, close_breach, execution_breach, phase_breach, leaves_lead, events_to, clock_breach_on, clock_breach, or_else, first_breach, IsBreachOf}
use Rattle.cpa_trace.proofs.SearchLaws.{first_below-is}

module _ (s : SystemLists) where
  placed-close_at : (k : ℕ) (times : List ℕ) (n i : Option ℕ) → k < length s.sources → IfSome (close_at k times n i) (IsBreachOf s)
  placed-close_at k times (Some n) (Some i) there = there
  placed-close_at k times (Some n) None there = tt
  placed-close_at k times None i there = tt

  placed-close_by : (k : ℕ) (m : Stream) (times : List ℕ) (n : Option ℕ) → k < length s.sources → IfSome (close_by k m times n) (IsBreachOf s)
  placed-close_by k m times None there = tt
  placed-close_by k m times (Some n) there = placed-close_at k times (Some n) (first_before m times n) there

  placed-exec : (i : ℕ) (o : Option ℕ) → i < length s.tasks → IfSome (option_map (λ k. Exec (record { 0 = i }) (k + 1)) o) (IsBreachOf s)
  placed-exec i None there = tt
  placed-exec i (Some k) there = there

  placed-phase : (r : ℕ) (b : Bool) → r < length s.resources → IfSome (if b then Some (Phase (record { 0 = r })) else None) (IsBreachOf s)
  placed-phase r true there = there
  placed-phase r false there = tt

  placed-some : (has : ℕ → Option Breach) (count : ℕ) → ((k : ℕ) → k < count → IfSome (has k) (IsBreachOf s)) → (o : Option ℕ) → first_below (λ k. is_some (has k)) count ≡ o → IfSome (option_and_then has o) (IsBreachOf s)
  placed-some has count each None e = tt
  placed-some has count each (Some k) e = each k (first_below-is (λ k. is_some (has k)) count k e).below

  placed-or_else : (o p : Option Breach) → IfSome o (IsBreachOf s) → IfSome p (IsBreachOf s) → IfSome (or_else o p) (IsBreachOf s)
  placed-or_else None p a b = b
  placed-or_else (Some x) p a b = a

  placed-clock : (k : ℕ) (time : ℕ → ℕ) (o : Option ℕ) → k < length s.sources → IfSome (option_map (λ n. Clock (record { 0 = k }) (time n)) o) (IsBreachOf s)
  placed-clock k time None there = tt
  placed-clock k time (Some n) there = there

  placed-clock_on : (tr : TraceLists) (k : ℕ) (clock : Option ℕ) → k < length s.sources → IfSome (clock_breach_on s tr k clock) (IsBreachOf s)
  placed-clock_on tr k None there = tt
  placed-clock_on tr k (Some c) there = placed-clock k (time_of tr k) (first_below (λ n. not (leaves_lead s tr (events_to tr k (n + 1)) c)) (length (times_of tr k))) there

  module _ (tr : TraceLists) where
    close : IfSome (first_some (close_breach s tr) (length s.sources)) (IsBreachOf s)
    close = placed-some (close_breach s tr) (length s.sources) (λ k there. placed-close_by k (source_stream s k) (times_of tr k) (first_too_soon (source_stream s k) (times_of tr k)) there) (first_below (λ k. is_some (close_breach s tr k)) (length s.sources)) refl

    execution : IfSome (first_some (execution_breach s tr) (length s.tasks)) (IsBreachOf s)
    execution = placed-some (execution_breach s tr) (length s.tasks) (λ i there. placed-exec i _ there) (first_below (λ k. is_some (execution_breach s tr k)) (length s.tasks)) refl

    phase : IfSome (first_some (phase_breach s tr) (length s.resources)) (IsBreachOf s)
    phase = placed-some (phase_breach s tr) (length s.resources) (λ r there. placed-phase r _ there) (first_below (λ k. is_some (phase_breach s tr k)) (length s.resources)) refl

    clock : IfSome (first_some (clock_breach s tr) (length s.sources)) (IsBreachOf s)
    clock = placed-some (clock_breach s tr) (length s.sources) (λ k there. placed-clock_on tr k (clock_of s k) there) (first_below (λ k. is_some (clock_breach s tr k)) (length s.sources)) refl

    pub placed-first : IfSome (first_breach s tr) (IsBreachOf s)
    placed-first = placed-or_else _ _ close (placed-or_else _ _ execution (placed-or_else _ _ phase clock))
