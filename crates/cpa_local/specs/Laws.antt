-- The main laws of the analysis of a system, as the public functions of the crate state them.
use Rattle.std.specs.Prelude.{◌≡◌, ◌<◌, ℕ, List, length, map, Some, false}
use Rattle.cpa_units.specs.declared.bound.Bound.{Bound}
use Rattle.cpa_units.specs.Bounds.{IsNowhereAbove}
use Rattle.cpa_units.specs.declared.places.SourceId.{SourceId}
use Rattle.cpa_events.specs.declared.stream.Stream.{Stream}
use Rattle.cpa_events.specs.Events.{Model}
use Rattle.cpa_model.specs.Clocks.{has_clocks}
use Rattle.cpa_model.specs.declared.entries.Kind.TheVariants.{Fifo}
use Rattle.cpa_model.specs.SystemLists.{SystemLists, task_at, resource_of, source_at, streams_of}
use Rattle.cpa_model.specs.Rules.{IsSystem}
use Rattle.cpa_local.specs.Inputs.{input}
use Rattle.cpa_local.specs.Local.{response, responses}
use Rattle.cpa_local.specs.Plain.{plain_response}
use Rattle.cpa_local.specs.Raising.{IsRaising}
use Rattle.cpa_local.specs.Solution.{IsVector, IsClosed, IsLeast, least_of}

-- the streams of a bounded input are those of its task, in their order: each has the period of its source
abbrev pub InputsFollowStreams : Type 0
InputsFollowStreams =
    (s : SystemLists) (x : List Bound) (i : ℕ) (m : Model) → IsSystem s → i < length s.tasks → input s x i ≡ Some m →
    map (λ (t : Stream). t.period) m ≡ map (λ (k : SourceId). (source_at s k.0).period) (streams_of s i)

-- where a vector rises, no bound falls
abbrev pub ResponsesAreMonotone : Type 0
ResponsesAreMonotone =
    (s : SystemLists) (x y : List Bound) → IsNowhereAbove x y → IsNowhereAbove (responses s x) (responses s y)

-- where no source is on a clock, bounds are those without clocks
abbrev pub PlainResponsesAreTheSame : Type 0
PlainResponsesAreTheSame = (s : SystemLists) (x : List Bound) (i : ℕ) → has_clocks s ≡ false → response s x i ≡ plain_response s x i

-- all tasks of a queue have one bound
abbrev pub QueuesHaveOneBound : Type 0
QueuesHaveOneBound =
    (s : SystemLists) (x : List Bound) (i j : ℕ) → i < length s.tasks → j < length s.tasks → (task_at s i).res.0 ≡ (task_at s j).res.0 → (resource_of s i).kind ≡ Fifo →
    response s x i ≡ response s x j

-- each system has a least solution
abbrev pub LeastExists : Type 0
LeastExists = (s : SystemLists) → IsSystem s → IsLeast s (least_of s)

-- and no other
abbrev pub LeastIsUnique : Type 0
LeastIsUnique = (s : SystemLists) (x y : List Bound) → IsLeast s x → IsLeast s y → x ≡ y

-- the bounds at the least solution are the least solution
abbrev pub LeastIsFixed : Type 0
LeastIsFixed = (s : SystemLists) → responses s (least_of s) ≡ least_of s

-- what is nowhere above the least solution and closed is the least solution
abbrev pub ClosedBelowIsLeast : Type 0
ClosedBelowIsLeast =
    (s : SystemLists) (x : List Bound) → IsSystem s → IsVector s x → IsNowhereAbove x (least_of s) → IsClosed s x → x ≡ least_of s

-- where each task asks for at least as much, the least solution is nowhere lower
abbrev pub RaisingLiftsLeast : Type 0
RaisingLiftsLeast = (s t : SystemLists) → IsSystem s → IsRaising s t → IsNowhereAbove (least_of s) (least_of t)
