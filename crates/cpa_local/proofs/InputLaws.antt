-- Inputs along chains: they are in range, and a longer look along the chains finds no other.
use Rattle.std.proofs.Common.{◌≡◌, ℕ, zero, suc, ◌+◌, ◌-◌, ◌*◌, ◌<◌, ◌≤◌, length, List, [], ◌∷◌, true, All, Option, Some, None, refl, sym, subst, arith}
use Rattle.std.specs.Prelude.{IsSome, IfSome}
use Rattle.std.specs.List.{list_any}
use Rattle.std.proofs.lemmas.Bool.{false≢true, or_left, or_right}
use Rattle.std.proofs.lemmas.List.Elements.{All-append, All-nil, All-head, All-tail}
use Rattle.cpa_units.specs.declared.bound.Bound.{Bound}
use Rattle.cpa_units.specs.declared.bound.Bound.TheVariants.{Within, Overload}
use Rattle.cpa_units.specs.declared.limits.TheConstants.{MAX_CHAIN, MAX_JITTER, MAX_LIMIT}
use Rattle.cpa_units.specs.Bounds.{RespectsLimit, bound_of}
use Rattle.cpa_units.specs.Numbers.{IsExecution}
use Rattle.cpa_events.specs.Streams.{IsStreamInRange}
use Rattle.cpa_events.specs.Events.{Model, after_response, IsModelInRange, HasJitterUpTo}
use Rattle.cpa_events.specs.declared.stream.TheConstants.{MAX_MODEL_JITTER}
use Rattle.cpa_events.proofs.EventLaws.{one-in_range, one-jitter, after_response-in_range, after_response-jitter, jitter-weaken}
use Rattle.cpa_model.specs.declared.entries.Activator.{Activator}
use Rattle.cpa_model.specs.declared.entries.Activator.TheVariants.{Source as FromSource, Task as FromTask}
use Rattle.cpa_model.specs.Chains.{depth_within, activators}
use Rattle.cpa_model.specs.Streams.{source_stream, source_model}
use Rattle.cpa_model.specs.SystemLists.{SystemLists, task_at, source_at, depth_of, is_task, no_task, no_source}
use Rattle.cpa_model.specs.Rules.{IsSystem, IsTask, IsSource, IsActivator}
use Rattle.cpa_model.proofs.SystemLaws.{activated-there, depth_of-activated, depth_of-some, depth_within-activated, depth_of-most, streams_of-some}
use Rattle.cpa_local.specs.Inputs.{output_of, sent_by, joined, sent_by_all, input_along, input}
use Rattle.cpa_local.specs.Solution.{IsVector}
use Rattle.cpa_local.proofs.SentLaws.{is_task-itself, sent_all-same}
use Rattle.cpa_local.proofs.StreamLaws.{input-long}

-- an input that came along so many tasks: its numbers are within the limits
abbrev pub IsWithin : ℕ → Option Model → Type 0
IsWithin tasks None = Unit {0}
IsWithin tasks (Some m) = IsModelInRange m × HasJitterUpTo m (MAX_JITTER + tasks * MAX_LIMIT)

-- some of its streams, which may be none
abbrev EachIsWithin : ℕ → Option Model → Type 0
EachIsWithin tasks None = Unit {0}
EachIsWithin tasks (Some m) = All IsStreamInRange m × HasJitterUpTo m (MAX_JITTER + tasks * MAX_LIMIT)

within-if : (tasks : ℕ) (o : Option Model) → IsWithin tasks o → IfSome o IsModelInRange
within-if tasks None h = tt
within-if tasks (Some m) h = h.0

within-each : (tasks : ℕ) (o : Option Model) → IsWithin tasks o → EachIsWithin tasks o
within-each tasks None h = tt
within-each tasks (Some m) h = (h.0.each, h.1)

within-weaken : (tasks more : ℕ) (o : Option Model) → tasks ≤ more → IsWithin tasks o → IsWithin more o
within-weaken tasks more None le h = tt
within-weaken tasks more (Some m) le h =
    (h.0, jitter-weaken m (MAX_JITTER + tasks * MAX_LIMIT) (MAX_JITTER + more * MAX_LIMIT) h.1 (omega arith))

joined-within : (tasks : ℕ) (o p : Option Model) → EachIsWithin tasks o → EachIsWithin tasks p → EachIsWithin tasks (joined o p)
joined-within tasks None p h k = tt
joined-within tasks (Some m) None h k = tt
joined-within tasks (Some m) (Some n) h k =
    (All-append IsStreamInRange m n h.0 k.0, All-append (λ s. s.jitter ≤ MAX_JITTER + tasks * MAX_LIMIT) m n h.1 k.1)

source-within : (tasks : ℕ) (s : SystemLists) (k : ℕ) → IsSource (source_at s k) → IsWithin tasks (Some (source_model s k))
source-within tasks s k r =
    let jitter : (source_stream s k).jitter ≤ MAX_JITTER = r.jitter in
    let small : (source_stream s k).jitter ≤ MAX_JITTER + tasks * MAX_LIMIT = omega arith in
    let stream : IsStreamInRange (source_stream s k) =
    record { regular = omega (arith, r.some_period); period = r.period; jitter = omega arith; distance = omega (arith, r.distance, r.period) }
    in
    (one-in_range (source_stream s k) stream, one-jitter (source_stream s k) (MAX_JITTER + tasks * MAX_LIMIT) small)

output-within : (tasks best : ℕ) (bound : Bound) (o : Option Model) → tasks < MAX_CHAIN → IsExecution best → RespectsLimit MAX_LIMIT bound → IsWithin tasks o → IsWithin (suc tasks) (output_of best bound o)
output-within tasks best (Within bound) (Some m) few some limit h =
    let small : bound ≤ MAX_LIMIT = limit in
    let received : HasJitterUpTo m (MAX_JITTER + tasks * MAX_LIMIT) = h.1 in
    let sent = after_response-jitter m best bound (MAX_JITTER + tasks * MAX_LIMIT) received in (
      after_response-in_range m best bound h.0 some small (jitter-weaken m (MAX_JITTER + tasks * MAX_LIMIT) (MAX_MODEL_JITTER - bound) received (omega arith)),
      jitter-weaken (after_response m best bound) (MAX_JITTER + tasks * MAX_LIMIT + bound) (MAX_JITTER + suc tasks * MAX_LIMIT) sent (omega arith),
    )
output-within tasks best (Within bound) None few some limit h = tt
output-within tasks best Overload (Some m) few some limit h = tt
output-within tasks best Overload None few some limit h = tt

module _ (s : SystemLists) (x : List Bound) (rules : IsSystem s) where
  -- ---- where all chains are met within so many tasks, a task more changes nothing

  along-settled : (tasks i : ℕ) → i < length s.tasks → IsSome (depth_within (activators s.tasks) tasks i) → input_along s x (suc tasks) i ≡ input_along s x tasks i
  unfolding depth_within
  along-settled zero i there met = absurd (false≢true met)
  along-settled (suc tasks) i there met =
      sent_all-same s x x (input_along s x (suc tasks)) (input_along s x tasks) (task_at s i).after
      (λ j e. (refl, along-settled tasks j (activated-there s rules i j there e) (depth_within-activated s tasks i j e met)))

  -- what a task receives is what its activators send, by their own inputs
  pub input-all : (i : ℕ) → i < length s.tasks → input s x i ≡ sent_by_all s x (input s x) (task_at s i).after
  unfolding input
  input-all i there =
      sent_all-same s x x (input_along s x 31) (input s x) (task_at s i).after
      (λ j e. (refl, sym (along-settled 31 j (activated-there s rules i j there e) (depth_within-activated s 31 i j e (rules.chains i there)))))

  module _ (vector : IsVector s x) where
    pub best-is : (i : ℕ) → i < length s.tasks → IsExecution (task_at s i).best
    best-is i h =
        let t : IsTask s (task_at s i) = rules.tasks i no_task h in
        record { some = omega (arith, t.some_best); small = omega (arith, t.ordered, t.worst) }

    sent-within : (tasks : ℕ) (a : Activator) → tasks ≤ MAX_CHAIN → IsActivator s a
        → ((j : ℕ) → is_task j a ≡ true → (j < length s.tasks) × (depth_of s j < tasks) × IsWithin (depth_of s j) (input s x j)) → IsWithin tasks (sent_by s x (input s x) a)
    sent-within tasks (FromSource k) few there before = source-within tasks s k.0 (rules.sources k.0 no_source there)
    sent-within tasks (FromTask j) few there before =
        let it = before j.0 (is_task-itself j.0) in
        within-weaken (suc (depth_of s j.0)) tasks (sent_by s x (input s x) (FromTask j)) (omega (arith, it.1))
        (output-within (depth_of s j.0) (task_at s j.0).best (bound_of x j.0) (input s x j.0) (omega (arith, it.1)) (best-is j.0 it.0) (vector.high j.0 it.0) it.2)

    sent_all-within : (tasks : ℕ) (after : List Activator) → tasks ≤ MAX_CHAIN → All (IsActivator s) after
        → ((j : ℕ) → list_any (is_task j) after ≡ true → (j < length s.tasks) × (depth_of s j < tasks) × IsWithin (depth_of s j) (input s x j)) → EachIsWithin tasks (sent_by_all s x (input s x) after)
    sent_all-within tasks [] few there before = (All-nil IsStreamInRange, All-nil (λ t. t.jitter ≤ MAX_JITTER + tasks * MAX_LIMIT))
    sent_all-within tasks (a ∷ others) few there before =
        joined-within tasks (sent_by s x (input s x) a) (sent_by_all s x (input s x) others)
        (within-each tasks (sent_by s x (input s x) a) (sent-within tasks a few (All-head (IsActivator s) a others there) (λ j e. before j (or_left _ _ e))))
        (sent_all-within tasks others few (All-tail (IsActivator s) a others there) (λ j e. before j (or_right _ _ e)))

    -- all its streams are as many as the task has
    whole-within : (i tasks : ℕ) (o : Option Model) → i < length s.tasks → input s x i ≡ o → EachIsWithin tasks o → IsWithin tasks o
    whole-within i tasks None there is h = tt
    whole-within i tasks (Some m) there is h =
        let long = input-long s x rules i m there is in
        let some = streams_of-some s rules i there in
        let few = rules.streams i there in
        (record { some = omega arith; few = omega arith; each = h.0 }, h.1)

    within-by : (most i : ℕ) → i < length s.tasks → depth_of s i ≤ most → IsWithin (depth_of s i) (input s x i)
    within-by zero i there deep = absurd (let some = depth_of-some s rules i there in omega arith)
    within-by (suc most) i there deep =
        let t : IsTask s (task_at s i) = rules.tasks i no_task there in
        let short = depth_of-most s i in
        whole-within i (depth_of s i) (input s x i) there refl
        (subst (EachIsWithin (depth_of s i)) (sym (input-all i there))
        (sent_all-within (depth_of s i) (task_at s i).after (omega arith) t.activated
        (λ j e.
        let j_there = activated-there s rules i j there e in
        let less = depth_of-activated s rules i j there e in
        (j_there, omega arith, within-by most j j_there (omega arith)))))

    -- an input is within the limits, by the longest chain up to its task
    pub input-within : (i : ℕ) → i < length s.tasks → IsWithin (depth_of s i) (input s x i)
    input-within i there = within-by (depth_of s i) i there (omega arith)

    pub input-in_range : (i : ℕ) → i < length s.tasks → IfSome (input s x i) IsModelInRange
    input-in_range i there = within-if (depth_of s i) (input s x i) (input-within i there)
