-- What the rules of a system give to those who read it.
use Rattle.std.proofs.Common.{◌≡◌, ℕ, zero, suc, ◌+◌, ◌-◌, ◌<◌, ◌≤◌, List, [], ◌∷◌, length, Option, Some, None, IsSome, option_map, unwrap_or, slice_index_or, get_or, take, All, refl, sym, ap, ◌∙◌, arith, true, false, Bool, cond, ◌++◌, add-zero, inl, inr}
use Rattle.std.specs.List.{range_with_len, sum_by, filter, flat_map}
use Rattle.std.proofs.lemmas.List.Concat.{get_or-flat_map}
use Rattle.std.proofs.lemmas.List.Elements.{All-cons, All-nil}
use Rattle.std.proofs.lemmas.Bool.{false≢true, cases_order}
use Rattle.std.proofs.lemmas.List.Elements.{filter-append}
use Rattle.std.proofs.lemmas.List.Sums.{sum_by-append}
use Rattle.cpa_units.specs.declared.places.SourceId.{SourceId}
use Rattle.cpa_model.specs.declared.entries.Kind.{Kind}
use Rattle.cpa_model.specs.declared.entries.Kind.TheVariants as kind
use Rattle.cpa_model.specs.declared.entries.Turn.{Turn}
use Rattle.cpa_model.specs.declared.entries.Turn.TheVariants as turn
use Rattle.std.proofs.lemmas.Option.{none-some, same_Some}
use Rattle.std.proofs.lemmas.List.{get_or_past}
use Rattle.cpa_model.specs.declared.entries.Task.{Task as Entry}
use Rattle.cpa_model.specs.declared.entries.Path.{Path}
use Rattle.cpa_model.specs.declared.entries.Activator.{Activator}
use Rattle.cpa_model.specs.declared.entries.Activator.TheVariants.{Source, Task}
use Rattle.cpa_units.specs.declared.places.TaskId.{TaskId}
use Rattle.cpa_model.specs.Chains.{chain_step, depth_within, streams_step, streams_within, activators}
use Rattle.cpa_model.proofs.ActivatorLaws.{HasActivator, has-task, has-source, has-each, flat_map-same, flat_map-all, flat_map-long}
use Rattle.cpa_model.proofs.ChainLaws.{Links, streams_by, depth_within-none, streams_within-next, streams_within-step}
use Rattle.cpa_model.proofs.LongestLaws.{IsWithin, within-more, within-some, some-within, longest-start, longest-each, longest-all, longest_more, step-back}
use Rattle.cpa_model.specs.Rules.{IsSystem, IsPath, IsActivator, TurnFits, RegionFits, KindFits}
use Rattle.cpa_model.specs.SystemLists.{SystemLists, task_at, no_task, depth_of, root_of, stream_at, streams_of, is_activated_by, is_fed_by, slot_of, gap_of}

-- what the activators of a task are among those of all
pub activators_at : (ts : List Entry) (i : ℕ) → slice_index_or (activators ts) i [] ≡ (slice_index_or ts i no_task).after
activators_at [] i = refl
activators_at (t ∷ ts) zero = refl
activators_at (t ∷ ts) (suc i) = activators_at ts i

-- only what is a task has activators
pub fed-within : (s : SystemLists) (i : ℕ) → 0 < length (task_at s i).after → i < length s.tasks
fed-within s i some = elim (cases_order i (length s.tasks)) [
  | inl same ↦ absurd (none_past (omega arith))
  | inr (inl less) ↦ less
  | inr (inr more) ↦ absurd (none_past (omega arith))
]
  where
    none_past : length s.tasks ≤ i → ⊥
    none_past past = let none : (task_at s i).after ≡ [] = ap (λ (t : Entry). t.after) (get_or_past s.tasks i no_task past) in omega (arith, ap length none)

pub activated-within : (s : SystemLists) (i j : ℕ) → is_activated_by s j i ≡ true → i < length s.tasks
activated-within s i j by = let has = has-task j (task_at s i).after by in fed-within s i (omega (arith, has.within))

-- depths

-- where chains end within more tasks, they end within as many
pub depth_within-more : (links : Links) (n i d : ℕ) → depth_within links n i ≡ Some d → depth_within links (suc n) i ≡ Some d
unfolding depth_within
depth_within-more links zero i d e = absurd (none-some d e)
depth_within-more links (suc n) i d e = longest_more (Some 1) (slice_index_or links i []) (depth_within links n) (depth_within links (suc n)) d (depth_within-more links n) e

-- each activator of such a task has a chain of fewer
pub depth_within-each : (links : Links) (n i d : ℕ) → depth_within links (suc n) i ≡ Some d → All (λ a. IsWithin (chain_step a (depth_within links n)) d) (slice_index_or links i [])
unfolding depth_within
depth_within-each links n i d e = longest-each (Some 1) (slice_index_or links i []) (depth_within links n) d (record { count = d; found = e; few = omega arith })

-- a chain has some tasks
pub depth_within-some : (links : Links) (n i d : ℕ) → depth_within links n i ≡ Some d → 1 ≤ d
unfolding depth_within
depth_within-some links zero i d e = absurd (none-some d e)
depth_within-some links (suc n) i d e =
    let first = longest-start (Some 1) (slice_index_or links i []) (depth_within links n) d (record { count = d; found = e; few = omega arith }) in
    let one : 1 ≡ first.count = same_Some 1 first.count first.found in
    omega (arith, first.few)

-- and no more than were followed
step_most : (a : Activator) (f : ℕ → Option ℕ) (n most : ℕ) → ((j d : ℕ) → f j ≡ Some d → d ≤ n) → IsWithin (chain_step a f) most → IsWithin (chain_step a f) (suc n)
step_most (Source k) f n most short w = record { count = 1; found = refl; few = omega arith }
step_most (Task j) f n most short w = by (f j.0) (short j.0) w.found
  where
    by : (o : Option ℕ) → ((d : ℕ) → o ≡ Some d → d ≤ n) → option_map suc o ≡ Some w.count → IsWithin (option_map suc o) (suc n)
    by None most e = absurd (none-some w.count e)
    by (Some d) most e = record { count = suc d; found = refl; few = omega (arith, most d refl) }

pub depth_within-most : (links : Links) (n i d : ℕ) → depth_within links n i ≡ Some d → d ≤ n
unfolding depth_within
depth_within-most links zero i d e = absurd (none-some d e)
depth_within-most links (suc n) i d e =
    let many = slice_index_or links i [] in
    let each = depth_within-each links n i d e in
    let short = longest-all (Some 1) many (depth_within links n) (suc n) (record { count = 1; found = refl; few = omega arith })
    (λ k a less. step_most (get_or many k a) (depth_within links n) n d (depth_within-most links n) (each k a less)) in
    let same : d ≡ short.count = same_Some d short.count (sym e ∙ short.found) in
    omega (arith, short.few)

-- a task that is an activator has a chain of fewer
pub depth_within-deeper : (links : Links) (n i d : ℕ) (j : TaskId) → HasActivator (slice_index_or links i []) (Task j) → depth_within links (suc n) i ≡ Some d → IsWithin (depth_within links n j.0) (d - 1)
depth_within-deeper links n i d j has e =
    let here : IsWithin (chain_step (Task j) (depth_within links n)) d = has-each (λ a. IsWithin (chain_step a (depth_within links n)) d) (slice_index_or links i []) (Task j) (depth_within-each links n i d e) has in
    let some = depth_within-some links (suc n) i d e in
    step-back j.0 (depth_within links n) (d - 1) (within-more (chain_step (Task j) (depth_within links n)) d (suc (d - 1)) (omega arith) here)

-- the same at a system, where a task is among the activators of another
pub activated-has : (s : SystemLists) (j i : ℕ) → is_activated_by s j i ≡ true → HasActivator (slice_index_or (activators s.tasks) i []) (Task (record { 0 = j }))
activated-has s j i by = rw (activators_at s.tasks i) (has-task j (task_at s i).after by)

pub depth_within-activated : (s : SystemLists) (n i j : ℕ) → is_activated_by s j i ≡ true → IsSome (depth_within (activators s.tasks) (suc n) i) → IsSome (depth_within (activators s.tasks) n j)
depth_within-activated s n i j by some =
    let deep = some-within (depth_within (activators s.tasks) (suc n) i) some in
    let has = activated-has s j i by in
    let less = depth_within-deeper (activators s.tasks) n i deep.0 (record { 0 = j }) has deep.1 in
    within-some (depth_within (activators s.tasks) n j) (deep.0 - 1) less

pub depth_of-found : (s : SystemLists) → IsSystem s → (i : ℕ) → i < length s.tasks → depth_within (activators s.tasks) 32 i ≡ Some (depth_of s i)
depth_of-found s rules i less = by (depth_within (activators s.tasks) 32 i) (rules.chains i less)
  where
    by : (o : Option ℕ) → IsSome o → o ≡ Some (unwrap_or o 0)
    by None some = absurd (false≢true some)
    by (Some d) some = refl

-- an activator is there
pub activated-there : (s : SystemLists) → IsSystem s → (i j : ℕ) → i < length s.tasks → is_activated_by s j i ≡ true → j < length s.tasks
activated-there s rules i j less by = has-each (IsActivator s) (task_at s i).after (Task (record { 0 = j })) (rules.tasks i no_task less).activated (has-task j (task_at s i).after by)

pub fed-there : (s : SystemLists) → IsSystem s → (i k : ℕ) → i < length s.tasks → is_fed_by s k i ≡ true → k < length s.sources
fed-there s rules i k less by = has-each (IsActivator s) (task_at s i).after (Source (record { 0 = k })) (rules.tasks i no_task less).activated (has-source k (task_at s i).after by)

-- and less deep
pub depth_of-activated : (s : SystemLists) → IsSystem s → (i j : ℕ) → i < length s.tasks → is_activated_by s j i ≡ true → suc (depth_of s j) ≤ depth_of s i
depth_of-activated s rules i j less by =
    let deep = depth_of-found s rules i less in
    let has = activated-has s j i by in
    let w = depth_within-deeper (activators s.tasks) 31 i (depth_of s i) (record { 0 = j }) has deep in
    let found = depth_within-more (activators s.tasks) 31 j w.count w.found in
    let same : w.count ≡ depth_of s j = same_Some w.count (depth_of s j) (sym found ∙ depth_of-found s rules j (activated-there s rules i j less by)) in
    let some = depth_within-some (activators s.tasks) 32 i (depth_of s i) deep in
    omega (arith, w.few)

most_or : (o : Option ℕ) (n : ℕ) → ((d : ℕ) → o ≡ Some d → d ≤ n) → unwrap_or o 0 ≤ n
most_or None n most = omega arith
most_or (Some d) n most = most d refl

-- no chain is longer than 32
pub depth_of-most : (s : SystemLists) (i : ℕ) → depth_of s i ≤ 32
depth_of-most s i = most_or (depth_within (activators s.tasks) 32 i) 32 (depth_within-most (activators s.tasks) 32 i)

-- and each has some tasks
pub depth_of-some : (s : SystemLists) → IsSystem s → (i : ℕ) → i < length s.tasks → 1 ≤ depth_of s i
depth_of-some s rules i less = depth_within-some (activators s.tasks) 32 i (depth_of s i) (depth_of-found s rules i less)

-- the tasks of a path are so many of a chain
abbrev pub no_id : TaskId
no_id = record { 0 = 0 }

pub path-depth : (s : SystemLists) → IsSystem s → (p : Path) → IsPath s p → (k : ℕ) → k < length p.tasks → k + 1 ≤ depth_of s (get_or p.tasks k no_id).0
path-depth s rules p path zero h = depth_of-some s rules (get_or p.tasks 0 no_id).0 (path.there 0 no_id h)
path-depth s rules p path (suc k) h =
    let before = path-depth s rules p path k (omega arith) in
    let more : k + 1 ≡ suc k = omega arith in
    let link = path.linked k (omega arith) in
    let here : is_activated_by s (get_or p.tasks k no_id).0 (get_or p.tasks (suc k) no_id).0 ≡ true = rw more at link in
    let deeper = depth_of-activated s rules (get_or p.tasks (suc k) no_id).0 (get_or p.tasks k no_id).0 (path.there (suc k) no_id h) here in
    omega arith

-- so no path is longer than a chain
pub path-short : (s : SystemLists) → IsSystem s → (p : Path) → IsPath s p → length p.tasks ≤ 32
path-short s rules p path =
    let last : length p.tasks - 1 + 1 ≡ length p.tasks = omega (arith, path.some) in
    let deep = path-depth s rules p path (length p.tasks - 1) (omega (arith, path.some)) in
    let most = depth_of-most s (get_or p.tasks (length p.tasks - 1) no_id).0 in
    omega arith

-- streams

step_same : (links : Links) (n most : ℕ) → ((j d : ℕ) → depth_within links n j ≡ Some d → streams_within links (suc n) j ≡ streams_within links n j)
    → (a : Activator) → IsWithin (chain_step a (depth_within links n)) most → streams_by links (suc n) a ≡ streams_by links n a
step_same links n most same (Source k) w = refl
step_same links n most same (Task j) w =
    let less = step-back j.0 (depth_within links n) most (within-more (chain_step (Task j) (depth_within links n)) most (suc most) (omega arith) w) in
    same j.0 less.count less.found

-- where all chains have ended, there are no further streams
pub streams_within-more : (links : Links) (n i d : ℕ) → depth_within links n i ≡ Some d → streams_within links (suc n) i ≡ streams_within links n i
unfolding depth_within streams_within
streams_within-more links zero i d e = absurd (none-some d e)
streams_within-more links (suc n) i d e =
    let many = slice_index_or links i [] in
    let each = depth_within-each links n i d e in
    flat_map-same (streams_by links (suc n)) (streams_by links n) many (λ k a less. step_same links n d (streams_within-more links n) (get_or many k a) (each k a less))

-- so the streams of a task are those of its activators, one after the other
pub streams_of-activators : (s : SystemLists) → IsSystem s → (i : ℕ) → i < length s.tasks → streams_of s i ≡ flat_map (λ a. streams_step a (streams_of s)) (task_at s i).after
streams_of-activators s rules i less =
    let links = activators s.tasks in
    let each = depth_within-each links 31 i (depth_of s i) (depth_of-found s rules i less) in
    streams_within-step links 32 i (omega arith)
    ∙ sym (flat_map-same (streams_by links 32) (streams_by links 31) (slice_index_or links i []) (λ k a within. step_same links 31 (depth_of s i) (streams_within-more links 31) (get_or (slice_index_or links i []) k a) (each k a within)))
    ∙ ap (flat_map (streams_by links 32)) (activators_at s.tasks i)

-- a task has some streams, whose sources are there
record AreStreams (s : SystemLists) (ks : List SourceId) : Type 0 where
  pub some : 1 ≤ length ks
  pub there : All (λ (k : SourceId). k.0 < length s.sources) ks

one-stream : (s : SystemLists) (k : SourceId) → k.0 < length s.sources → AreStreams s (k ∷ [])
one-stream s k there = record { some = omega arith; there = All-cons (λ (k : SourceId). k.0 < length s.sources) k [] there (All-nil (λ (k : SourceId). k.0 < length s.sources)) }

streams-by : (s : SystemLists) (n most : ℕ) → ((j : ℕ) → j < length s.tasks → IsSome (depth_within (activators s.tasks) n j) → AreStreams s (streams_within (activators s.tasks) n j))
    → (a : Activator) → IsActivator s a → IsWithin (chain_step a (depth_within (activators s.tasks) n)) most → AreStreams s (streams_by (activators s.tasks) n a)
streams-by s n most each (Source k) there w = one-stream s k there
streams-by s n most each (Task j) there w =
    let less = step-back j.0 (depth_within (activators s.tasks) n) most (within-more (chain_step (Task j) (depth_within (activators s.tasks) n)) most (suc most) (omega arith) w) in
    each j.0 there (within-some (depth_within (activators s.tasks) n j.0) most less)

joined-streams : (s : SystemLists) (f : Activator → List SourceId) (many : List Activator) → 0 < length many → All (λ a. AreStreams s (f a)) many → AreStreams s (flat_map f many)
joined-streams s f many some each =
    let long = flat_map-long f many (λ k a less. (each k a less).some) in
    record { some = omega arith; there = flat_map-all (λ (k : SourceId). k.0 < length s.sources) f many (λ k a less. (each k a less).there) }

streams_within-are : (s : SystemLists) → IsSystem s → (n i : ℕ) → i < length s.tasks → IsSome (depth_within (activators s.tasks) n i) → AreStreams s (streams_within (activators s.tasks) n i)
streams_within-are s rules zero i less some = absurd (false≢true (rw (depth_within-none (activators s.tasks) 0 i refl) at some))
streams_within-are s rules (suc n) i less some =
    let links = activators s.tasks in
    let many = (task_at s i).after in
    let deep = some-within (depth_within links (suc n) i) some in
    let each : All (λ a. IsWithin (chain_step a (depth_within links n)) deep.0) many = rw (activators_at s.tasks i) at (depth_within-each links n i deep.0 deep.1) in
    let task = rules.tasks i no_task less in
    let is : streams_within links (suc n) i ≡ flat_map (streams_by links n) many = streams_within-next links (suc n) n i refl ∙ ap (flat_map (streams_by links n)) (activators_at s.tasks i) in
    rw is
    (joined-streams s (streams_by links n) many task.some
    (λ k a within. streams-by s n deep.0 (streams_within-are s rules n) (get_or many k a) (task.activated k a within) (each k a within)))

streams_of-are : (s : SystemLists) → IsSystem s → (i : ℕ) → i < length s.tasks → AreStreams s (streams_of s i)
streams_of-are s rules i less = streams_within-are s rules 32 i less (rules.chains i less)

pub streams_of-some : (s : SystemLists) → IsSystem s → (i : ℕ) → i < length s.tasks → 1 ≤ length (streams_of s i)
streams_of-some s rules i less = (streams_of-are s rules i less).some

pub streams_of-few : (s : SystemLists) → IsSystem s → (i : ℕ) → i < length s.tasks → length (streams_of s i) ≤ 32
streams_of-few s rules i less = rules.streams i less

pub stream_at-there : (s : SystemLists) → IsSystem s → (i k : ℕ) → i < length s.tasks → k < length (streams_of s i) → (stream_at s i k).0 < length s.sources
stream_at-there s rules i k less within = (streams_of-are s rules i less).there k (record { 0 = 0 }) within

pub root_of-there : (s : SystemLists) → IsSystem s → (i : ℕ) → i < length s.tasks → (root_of s i).0 < length s.sources
root_of-there s rules i less = stream_at-there s rules i 0 less (omega (arith, streams_of-some s rules i less))

-- each activator gives at least one stream, so there are no more activators than streams
pub streams_by-some : (s : SystemLists) → IsSystem s → (a : Activator) → IsActivator s a → 1 ≤ length (streams_step a (streams_of s))
streams_by-some s rules (Source k) there = omega arith
streams_by-some s rules (Task j) there = streams_of-some s rules j.0 there

pub activators-few : (s : SystemLists) → IsSystem s → (i : ℕ) → i < length s.tasks → length (task_at s i).after ≤ length (streams_of s i)
activators-few s rules i less =
    let many = (task_at s i).after in
    rw (streams_of-activators s rules i less)
    (flat_map-long (λ a. streams_step a (streams_of s)) many (λ k a within. streams_by-some s rules (get_or many k a) ((rules.tasks i no_task less).activated k a within)))

-- the streams of an activator stand past those of the activators before it
pub stream_at-activator : (s : SystemLists) → IsSystem s → (i k m : ℕ) (d : Activator) → i < length s.tasks → k < length (task_at s i).after → m < length (streams_step (get_or (task_at s i).after k d) (streams_of s))
    → stream_at s i (length (flat_map (λ a. streams_step a (streams_of s)) (take k (task_at s i).after)) + m) ≡ get_or (streams_step (get_or (task_at s i).after k d) (streams_of s)) m (record { 0 = 0 })
stream_at-activator s rules i k m d less within short =
    ap (λ ks. get_or ks (length (flat_map (λ a. streams_step a (streams_of s)) (take k (task_at s i).after)) + m) (record { 0 = 0 })) (streams_of-activators s rules i less)
    ∙ get_or-flat_map (λ a. streams_step a (streams_of s)) (task_at s i).after k m d (record { 0 = 0 }) within short

-- the slots of a resource, one task further
pub range-more : (a n : ℕ) → range_with_len a (n + 1) ≡ range_with_len a n ++ (a + n) ∷ []
range-more a zero = rw add-zero refl
range-more a (suc n) =
    let one : suc n + 1 ≡ suc (n + 1) = omega arith in
    let last : a + 1 + n ≡ a + suc n = omega arith in
    rw one (ap (λ rest. a ∷ rest) (range-more (a + 1) n ∙ ap (λ m. range_with_len (a + 1) n ++ m ∷ []) last))

one-more : (f : ℕ → ℕ) (b : Bool) (m : ℕ) (p : ℕ → Bool) → p m ≡ b → sum_by f (filter p (m ∷ [])) ≡ cond b (f m) 0
one-more f true m p e = rw e (omega arith)
one-more f false m p e = rw e refl

pub slots-more : (f : ℕ → ℕ) (p : ℕ → Bool) (n : ℕ) → sum_by f (filter p (range_with_len 0 (n + 1))) ≡ sum_by f (filter p (range_with_len 0 n)) + cond (p n) (f n) 0
slots-more f p n =
    let same : 0 + n ≡ n = omega arith in
    ap (λ ms. sum_by f (filter p ms)) (range-more 0 n ∙ ap (λ m. range_with_len 0 n ++ m ∷ []) same)
    ∙ ap (sum_by f) (filter-append p (range_with_len 0 n) (n ∷ []))
    ∙ sum_by-append f (filter p (range_with_len 0 n)) (filter p (n ∷ []))
    ∙ ap (λ x. sum_by f (filter p (range_with_len 0 n)) + x) (one-more f (p n) n p refl)

pub slot-small : (k : Kind) (t : Turn) → TurnFits k t → slot_of t ≤ 10000000
slot-small k (turn.Priority number) h = omega arith
slot-small kind.Preemptive (turn.Slot ticks) h = absurd h
slot-small kind.RoundRobin (turn.Slot ticks) h = h.1
slot-small (kind.Tdma gap) (turn.Slot ticks) h = h.1
slot-small (kind.Can bit) (turn.Slot ticks) h = absurd h
slot-small kind.Fifo (turn.Slot ticks) h = absurd h
slot-small kind.Ceiling (turn.Slot ticks) h = absurd h
slot-small k turn.Queued h = omega arith

-- a region is in its range under any kind
pub region-range : (k : Kind) (ticks : ℕ) → RegionFits k ticks → (1 ≤ ticks) × (ticks ≤ 10000000)
region-range kind.Preemptive ticks h = h
region-range kind.RoundRobin ticks h = (omega arith, omega arith)
region-range (kind.Tdma gap) ticks h = (omega arith, omega arith)
region-range (kind.Can bit) ticks h = (omega arith, omega arith)
region-range kind.Fifo ticks h = (omega arith, omega arith)
region-range kind.Ceiling ticks h = h

-- and a region of a tick fits any kind
pub tick-fits : (k : Kind) → RegionFits k 1
tick-fits kind.Preemptive = (omega arith, omega arith)
tick-fits kind.RoundRobin = refl
tick-fits (kind.Tdma gap) = refl
tick-fits (kind.Can bit) = refl
tick-fits kind.Fifo = refl
tick-fits kind.Ceiling = (omega arith, omega arith)

pub gap-small : (k : Kind) → KindFits k → gap_of k ≤ 10000000
gap-small kind.Preemptive h = omega arith
gap-small kind.RoundRobin h = omega arith
gap-small (kind.Tdma gap) h = h
gap-small (kind.Can bit) h = omega arith
gap-small kind.Fifo h = omega arith
gap-small kind.Ceiling h = omega arith

pub cond-small : (b : Bool) (n most : ℕ) → n ≤ most → cond b n 0 ≤ most
cond-small true n most h = h
cond-small false n most h = omega arith
