-- Streams that are gathered along all chains of a task.
use Rattle.std.proofs.Common.{◌≡◌, ℕ, ◌+◌, ◌-◌, ◌*◌, max, ◌<◌, ◌≤◌, Bool, true, false, length, List, [], ◌∷◌, ◌++◌, take, drop, get_or, suc, All, Option, Some, None, refl, sym, ap, ◌∙◌, subst, arith}
use Rattle.std.specs.List.{flat_map, list_any}
use Rattle.std.specs.Option.{ForSome}
use Rattle.std.proofs.lemmas.List.{append-nil, length-append, length-map}
use Rattle.std.proofs.lemmas.List.Elements.{All-head}
use Rattle.std.proofs.lemmas.List.Folds.{list_any_at}
use Rattle.std.proofs.lemmas.Bool.{or_left}
use Rattle.std.proofs.lemmas.Option.{none-some, same_Some}
use Rattle.std.proofs.Math.Nat.{max-le}
use Rattle.std.proofs.Math.Seq.{drop-cons}
use Rattle.cpa_units.specs.declared.bound.Bound.{Bound}
use Rattle.cpa_units.specs.declared.bound.Bound.TheVariants.{Within, Overload}
use Rattle.cpa_units.specs.declared.limits.TheConstants.{MAX_CHAIN, MAX_JITTER, MAX_LIMIT, MAX_EXECUTION}
use Rattle.cpa_units.specs.declared.places.SourceId.{SourceId}
use Rattle.cpa_units.specs.declared.places.TaskId.{TaskId}
use Rattle.cpa_units.specs.Bounds.{RespectsLimit, bound_of}
use Rattle.cpa_events.specs.declared.TheConstants.{MAX_STREAMS}
use Rattle.cpa_events.specs.declared.stream.TheConstants.{MAX_MODEL_JITTER}
use Rattle.cpa_events.specs.declared.stream.Stream.{Stream}
use Rattle.cpa_events.specs.Streams.{stream_later}
use Rattle.cpa_events.specs.Events.{Model, later, IsModelInRange, HasJitterUpTo}
use Rattle.cpa_events.proofs.EventLaws.{jitter-weaken, later-none, later-response}
use Rattle.cpa_model.specs.declared.entries.Activator.{Activator}
use Rattle.cpa_model.specs.declared.entries.Activator.TheVariants.{Source as FromSource, Task as FromTask}
use Rattle.cpa_model.specs.Chains.{streams_step}
use Rattle.cpa_model.specs.Rules.{IsSystem, IsTask, IsActivator}
use Rattle.cpa_model.specs.Streams.{source_stream}
use Rattle.cpa_model.specs.SystemLists.{SystemLists, task_at, depth_of, streams_of, is_task, no_task}
use Rattle.cpa_model.proofs.SystemLaws.{activated-there, depth_of-activated, streams_of-activators}
use Rattle.cpa_local.specs.Inputs.{output_of, sent_by, joined, sent_by_all, input, found_if}
use Rattle.cpa_local.specs.Gathered.{IsOnWay, later_of, so_far}
use Rattle.cpa_local.specs.Solution.{IsVector}
use Rattle.cpa_local.proofs.SentLaws.{is_task-itself, joined-assoc, later_of-joined}
use Rattle.cpa_local.proofs.StreamLaws.{HasPeriods, periods-long, sent-periods, input-periods, input-long}
use Rattle.cpa_local.proofs.InputLaws.{IsWithin, input-all, input-within, best-is}

-- ---- several tasks in a row

pub later_of-none : (o : Option Model) → later_of 0 0 o ≡ o
later_of-none None = refl
later_of-none (Some m) = ap Some (later-none m)

-- what is found first, by no way
pub found-first : (o : Option Model) → joined (Some []) (later_of 0 0 o) ≡ o
found-first o = ap (joined (Some [])) (later_of-none o) ∙ alone o
  where
    alone : (p : Option Model) → joined (Some []) p ≡ p
    alone None = refl
    alone (Some m) = refl

later_of-output : (late least best bound : ℕ) (o : Option Model) → later_of late least (output_of best (Within bound) o) ≡ later_of (late + (bound - best)) (max least (best - late)) o
later_of-output late least best bound None = refl
later_of-output late least best bound (Some m) = ap Some (later-response m best bound late least)

-- ---- the streams of one input, one after the other

pub record IsPutting (before m : Model) (late least count : ℕ) (none : Bool) (found : Model) : Type 0 where
  pub same : so_far none found ≡ before ++ later (take count m) late least
  pub begun : 0 < count → none ≡ false

-- ---- the streams of one activator after those of another

pub record IsGathering (s : SystemLists) (x : List Bound) (i late least : ℕ) (none : Bool) (found : Model) (rest : List Activator) (first : Bool) (now : Model) : Type 0 where
  pub same : joined (Some (so_far none found)) (later_of late least (input s x i)) ≡ joined (Some (so_far first now)) (later_of late least (sent_by_all s x (input s x) rest))
  pub room : length (so_far first now) + length (flat_map (λ (a : Activator). streams_step a (streams_of s)) rest) ≤ MAX_STREAMS

-- what one activator sends is put behind what was found so far; what it sends may be unbounded
abbrev pub IsSent : SystemLists → List Bound → ℕ → ℕ → Activator → Bool → Model → Bool → Model → Type 0
IsSent s x late least a first now all new = found_if all new ≡ joined (Some (so_far first now)) (later_of late least (sent_by s x (input s x) a))

module _ (s : SystemLists) (x : List Bound) (rules : IsSystem s) (i late least : ℕ) (there : i < length s.tasks) where
  pub gather-start : (none : Bool) (found : Model) → length (so_far none found) + length (streams_of s i) ≤ MAX_STREAMS → IsGathering s x i late least none found (task_at s i).after none found
  gather-start none found room =
      record {
        same = ap (λ o. joined (Some (so_far none found)) (later_of late least o)) (input-all s x rules i there);
        room = subst (λ ks. length (so_far none found) + length ks ≤ MAX_STREAMS) (streams_of-activators s rules i there) room;
      }

  module _ (none first : Bool) (found now : Model) (a : Activator) (rest : List Activator) (h : IsGathering s x i late least none found (a ∷ rest) first now) where
    -- the activator apart from those behind it
    split : joined (Some (so_far none found)) (later_of late least (input s x i))
        ≡ joined (joined (Some (so_far first now)) (later_of late least (sent_by s x (input s x) a))) (later_of late least (sent_by_all s x (input s x) rest))
    split =
        h.same
        ∙ ap (joined (Some (so_far first now))) (later_of-joined late least (sent_by s x (input s x) a) (sent_by_all s x (input s x) rest))
        ∙ sym (joined-assoc (Some (so_far first now)) (later_of late least (sent_by s x (input s x) a)) (later_of late least (sent_by_all s x (input s x) rest)))

    -- how many streams an activator sends
    sent_long : ((j : ℕ) → is_task j a ≡ true → j < length s.tasks) → (new : Model) (o : Option Model) → sent_by s x (input s x) a ≡ o → Some new ≡ joined (Some (so_far first now)) (later_of late least o) → length new ≡ length (so_far first now) + length (streams_step a (streams_of s))
    sent_long apart new None is sent = absurd (none-some new (sym sent))
    sent_long apart new (Some m) is sent =
        let periods : HasPeriods s x rules (Some m) (streams_step a (streams_of s)) =
        subst (λ o. HasPeriods s x rules o (streams_step a (streams_of s))) is (sent-periods s x rules a (input s x) (streams_of s) (λ j e. input-periods s x rules j (apart j e))) in
        let many = periods-long s x rules m (streams_step a (streams_of s)) periods in
        ap length (same_Some new (so_far first now ++ later m late least) sent) ∙ (length-append (so_far first now) (later m late least) ∙ ap (λ n. length (so_far first now) + n) (length-map m (stream_later late least) ∙ many))

    pub gather-next : ((j : ℕ) → is_task j a ≡ true → j < length s.tasks) → (new : Model) → IsSent s x late least a first now true new → IsGathering s x i late least none found rest false new
    gather-next apart new sent =
        let long = sent_long apart new (sent_by s x (input s x) a) refl sent in
        let both : length (flat_map (λ (b : Activator). streams_step b (streams_of s)) (a ∷ rest)) ≡ length (streams_step a (streams_of s)) + length (flat_map (λ (b : Activator). streams_step b (streams_of s)) rest) = length-append (streams_step a (streams_of s)) (flat_map (λ (b : Activator). streams_step b (streams_of s)) rest) in
        let room = h.room in
        record {
          same = split ∙ ap (λ o. joined o (later_of late least (sent_by_all s x (input s x) rest))) (sym sent);
          room = omega arith;
        }

-- ---- a walk over the activators

-- the activator that a walk over them has come to
pub walked-task : (s : SystemLists) (i : ℕ) (j : TaskId) (after : List Activator) (k : ℕ) (d : Activator) → after ≡ (task_at s i).after → k < length after → get_or after k d ≡ FromTask j → list_any (is_task j.0) (task_at s i).after ≡ true
walked-task s i j after k d are less is =
    subst (λ (ts : List Activator). list_any (is_task j.0) ts ≡ true) are
    (list_any_at (is_task j.0) after k d less (ap (is_task j.0) is ∙ is_task-itself j.0))

module _ (s : SystemLists) (x : List Bound) (rules : IsSystem s) (i late least : ℕ) (there : i < length s.tasks) (none first : Bool) (found now : Model)
    (after : List Activator) (k : ℕ) (d a : Activator) (are : after ≡ (task_at s i).after) (less : k < length after) (is : get_or after k d ≡ a) (h : IsGathering s x i late least none found (drop k after) first now) where
  here : IsGathering s x i late least none found (a ∷ drop (k + 1) after) first now
  here =
      let next : suc k ≡ k + 1 = omega arith in
      subst (λ rest. IsGathering s x i late least none found rest first now) (drop-cons after k d less ∙ (ap (λ b. b ∷ drop (suc k) after) is ∙ ap (λ n. a ∷ drop n after) next)) h

  pub gather-room : length (so_far first now) + length (streams_step a (streams_of s)) ≤ MAX_STREAMS
  gather-room =
      let both : length (flat_map (λ (b : Activator). streams_step b (streams_of s)) (a ∷ drop (k + 1) after)) ≡ length (streams_step a (streams_of s)) + length (flat_map (λ (b : Activator). streams_step b (streams_of s)) (drop (k + 1) after)) =
      length-append (streams_step a (streams_of s)) (flat_map (λ (b : Activator). streams_step b (streams_of s)) (drop (k + 1) after)) in
      let room = here.room in
      omega arith

  apart : (j : ℕ) → is_task j a ≡ true → j < length s.tasks
  apart j e =
      activated-there s rules i j there
      (subst (λ (ts : List Activator). list_any (is_task j) ts ≡ true) are (list_any_at (is_task j) after k d less (ap (is_task j) is ∙ e)))

  pub gather-step : (new : Model) → IsSent s x late least a first now true new → IsGathering s x i late least none found (drop (k + 1) after) false new
  gather-step new sent = gather-next s x rules i late least there none first found now a (drop (k + 1) after) here apart new sent

-- ---- what one activator sends

module _ (s : SystemLists) (x : List Bound) (late least : ℕ) (j : TaskId) where
  pub sent-task : (first all : Bool) (now new : Model) (bound : ℕ) → bound_of x j.0 ≡ Within bound
      → found_if all new ≡ joined (Some (so_far first now)) (later_of (late + (bound - (task_at s j.0).best)) (max least ((task_at s j.0).best - late)) (input s x j.0))
      → IsSent s x late least (FromTask j) first now all new
  sent-task first all now new bound is found =
      found
      ∙ ap (joined (Some (so_far first now))) (sym (ap (λ b. later_of late least (output_of (task_at s j.0).best b (input s x j.0))) is ∙ later_of-output late least (task_at s j.0).best bound (input s x j.0)))

-- where what a task receives is one stream at the end of a way, it has one
module _ (s : SystemLists) (x : List Bound) (rules : IsSystem s) (i late least : ℕ) (u : Stream) where
  pub sent-one : i < length s.tasks → later_of late least (input s x i) ≡ Some (u ∷ []) → length (streams_of s i) ≡ 1
  sent-one there e = by (input s x i) refl e
    where
      by : (o : Option Model) → input s x i ≡ o → later_of late least o ≡ Some (u ∷ []) → length (streams_of s i) ≡ 1
      by None is sends = absurd (none-some (u ∷ []) sends)
      by (Some m) is sends =
          sym (input-long s x rules i m there is) ∙ (sym (length-map m (stream_later late least)) ∙ ap length (same_Some (later m late least) (u ∷ []) sends))

-- ---- the numbers on the way

module _ (s : SystemLists) (x : List Bound) (rules : IsSystem s) (vector : IsVector s x) (i j late least bound : ℕ) (there : i < length s.tasks) (after : (list_any (is_task j) (task_at s i).after) ≡ true) (is : bound_of x j ≡ Within bound) where
  bound-small : bound ≤ MAX_LIMIT
  bound-small = let limit : RespectsLimit MAX_LIMIT (Within bound) = subst (RespectsLimit MAX_LIMIT) is (vector.high j (activated-there s rules i j there after)) in limit

  pub way-room : late + depth_of s i * MAX_LIMIT ≤ MAX_CHAIN * MAX_LIMIT → late + bound ≤ MAX_CHAIN * MAX_LIMIT
  way-room room = let deep = depth_of-activated s rules i j there after in omega (arith, bound-small)

  pub way-late : late + depth_of s i * MAX_LIMIT ≤ MAX_CHAIN * MAX_LIMIT → late + (bound - (task_at s j).best) + depth_of s j * MAX_LIMIT ≤ MAX_CHAIN * MAX_LIMIT
  way-late room = let deep = depth_of-activated s rules i j there after in omega (arith, bound-small)

  pub way-least : least ≤ MAX_EXECUTION → max least ((task_at s j).best - late) ≤ MAX_EXECUTION
  way-least small = max-le small (let own = best-is s x rules vector j (activated-there s rules i j there after) in omega (arith, own.small))

-- an input that is known has room for what the way adds
module _ (s : SystemLists) (x : List Bound) (rules : IsSystem s) (vector : IsVector s x) (j late : ℕ) (there : j < length s.tasks) (o : Option Model) (is : o ≡ input s x j) where
  within : IsWithin (depth_of s j) o
  within = subst (IsWithin (depth_of s j)) (sym is) (input-within s x rules vector j there)

  pub known-range : ForSome o IsModelInRange
  known-range m e = (subst (IsWithin (depth_of s j)) e within).0

  pub known-jitter : late + depth_of s j * MAX_LIMIT ≤ MAX_CHAIN * MAX_LIMIT → ForSome o (λ m. HasJitterUpTo m (MAX_MODEL_JITTER - late))
  known-jitter room m e =
      jitter-weaken m (MAX_JITTER + depth_of s j * MAX_LIMIT) (MAX_MODEL_JITTER - late) (subst (IsWithin (depth_of s j)) e within).1 (omega arith)

  pub known-room : (count : ℕ) → count + length (streams_of s j) ≤ MAX_STREAMS → ForSome o (λ m. count + length m ≤ MAX_STREAMS)
  known-room count room m e = let long = input-long s x rules j m there (sym is ∙ e) in omega arith

-- ---- back while there is one activator

joined-nothing : (o : Option Model) → joined o (Some []) ≡ o
joined-nothing None = refl
joined-nothing (Some m) = ap Some (append-nil m)

module _ (s : SystemLists) (x : List Bound) (rules : IsSystem s) (at : ℕ) where
  pub one-activated : (k : TaskId) → (task_at s at).after ≡ FromTask k ∷ [] → list_any (is_task k.0) (task_at s at).after ≡ true
  one-activated k one = rw one (or_left _ _ (is_task-itself k.0))

  -- what comes in is what the one activator sends
  pub one-sent : (a : Activator) → at < length s.tasks → (task_at s at).after ≡ a ∷ [] → input s x at ≡ sent_by s x (input s x) a
  one-sent a there one = input-all s x rules at there ∙ (ap (sent_by_all s x (input s x)) one ∙ joined-nothing (sent_by s x (input s x) a))

module _ (s : SystemLists) (x : List Bound) (rules : IsSystem s) (i late least : ℕ) where
  pub way-start : i < length s.tasks → late + depth_of s i * MAX_LIMIT ≤ MAX_CHAIN * MAX_LIMIT → least ≤ MAX_EXECUTION → IsOnWay s x i late least i late least
  way-start there room small = record { there = there; same = refl; room = room; small = small; long = refl; deep = omega arith }

  -- at a source
  pub way-source : (at more floor : ℕ) (k : SourceId) → (task_at s at).after ≡ FromSource k ∷ [] → IsOnWay s x i late least at more floor → later_of late least (input s x i) ≡ Some (stream_later more floor (source_stream s k.0) ∷ [])
  way-source at more floor k one way = way.same ∙ ap (later_of more floor) (one-sent s x rules at (FromSource k) way.there one)

  pub way-source-there : (at more floor : ℕ) (k : SourceId) → (task_at s at).after ≡ FromSource k ∷ [] → IsOnWay s x i late least at more floor → k.0 < length s.sources
  way-source-there at more floor k one way =
      let t : IsTask s (task_at s at) = rules.tasks at no_task way.there in
      All-head (IsActivator s) (FromSource k) [] (subst (All (IsActivator s)) one t.activated)

  module _ (at more floor : ℕ) (k : TaskId) (one : (task_at s at).after ≡ FromTask k ∷ []) (way : IsOnWay s x i late least at more floor) where
    pub way-activated : list_any (is_task k.0) (task_at s at).after ≡ true
    way-activated = one-activated s x rules at k one

    pub way-there : k.0 < length s.tasks
    way-there = activated-there s rules at k.0 way.there way-activated

    sent : input s x at ≡ output_of (task_at s k.0).best (bound_of x k.0) (input s x k.0)
    sent = one-sent s x rules at (FromTask k) way.there one

    pub way-unbounded : bound_of x k.0 ≡ Overload → later_of late least (input s x i) ≡ None
    way-unbounded is = way.same ∙ ap (later_of more floor) (sent ∙ ap (λ b. output_of (task_at s k.0).best b (input s x k.0)) is)

    pub way-next : (bound : ℕ) → IsVector s x → bound_of x k.0 ≡ Within bound → IsOnWay s x i late least k.0 (more + (bound - (task_at s k.0).best)) (max floor ((task_at s k.0).best - more))
    way-next bound vector is =
        let less = depth_of-activated s rules at k.0 way.there way-activated in
        let deep = way.deep in
        let streams : streams_of s at ≡ streams_of s k.0 =
        streams_of-activators s rules at way.there ∙ (ap (flat_map (λ (a : Activator). streams_step a (streams_of s))) one ∙ append-nil (streams_of s k.0)) in
        record {
          there = way-there;
          same = way.same ∙ (ap (later_of more floor) (sent ∙ ap (λ b. output_of (task_at s k.0).best b (input s x k.0)) is) ∙ later_of-output more floor (task_at s k.0).best bound (input s x k.0));
          room = way-late s x rules vector at k.0 more floor bound way.there way-activated is way.room;
          small = way-least s x rules vector at k.0 more floor bound way.there way-activated is way.small;
          long = sym (ap length streams) ∙ way.long;
          deep = omega arith;
        }

    pub way-longer : (bound : ℕ) → IsVector s x → bound_of x k.0 ≡ Within bound → more + bound ≤ MAX_CHAIN * MAX_LIMIT
    way-longer bound vector is = way-room s x rules vector at k.0 more floor bound way.there way-activated is way.room
