-- What raising one bound does.
use Rattle.std.proofs.Common.{◌≡◌, ℕ, ◌+◌, ◌<◌, ◌≤◌, length, set, true, List, get_or, refl, sym, ap, ◌∙◌, inl, inr, subst, arith, get_or-set_same, get_or-set_other, length-set}
use Rattle.std.proofs.lemmas.Bool.{cases_eq}
use Rattle.cpa_units.specs.declared.bound.Bound.{Bound}
use Rattle.cpa_units.specs.declared.bound.Bound.TheVariants.{Within}
use Rattle.cpa_units.specs.Bounds.{IsAtMost, IsNowhereAbove, bound_of, bound_max}
use Rattle.cpa_units.specs.declared.places.TaskId.{TaskId}
use Rattle.cpa_units.specs.declared.limits.TheConstants.{MAX_LIMIT}
use Rattle.cpa_units.proofs.BoundLaws.{IsAtMost_refl, IsAtMost_trans, IsNowhereAbove_trans, le-bound_max_left, le-bound_max_right, bound_max-le, bound_max-limit}
use Rattle.cpa_model.specs.declared.entries.Kind.{Kind}
use Rattle.cpa_model.specs.declared.entries.Kind.TheVariants.{Preemptive, RoundRobin, Tdma, Can, Fifo, Ceiling}
use Rattle.cpa_model.specs.SystemLists.{SystemLists, task_at, resource_at, places_of, tasks_on}
use Rattle.cpa_model.specs.Rules.{IsSystem}
use Rattle.cpa_model.specs.Kinds.{is_queue}
use Rattle.cpa_model.proofs.SystemLaws.{no_id}
use Rattle.cpa_model.proofs.ResourceTaskLaws.{on-each, on-found}
use Rattle.cpa_local.specs.Inputs.{AreInputs}
use Rattle.cpa_local.specs.Local.{response}
use Rattle.cpa_local.specs.Solution.{IsVector, least_of}
use Rattle.cpa_local.specs.Trails.{Marks, IsMarked, IsKept, NewMarksAre, AreMarked}
use Rattle.cpa_local.specs.Worked.{Worked, IsPrepared, HasInputs}
use Rattle.cpa_local.specs.Rising.{TasksOn, IsRisen, AgreeOutside, HasInputsApart}
use Rattle.cpa_local.proofs.ResponseLaws.{response-mono}
use Rattle.cpa_local.proofs.SolutionLaws.{response-below, response-high}
use Rattle.cpa_local.proofs.TrailLaws.{IsKept_trans, NewMarks_trans, NewMarks-weaker}

bound_of-set_same : (x : List Bound) (i : ℕ) (b : Bound) → i < length x → bound_of (set x i b) i ≡ b
bound_of-set_same x i b h = get_or-set_same x i b (Within 0) h

bound_of-set_other : (x : List Bound) (i j : ℕ) (b : Bound) → (j ≡ i → ⊥) → bound_of (set x i b) j ≡ bound_of x j
bound_of-set_other x i j b ne = rw get_or-set_other refl

pub IsRisen_trans : (s : SystemLists) (a b c : List Bound) → IsRisen s a b → IsRisen s b c → IsRisen s a c
IsRisen_trans s a b c first second =
    record { vector = second.vector; up = IsNowhereAbove_trans a b c first.up second.up; below = second.below }

-- the bound of one task raised by its analysis at a vector that may be lower
pub risen-from : (s : SystemLists) (old x : List Bound) (i : ℕ) → IsSystem s → i < length s.tasks → IsNowhereAbove old (least_of s) → IsVector s x → IsNowhereAbove x (least_of s) → IsRisen s x (set x i (bound_max (response s old i) (bound_of x i)))
risen-from s old x i rules h old_below vector below =
    let b = bound_max (response s old i) (bound_of x i) in
    let here : i < length x = rw vector.long h in
    let up : IsAtMost (bound_of x i) b = le-bound_max_right (response s old i) (bound_of x i) in
    record {
      vector = record {
        long = length-set x i b ∙ vector.long;
        low = λ j k. elim (cases_eq j i) [
          | inl same ↦ rw (same, bound_of-set_same x i b here) (IsAtMost_trans (Within (task_at s i).best) (bound_of x i) b (vector.low i h) up)
          | inr other ↦ rw (bound_of-set_other x i j b other) (vector.low j k)
        ];
        high = λ j k. elim (cases_eq j i) [
          | inl same ↦ rw (same, bound_of-set_same x i b here) (bound_max-limit MAX_LIMIT (response s old i) (bound_of x i) (response-high s rules old i h) (vector.high i h))
          | inr other ↦ rw (bound_of-set_other x i j b other) (vector.high j k)
        ];
      };
      up = λ j. elim (cases_eq j i) [
        | inl same ↦ rw (same, bound_of-set_same x i b here) up
        | inr other ↦ rw (bound_of-set_other x i j b other) (IsAtMost_refl (bound_of x j))
      ];
      below = λ j. elim (cases_eq j i) [
        | inl same ↦ rw (same, bound_of-set_same x i b here) (bound_max-le (response s old i) (bound_of x i) (bound_of (least_of s) i) (response-below s old i h old_below) (below i))
        | inr other ↦ rw (bound_of-set_other x i j b other) (below j)
      ];
    }

-- and at this one
pub risen-set : (s : SystemLists) (x : List Bound) (i : ℕ) → IsSystem s → i < length s.tasks → IsVector s x → IsNowhereAbove x (least_of s) → IsRisen s x (set x i (bound_max (response s x i) (bound_of x i)))
risen-set s x i rules h vector below = risen-from s x x i rules h below vector below

-- so far the first tasks of the resource
pub record IsRaisedTo (s : SystemLists) (r : ℕ) (tasks : List TaskId) (old new : List Bound) (count : ℕ) : Type 0 where
  pub risen : IsRisen s old new
  pub others : AgreeOutside s r new old
  pub answered : (k : ℕ) → k < count → IsAtMost (response s old (get_or tasks k no_id).0) (bound_of new (get_or tasks k no_id).0)

pub answered-whole : (s : SystemLists) (r : ℕ) (tasks : List TaskId) (old new : List Bound) (count : ℕ) → places_of tasks ≡ tasks_on s r → length tasks ≤ count → IsRaisedTo s r tasks old new count
    → (i : ℕ) → i < length s.tasks → (task_at s i).res.0 ≡ r → IsAtMost (response s old i) (bound_of new i)
answered-whole s r tasks old new count are all h i less on =
    let at = on-found s r tasks are i no_id less on in
    subst (λ (j : ℕ). IsAtMost (response s old j) (bound_of new j)) at.2 (h.answered at.0 (omega (arith, at.1)))

-- a task is analysed at a vector no lower than the one before, and no higher than it has risen by then
pub raise-from : (s : SystemLists) (r : ℕ) (tasks : List TaskId) (old at new : List Bound) (k : ℕ) → IsSystem s → places_of tasks ≡ tasks_on s r → k < length tasks → (get_or tasks k no_id).0 < length s.tasks
    → IsNowhereAbove old at → IsNowhereAbove at (least_of s) → IsRaisedTo s r tasks old new k
    → IsRaisedTo s r tasks old (set new (get_or tasks k no_id).0 (bound_max (response s at (get_or tasks k no_id).0) (bound_of new (get_or tasks k no_id).0))) (k + 1)
raise-from s r tasks old at new k rules are within h up at_below raised =
    let task = (get_or tasks k no_id).0 in
    let on : (task_at s task).res.0 ≡ r = on-each s r tasks are k no_id within in
    let b = bound_max (response s at task) (bound_of new task) in
    let here : task < length new = rw raised.risen.vector.long h in
    let step = risen-from s at new task rules h at_below raised.risen.vector raised.risen.below in
    record {
      risen = IsRisen_trans s old new (set new task b) raised.risen step;
      others = λ i off. elim (cases_eq i task) [
        | inl same ↦ absurd (off (subst (λ (j : ℕ). (task_at s j).res.0 ≡ r) (sym same) on))
        | inr other ↦ bound_of-set_other new task i b other ∙ raised.others i off
      ];
      answered = λ m lt. elim (cases_eq m k) [
        | inl same ↦
            rw (same, bound_of-set_same new task b here)
            (IsAtMost_trans (response s old task) (response s at task) b (response-mono s old at up task) (le-bound_max_left (response s at task) (bound_of new task)))
        | inr other ↦
            let i = (get_or tasks m no_id).0 in
            IsAtMost_trans (response s old i) (bound_of new i) (bound_of (set new task b) i) (raised.answered m (omega arith)) (step.up i)
      ];
    }

-- at the vector as it has risen by then
pub raise-task : (s : SystemLists) (r : ℕ) (tasks : List TaskId) (old new : List Bound) (k : ℕ) → IsSystem s → places_of tasks ≡ tasks_on s r → k < length tasks → (get_or tasks k no_id).0 < length s.tasks
    → IsRaisedTo s r tasks old new k
    → IsRaisedTo s r tasks old (set new (get_or tasks k no_id).0 (bound_max (response s new (get_or tasks k no_id).0) (bound_of new (get_or tasks k no_id).0))) (k + 1)
raise-task s r tasks old new k rules are within h raised =
    raise-from s r tasks old new new k rules are within h raised.risen.up raised.risen.below raised

-- on a queue a kind is known by its answer
pub queue-kind : (k : Kind) → is_queue k ≡ true → k ≡ Fifo
queue-kind Preemptive e = cc
queue-kind RoundRobin e = cc
queue-kind (Tdma gap) e = cc
queue-kind (Can bit) e = cc
queue-kind Fifo e = refl
queue-kind Ceiling e = cc

-- ---- what the analyses share

-- a bound on r that bears on no input of r's tasks
pub prepared-raised : (s : SystemLists) (r i : ℕ) (x : List Bound) (b : Bound) (work : Worked) → HasInputsApart s r → (task_at s i).res.0 ≡ r → IsPrepared s r x work → IsPrepared s r (set x i b) work
prepared-raised s r i x b work apart on prepared =
    record { cycle = prepared.cycle; longest = prepared.longest; inputs = by (resource_at s r).kind prepared.inputs; clocks = prepared.clocks }
  where
    known : AreInputs s r x work.inputs → AreInputs s r (set x i b) work.inputs
    known inputs j less there =
        inputs j less there
        ∙ apart x (set x i b)
        (λ k off. elim (cases_eq k i) [
          | inl same ↦ absurd (off (subst (λ (q : ℕ). (task_at s q).res.0 ≡ r) (sym same) on))
          | inr other ↦ sym (bound_of-set_other x i k b other)
        ]) j there

    by : (kind : Kind) → HasInputs s r x work.inputs kind → HasInputs s r (set x i b) work.inputs kind
    by (Tdma gap) inputs = tt
    by Preemptive inputs = known inputs
    by RoundRobin inputs = known inputs
    by (Can bit) inputs = known inputs
    by Fifo inputs = known inputs
    by Ceiling inputs = known inputs

-- ---- marks of all tasks on a resource

-- so far the first tasks of the resource
pub record IsMarkedTo (s : SystemLists) (r : ℕ) (tasks : List TaskId) (before after : Marks) (count : ℕ) : Type 0 where
  pub kept : IsKept before after
  pub fresh : NewMarksAre before after (TasksOn s (λ q. q ≡ r))
  pub marked : (k : ℕ) → k < count → IsMarked after (get_or tasks k no_id).0

pub marked-whole : (s : SystemLists) (r : ℕ) (tasks : List TaskId) (before after : Marks) (count : ℕ) → places_of tasks ≡ tasks_on s r → length tasks ≤ count → IsMarkedTo s r tasks before after count
    → AreMarked after (TasksOn s (λ q. q ≡ r))
marked-whole s r tasks before after count are all h i on =
    let at = on-found s r tasks are i no_id on.0 on.1 in
    subst (λ (j : ℕ). IsMarked after j) at.2 (h.marked at.0 (omega (arith, at.1)))

pub mark-task : (s : SystemLists) (r : ℕ) (tasks : List TaskId) (before after marked : Marks) (k : ℕ) → places_of tasks ≡ tasks_on s r → k < length tasks → (get_or tasks k no_id).0 < length s.tasks
    → IsKept after marked → NewMarksAre after marked (λ i. i ≡ (get_or tasks k no_id).0) → AreMarked marked (λ i. i ≡ (get_or tasks k no_id).0) → IsMarkedTo s r tasks before after k
    → IsMarkedTo s r tasks before marked (k + 1)
mark-task s r tasks before after marked k are within h kept fresh mark so_far =
    let task = (get_or tasks k no_id).0 in
    let on : (task_at s task).res.0 ≡ r = on-each s r tasks are k no_id within in
    record {
      kept = IsKept_trans before after marked so_far.kept kept;
      fresh = NewMarks_trans before after marked (TasksOn s (λ q. q ≡ r)) so_far.fresh (NewMarks-weaker after marked (λ i. i ≡ task) (TasksOn s (λ q. q ≡ r)) (λ i same. rw same (h, on)) fresh);
      marked = λ m lt. elim (cases_eq m k) [
        | inl same ↦ mark (get_or tasks m no_id).0 (ap (λ (n : ℕ). (get_or tasks n no_id).0) same)
        | inr other ↦ kept.marks (get_or tasks m no_id).0 (so_far.marked m (omega arith))
      ];
    }
