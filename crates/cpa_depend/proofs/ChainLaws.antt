-- Walks along chains, and what resources read.
use Rattle.std.proofs.Common.{◌≡◌, ℕ, ◌+◌, ◌<◌, ◌≤◌, ◌⊎◌, ◌↔◌, ◌||◌, ◌==◌, length, take, Bool, true, false, List, [], ◌∷◌, refl, sym, ap, ◌∙◌, inl, inr, subst, slice_index_or, get_or, slice_get, Some, arith}
use Rattle.std.specs.List.{list_any}
use Rattle.std.proofs.lemmas.Bool.{false≢true, cases_lt, or_cases, or_left, or_right, eqb-true, eq-eqb}
use Rattle.std.proofs.lemmas.List.{get_or_past, get_or_default, take_all}
use Rattle.std.proofs.lemmas.List.Folds.{list_any_at, list_any_more}
use Rattle.std.proofs.lemmas.Option.{same_Some}
use Rattle.cpa_units.specs.declared.places.SourceId.{SourceId}
use Rattle.cpa_units.specs.declared.places.TaskId.{TaskId}
use Rattle.cpa_units.specs.Sets.{holds, Members}
use Rattle.cpa_model.specs.declared.entries.Activator.{Activator}
use Rattle.cpa_model.specs.declared.entries.Activator.TheVariants.{Source, Task}
use Rattle.cpa_model.specs.declared.entries.Task.{Task as Entry}
use Rattle.cpa_model.specs.SystemLists.{SystemLists, task_at, no_task, is_task, places_of, tasks_on}
use Rattle.cpa_model.proofs.SystemLaws.{no_id, activated-there}
use Rattle.cpa_model.proofs.ResourceTaskLaws.{on-each, on-found}
use Rattle.cpa_model.specs.Rules.{IsSystem, IsTask}
use Rattle.cpa_depend.specs.Cone.{Activates, LeadsTo, directly, through, Reads, itself, earlier, HasEarlierOn, LeadsBack, AreReads}

-- tasks and activators that are there

no_task-starts : (s : SystemLists) (j i : ℕ) → length s.tasks ≤ i → Activates s j i → ⊥
no_task-starts s j i past e =
    let none : list_any (is_task j) [] ≡ true = subst (λ (t : Entry). list_any (is_task j) t.after ≡ true) (get_or_past s.tasks i no_task past) e in
    false≢true none

-- what leads to a task: its activator, and what leads to that
pub LeadsTo-parts : (s : SystemLists) {j i : ℕ} → LeadsTo s j i → (k : ℕ) × Activates s k i × ((j ≡ k) ⊎ LeadsTo s j k)
LeadsTo-parts s (directly {j = j} e) = (j, e, inl refl)
LeadsTo-parts s (through {k = k} leads e) = (k, e, inr leads)

pub LeadsTo-in_range : (s : SystemLists) (j i : ℕ) → LeadsTo s j i → i < length s.tasks
LeadsTo-in_range s j i leads =
    elim (cases_lt i (length s.tasks)) [
      | inl lt ↦ lt
      | inr past ↦ let parts = LeadsTo-parts s leads in absurd (no_task-starts s parts.0 i past parts.1)
    ]

activator-in_range : (s : SystemLists) (j i : ℕ) → IsSystem s → Activates s j i → j < length s.tasks
activator-in_range s j i rules e = activated-there s rules i j (LeadsTo-in_range s j i (directly e)) e

earlier-in_range : (s : SystemLists) (j i : ℕ) → IsSystem s → LeadsTo s j i → j < length s.tasks
earlier-in_range s j i rules (directly e) = activator-in_range s j i rules e
earlier-in_range s j i rules (through {k = k} leads e) = earlier-in_range s j k rules leads

-- what is earlier than a task: its activators, and what is earlier than they are
HasEarlierOn-parts : (s : SystemLists) (i q : ℕ) → HasEarlierOn s i q → (k : ℕ) × Activates s k i × (((task_at s k).res.0 ≡ q) ⊎ HasEarlierOn s k q)
HasEarlierOn-parts s i q has =
    let parts = LeadsTo-parts s has.1 in
    (parts.0, parts.1, elim parts.2 [ inl it ↦ inl (subst (λ (n : ℕ). (task_at s n).res.0 ≡ q) it has.2) | inr leads ↦ inr (has.0, leads, has.2) ])

HasEarlierOn-more : (s : SystemLists) (i k q : ℕ) → Activates s k i → ((task_at s k).res.0 ≡ q) ⊎ HasEarlierOn s k q → HasEarlierOn s i q
HasEarlierOn-more s i k q activates h = elim h [ inl on ↦ (k, directly activates, on) | inr before ↦ (before.0, through before.1 activates, before.2) ]

-- the set has a resource more
with-here : (s : SystemLists) (all wider : List Bool) (k : ℕ) → ((q : ℕ) → holds wider q ≡ (q == (task_at s k).res.0 || holds all q)) → (q : ℕ) → (task_at s k).res.0 ≡ q → Members wider q
with-here s all wider k with_k q on = with_k q ∙ or_left _ _ (eq-eqb q (task_at s k).res.0 (sym on))

with-kept : (s : SystemLists) (all wider : List Bool) (k : ℕ) → ((q : ℕ) → holds wider q ≡ (q == (task_at s k).res.0 || holds all q)) → (q : ℕ) → Members all q → Members wider q
with-kept s all wider k with_k q m = with_k q ∙ or_right _ _ m

with-parts : (s : SystemLists) (all wider : List Bool) (k : ℕ) → ((q : ℕ) → holds wider q ≡ (q == (task_at s k).res.0 || holds all q)) → (q : ℕ) → Members wider q → ((task_at s k).res.0 ≡ q) ⊎ Members all q
with-parts s all wider k with_k q m = elim (or_cases _ _ (sym (with_k q) ∙ m)) [ inl same ↦ inl (sym (eqb-true q (task_at s k).res.0 same)) | inr old ↦ inr old ]

-- ---- the resources of earlier tasks, by all chains of a task, so many of whose activators were looked at

pub record IsCollecting (s : SystemLists) (i : ℕ) (set all : List Bool) (after : List Activator) (count : ℕ) : Type 0 where
  pub kept : (q : ℕ) → Members set q → Members all q
  pub sound : (q : ℕ) → Members all q → Members set q ⊎ HasEarlierOn s i q
  pub done : (k q : ℕ) → list_any (is_task k) (take count after) ≡ true → ((task_at s k).res.0 ≡ q) ⊎ HasEarlierOn s k q → Members all q

-- the activator that a walk over them has come to
pub walked-task : (s : SystemLists) (i : ℕ) (j : TaskId) (after : List Activator) (k : ℕ) (d : Activator) → after ≡ (task_at s i).after → k < length after → get_or after k d ≡ Task j → Activates s j.0 i
walked-task s i j after k d are less is =
    subst (λ (ts : List Activator). list_any (is_task j.0) ts ≡ true) are
    (list_any_at (is_task j.0) after k d less (ap (is_task j.0) is ∙ eq-eqb j.0 j.0 refl))

-- a task more
pub collecting-task : (s : SystemLists) (i : ℕ) (set all wider new : List Bool) (after : List Activator) (count : ℕ) (d : Activator) (k : TaskId) → Activates s k.0 i → count < length after → get_or after count d ≡ Task k
    → ((q : ℕ) → holds wider q ≡ (q == (task_at s k.0).res.0 || holds all q)) → ((q : ℕ) → Members new q ↔ (Members wider q ⊎ HasEarlierOn s k.0 q))
    → IsCollecting s i set all after count → IsCollecting s i set new after (count + 1)
collecting-task s i set all wider new after count d k activates less is with_k more h =
    let keep : (q : ℕ) → Members all q → Members new q = λ q m. (more q).1 (inl (with-kept s all wider k.0 with_k q m)) in
    record {
      kept = λ q m. keep q (h.kept q m);
      sound = λ q m. elim ((more q).0 m) [
        | inl wide ↦ elim (with-parts s all wider k.0 with_k q wide) [
          | inl on ↦ inr (HasEarlierOn-more s i k.0 q activates (inl on))
          | inr old ↦ h.sound q old
        ]
        | inr before ↦ inr (HasEarlierOn-more s i k.0 q activates (inr before))
      ];
      done = λ j q e on. elim (or_cases _ _ (sym (list_any_more (is_task j) after count d less) ∙ e)) [
        | inl before ↦ keep q (h.done j q before on)
        | inr this ↦
            let same : k.0 ≡ j = eqb-true k.0 j (sym (ap (is_task j) is) ∙ this) in
            elim (subst (λ (n : ℕ). ((task_at s n).res.0 ≡ q) ⊎ HasEarlierOn s n q) (sym same) on) [
              | inl here ↦ (more q).1 (inl (with-here s all wider k.0 with_k q here))
              | inr before ↦ (more q).1 (inr before)
            ]
      ];
    }

-- a source more
pub collecting-source : (s : SystemLists) (i : ℕ) (set all : List Bool) (after : List Activator) (count : ℕ) (d : Activator) (k : SourceId) → count < length after → get_or after count d ≡ Source k
    → IsCollecting s i set all after count → IsCollecting s i set all after (count + 1)
collecting-source s i set all after count d k less is h =
    record {
      kept = h.kept;
      sound = h.sound;
      done = λ j q e on. elim (or_cases _ _ (sym (list_any_more (is_task j) after count d less) ∙ e)) [
        | inl before ↦ h.done j q before on
        | inr this ↦ absurd (false≢true (sym (ap (is_task j) is) ∙ this))
      ];
    }

-- at the end
pub collecting-all : (s : SystemLists) (i : ℕ) (set all : List Bool) (after : List Activator) (count : ℕ) → after ≡ (task_at s i).after → length after ≤ count → IsCollecting s i set all after count
    → (q : ℕ) → Members all q ↔ (Members set q ⊎ HasEarlierOn s i q)
collecting-all s i set all after count are end h q = (
  h.sound q,
  λ m. elim m [
    | inl before ↦ h.kept q before
    | inr has ↦
        let parts = HasEarlierOn-parts s i q has in
        let whole : take count after ≡ (task_at s i).after = take_all count after end ∙ are in
        h.done parts.0 q (subst (λ (ts : List Activator). list_any (is_task parts.0) ts ≡ true) (sym whole) parts.1) parts.2
  ],
)

-- ---- a walk from task i back by tasks that have one activator, which collects the resources of those that it meets

pub record IsWalk (s : SystemLists) (i : ℕ) (set all : List Bool) (at : ℕ) : Type 0 where
  pub there : at < length s.tasks
  pub kept : (q : ℕ) → Members set q → Members all q
  pub sound : (q : ℕ) → Members all q → Members set q ⊎ HasEarlierOn s i q
  pub up : (q : ℕ) → HasEarlierOn s at q → HasEarlierOn s i q
  pub rest : (q : ℕ) → HasEarlierOn s i q → Members all q ⊎ HasEarlierOn s at q

pub walk-start : (s : SystemLists) (i : ℕ) (set : List Bool) → i < length s.tasks → IsWalk s i set set i
walk-start s i set there = record { there = there; kept = λ q m. m; sound = λ q m. inl m; up = λ q has. has; rest = λ q has. inr has }

pub one-activates : (s : SystemLists) (at : ℕ) (k : TaskId) → (task_at s at).after ≡ Task k ∷ [] → Activates s k.0 at
one-activates s at k one = rw one (or_left _ _ (eq-eqb k.0 k.0 refl))

one-alone : (s : SystemLists) (at j : ℕ) (k : TaskId) → (task_at s at).after ≡ Task k ∷ [] → Activates s j at → k.0 ≡ j
one-alone s at j k one e =
    elim (or_cases (k.0 == j) false (subst (λ (ts : List Activator). list_any (is_task j) ts ≡ true) one e)) [
      | inl same ↦ eqb-true k.0 j same
      | inr none ↦ absurd (false≢true none)
    ]

-- one step of the walk
pub walk-next : (s : SystemLists) (i : ℕ) (set all wider : List Bool) (at : ℕ) (k : TaskId) → IsSystem s → (task_at s at).after ≡ Task k ∷ []
    → ((q : ℕ) → holds wider q ≡ (q == (task_at s k.0).res.0 || holds all q)) → IsWalk s i set all at → IsWalk s i set wider k.0
walk-next s i set all wider at k rules one with_k walk =
    let activates = one-activates s at k one in
    let keep : (q : ℕ) → Members all q → Members wider q = with-kept s all wider k.0 with_k in
    record {
      there = activated-there s rules at k.0 walk.there activates;
      kept = λ q m. keep q (walk.kept q m);
      sound = λ q m. elim (with-parts s all wider k.0 with_k q m) [
        | inl on ↦ inr (walk.up q (HasEarlierOn-more s at k.0 q activates (inl on)))
        | inr old ↦ walk.sound q old
      ];
      up = λ q has. walk.up q (HasEarlierOn-more s at k.0 q activates (inr has));
      rest = λ q has. elim (walk.rest q has) [
        | inl met ↦ inl (keep q met)
        | inr on ↦
            let parts = HasEarlierOn-parts s at q on in
            let same : k.0 ≡ parts.0 = one-alone s at parts.0 k one parts.1 in
            elim (subst (λ (n : ℕ). ((task_at s n).res.0 ≡ q) ⊎ HasEarlierOn s n q) (sym same) parts.2) [
              | inl here ↦ inl (with-here s all wider k.0 with_k q here)
              | inr before ↦ inr before
            ]
      ];
    }

-- what is earlier than the task that it has come to is put to what it has met
pub walk-on : (s : SystemLists) (i : ℕ) (set all new : List Bool) (at : ℕ) → ((q : ℕ) → Members new q ↔ (Members all q ⊎ HasEarlierOn s at q)) → IsWalk s i set all at → (q : ℕ) → Members new q ↔ (Members set q ⊎ HasEarlierOn s i q)
walk-on s i set all new at more walk q = (
  λ m. elim ((more q).0 m) [ inl met ↦ walk.sound q met | inr has ↦ inr (walk.up q has) ],
  λ m. elim m [
    | inl old ↦ (more q).1 (inl (walk.kept q old))
    | inr has ↦ elim (walk.rest q has) [ inl met ↦ (more q).1 (inl met) | inr on ↦ (more q).1 (inr on) ]
  ],
)

-- at a source it is over
pub walk-over : (s : SystemLists) (i : ℕ) (set all : List Bool) (at : ℕ) (k : SourceId) → (task_at s at).after ≡ Source k ∷ [] → IsWalk s i set all at → (q : ℕ) → Members all q ↔ (Members set q ⊎ HasEarlierOn s i q)
walk-over s i set all at k one walk =
    walk-on s i set all all at
    (λ q. (
      λ m. inl m,
      λ m. elim m [
        | inl met ↦ met
        | inr has ↦
            let parts = HasEarlierOn-parts s at q has in
            absurd (false≢true (subst (λ (ts : List Activator). list_any (is_task parts.0) ts ≡ true) one parts.1))
      ],
    )) walk

-- what a resource reads: itself, and what is earlier in the chains of its tasks
pub Reads-parts : (s : SystemLists) {r q : ℕ} → Reads s r q → (r ≡ q) ⊎ ((i : ℕ) × (i < length s.tasks) × ((task_at s i).res.0 ≡ r) × HasEarlierOn s i q)
Reads-parts s itself = inl refl
Reads-parts s (earlier {j = j} {i = i} leads) = inr (i, LeadsTo-in_range s j i leads, refl, (j, leads, refl))

Reads-from : (s : SystemLists) (r q i : ℕ) → (task_at s i).res.0 ≡ r → HasEarlierOn s i q → Reads s r q
Reads-from s r q i on (j, leads, e) =
    subst (λ (n : ℕ). Reads s n q) on (subst (λ (n : ℕ). Reads s (task_at s i).res.0 n) e (earlier leads))

-- the resources that the first tasks of a resource make it read
pub record IsReadTo (s : SystemLists) (r : ℕ) (tasks : List TaskId) (set : List Bool) (count : ℕ) : Type 0 where
  pub own : Members set r
  pub sound : (q : ℕ) → Members set q → Reads s r q
  pub done : (k q : ℕ) → k < count → HasEarlierOn s (get_or tasks k no_id).0 q → Members set q

pub read-start : (s : SystemLists) (r : ℕ) (tasks : List TaskId) (none set : List Bool) → ((q : ℕ) → holds none q ≡ false)
    → ((q : ℕ) → holds set q ≡ (q == r || holds none q)) → IsReadTo s r tasks set 0
read-start s r tasks none set empty with_r =
    record {
      own = with_r r ∙ or_left _ _ (eq-eqb r r refl);
      sound = λ q m. elim (or_cases _ _ (sym (with_r q) ∙ m)) [
        | inl same ↦ subst (λ (n : ℕ). Reads s r n) (sym (eqb-true q r same)) itself
        | inr old ↦ absurd (let both : true ≡ false = sym old ∙ empty q in let f : ⊥ = cc in f)
      ];
      done = λ k q h. absurd (omega arith);
    }

pub read-more : (s : SystemLists) (r : ℕ) (tasks : List TaskId) (set wider : List Bool) (k : ℕ) → places_of tasks ≡ tasks_on s r → k < length tasks
    → ((q : ℕ) → Members wider q ↔ (Members set q ⊎ HasEarlierOn s (get_or tasks k no_id).0 q)) → IsReadTo s r tasks set k → IsReadTo s r tasks wider (k + 1)
read-more s r tasks set wider k are less more h =
    record {
      own = (more r).1 (inl h.own);
      sound = λ q m. elim ((more q).0 m) [ inl old ↦ h.sound q old | inr new ↦ Reads-from s r q (get_or tasks k no_id).0 (on-each s r tasks are k no_id less) new ];
      done = λ i q lt has. elim (cases_lt i k) [
        | inl before ↦ (more q).1 (inl (h.done i q before has))
        | inr ge ↦ let here : i ≡ k = omega arith in (more q).1 (inr (subst (λ (n : ℕ). HasEarlierOn s (get_or tasks n no_id).0 q) here has))
      ];
    }

pub read-all : (s : SystemLists) (r : ℕ) (tasks : List TaskId) (set : List Bool) (k : ℕ) → places_of tasks ≡ tasks_on s r → length tasks ≤ k → IsReadTo s r tasks set k → (q : ℕ) → Members set q ↔ Reads s r q
read-all s r tasks set k are end h q = (
  h.sound q,
  λ reads. elim (Reads-parts s reads) [
    | inl same ↦ subst (λ (n : ℕ). Members set n) same h.own
    | inr part ↦
        let at = on-found s r tasks are part.0 no_id part.1 part.2 in
        h.done at.0 q (let less = at.1 in omega arith) (subst (λ (n : ℕ). HasEarlierOn s n q) (sym at.2) part.3)
  ],
)

-- no task of the resource has an earlier one of a chain of it there
pub back-none : (s : SystemLists) (r : ℕ) (tasks : List TaskId) (count : ℕ) → places_of tasks ≡ tasks_on s r → length tasks ≤ count → ((k : ℕ) → k < count → HasEarlierOn s (get_or tasks k no_id).0 r → ⊥) → LeadsBack s r → ⊥
back-none s r tasks count are end not back =
    let at = on-found s r tasks are back.0 no_id back.1 back.2 in
    not at.0 (let less = at.1 in omega arith) (subst (λ (n : ℕ). HasEarlierOn s n r) (sym at.2) back.3)

task-placed : (s : SystemLists) (i : ℕ) → IsSystem s → i < length s.tasks → (task_at s i).res.0 < length s.resources
task-placed s i rules there = let t : IsTask s (task_at s i) = rules.tasks i no_task there in t.placed

earlier-placed : (s : SystemLists) (j i : ℕ) → IsSystem s → LeadsTo s j i → (task_at s j).res.0 < length s.resources
earlier-placed s j i rules leads = task-placed s j rules (earlier-in_range s j i rules leads)

-- a resource that reads another, and that other, are in range
pub Reads-there : (s : SystemLists) (r q : ℕ) → IsSystem s → Reads s r q → (r ≡ q) ⊎ ((r < length s.resources) × (q < length s.resources))
Reads-there s r q rules reads =
    elim (Reads-parts s reads) [
      | inl same ↦ inl same
      | inr part ↦
          let on_r : (task_at s part.0).res.0 < length s.resources = task-placed s part.0 rules part.1 in
          let early = part.3 in
          inr (subst (λ (n : ℕ). n < length s.resources) part.2 on_r, subst (λ (n : ℕ). n < length s.resources) early.2 (earlier-placed s early.0 part.0 rules early.1))
    ]

-- what a resource in range reads is in range
pub Reads-in_range : (s : SystemLists) (r q : ℕ) → IsSystem s → r < length s.resources → Reads s r q → q < length s.resources
Reads-in_range s r q rules there reads =
    elim (Reads-there s r q rules reads) [
      | inl same ↦ subst (λ (n : ℕ). n < length s.resources) same there
      | inr both ↦ both.1
    ]

-- what a table has at a place in it, whatever stands for places outside
pub AreReads-row : (s : SystemLists) (table : List (List Bool)) (r : ℕ) (outside : List Bool) → AreReads s table → r < length s.resources → r < length table
    → (q : ℕ) → Members (slice_index_or table r outside) q ↔ Reads s r q
AreReads-row s table r outside all there in_table q = rw (get_or_default table r outside [] in_table) (all r there q)
