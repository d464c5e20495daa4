-- Laws of critical sections: what a change keeps of them, and the ceilings of locks, place by place.
use Rattle.std.proofs.Common.{◌≡◌, ℕ, ◌+◌, ◌<◌, ◌≤◌, true, false, List, [], ◌∷◌, ◌++◌, length, take, set, get_or, slice_index_or, refl, sym, ap, ◌∙◌, arith, inl, inr, get_or-set_same, get_or-set_other}
use Rattle.std.specs.Prelude.{Bool, min, fold, filter, map}
use Rattle.std.specs.List.{AllPairs, list_any}
use Rattle.std.specs.Str.{bytes_eq}
use Rattle.std.proofs.lemmas.Bool.{cases_eq}
use Rattle.std.proofs.lemmas.List.{get_or_default, length-set, take_more, map-append, take_all}
use Rattle.std.proofs.lemmas.List.Elements.{filter-append}
use Rattle.std.proofs.lemmas.List.Sums.{fold-append}
use Rattle.cpa_units.specs.declared.places.TaskId.{TaskId}
use Rattle.cpa_model.specs.declared.entries.Kind.{Kind}
use Rattle.cpa_model.specs.declared.entries.Kind.TheVariants as kind
use Rattle.cpa_model.specs.declared.entries.Task.{Task}
use Rattle.cpa_model.specs.declared.locks.CriticalSection.{CriticalSection}
use Rattle.cpa_model.specs.SystemLists.{SystemLists, task_at, no_task, place_of, places_of, priority_of}
use Rattle.cpa_model.specs.Locks.{uses_lock}
use Rattle.cpa_model.specs.Rules.{AreSections, LocksFit, HaveLocksTogether}

-- rules

-- no critical sections fit any kind and any region
pub no_locks-fit : (k : Kind) (region : ℕ) → LocksFit k region []
no_locks-fit kind.Preemptive region = refl
no_locks-fit kind.RoundRobin region = refl
no_locks-fit (kind.Tdma gap) region = refl
no_locks-fit (kind.Can bit) region = refl
no_locks-fit kind.Fifo region = refl
no_locks-fit kind.Ceiling region = no-sections region [] refl
  where
    no-sections : (region : ℕ) (locks : List CriticalSection) → locks ≡ [] → AreSections region locks
    no-sections region locks none = let few : length locks ≤ 0 = rw none (omega arith) in record {
      sections = λ k d less. absurd (omega arith);
      few = omega arith;
      alone = λ some. absurd (omega arith);
      nested = λ k d less. absurd (omega arith);
    }

-- and what fits a kind is some sections, or none
pub are-sections : (k : Kind) (region : ℕ) (locks : List CriticalSection) → LocksFit k region locks → AreSections region locks
are-sections kind.Preemptive region locks fits = rw fits (no_locks-fit kind.Ceiling region)
are-sections kind.RoundRobin region locks fits = rw fits (no_locks-fit kind.Ceiling region)
are-sections (kind.Tdma gap) region locks fits = rw fits (no_locks-fit kind.Ceiling region)
are-sections (kind.Can bit) region locks fits = rw fits (no_locks-fit kind.Ceiling region)
are-sections kind.Fifo region locks fits = rw fits (no_locks-fit kind.Ceiling region)
are-sections kind.Ceiling region locks fits = fits

-- changes

-- two tasks are on one resource, and have the same critical sections
pub record SameLocks (t u : Task) : Type 0 where
  pub res : t.res ≡ u.res
  pub locks : t.locks ≡ u.locks

pub together-same : (t u t' u' : Task) → SameLocks t t' → SameLocks u u' → HaveLocksTogether t' u' → HaveLocksTogether t u
together-same t u t' u' a b own lock first second =
    a.res
    ∙ own lock (ap (list_any (λ (c : CriticalSection). bytes_eq lock c.lock)) (sym a.locks) ∙ first) (ap (list_any (λ (c : CriticalSection). bytes_eq lock c.lock)) (sym b.locks) ∙ second)
    ∙ sym b.res

-- another task at a place, with the resource and the critical sections of the one before
pub together-set : (ts : List Task) (i : ℕ) (t : Task) → i < length ts → SameLocks t (get_or ts i no_task) → AllPairs HaveLocksTogether ts → AllPairs HaveLocksTogether (set ts i t)
together-set ts i t less same own a b d before within =
    let long = length-set ts i t in
    together-same (get_or (set ts i t) a d) (get_or (set ts i t) b d) (get_or ts a d) (get_or ts b d) (stays a (omega arith)) (stays b (omega arith)) (own a b d before (omega arith))
  where
    here : SameLocks (get_or (set ts i t) i d) (get_or ts i d)
    here =
        let new = get_or-set_same ts i t d less in
        let old = get_or_default ts i no_task d less in
        record {
          res = ap (λ (u : Task). u.res) new ∙ same.res ∙ ap (λ (u : Task). u.res) old;
          locks = ap (λ (u : Task). u.locks) new ∙ same.locks ∙ ap (λ (u : Task). u.locks) old;
        }

    stays : (k : ℕ) → k < length ts → SameLocks (get_or (set ts i t) k d) (get_or ts k d)
    stays k there = elim (cases_eq k i) [
      | inl is ↦ rw is here
      | inr other ↦
          let kept = get_or-set_other ts i k t d other in
          record { res = ap (λ (u : Task). u.res) kept; locks = ap (λ (u : Task). u.locks) kept }
    ]

-- ceilings

-- the smallest of a number and of the priority numbers of those of some tasks that use a lock
abbrev pub ceiling_among : SystemLists → List ℕ → ℕ → List ℕ → ℕ
ceiling_among s lock most js = fold (λ least j. min least (priority_of (task_at s j).turn)) most (filter (λ j. uses_lock lock (task_at s j)) js)

-- one task further
pub ceiling-user : (s : SystemLists) (lock : List ℕ) (most j : ℕ) → uses_lock lock (task_at s j) ≡ true → ceiling_among s lock most (j ∷ []) ≡ min most (priority_of (task_at s j).turn)
ceiling-user s lock most j uses = rw uses refl

pub ceiling-other : (s : SystemLists) (lock : List ℕ) (most j : ℕ) → uses_lock lock (task_at s j) ≡ false → ceiling_among s lock most (j ∷ []) ≡ most
ceiling-other s lock most j uses = rw uses refl

pub ceiling-next : (s : SystemLists) (lock : List ℕ) (most : ℕ) (tasks : List TaskId) (k least after : ℕ) (d : TaskId) → k < length tasks → least ≡ ceiling_among s lock most (places_of (take k tasks))
    → after ≡ ceiling_among s lock least ((get_or tasks k d).0 ∷ []) → after ≡ ceiling_among s lock most (places_of (take (k + 1) tasks))
ceiling-next s lock most tasks k least after d less is next =
    let uses = λ (j : ℕ). uses_lock lock (task_at s j) in
    let smaller = λ (least j : ℕ). min least (priority_of (task_at s j).turn) in
    let j = (get_or tasks k d).0 in
    let places : places_of (take (k + 1) tasks) ≡ places_of (take k tasks) ++ j ∷ [] = ap places_of (take_more tasks k d less) ∙ map-append place_of (take k tasks) (get_or tasks k d ∷ []) in
    next
    ∙ ap (λ m. fold smaller m (filter uses (j ∷ []))) is
    ∙ sym (fold-append smaller most (filter uses (places_of (take k tasks))) (filter uses (j ∷ [])))
    ∙ ap (fold smaller most) (sym (filter-append uses (places_of (take k tasks)) (j ∷ [])))
    ∙ ap (λ js. fold smaller most (filter uses js)) (sym places)

pub ceiling-all : (s : SystemLists) (lock : List ℕ) (most : ℕ) (tasks : List TaskId) (places : List ℕ) (k least : ℕ) → length tasks ≤ k → places_of tasks ≡ places
    → least ≡ ceiling_among s lock most (places_of (take k tasks)) → least ≡ ceiling_among s lock most places
ceiling-all s lock most tasks places k least end are is =
    is ∙ ap (λ ts. ceiling_among s lock most (places_of ts)) (take_all k tasks end) ∙ ap (ceiling_among s lock most) are
