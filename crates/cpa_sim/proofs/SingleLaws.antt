-- Ends of jobs that are taken resource by resource, where no task has more than one activator.
use Rattle.std.proofs.Common.{◌≡◌, ◌≢◌, ℕ, ◌+◌, ◌-◌, ◌<◌, ◌≤◌, ◌++◌, ◌⊎◌, length, List, [], ◌∷◌, Bool, true, false, cond, eqb, ◌&&◌, Option, option_map, Some, None, refl, sym, ◌∙◌, ap, inl, inr, arith}
use Rattle.std.specs.Prelude.{MatchOption}
use Rattle.std.specs.List.{flat_map, list_any, range_with_len}
use Rattle.std.proofs.lemmas.Bool.{cases_lt, cases_Bool, eq-eqb, eqb-true, ne_eqb, false≢true}
use Rattle.cpa_units.proofs.PlaceLaws.{flat_map-places_more}
use Rattle.cpa_model.specs.declared.entries.Activator.{Activator}
use Rattle.cpa_units.specs.declared.places.ResId.{ResId}
use Rattle.cpa_units.specs.declared.places.TaskId.{TaskId}
use Rattle.cpa_units.specs.Sets.{holds, IsNextMember}
use Rattle.cpa_model.specs.declared.entries.Kind.{Kind}
use Rattle.cpa_model.specs.declared.entries.Activator.TheVariants.{Source, Task}
use Rattle.cpa_model.specs.SystemLists.{SystemLists, place_of, task_at, is_task, is_activated_by}
use Rattle.cpa_sched.specs.States.{IsOn}
use Rattle.cpa_sim.specs.declared.dispatches.Dispatch.{Dispatch}
use Rattle.cpa_sim.specs.declared.jobs.Cause.{Cause}
use Rattle.cpa_sim.specs.Run.{is_chosen, causes_by, by_task, by_tasks}
use Rattle.cpa_sim.specs.JobQueues.{QueueCounts}
use Rattle.cpa_sim.specs.Simulation.{queue_at, dispatch_at, runner, ends_of, IsUnchanged, AreEnding}
use Rattle.cpa_sim.specs.Arrivals.{ended_of, by_last}
use Rattle.cpa_sim.proofs.CauseLists.{by-none}
use Rattle.cpa_sim.proofs.ArrivalLaws.{upto_resource, member-there}
use Rattle.cpa_sim.proofs.RangeLaws.{flat_map-none, flat_map-quiet}

-- one place alone has something
flat_map-one : {X : Type 0} (f : ℕ → List X) (p n : ℕ) → p < n → ((j : ℕ) → j < n → j ≢ p → f j ≡ []) → flat_map f (range_with_len 0 n) ≡ f p
flat_map-one f p n there others =
    sym (flat_map-quiet f (p + 1) n (omega arith) (λ j low high. others j high (λ e. absurd (omega (arith, e)))))
    ∙ flat_map-places_more f p
    ∙ ap (λ xs. xs ++ f p) (flat_map-none f 0 p (λ j low high. others j (omega arith) (λ e. absurd (omega (arith, e)))))

-- the task whose job ends on a resource
abbrev pub ended_task : Dispatch → Option ℕ
ended_task dispatch = cond dispatch.ends (runner dispatch) None

-- what the last complete job of a task starts, where there is a task
abbrev pub by_ended : SystemLists → List QueueCounts → Option ℕ → ℕ → List Cause
by_ended s queues None i = []
by_ended s queues (Some j) i = by_last s queues j i

-- what one of its jobs starts, as its last one is the one that ends
pub by-last-is : (s : SystemLists) (l0 l1 : List QueueCounts) (d0 : List Dispatch) (t i : ℕ) → ends_of s d0 t ≡ 1 → (queue_at l1 t).done ≡ (queue_at l0 t).done → by_last s l1 t i ≡ by_task s (ended_of s l0 d0) t i
by-last-is s l0 l1 d0 t i one same =
    ap (λ xs. cond (is_activated_by s t i) (causes_by (Task (record { 0 = t })) xs) [])
    (ap (λ n. range_with_len (n - 1) 1) same ∙ ap (λ m. range_with_len ((queue_at l0 t).done - 1) m) (sym one))

pub by-last-same : (s : SystemLists) (l0 l1 : List QueueCounts) (t i : ℕ) → (queue_at l1 t).done ≡ (queue_at l0 t).done → by_last s l1 t i ≡ by_last s l0 t i
by-last-same s l0 l1 t i same = ap (λ n. cond (is_activated_by s t i) (causes_by (Task (record { 0 = t })) (range_with_len (n - 1) 1)) []) same

pub by-ended-same : (s : SystemLists) (l0 l1 : List QueueCounts) (o : Option ℕ) (i : ℕ) → ((j : ℕ) → o ≡ Some j → (queue_at l1 j).done ≡ (queue_at l0 j).done) → by_ended s l1 o i ≡ by_ended s l0 o i
by-ended-same s l0 l1 None i same = refl
by-ended-same s l0 l1 (Some j) i same = by-last-same s l0 l1 j i (same j refl)

pub ended-unchanged : (kind : Kind) (old new : Dispatch) → IsUnchanged kind old new → ended_task new ≡ ended_task old
ended-unchanged kind old new same =
    ap (λ o. cond new.ends (option_map place_of o) None) same.running
    ∙ ap (λ b. cond b (runner old) None) same.ends

pub nobody-ended : (s : SystemLists) (queues : List QueueCounts) (o : Option TaskId) (i : ℕ) → ((task : TaskId) → o ≡ Some task → ⊥) → by_ended s queues (option_map place_of o) i ≡ []
nobody-ended s queues None i none = refl
nobody-ended s queues (Some task) i none = absurd (none task refl)

pub ended-one : (s : SystemLists) (queues : List QueueCounts) (o : Option ℕ) (t i : ℕ) → o ≡ Some t → is_activated_by s t i ≡ true → length (by_ended s queues o i) ≡ 1
ended-one s queues o t i is activates = rw (is, activates) refl

-- a list with at most one activator: no task is there, or one is
task-of : (after : List Activator) → length after ≤ 1 → ((j : ℕ) → list_any (is_task j) after ≡ false) ⊎ ((b : ℕ) × ((j : ℕ) → j ≢ b → list_any (is_task j) after ≡ false))
task-of [] short = inl (λ j. refl)
task-of (Source k ∷ []) short = inl (λ j. refl)
task-of (Task b ∷ []) short = inr (b.0, λ j differs. let e : eqb b.0 j ≡ false = ne_eqb b.0 j (λ same. differs (sym same)) in rw e refl)
task-of (a ∷ c ∷ rest) short = absurd (omega (arith, short))

module _ (s : SystemLists) (queues : List QueueCounts) (dispatches : List Dispatch) (i : ℕ) where
  -- what the ends on the first so many resources start
  abbrev pub ended_below : ℕ → List Cause
  ended_below k = flat_map (λ r. by_ended s queues (ended_task (dispatch_at dispatches r)) i) (range_with_len 0 k)

  idle-ended : (dispatch : Dispatch) → dispatch.ends ≡ false → by_ended s queues (ended_task dispatch) i ≡ []
  idle-ended dispatch none = rw none refl

  -- nothing is started up to the next resource on which a job ends, or past all of them
  pub ended-upto : (ended : List Bool) (m : ℕ) (place : Option ResId) → AreEnding dispatches ended → m ≤ length dispatches
      → MatchOption place ((r : ℕ) → m ≤ r → holds ended r ≡ false) (λ res. IsNextMember ended m res.0) → ended_below m ≡ ended_below (upto_resource (length dispatches) place)
  ended-upto ended m None are low none =
      flat_map-quiet (λ r. by_ended s queues (ended_task (dispatch_at dispatches r)) i) m (length dispatches) low
      (λ r after less. idle-ended (dispatch_at dispatches r) (sym (are.there r less) ∙ none r after))
  ended-upto ended m (Some res) are low is =
      let there = member-there dispatches 0 ended m res are is in
      flat_map-quiet (λ r. by_ended s queues (ended_task (dispatch_at dispatches r)) i) m res.0 is.past
      (λ r after less. idle-ended (dispatch_at dispatches r) (sym (are.there r (omega (arith, less, there))) ∙ is.first r after less))

  unstarted : (o : Option ℕ) → ((j : ℕ) → o ≡ Some j → is_activated_by s j i ≡ false) → by_ended s queues o i ≡ []
  unstarted None none = refl
  unstarted (Some j) none = let e = none j refl in rw e refl

  -- who ends there runs there
  runs-there : (dispatch : Dispatch) (j : ℕ) → ended_task dispatch ≡ Some j → runner dispatch ≡ Some j
  runs-there dispatch j e = elim (cases_Bool dispatch.ends) [ inl ends ↦ rw ends at e | inr rests ↦ let e' : None ≡ Some j = rw rests at e in cc ]

  module _ (places : (j : ℕ) → j < length s.tasks → (task_at s j).res.0 < length s.resources) (on : (r j : ℕ) → r < length s.resources → runner (dispatch_at dispatches r) ≡ Some j → IsOn s r j) where
    none-either : (ends : Bool) → by_ended s queues (cond ends None None) i ≡ []
    none-either true = refl
    none-either false = refl

    -- one resource: its own task starts what it starts
    same-one : (o : Option ℕ) (ends : Bool) (b : ℕ) → ((j : ℕ) → j ≢ b → is_activated_by s j i ≡ false)
        → by_ended s queues (cond ends o None) i ≡ cond (is_activated_by s b i) (causes_by (Task (record { 0 = b })) (range_with_len ((queue_at queues b).done - 1) (cond (is_chosen o b && ends) 1 0))) []
    same-one None ends b others =
        none-either ends ∙ sym (by-none (is_activated_by s b i) (Task (record { 0 = b })) [] refl)
    same-one (Some j) false b others =
        let e : (eqb j b && false) ≡ false = elim (cases_Bool (eqb j b)) [ inl h ↦ rw h refl | inr h ↦ rw h refl ] in
        rw e (sym (by-none (is_activated_by s b i) (Task (record { 0 = b })) [] refl))
    same-one (Some j) true b others =
        elim (cases_Bool (eqb j b)) [
          | inl here ↦
              let e : j ≡ b = eqb-true j b here in
              rw here (ap (λ k. by_last s queues k i) e)
          | inr elsewhere ↦
              let none = others j (λ e. absurd (false≢true (sym elsewhere ∙ eq-eqb j b e))) in
              rw (elsewhere, none) (sym (by-none (is_activated_by s b i) (Task (record { 0 = b })) [] refl))
        ]

    other-none : (b : ℕ) → ((j : ℕ) → j ≢ b → is_activated_by s j i ≡ false) → (r : ℕ) → r < length s.resources → r ≢ (task_at s b).res.0 → by_ended s queues (ended_task (dispatch_at dispatches r)) i ≡ []
    other-none b others r there differs =
        unstarted (ended_task (dispatch_at dispatches r))
        (λ j e.
        let runs = on r j there (runs-there (dispatch_at dispatches r) j e) in
        let here : (task_at s j).res.0 ≡ r = eqb-true (task_at s j).res.0 r runs.here in
        others j (λ same. differs (sym here ∙ ap (λ k. (task_at s k).res.0) same)))

    -- all of them start what all tasks start
    pub ended-all : length (task_at s i).after ≤ 1 → ended_below (length s.resources) ≡ by_tasks s (ended_of s queues dispatches) i
    ended-all short =
        elim (task-of (task_at s i).after short) [
          | inl none ↦
              flat_map-none (λ r. by_ended s queues (ended_task (dispatch_at dispatches r)) i) 0 (length s.resources) (λ r low high. unstarted (ended_task (dispatch_at dispatches r)) (λ j e. none j))
              ∙ sym (flat_map-none (λ j. by_task s (ended_of s queues dispatches) j i) 0 (length s.tasks) (λ j low high. let e = none j in rw e refl))
          | inr one ↦
              let b = one.0 in
              let others = one.1 in
              elim (cases_lt b (length s.tasks)) [
                | inl there ↦
                    flat_map-one (λ r. by_ended s queues (ended_task (dispatch_at dispatches r)) i) (task_at s b).res.0 (length s.resources) (places b there) (other-none b others)
                    ∙ same-one (runner (dispatch_at dispatches (task_at s b).res.0)) (dispatch_at dispatches (task_at s b).res.0).ends b others
                    ∙ sym (flat_map-one (λ j. by_task s (ended_of s queues dispatches) j i) b (length s.tasks) there (λ j less differs. let e = others j differs in rw e refl))
                | inr past ↦
                    flat_map-none (λ r. by_ended s queues (ended_task (dispatch_at dispatches r)) i) 0 (length s.resources)
                    (λ r low high. unstarted (ended_task (dispatch_at dispatches r))
                    (λ j e. others j (λ same. absurd (omega (arith, same, past, (on r j (omega arith) (runs-there (dispatch_at dispatches r) j e)).task)))))
                    ∙ sym (flat_map-none (λ j. by_task s (ended_of s queues dispatches) j i) 0 (length s.tasks) (λ j low high. let e = others j (λ same. absurd (omega (arith, same, past))) in rw e refl))
              ]
        ]
