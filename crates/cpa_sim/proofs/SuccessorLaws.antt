-- Where the resource of each task stands, and the lists of the tasks that each source and each task activates.
use Rattle.std.proofs.Common.{◌≡◌, ◌≢◌, ℕ, ◌+◌, ◌<◌, ◌≤◌, ◌++◌, length, List, [], ◌∷◌, Bool, true, false, cond, eqb, ◌||◌, take, get_or, map, set, refl, sym, ◌∙◌, ap, subst, inl, inr, arith}
use Rattle.std.specs.Prelude.{filter, AllPairs}
use Rattle.std.specs.List.{list_any, range_with_len}
use Rattle.std.proofs.lemmas.Bool.{cases_Bool, eq-eqb, eqb-true, false≢true}
use Rattle.std.proofs.lemmas.List.{append-nil, map-append, get_or-set_same, get_or-set_other, get_or-take, length-set, length-take, take_all, get_or-map, map-set}
use Rattle.std.proofs.lemmas.List.Elements.{All-get_or, filter-append}
use Rattle.std.proofs.lemmas.List.Folds.{list_any_more}
use Rattle.cpa_units.specs.declared.places.SourceId.{SourceId}
use Rattle.cpa_units.specs.declared.places.TaskId.{TaskId}
use Rattle.cpa_units.proofs.PlaceLaws.{places-more}
use Rattle.cpa_model.specs.declared.entries.Activator.{Activator}
use Rattle.cpa_model.specs.declared.entries.Activator.TheVariants.{Source, Task}
use Rattle.cpa_model.specs.Rules.{IsSystem, IsTask, IsActivator}
use Rattle.cpa_model.specs.SystemLists.{SystemLists, task_at, no_task, place_of, places_of, is_source, is_task, is_fed_by, is_activated_by}
use Rattle.cpa_model.proofs.ActivatorLaws.{has-task, has-source}
use Rattle.cpa_sim.specs.Arrivals.{listed, with_task, HasList, with_fed, with_activated, AreSuccessors}

pub is-task : (s : SystemLists) → IsSystem s → (i : ℕ) → i < length s.tasks → IsTask s (task_at s i)
is-task s rules i there = All-get_or (IsTask s) s.tasks i no_task there rules.tasks

-- each task is on a resource
pub placed : (s : SystemLists) → IsSystem s → (i : ℕ) → i < length s.tasks → (task_at s i).res.0 < length s.resources
placed s rules i there = (is-task s rules i there).placed

-- ---- one list more

module _ (lists : List (List TaskId)) (k : ℕ) (task : TaskId) (there : k < length lists) where
  pub longer-here : places_of (listed (with_task lists k task) k) ≡ places_of (listed lists k) ++ task.0 ∷ []
  longer-here = ap places_of (get_or-set_same lists k (listed lists k ++ task ∷ []) [] there) ∙ map-append place_of (listed lists k) (task ∷ [])

  pub longer-elsewhere : (q : ℕ) → q ≢ k → listed (with_task lists k task) q ≡ listed lists q
  longer-elsewhere q differs = get_or-set_other lists k q (listed lists k ++ task ∷ []) [] differs

-- as a list is lent and written back
pub longer-list : {X : Type 0} (f : X → List TaskId) (xs : List X) (k : ℕ) (task : TaskId) (old new : X) → k < length xs → old ≡ get_or xs k old → f new ≡ f old ++ task ∷ [] → map f (set xs k new) ≡ with_task (map f xs) k task
longer-list f xs k task old new there read grown =
    let here : listed (map f xs) k ≡ f old = get_or-map f xs k old [] there ∙ ap f (sym read) in
    map-set f xs k new ∙ ap (set (map f xs) k) (grown ∙ ap (λ ts. ts ++ task ∷ []) (sym here))

filter-more : (p : ℕ → Bool) (n : ℕ) → filter p (range_with_len 0 (n + 1)) ≡ filter p (range_with_len 0 n) ++ cond (p n) (n ∷ []) []
filter-more p n = ap (filter p) (places-more n) ∙ (filter-append p (range_with_len 0 n) (n ∷ []) ∙ ap (λ xs. filter p (range_with_len 0 n) ++ xs) (one (p n)))
  where
    one : (b : Bool) → cond b (n ∷ []) [] ≡ cond b (n ∷ []) []
    one b = refl

-- the first so many tasks, and of the next one so many activators
pub record AreGrowing (s : SystemLists) (task : TaskId) (many : List Activator) (m : ℕ) (by_source by_task : List (List TaskId)) : Type 0 where
  pub count_sources : length by_source ≡ length s.sources
  pub count_tasks : length by_task ≡ length s.tasks
  pub fed : (k : ℕ) → k < length s.sources → places_of (listed by_source k) ≡ filter (is_fed_by s k) (range_with_len 0 task.0) ++ cond (list_any (is_source k) (take m many)) (task.0 ∷ []) []
  pub activated : (j : ℕ) → j < length s.tasks → places_of (listed by_task j) ≡ filter (is_activated_by s j) (range_with_len 0 task.0) ++ cond (list_any (is_task j) (take m many)) (task.0 ∷ []) []

module _ (s : SystemLists) (task : TaskId) where
  pub growing-first : (many : List Activator) (by_source by_task : List (List TaskId)) → AreSuccessors s task.0 by_source by_task → AreGrowing s task many 0 by_source by_task
  growing-first many by_source by_task so_far =
      record {
        count_sources = so_far.count_sources;
        count_tasks = so_far.count_tasks;
        fed = λ k there. so_far.fed k there ∙ sym (append-nil (filter (is_fed_by s k) (range_with_len 0 task.0)));
        activated = λ j there. so_far.activated j there ∙ sym (append-nil (filter (is_activated_by s j) (range_with_len 0 task.0)));
      }

  pub growing-all : (by_source by_task : List (List TaskId)) (m : ℕ) → length (task_at s task.0).after ≤ m → AreGrowing s task (task_at s task.0).after m by_source by_task → AreSuccessors s (task.0 + 1) by_source by_task
  growing-all by_source by_task m all h =
      let many = (task_at s task.0).after in
      let whole : take m many ≡ many = take_all m many all in
      record {
        count_sources = h.count_sources;
        count_tasks = h.count_tasks;
        fed = λ k there.
            h.fed k there
            ∙ (ap (λ xs. filter (is_fed_by s k) (range_with_len 0 task.0) ++ cond (list_any (is_source k) xs) (task.0 ∷ []) []) whole ∙ sym (filter-more (is_fed_by s k) task.0));
        activated = λ j there.
            h.activated j there
            ∙ (ap (λ xs. filter (is_activated_by s j) (range_with_len 0 task.0) ++ cond (list_any (is_task j) xs) (task.0 ∷ []) []) whole ∙ sym (filter-more (is_activated_by s j) task.0));
      }

  -- none of the activators stands there twice
  module _ (many : List Activator) (m : ℕ) (d : Activator) (within : m < length many) (different : AllPairs (λ a b. a ≢ b) many) where
    source-new : (k : SourceId) → get_or many m d ≡ Source k → list_any (is_source k.0) (take m many) ≡ false
    source-new k is =
        elim (cases_Bool (list_any (is_source k.0) (take m many))) [
          | inr none ↦ none
          | inl some ↦
              let has = has-source k.0 (take m many) some in
              let less : has.place < m = omega (arith, has.within, length-take m many) in
              absurd (different has.place m d less within (sym (get_or-take m many has.place d less) ∙ (has.here d ∙ sym is)))
        ]

    task-new : (j : TaskId) → get_or many m d ≡ Task j → list_any (is_task j.0) (take m many) ≡ false
    task-new j is =
        elim (cases_Bool (list_any (is_task j.0) (take m many))) [
          | inr none ↦ none
          | inl some ↦
              let has = has-task j.0 (take m many) some in
              let less : has.place < m = omega (arith, has.within, length-take m many) in
              absurd (different has.place m d less within (sym (get_or-take m many has.place d less) ∙ (has.here d ∙ sym is)))
        ]

    abbrev places-so_far : (ℕ → Bool) → (Activator → Bool) → ℕ → List ℕ
    places-so_far p test k = filter p (range_with_len 0 task.0) ++ cond (list_any test (take k many)) (task.0 ∷ []) []

    -- another activator changes nothing
    other-same : (p : ℕ → Bool) (test : Activator → Bool) → test (get_or many m d) ≡ false → places-so_far p test m ≡ places-so_far p test (m + 1)
    other-same p test fails =
        let more = list_any_more test many m d within in
        let none : (list_any test (take m many) || test (get_or many m d)) ≡ list_any test (take m many) = rw fails (either (list_any test (take m many))) in
        ap (λ b. filter p (range_with_len 0 task.0) ++ cond b (task.0 ∷ []) []) (sym (more ∙ none))
      where
        either : (b : Bool) → (b || false) ≡ b
        either true = refl
        either false = refl

    -- and this one puts the task behind those before it
    this-more : (p : ℕ → Bool) (test : Activator → Bool) → test (get_or many m d) ≡ true → list_any test (take m many) ≡ false → places-so_far p test m ++ task.0 ∷ [] ≡ places-so_far p test (m + 1)
    this-more p test passes none =
        let more = list_any_more test many m d within in
        let some : list_any test (take (m + 1) many) ≡ true = more ∙ rw (none, passes) refl in
        rw (none, some) (ap (λ xs. xs ++ task.0 ∷ []) (append-nil (filter p (range_with_len 0 task.0))))

    pub growing-more : (by_source by_task : List (List TaskId)) (a : Activator) → get_or many m d ≡ a → IsActivator s a → AreGrowing s task many m by_source by_task → AreGrowing s task many (m + 1) (with_fed a task by_source) (with_activated a task by_task)
    growing-more by_source by_task (Source k) is there h =
        let low : k.0 < length by_source = omega (arith, there, h.count_sources) in
        record {
          count_sources = length-set by_source k.0 (listed by_source k.0 ++ task ∷ []) ∙ h.count_sources;
          count_tasks = h.count_tasks;
          fed = λ q less.
              elim (cases_Bool (eqb k.0 q)) [
                | inl same ↦
                    let e = eqb-true k.0 q same in
                    let passes : is_source k.0 (get_or many m d) ≡ true = rw is (eq-eqb k.0 k.0 refl) in
                    let here : places_of (listed (with_task by_source k.0 task) k.0) ≡ places-so_far (is_fed_by s k.0) (is_source k.0) (m + 1) =
                    longer-here by_source k.0 task low ∙ (ap (λ xs. xs ++ task.0 ∷ []) (h.fed k.0 there) ∙ this-more (is_fed_by s k.0) (is_source k.0) passes (source-new k is)) in
                    subst (λ r. places_of (listed (with_task by_source k.0 task) r) ≡ places-so_far (is_fed_by s r) (is_source r) (m + 1)) e here
                | inr differs ↦
                    let fails : is_source q (get_or many m d) ≡ false = rw is differs in
                    ap places_of (longer-elsewhere by_source k.0 task low q (λ e. false≢true (sym differs ∙ eq-eqb k.0 q (sym e)))) ∙ (h.fed q less ∙ other-same (is_fed_by s q) (is_source q) fails)
              ];
          activated = λ j less. h.activated j less ∙ other-same (is_activated_by s j) (is_task j) (rw is refl);
        }
    growing-more by_source by_task (Task j) is there h =
        let low : j.0 < length by_task = omega (arith, there, h.count_tasks) in
        record {
          count_sources = h.count_sources;
          count_tasks = length-set by_task j.0 (listed by_task j.0 ++ task ∷ []) ∙ h.count_tasks;
          fed = λ q less. h.fed q less ∙ other-same (is_fed_by s q) (is_source q) (rw is refl);
          activated = λ q less.
              elim (cases_Bool (eqb j.0 q)) [
                | inl same ↦
                    let e = eqb-true j.0 q same in
                    let passes : is_task j.0 (get_or many m d) ≡ true = rw is (eq-eqb j.0 j.0 refl) in
                    let here : places_of (listed (with_task by_task j.0 task) j.0) ≡ places-so_far (is_activated_by s j.0) (is_task j.0) (m + 1) =
                    longer-here by_task j.0 task low ∙ (ap (λ xs. xs ++ task.0 ∷ []) (h.activated j.0 there) ∙ this-more (is_activated_by s j.0) (is_task j.0) passes (task-new j is)) in
                    subst (λ r. places_of (listed (with_task by_task j.0 task) r) ≡ places-so_far (is_activated_by s r) (is_task r) (m + 1)) e here
                | inr differs ↦
                    let fails : is_task q (get_or many m d) ≡ false = rw is differs in
                    ap places_of (longer-elsewhere by_task j.0 task low q (λ e. false≢true (sym differs ∙ eq-eqb j.0 q (sym e)))) ∙ (h.activated q less ∙ other-same (is_activated_by s q) (is_task q) fails)
              ];
        }

-- an activator has a list
pub has-list : (s : SystemLists) (a : Activator) (sources tasks : ℕ) → IsActivator s a → sources ≡ length s.sources → tasks ≡ length s.tasks → HasList a sources tasks
has-list s (Source k) sources tasks there a b = omega (arith, there)
has-list s (Task j) sources tasks there a b = omega (arith, there)
