-- Jobs that come at one time, cause by cause.
use Rattle.std.proofs.Common.{◌≡◌, ◌≢◌, ℕ, zero, suc, ◌+◌, ◌-◌, ◌<◌, ◌≤◌, ◌++◌, ◌⊎◌, length, map, take, List, [], ◌∷◌, Bool, true, false, cond, eqb, ◌||◌, ◌&&◌, nat_le, nat_lt, get_or, Option, Some, None, option_map, refl, sym, ◌∙◌, ap, subst, inl, inr, arith, length-append}
use Rattle.std.specs.Prelude.{filter, MatchOption}
use Rattle.std.specs.List.{list_any, flat_map, range_with_len}
use Rattle.std.proofs.lemmas.Bool.{cases_lt, cases_Bool, lt-ltb, le-ltb, le-leb, leb-true, eq-eqb, eqb-true, ne_eqb, false≢true}
use Rattle.std.proofs.lemmas.List.{append-nil, append_assoc, map-append, get_or-map, length-map}
use Rattle.std.proofs.lemmas.List.Folds.{list_any_at, list_any_more}
use Rattle.std.proofs.lemmas.Option.{same_Some}
use Rattle.cpa_units.specs.declared.places.ResId.{ResId}
use Rattle.cpa_units.specs.declared.places.TaskId.{TaskId}
use Rattle.cpa_units.specs.Sets.{holds, IsNextMember}
use Rattle.cpa_model.specs.declared.entries.Activator.TheVariants.{Source, Task}
use Rattle.cpa_model.specs.SystemLists.{SystemLists, task_at, place_of, places_of, is_fed_by, is_activated_by}
use Rattle.cpa_trace.specs.Trace.{TraceLists}
use Rattle.cpa_sched.specs.Steps.{kind_of}
use Rattle.cpa_sched.specs.States.{IsOn}
use Rattle.cpa_sim.specs.declared.dispatches.Dispatch.{Dispatch}
use Rattle.cpa_sim.specs.declared.jobs.Job.{Job}
use Rattle.cpa_sim.specs.declared.jobs.Cause.{Cause}
use Rattle.cpa_sim.specs.Run.{is_chosen, events_at, by_task, by_source}
use Rattle.cpa_sim.specs.JobQueues.{QueueCounts, arrivals_of, new_seen, with_arrivals}
use Rattle.cpa_sim.specs.Simulation.{queue_at, dispatch_at, runner, runs_at, ends_at, ends_of, IsUnchanged, AreEnding}
use Rattle.cpa_sim.specs.Arrivals.{is_among, IsListOf, IsWithin, AreGiven, ended_of, first_of, IsNextEnd}
use Rattle.cpa_sim.proofs.CauseLists.{by-none}
use Rattle.cpa_sim.proofs.DispatchLaws.{unchanged-same, unchanged-then}
use Rattle.cpa_sim.proofs.QueueLaws.{queue-same}
use Rattle.cpa_sim.proofs.SameTaskLaws.{chosen-is}
use Rattle.cpa_sim.proofs.RangeLaws.{filter-agree, passing-high, passing-rises, any-passing, flat_map-quiet}

-- ---- jobs that arrive in two parts

seen-none : (now : ℕ) (kept : Option (List Job)) → option_map (λ js. js ++ new_seen now []) kept ≡ kept
seen-none now None = refl
seen-none now (Some js) = ap Some (append-nil js)

seen-add : (now : ℕ) (a b : List Cause) (kept : Option (List Job)) → option_map (λ js. js ++ new_seen now b) (option_map (λ js. js ++ new_seen now a) kept) ≡ option_map (λ js. js ++ new_seen now (a ++ b)) kept
seen-add now a b None = refl
seen-add now a b (Some js) =
    ap Some (append_assoc js (new_seen now a) (new_seen now b)
    ∙ ap (λ ks. js ++ ks) (sym (map-append (λ (cause : Cause). let made : Job = record { arrival = now; end = None; cause = cause } in made) a b)))

came-none : (now : ℕ) (came : Option (List ℕ)) → option_map (λ times. times ++ arrivals_of (new_seen now [])) came ≡ came
came-none now None = refl
came-none now (Some times) = ap Some (append-nil times)

came-add : (now : ℕ) (a b : List Cause) (came : Option (List ℕ))
    → option_map (λ times. times ++ arrivals_of (new_seen now b)) (option_map (λ times. times ++ arrivals_of (new_seen now a)) came) ≡ option_map (λ times. times ++ arrivals_of (new_seen now (a ++ b))) came
came-add now a b None = refl
came-add now a b (Some times) =
    ap Some (append_assoc times (arrivals_of (new_seen now a)) (arrivals_of (new_seen now b))
    ∙ ap (λ more. times ++ more)
    (sym (ap arrivals_of (map-append (λ (cause : Cause). let made : Job = record { arrival = now; end = None; cause = cause } in made) a b)
    ∙ map-append (λ (job : Job). job.arrival) (new_seen now a) (new_seen now b))))

pub arrivals-none : (now : ℕ) (queue : QueueCounts) → with_arrivals now [] queue ≡ queue
arrivals-none now queue =
    let e : queue.count + 0 ≡ queue.count = omega arith in
    queue-same _ _ _ _ _ _ _ _ _ _ _ e refl refl (seen-none now queue.kept) (came-none now queue.came)

arrivals-add : (now : ℕ) (a b : List Cause) (queue : QueueCounts) → with_arrivals now b (with_arrivals now a queue) ≡ with_arrivals now (a ++ b) queue
arrivals-add now a b queue =
    let e : queue.count + length a + length b ≡ queue.count + length (a ++ b) = omega (arith, length-append a b) in
    queue-same _ _ _ _ _ _ _ _ _ _ _ e refl refl (seen-add now a b queue.kept) (came-add now a b queue.came)

module _ (s : SystemLists) (places : List ℕ) (now : ℕ) where
  pub given-none : (queues : List QueueCounts) (dispatches : List Dispatch) → length queues ≡ length s.tasks → length dispatches ≡ length s.resources → AreGiven s places now (λ i. []) queues dispatches queues dispatches
  given-none queues dispatches count_queues count_dispatches =
      record {
        count_queues = count_queues;
        count_dispatches = count_dispatches;
        arrived = λ i less. sym (arrivals-none now (queue_at queues i));
        unchanged = λ r less. unchanged-same (kind_of s r) (dispatch_at dispatches r) (dispatch_at dispatches r) refl;
        asked = λ i less more. refl;
        within = λ i less. inl refl;
      }

  pub given-same : (c d : ℕ → List Cause) (l1 : List QueueCounts) (d1 : List Dispatch) (l2 : List QueueCounts) (d2 : List Dispatch) → AreGiven s places now c l1 d1 l2 d2 → ((i : ℕ) → i < length s.tasks → c i ≡ d i) → AreGiven s places now d l1 d1 l2 d2
  given-same c d l1 d1 l2 d2 h same =
      record {
        count_queues = h.count_queues;
        count_dispatches = h.count_dispatches;
        arrived = λ i less. h.arrived i less ∙ ap (λ new. with_arrivals now new (queue_at l1 i)) (same i less);
        unchanged = h.unchanged;
        asked = λ i less more. sym (same i less) ∙ h.asked i less more;
        within = λ i less. elim (h.within i less) [ inl none ↦ inl (sym (same i less) ∙ none) | inr at ↦ inr at ];
      }

  module _ (placed : (i : ℕ) → i < length s.tasks → (task_at s i).res.0 < length s.resources) where
    pub given-then : (c d : ℕ → List Cause) (l1 : List QueueCounts) (d1 : List Dispatch) (l2 : List QueueCounts) (d2 : List Dispatch) (l3 : List QueueCounts) (d3 : List Dispatch) → AreGiven s places now c l1 d1 l2 d2 → AreGiven s places now d l2 d2 l3 d3 → AreGiven s places now (λ i. c i ++ d i) l1 d1 l3 d3
    given-then c d l1 d1 l2 d2 l3 d3 first then =
        record {
          count_queues = then.count_queues;
          count_dispatches = then.count_dispatches;
          arrived = λ i less. then.arrived i less ∙ (ap (with_arrivals now (d i)) (first.arrived i less) ∙ arrivals-add now (c i) (d i) (queue_at l1 i));
          unchanged = λ r less. unchanged-then (kind_of s r) (dispatch_at d1 r) (dispatch_at d2 r) (dispatch_at d3 r) (first.unchanged r less) (then.unchanged r less);
          asked = λ i less more.
              let r = (task_at s i).res.0 in
              let same = (then.unchanged r (placed i less)).same more in
              let none = first.asked i less (subst (λ (x : Dispatch). x.gone < x.ticks) same more) in
              ap (λ new. new ++ d i) none ∙ then.asked i less more;
          within = λ i less.
              elim (then.within i less) [
                | inl none ↦ elim (first.within i less) [
                  | inl before ↦ inl (ap (λ new. new ++ d i) before ∙ none)
                  | inr at ↦
                      let wide = then.unchanged (task_at s i).res.0 (placed i less) in
                      inr (record { first = omega (arith, at.first, wide.first); last = omega (arith, at.last, wide.last); since = omega (arith, at.since, wide.since) })
                ]
                | inr at ↦ inr at
              ];
        }

-- ---- the tasks of a list, one after the other

-- the jobs of one task
pub given-one : (s : SystemLists) (places : List ℕ) (now t : ℕ) (new : List Cause) (l1 : List QueueCounts) (d1 : List Dispatch) (l2 : List QueueCounts) (d2 : List Dispatch)
    → length l2 ≡ length s.tasks → length d2 ≡ length s.resources → queue_at l2 t ≡ with_arrivals now new (queue_at l1 t) → ((i : ℕ) → i ≢ t → queue_at l2 i ≡ queue_at l1 i)
    → ((r : ℕ) → r < length s.resources → IsUnchanged (kind_of s r) (dispatch_at d1 r) (dispatch_at d2 r))
    → (dispatch_at d2 (task_at s t).res.0).gone ≡ (dispatch_at d2 (task_at s t).res.0).ticks → IsWithin (dispatch_at d2 (task_at s t).res.0).waiters (get_or places t 0) now
    → AreGiven s places now (λ i. cond (eqb t i) new []) l1 d1 l2 d2
given-one s places now t new l1 d1 l2 d2 count_queues count_dispatches here others unchanged passed within =
    record {
      count_queues = count_queues;
      count_dispatches = count_dispatches;
      arrived = λ i less.
          elim (cases_Bool (eqb t i)) [
            | inl same ↦ rw same (subst (λ k. queue_at l2 k ≡ with_arrivals now new (queue_at l1 k)) (eqb-true t i same) here)
            | inr differs ↦ rw differs (others i (λ e. absurd (false≢true (sym differs ∙ eq-eqb t i (sym e)))) ∙ sym (arrivals-none now (queue_at l1 i)))
          ];
      unchanged = unchanged;
      asked = λ i less more.
          elim (cases_Bool (eqb t i)) [
            | inl same ↦
                let e = eqb-true t i same in
                let more' = subst (λ k. (dispatch_at d2 (task_at s k).res.0).gone < (dispatch_at d2 (task_at s k).res.0).ticks) (sym e) more in
                absurd (omega (arith, more', passed))
            | inr differs ↦ rw differs refl
          ];
      within = λ i less.
          elim (cases_Bool (eqb t i)) [
            | inl same ↦ inr (subst (λ k. IsWithin (dispatch_at d2 (task_at s k).res.0).waiters (get_or places k 0) now) (eqb-true t i same) within)
            | inr differs ↦ inl (rw differs refl)
          ];
    }

-- a place in a list of tasks
abbrev pub place_in : List TaskId → ℕ → ℕ
place_in tasks m = (get_or tasks m (record { 0 = 0 })).0

among-places : (tasks : List TaskId) (i : ℕ) → is_among tasks i ≡ list_any (λ x. eqb x i) (places_of tasks)
among-places [] i = refl
among-places (task ∷ tasks) i = ap (λ b. eqb task.0 i || b) (among-places tasks i)

-- a list of those that pass a test
module _ (s : SystemLists) (p : ℕ → Bool) (tasks : List TaskId) (are : places_of tasks ≡ filter p (range_with_len 0 (length s.tasks))) where
  pub among-is : (i : ℕ) → i < length s.tasks → is_among tasks i ≡ p i
  among-is i there = among-places tasks i ∙ (ap (list_any (λ x. eqb x i)) are ∙ any-passing p 0 (length s.tasks) i (omega arith) (omega arith))

  pub list-of : IsListOf s tasks
  list-of = are ∙ filter-agree p (is_among tasks) 0 (length s.tasks) (λ k low high. sym (among-is k (omega arith)))

not-among : (tasks : List TaskId) (m x : ℕ) → ((k : ℕ) → k < m → k < length tasks → place_in tasks k ≢ x) → is_among (take m tasks) x ≡ false
not-among tasks zero x differ = refl
not-among [] (suc m) x differ = refl
not-among (task ∷ tasks) (suc m) x differ =
    let here : eqb task.0 x ≡ false = ne_eqb task.0 x (differ 0 (omega arith) (omega arith)) in
    rw here (not-among tasks m x (λ k less there. differ (suc k) (omega arith) (omega arith)))

module _ (s : SystemLists) (tasks : List TaskId) (are : IsListOf s tasks) where
  place-is : (m : ℕ) → m < length tasks → get_or (filter (is_among tasks) (range_with_len 0 (length s.tasks))) m 0 ≡ place_in tasks m
  place-is m there = ap (λ xs. get_or xs m 0) (sym are) ∙ get_or-map place_of tasks m (record { 0 = 0 }) 0 there

  long : length (filter (is_among tasks) (range_with_len 0 (length s.tasks))) ≡ length tasks
  long = ap length (sym are) ∙ length-map tasks place_of

  pub listed-there : (m : ℕ) → m < length tasks → place_in tasks m < length s.tasks
  listed-there m there = omega (arith, passing-high (is_among tasks) 0 (length s.tasks) m (omega (arith, long)), place-is m there)

  -- each stands there once
  pub not-yet : (m : ℕ) → m < length tasks → is_among (take m tasks) (place_in tasks m) ≡ false
  not-yet m there =
      not-among tasks m (place_in tasks m)
      (λ k less low e. absurd (omega (arith, e, place-is k low, place-is m there, passing-rises (is_among tasks) 0 (length s.tasks) k m less (omega (arith, long)))))

  pub listed-among : (m : ℕ) → m < length tasks → is_among tasks (place_in tasks m) ≡ true
  listed-among m there = list_any_at (λ (t : TaskId). eqb t.0 (place_in tasks m)) tasks m (record { 0 = 0 }) there (eq-eqb (place_in tasks m) (place_in tasks m) refl)

  -- one more
  pub listed-more : (new : List Cause) (m : ℕ) → m < length tasks → (i : ℕ) → cond (is_among (take m tasks) i) new [] ++ cond (eqb (place_in tasks m) i) new [] ≡ cond (is_among (take (m + 1) tasks) i) new []
  listed-more new m there i =
      let more = list_any_more (λ (t : TaskId). eqb t.0 i) tasks m (record { 0 = 0 }) there in
      elim (cases_Bool (eqb (place_in tasks m) i)) [
        | inl same ↦
            let e = eqb-true (place_in tasks m) i same in
            let none : is_among (take m tasks) i ≡ false = subst (λ x. is_among (take m tasks) x ≡ false) e (not-yet m there) in
            rw (more, none, same) refl
        | inr differs ↦
            let same_before = either (is_among (take m tasks) i) in
            rw (more, differs, same_before) (append-nil (cond (is_among (take m tasks) i) new []))
      ]
    where
      either : (b : Bool) → (b || false) ≡ b
      either true = refl
      either false = refl

-- one of some lists, as it is read
pub listed-read : {X : Type 0} (f : X → List TaskId) (xs : List X) (k : ℕ) (x : X) → k < length xs → x ≡ get_or xs k x → get_or (map f xs) k [] ≡ f x
listed-read f xs k x there e = get_or-map f xs k x [] there ∙ ap f (sym e)

-- ---- the first task of which a job ends

too-high : (from t j : ℕ) → Some t ≡ Some j → nat_le from t ≡ false → from ≤ j → ⊥
too-high from t j e high low = false≢true (sym high ∙ le-leb from t (omega (arith, same_Some t j e)))

-- up to which resource
abbrev pub upto_resource : ℕ → Option ResId → ℕ
upto_resource n None = n
upto_resource n (Some res) = res.0

pub upto-all : (n : ℕ) (place : Option ResId) → ((res : ResId) → place ≡ Some res → ⊥) → upto_resource n place ≡ n
upto-all n None none = refl
upto-all n (Some res) none = absurd (none res refl)

module _ (dispatches : List Dispatch) (from : ℕ) where
  pub member-there : (ended : List Bool) (m : ℕ) (res : ResId) → AreEnding dispatches ended → IsNextMember ended m res.0 → res.0 < length dispatches
  member-there ended m res are is =
      elim (cases_lt res.0 (length dispatches)) [
        | inl there ↦ there
        | inr past ↦ absurd (false≢true (sym (are.past res.0 past) ∙ is.member))
      ]

  -- so far as some resources have been looked at
  pub record IsFirstEnd (m : ℕ) (next : Option ℕ) : Type 0 where
    pub from_on : (j : ℕ) → next ≡ Some j → from ≤ j
    pub found : (j : ℕ) → next ≡ Some j → (r : ℕ) × (r < m) × (ends_at (dispatch_at dispatches r) j ≡ 1)
    pub least : (r j : ℕ) → r < m → from ≤ j → ends_at (dispatch_at dispatches r) j ≡ 1 → (i : ℕ) × (next ≡ Some i) × (i ≤ j)

  pub first-start : IsFirstEnd 0 None
  first-start = record { from_on = λ j e. cc; found = λ j e. cc; least = λ r j less low e. absurd (omega arith) }

  module _ (m : ℕ) (o next : Option ℕ) (ends : (j : ℕ) → ends_at (dispatch_at dispatches m) j ≡ cond (is_chosen o j) 1 0) (h : IsFirstEnd m next) where
    -- whoever ends there
    ended-there : (j : ℕ) → ends_at (dispatch_at dispatches m) j ≡ 1 → o ≡ Some j
    ended-there j e =
        elim (cases_Bool (is_chosen o j)) [
          | inl passes ↦ chosen-is o j passes
          | inr fails ↦
              let none : ends_at (dispatch_at dispatches m) j ≡ 0 = rw fails at (ends j) in
              absurd (omega (arith, none, e))
        ]

    -- it is none that comes first
    pub first-other : ((j : ℕ) → o ≡ Some j → from ≤ j → (i : ℕ) × (next ≡ Some i) × (i ≤ j)) → IsFirstEnd (m + 1) next
    first-other later =
        record {
          from_on = h.from_on;
          found = λ j e. let f = h.found j e in (f.0, omega (arith, f.1), f.2);
          least = λ r j less low e.
              elim (cases_lt r m) [
                | inl before ↦ h.least r j before low e
                | inr here ↦
                    let same : r ≡ m = omega arith in
                    later j (ended-there j (subst (λ q. ends_at (dispatch_at dispatches q) j ≡ 1) same e)) low
              ];
        }

    -- it is the first
    pub first-this : (t : ℕ) → o ≡ Some t → from ≤ t → ((i : ℕ) → next ≡ Some i → t < i) → IsFirstEnd (m + 1) (Some t)
    first-this t is low before =
        record {
          from_on = λ j e. let same = same_Some t j e in omega (arith, same);
          found = λ j e.
              let same : t ≡ j = same_Some t j e in
              let passes : is_chosen o j ≡ true = rw is (eq-eqb t j same) in
              (m, omega arith, ends j ∙ rw passes refl);
          least = λ r j less l e.
              elim (cases_lt r m) [
                | inl early ↦
                    let f = h.least r j early l e in
                    let more = before f.0 f.1 in
                    (t, refl, omega (arith, more, f.2))
                | inr here ↦
                    let at : r ≡ m = omega arith in
                    let same = same_Some t j (sym is ∙ ended-there j (subst (λ q. ends_at (dispatch_at dispatches q) j ≡ 1) at e)) in
                    (t, refl, omega (arith, same))
              ];
        }

  -- resources on which nothing ends
  quiet-ends : (dispatch : Dispatch) (j : ℕ) → dispatch.ends ≡ false → ends_at dispatch j ≡ 0
  quiet-ends dispatch j none = elim (cases_Bool (runs_at dispatch j)) [ inl runs ↦ rw (runs, none) refl | inr rests ↦ rw rests refl ]

  first-quiet : (m n : ℕ) (next : Option ℕ) → m ≤ n → ((r : ℕ) → m ≤ r → r < n → (dispatch_at dispatches r).ends ≡ false) → IsFirstEnd m next → IsFirstEnd n next
  first-quiet m n next low quiet h =
      record {
        from_on = h.from_on;
        found = λ j e. let f = h.found j e in (f.0, omega (arith, f.1), f.2);
        least = λ r j less l e.
            elim (cases_lt r m) [
              | inl before ↦ h.least r j before l e
              | inr after ↦ absurd (omega (arith, quiet-ends (dispatch_at dispatches r) j (quiet r after less), e))
            ];
      }

  -- up to the next resource on which a job ends, or past all of them
  pub first-upto : (ended : List Bool) (m : ℕ) (place : Option ResId) (next : Option ℕ) → AreEnding dispatches ended → m ≤ length dispatches
      → MatchOption place ((r : ℕ) → m ≤ r → holds ended r ≡ false) (λ res. IsNextMember ended m res.0) → IsFirstEnd m next → IsFirstEnd (upto_resource (length dispatches) place) next
  first-upto ended m None next are low none h = first-quiet m (length dispatches) next low (λ r after less. sym (are.there r less) ∙ none r after) h
  first-upto ended m (Some res) next are low is h = first-quiet m res.0 next is.past (λ r after less. sym (are.there r (omega (arith, less, member-there ended m res are is))) ∙ is.first r after less) h

  pub next-there : (ended : List Bool) (m : ℕ) (place : Option ResId) → AreEnding dispatches ended → MatchOption place ((r : ℕ) → m ≤ r → holds ended r ≡ false) (λ res. IsNextMember ended m res.0)
      → (res : ResId) → place ≡ Some res → res.0 < length dispatches
  next-there ended m None are is res e = cc
  next-there ended m (Some q) are is res e = subst (λ (x : ResId). x.0 < length dispatches) (same_Some q res e) (member-there ended m q are is)

  -- one resource more
  pub first-more : (m : ℕ) (o next : Option ℕ) → ((j : ℕ) → ends_at (dispatch_at dispatches m) j ≡ cond (is_chosen o j) 1 0) → IsFirstEnd m next → IsFirstEnd (m + 1) (first_of next from o)
  first-more m None next ends h = first-other m None next ends h (λ j e low. cc)
  first-more m (Some t) None ends h =
      elim (cases_Bool (nat_le from t)) [
        | inl low ↦ rw low (first-this m (Some t) None ends h t refl (leb-true from t low) (λ i e. cc))
        | inr high ↦ rw high (first-other m (Some t) None ends h (λ j e low. absurd (too-high from t j e high low)))
      ]
  first-more m (Some t) (Some i) ends h =
      elim (cases_Bool (nat_le from t)) [
        | inl low ↦ elim (cases_lt t i) [
          | inl before ↦
              let b : nat_lt t i ≡ true = lt-ltb t i before in
              rw (low, b) (first-this m (Some t) (Some i) ends h t refl (leb-true from t low) (λ k e. let same = same_Some i k e in omega (arith, same)))
          | inr after ↦
              let b : nat_lt t i ≡ false = le-ltb t i after in
              rw (low, b) (first-other m (Some t) (Some i) ends h (λ j e l. let same = same_Some t j e in (i, refl, omega (arith, same))))
        ]
        | inr high ↦ rw high (first-other m (Some t) (Some i) ends h (λ j e low. absurd (too-high from t j e high low)))
      ]

-- once all have been looked at
pub first-all : (s : SystemLists) (dispatches : List Dispatch) (from : ℕ) (next : Option ℕ) → length dispatches ≡ length s.resources
    → ((i : ℕ) → i < length s.tasks → (task_at s i).res.0 < length s.resources) → ((r j : ℕ) → r < length s.resources → runner (dispatch_at dispatches r) ≡ Some j → IsOn s r j)
    → IsFirstEnd dispatches from (length dispatches) next → IsNextEnd s dispatches from next
first-all s dispatches from next count places on h =
    record {
      from_on = h.from_on;
      there = λ j e. let f = h.found j e in (on-it f.0 j (omega (arith, f.1, count)) f.2).task;
      ends = λ j e.
          let f = h.found j e in
          let here : (task_at s j).res.0 ≡ f.0 = eqb-true (task_at s j).res.0 f.0 (on-it f.0 j (omega (arith, f.1, count)) f.2).here in
          ap (λ r. ends_at (dispatch_at dispatches r) j) here ∙ f.2;
      none = λ i low there before.
          elim (one-or-none (dispatch_at dispatches (task_at s i).res.0) i) [
            | inl one ↦
                let f = h.least (task_at s i).res.0 i (omega (arith, count, places i there)) low one in
                let more = before f.0 f.1 in
                absurd (omega (arith, more, f.2))
            | inr none ↦ none
          ];
    }
  where
    one-or-none : (dispatch : Dispatch) (i : ℕ) → (ends_at dispatch i ≡ 1) ⊎ (ends_at dispatch i ≡ 0)
    one-or-none dispatch i =
        elim (cases_Bool (is_chosen (runner dispatch) i && dispatch.ends)) [
          | inl passes ↦ inl (rw passes refl)
          | inr fails ↦ inr (rw fails refl)
        ]

    runs : (dispatch : Dispatch) (j : ℕ) → ends_at dispatch j ≡ 1 → is_chosen (runner dispatch) j ≡ true
    runs dispatch j e =
        elim (cases_Bool (is_chosen (runner dispatch) j)) [
          | inl passes ↦ passes
          | inr fails ↦
              let none : ends_at dispatch j ≡ 0 = rw fails refl in
              absurd (omega (arith, none, e))
        ]

    on-it : (r j : ℕ) → r < length s.resources → ends_at (dispatch_at dispatches r) j ≡ 1 → IsOn s r j
    on-it r j there e = on r j there (chosen-is (runner (dispatch_at dispatches r)) j (runs (dispatch_at dispatches r) j e))

-- ---- the tasks before it have started theirs

-- up to which task
abbrev pub upto : ℕ → Option ℕ → ℕ
upto n None = n
upto n (Some j) = j

pub upto-none : (n : ℕ) (o : Option TaskId) → ((task : TaskId) → o ≡ Some task → ⊥) → upto n (option_map place_of o) ≡ n
upto-none n None none = refl
upto-none n (Some task) none = absurd (none task refl)

module _ (s : SystemLists) (queues : List QueueCounts) (dispatches : List Dispatch) (i : ℕ) where
  -- what the first so many tasks start
  abbrev pub started_below : ℕ → List Cause
  started_below k = flat_map (λ j. by_task s (ended_of s queues dispatches) j i) (range_with_len 0 k)

  quiet-task : (j : ℕ) → ends_of s dispatches j ≡ 0 → by_task s (ended_of s queues dispatches) j i ≡ []
  quiet-task j none = by-none (is_activated_by s j i) (Task (record { 0 = j })) (ended_of s queues dispatches j) (ap (range_with_len ((queue_at queues j).done - 1)) none)

  -- none before the next one
  pub quiet-before : (from : ℕ) (next : Option ℕ) → from ≤ length s.tasks → ((j : ℕ) → from ≤ j → j < length s.tasks → ((k : ℕ) → next ≡ Some k → j < k) → ends_of s dispatches j ≡ 0)
      → ((j : ℕ) → next ≡ Some j → from ≤ j) → ((j : ℕ) → next ≡ Some j → j < length s.tasks) → started_below from ≡ started_below (upto (length s.tasks) next)
  quiet-before from None low none after there =
      flat_map-quiet (λ j. by_task s (ended_of s queues dispatches) j i) from (length s.tasks) low (λ j l h. quiet-task j (none j l h (λ k e. cc)))
  quiet-before from (Some t) low none after there =
      let less = there t refl in
      flat_map-quiet (λ j. by_task s (ended_of s queues dispatches) j i) from t (after t refl) (λ j l h. quiet-task j (none j l (omega arith) (λ k e. let same = same_Some t k e in omega (arith, same))))

  -- a task whose job ends starts one job of each task that it activates
  pub started-one : (t : ℕ) → ends_of s dispatches t ≡ 1 → is_activated_by s t i ≡ true → length (by_task s (ended_of s queues dispatches) t i) ≡ 1
  started-one t one activates = rw (activates, one) refl

-- ---- the events

module _ (s : SystemLists) (tr : TraceLists) (now i : ℕ) where
  -- what the first so many sources start
  abbrev pub fed_below : ℕ → List Cause
  fed_below k = flat_map (λ q. by_source s tr now q i) (range_with_len 0 k)

  pub length-fed : (k : ℕ) → is_fed_by s k i ≡ true → length (by_source s tr now k i) ≡ length (events_at tr k now)
  length-fed k cursors = rw cursors (length-map (events_at tr k now) (λ n. let made : Cause = record { by = Source (record { 0 = k }); number = n } in made))
