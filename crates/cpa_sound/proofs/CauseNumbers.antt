-- The causes of jobs in lists: the events, or jobs, of one activator in their order, and which come at one time.
use Rattle.std.proofs.Common.{◌≡◌, ℕ, zero, suc, ◌+◌, ◌<◌, ◌≤◌, ◌++◌, length, List, [], ◌∷◌, map, take, Bool, true, false, cond, refl, sym, ◌∙◌, ap, inl, inr, arith, get_or}
use Rattle.std.specs.Prelude.{filter}
use Rattle.std.specs.List.{flat_map, range_with_len, AllByRecursion}
use Rattle.std.proofs.lemmas.Bool.{cases_lt, cases_Bool, ne_eqb, false≢true}
use Rattle.std.proofs.lemmas.List.{append-nil, map-append}
use Rattle.std.proofs.lemmas.List.Elements.{filter-append}
use Rattle.std.proofs.lemmas.List.Filters.{length-filter_more}
use Rattle.cpa_model.specs.declared.entries.Activator.{Activator}
use Rattle.cpa_model.specs.declared.entries.Activator.TheVariants.{Source, Task}
use Rattle.cpa_model.specs.SystemLists.{SystemLists, task_places, source_places, is_fed_by, is_activated_by}
use Rattle.cpa_trace.specs.Trace.{TraceLists}
use Rattle.cpa_sim.specs.declared.jobs.Cause.{Cause}
use Rattle.cpa_sim.specs.Run.{no_cause, causes_by, events_at, by_task, by_source, by_tasks, by_sources, arriving}
use Rattle.cpa_sound.specs.JobStreams.{is_same}
use Rattle.cpa_sound.proofs.Parts.{jobs_in}
use Rattle.cpa_sound.proofs.PartLaws.{jobs_in-zero, jobs_in-here, jobs_in-other}
use Rattle.cpa_sound.proofs.KeepsCauses.{Starts}
use Rattle.cpa_sound.proofs.CauseStreams.{is-same}

-- ---- the causes of one activator in a list

-- whether an activator is the cause
abbrev pub is_by : Activator → Cause → Bool
is_by a cause = is_same a cause.by

-- the numbers of an activator's events or jobs, in the order of a list of causes
abbrev pub numbers_by : Activator → List Cause → List ℕ
numbers_by a cs = map (λ (cause : Cause). cause.number) (filter (is_by a) cs)

pub numbers-append : (a : Activator) (cs ds : List Cause) → numbers_by a (cs ++ ds) ≡ numbers_by a cs ++ numbers_by a ds
numbers-append a cs ds = ap (map (λ (cause : Cause). cause.number)) (filter-append (is_by a) cs ds) ∙ map-append (λ (cause : Cause). cause.number) (filter (is_by a) cs) (filter (is_by a) ds)

-- its part of the jobs, by their causes
abbrev pub part_of : Activator → List Cause → ℕ → Bool
part_of a cs k = is_same a (get_or cs k no_cause).by

-- where the numbers of an activator count up, each is that of the earlier ones
pub number-at : (a : Activator) (cs : List Cause) (from n : ℕ) → numbers_by a cs ≡ range_with_len from n → (k : ℕ) → k < length cs → part_of a cs k ≡ true → (get_or cs k no_cause).number ≡ from + length (filter (is_by a) (take k cs))
number-at a [] from n e k here own = absurd (omega arith)
number-at a (c ∷ cs) from n e k here own =
    elim (cases_Bool (is_by a c)) [
      | inl is ↦ first n (rw is at e) k here own is (number-at a cs (from + 1))
      | inr is_not ↦ later k here own is_not (number-at a cs from n (rw is_not at e))
    ]
  where
    heads : (x y : ℕ) (xs ys : List ℕ) → x ∷ xs ≡ y ∷ ys → (x ≡ y) × (xs ≡ ys)
    heads x y xs ys h = (cc, cc)

    first : (n : ℕ) → c.number ∷ numbers_by a cs ≡ range_with_len from n → (k : ℕ) → k < length (c ∷ cs) → part_of a (c ∷ cs) k ≡ true → is_by a c ≡ true
        → ((n : ℕ) → numbers_by a cs ≡ range_with_len (from + 1) n → (k : ℕ) → k < length cs → part_of a cs k ≡ true → (get_or cs k no_cause).number ≡ from + 1 + length (filter (is_by a) (take k cs)))
        → (get_or (c ∷ cs) k no_cause).number ≡ from + length (filter (is_by a) (take k (c ∷ cs)))
    first zero h k here own is rest = absurd cc
    first (suc m) h zero here own is rest = let two = heads c.number from (numbers_by a cs) (range_with_len (from + 1) m) h in omega (arith, two.0)
    first (suc m) h (suc k) here own is rest =
        let two = heads c.number from (numbers_by a cs) (range_with_len (from + 1) m) h in
        let more = rest m two.1 k (omega arith) own in
        rw is (omega (arith, more))

    later : (k : ℕ) → k < length (c ∷ cs) → part_of a (c ∷ cs) k ≡ true → is_by a c ≡ false
        → ((k : ℕ) → k < length cs → part_of a cs k ≡ true → (get_or cs k no_cause).number ≡ from + length (filter (is_by a) (take k cs)))
        → (get_or (c ∷ cs) k no_cause).number ≡ from + length (filter (is_by a) (take k (c ∷ cs)))
    later zero here own is_not rest = absurd (false≢true (sym is_not ∙ own))
    later (suc k) here own is_not rest = rw is_not (rest k (omega arith) own)

-- how many of the first jobs it started
pub jobs-taken : (a : Activator) (cs : List Cause) (k : ℕ) → k ≤ length cs → jobs_in (part_of a cs) k ≡ length (filter (is_by a) (take k cs))
jobs-taken a cs zero le = jobs_in-zero (part_of a cs)
jobs-taken a cs (suc k) le =
    let e : suc k ≡ k + 1 = omega arith in
    let more = length-filter_more (is_by a) cs k no_cause (omega arith) in
    let rest = jobs-taken a cs k (omega arith) in
    rw e
    (elim (cases_Bool (part_of a cs k)) [
      | inl own ↦ let more' = rw own at more in omega (arith, jobs_in-here (part_of a cs) k own, more', rest)
      | inr not_own ↦ let more' = rw not_own at more in omega (arith, jobs_in-other (part_of a cs) k not_own, more', rest)
    ])

-- ---- the causes of the jobs that come at one time

causes-own : (a b : Activator) (ns : List ℕ) → is_same a b ≡ true → numbers_by a (causes_by b ns) ≡ ns
causes-own a b [] e = refl
causes-own a b (n ∷ ns) e = rw e (ap (λ xs. n ∷ xs) (causes-own a b ns e))

causes-other : (a b : Activator) (ns : List ℕ) → is_same a b ≡ false → numbers_by a (causes_by b ns) ≡ []
causes-other a b [] e = refl
causes-other a b (n ∷ ns) e = rw e (causes-other a b ns e)

module _ (a : Activator) (f : ℕ → List Cause) where
  none-by : (from n : ℕ) → ((m : ℕ) → from ≤ m → m < from + n → numbers_by a (f m) ≡ []) → numbers_by a (flat_map f (range_with_len from n)) ≡ []
  none-by from zero none = refl
  none-by from (suc n) none =
      numbers-append a (f from) (flat_map f (range_with_len (from + 1) n))
      ∙ (ap (λ xs. xs ++ numbers_by a (flat_map f (range_with_len (from + 1) n))) (none from (omega arith) (omega arith))
      ∙ none-by (from + 1) n (λ m low high. none m (omega arith) (omega arith)))

  -- one place alone has causes by an activator
  one-by : (from n j : ℕ) → from ≤ j → j < from + n → ((m : ℕ) → (m ≡ j → ⊥) → numbers_by a (f m) ≡ []) → numbers_by a (flat_map f (range_with_len from n)) ≡ numbers_by a (f j)
  one-by from zero j low high none = absurd (omega arith)
  one-by from (suc n) j low high none =
      elim (cases_lt from j) [
        | inl less ↦
            numbers-append a (f from) (flat_map f (range_with_len (from + 1) n))
            ∙ (ap (λ xs. xs ++ numbers_by a (flat_map f (range_with_len (from + 1) n))) (none from (λ e. omega arith))
            ∙ one-by (from + 1) n j (omega arith) (omega arith) none)
        | inr more ↦
            let e : from ≡ j = omega arith in
            numbers-append a (f from) (flat_map f (range_with_len (from + 1) n))
            ∙ (ap (λ xs. numbers_by a (f from) ++ xs) (none-by (from + 1) n (λ m l h. none m (λ z. omega arith)))
            ∙ (append-nil (numbers_by a (f from)) ∙ ap (λ m. numbers_by a (f m)) e))
      ]

module _ (s : SystemLists) (tr : TraceLists) (now : ℕ) (ended : ℕ → List ℕ) (i : ℕ) where
  by-if : (a b : Activator) (activates : Bool) (ns : List ℕ) → is_same a b ≡ false → numbers_by a (cond activates (causes_by b ns) []) ≡ []
  by-if a b true ns e = causes-other a b ns e
  by-if a b false ns e = refl

  -- what a task starts at a time
  pub arriving-task : (j : ℕ) → j < length s.tasks → is_activated_by s j i ≡ true → numbers_by (Task (record { 0 = j })) (arriving s tr now ended i) ≡ ended j
  arriving-task j h activates =
      let a : Activator = Task (record { 0 = j }) in
      let first : numbers_by a (by_tasks s ended i) ≡ numbers_by a (by_task s ended j i) =
      one-by a (λ m. by_task s ended m i) 0 (length s.tasks) j (omega arith) (omega arith) (λ m differ. by-if a (Task (record { 0 = m })) (is_activated_by s m i) (ended m) (ne_eqb m j differ)) in
      let second : numbers_by a (by_sources s tr now i) ≡ [] =
      none-by a (λ k. by_source s tr now k i) 0 (length s.sources) (λ k low high. by-if a (Source (record { 0 = k })) (is_fed_by s k i) (events_at tr k now) refl) in
      let own : numbers_by a (by_task s ended j i) ≡ ended j = rw activates (causes-own a a (ended j) (is-same a a refl)) in
      numbers-append a (by_tasks s ended i) (by_sources s tr now i)
      ∙ (ap (λ xs. numbers_by a (by_tasks s ended i) ++ xs) second ∙ (append-nil (numbers_by a (by_tasks s ended i)) ∙ (first ∙ own)))

  -- and a source
  pub arriving-source : (k : ℕ) → k < length s.sources → is_fed_by s k i ≡ true → numbers_by (Source (record { 0 = k })) (arriving s tr now ended i) ≡ events_at tr k now
  arriving-source k h feeds =
      let a : Activator = Source (record { 0 = k }) in
      let first : numbers_by a (by_tasks s ended i) ≡ [] =
      none-by a (λ m. by_task s ended m i) 0 (length s.tasks) (λ m low high. by-if a (Task (record { 0 = m })) (is_activated_by s m i) (ended m) refl) in
      let second : numbers_by a (by_sources s tr now i) ≡ numbers_by a (by_source s tr now k i) =
      one-by a (λ m. by_source s tr now m i) 0 (length s.sources) k (omega arith) (omega arith) (λ m differ. by-if a (Source (record { 0 = m })) (is_fed_by s m i) (events_at tr m now) (ne_eqb m k differ)) in
      let own : numbers_by a (by_source s tr now k i) ≡ events_at tr k now = rw feeds (causes-own a a (events_at tr k now) (is-same a a refl)) in
      numbers-append a (by_tasks s ended i) (by_sources s tr now i)
      ∙ (ap (λ xs. xs ++ numbers_by a (by_sources s tr now i)) first ∙ (second ∙ own))

-- ---- all of them are by the task's activators

abbrev pub AllStart : SystemLists → ℕ → List Cause → Type 0
AllStart s i cs = AllByRecursion (λ (cause : Cause). Starts s i cause.by) cs

pub start-append : (s : SystemLists) (i : ℕ) (cs ds : List Cause) → AllStart s i cs → AllStart s i ds → AllStart s i (cs ++ ds)
start-append s i [] ds all more = more
start-append s i (c ∷ cs) ds all more = (all.0, start-append s i cs ds all.1 more)

pub start-at : (s : SystemLists) (i : ℕ) (cs : List Cause) (k : ℕ) → AllStart s i cs → k < length cs → Starts s i (get_or cs k no_cause).by
start-at s i [] k all h = absurd (omega arith)
start-at s i (c ∷ cs) zero all h = all.0
start-at s i (c ∷ cs) (suc k) all h = start-at s i cs k all.1 (omega arith)

start-places : (s : SystemLists) (i : ℕ) (f : ℕ → List Cause) (ns : List ℕ) → ((n : ℕ) → AllStart s i (f n)) → AllStart s i (flat_map f ns)
start-places s i f [] all = tt
start-places s i f (n ∷ ns) all = start-append s i (f n) (flat_map f ns) (all n) (start-places s i f ns all)

start-if : (s : SystemLists) (i : ℕ) (a : Activator) (ns : List ℕ) (activates : Bool) → (activates ≡ true → Starts s i a) → AllStart s i (cond activates (causes_by a ns) [])
start-if s i a ns false starts = tt
start-if s i a [] true starts = tt
start-if s i a (n ∷ ns) true starts = (starts refl, start-if s i a ns true starts)

pub start-arriving : (s : SystemLists) (tr : TraceLists) (now : ℕ) (ended : ℕ → List ℕ) (i : ℕ) → AllStart s i (arriving s tr now ended i)
start-arriving s tr now ended i =
    start-append s i (by_tasks s ended i) (by_sources s tr now i)
    (start-places s i (λ j. by_task s ended j i) (task_places s) (λ j. start-if s i (Task (record { 0 = j })) (ended j) (is_activated_by s j i) (λ e. e)))
    (start-places s i (λ k. by_source s tr now k i) (source_places s) (λ k. start-if s i (Source (record { 0 = k })) (events_at tr k now) (is_fed_by s k i) (λ e. e)))
