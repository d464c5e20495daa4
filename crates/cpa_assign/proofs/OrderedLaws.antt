-- The bound of a task of the resource under an order depends on the set of tasks before it alone.
use Rattle.std.proofs.Common.{◌≡◌, ℕ, ◌<◌, ◌==◌, ◌-◌, ◌||◌, nat_lt, nat_le, min, max, not, if◌then◌else◌, slice_index_or, Bool, true, false, List, [], ◌∷◌, Option, Some, None, is_some, map, length, refl, ap, sym, ◌∙◌, subst, inl, inr, arith}
use Rattle.std.specs.Prelude.{filter, fold}
use Rattle.std.specs.Str.{bytes_eq}
use Rattle.std.proofs.lemmas.Bool.Decides.{nat_tests}
use Rattle.std.specs.List.{range_with_len, flat_map, list_any, AllByRecursion}
use Rattle.std.proofs.lemmas.Bool.{cases_Bool, cases_order, and_parts, or_parts, false≢true, eqb-true, ltb-true, lt-ltb, le-ltb, lt-leb}
use Rattle.std.proofs.lemmas.List.{get_or-map}
use Rattle.cpa_units.specs.declared.bound.Bound.{Bound}
use Rattle.cpa_units.specs.declared.places.SourceId.{SourceId}
use Rattle.cpa_events.specs.Events.{Model}
use Rattle.cpa_window.proofs.RivalLaws.{load_of, work_in-same}
use Rattle.cpa_spp.specs.Preemptive.{preemptive_bound}
use Rattle.cpa_spp.proofs.PreemptiveLaws.{preemptive_bound-same}
use Rattle.cpa_can.proofs.CanLaws.{can_bound-same}
use Rattle.cpa_clock.specs.declared.anchor.Anchor.{Anchor}
use Rattle.cpa_clock.specs.Anchors.{Anchors}
use Rattle.cpa_clock.specs.Gathered.{anchors_at, added_rival}
use Rattle.cpa_clock.specs.Rivals.{ClockedRival}
use Rattle.cpa_clock.specs.Clocked.{clocked_preemptive_bound}
use Rattle.cpa_clock.specs.Wider.{AreOffClocks}
use Rattle.cpa_model.specs.declared.entries.OnClock.{OnClock}
use Rattle.cpa_model.specs.declared.entries.Kind.{Kind}
use Rattle.cpa_model.specs.declared.entries.Kind.TheVariants.{Preemptive, RoundRobin, Tdma, Can, Fifo, Ceiling}
use Rattle.cpa_model.specs.declared.entries.Turn.{Turn}
use Rattle.cpa_model.specs.declared.entries.Turn.TheVariants.{Priority}
use Rattle.cpa_model.specs.declared.entries.Task.{Task}
use Rattle.cpa_model.specs.declared.entries.Activator.{Activator}
use Rattle.cpa_model.specs.declared.entries.Activator.TheVariants.{Source as FromSource, Task as FromTask}
use Rattle.cpa_model.specs.Chains.{activators, streams_step, streams_within}
use Rattle.cpa_model.specs.Clocks.{is_clocked, first_on, clock_cycle}
use Rattle.cpa_model.specs.declared.entries.Resource.{Resource}
use Rattle.cpa_model.specs.SystemLists.{SystemLists, task_at, resource_at, resource_of, source_at, streams_of, task_places, tasks_on, priority_of, is_higher, higher_tasks, no_task, is_on}
use Rattle.cpa_model.specs.Rules.{IsSystem}
use Rattle.cpa_model.specs.Streams.{source_model, source_stream}
use Rattle.cpa_model.specs.Locks.{uses_lock, ceiling_of, section_of, section_blocking, blocking_by_sections}
use Rattle.cpa_model.specs.declared.locks.CriticalSection.{CriticalSection}
use Rattle.cpa_local.specs.Blocking.{blocking_between, blocking_of}
use Rattle.cpa_local.specs.Inputs.{joined, sent_by_all, input_along, input}
use Rattle.cpa_local.specs.Local.{rival_of, priority_bound, bound_by_kind, response}
use Rattle.cpa_local.specs.OnClocks.{source_anchor, anchors_step, anchors_within, anchor_list, anchors_of, clocked_rival_of}
use Rattle.cpa_local.specs.Plain.{plain_priority_bound, plain_by_kind}
use Rattle.cpa_local.proofs.PlainLaws.{AreNone, none-at, plain-bounds, by_kind-plain}
use Rattle.cpa_model.specs.Kinds.{HasPriorities}
use Rattle.cpa_assign.specs.Orders.{are_sources, is_member, is_task_on, is_off_clocks, is_unblocked, is_preemptive, place_in, kth_priority, number_up_to, ordered_task, with_order, IsOrder, IsOrderable}
use Rattle.cpa_assign.specs.Placing.{sources_model, rival_at, rivals_at, is_below, reaches, placed_section, placed_between, placed_blocking, placed_by_kind, source_anchors, clocked_rival_at, clocked_rivals_at, placed_on_clocks, placed_by_clocks, placed_bound}
use Rattle.cpa_local.proofs.CeilingLaws.{least-reaches}
use Rattle.cpa_assign.proofs.BelowLaws.{between-none, sections_from}
use Rattle.cpa_assign.proofs.AbleLaws.{fed-source, off-clock, unblocked-each, compared}
use Rattle.cpa_assign.proofs.OrderLaws.{is_before, same_place, flip-no, before-place, before-member, place-less, place-own}
use Rattle.cpa_local.proofs.BlockingLaws.{greatest-none}
use Rattle.cpa_local.proofs.PlaceLists.{least_over}
use Rattle.cpa_local.proofs.PassingPlaces.{filter-agree, map-passing, map-map, greatest-passing, least-passing}
use Rattle.cpa_units.specs.declared.limits.TheConstants.{MAX_PRIORITY}
use Rattle.cpa_units.proofs.SearchLaws.{least_from-le}
use Rattle.cpa_assign.proofs.PriorityLaws.{kth-order}
use Rattle.cpa_assign.proofs.PlacingLaws.{there-on, order-long, ordered-long, ordered-at}

-- of two places one is less, or they are of one member
opposite : (a b i j : ℕ) → (a ≡ b → i ≡ j) → (i ≡ j → a ≡ b) → nat_lt a b ≡ not (nat_lt b a || j == i)
opposite a b i j own back =
    elim (cases_order a b) [
      | inl same ↦ rw (same, own same, le-ltb b b (omega arith), same_place j) refl
      | inr o ↦ elim o [
        | inl less ↦
            let apart : (j == i) ≡ false = elim (cases_Bool (j == i)) [
              | inl one ↦ let same = back (sym (eqb-true j i one)) in absurd (omega (arith, same))
              | inr two ↦ two
            ] in
            rw (lt-ltb a b less, le-ltb b a (omega arith), apart) refl
        | inr more ↦ rw (lt-ltb b a more, le-ltb a b (omega arith)) refl
      ]
    ]

-- what is not less is at most
not-less : (a b : ℕ) (c : Bool) → nat_lt a b ≡ not c → nat_le b a ≡ c
not-less a b true less = grind (arith, nat_tests)
not-less a b false less = grind (arith, nat_tests)

-- what holds of each that passes holds of all that pass
each-passing : (P : ℕ → Type 0) (p : ℕ → Bool) (js : List ℕ) → ((j : ℕ) → p j ≡ true → P j) → AllByRecursion P (filter p js)
each-passing P p [] each = tt
each-passing P p (j ∷ js) each =
    elim (cases_Bool (p j)) [
      | inl passes ↦ rw passes (each j passes, each-passing P p js each)
      | inr fails ↦ rw fails (each-passing P p js each)
    ]

-- sources that are on no clock
unclocked : (s : SystemLists) (on : Option OnClock) → is_some on ≡ false → first_on s on ≡ None
unclocked s None off = refl
unclocked s (Some o) off = absurd (false≢true (sym off))

none-listed : (s : SystemLists) (ks : List SourceId) → list_any (λ (k : SourceId). is_clocked (source_at s k.0)) ks ≡ false → AreNone (map (λ (k : SourceId). source_anchor s k.0) ks)
none-listed s [] none = tt
none-listed s (k ∷ ks) none =
    let both = or_parts (is_clocked (source_at s k.0)) (list_any (λ (m : SourceId). is_clocked (source_at s m.0)) ks) none in
    let off : first_on s (source_at s k.0).on_clock ≡ None = unclocked s (source_at s k.0).on_clock both.0 in
    (rw off refl, none-listed s ks both.1)

module _ (s : SystemLists) (r : ℕ) (o : List ℕ) (rules : IsSystem s) (able : IsOrderable s r) (order : IsOrder s r o) where
  abbrev t : SystemLists
  t = with_order s r o

  long : length t.tasks ≡ length s.tasks
  long = ordered-long s r o

  task-ordered : (i : ℕ) → i < length s.tasks → task_at t i ≡ ordered_task s r o i
  task-ordered i less = ordered-at s r o i no_task less

  resource-same : (q : ℕ) → resource_at t q ≡ resource_at s q
  unfolding with_order
  resource-same q = refl

  source-same : (k : ℕ) → source_model t k ≡ source_model s k
  unfolding with_order
  source-same k = refl

  places-same : task_places t ≡ task_places s
  places-same = ap (range_with_len 0) long

  on-task : (i : ℕ) → i < length s.tasks → is_on s r i ≡ true → task_at t i ≡ record (task_at s i) { turn = Priority (kth_priority s r (place_in o i)) }
  on-task i less on = task-ordered i less ∙ (rw on refl)

  off-task : (i : ℕ) → i < length s.tasks → is_on s r i ≡ false → task_at t i ≡ task_at s i
  off-task i less off = task-ordered i less ∙ (rw off refl)

  member-on : (i : ℕ) → i < length s.tasks → is_on s r i ≡ true → is_member o i ≡ true
  member-on i less on = order.members i ∙ (rw (lt-ltb i (length s.tasks) less, on) refl)

  pub member-there : (i : ℕ) → is_member o i ≡ true → (i < length s.tasks) × (is_on s r i ≡ true)
  member-there i h = there-on s r i (sym (order.members i) ∙ h)

  priority-less : (i j : ℕ) → is_member o i ≡ true → is_member o j ≡ true → nat_lt (kth_priority s r (place_in o j)) (kth_priority s r (place_in o i)) ≡ is_before o i j
  priority-less i j mi mj =
      let a = place-less o i mi in
      let b = place-less o j mj in
      kth-order s r rules able.kind (place_in o j) (place_in o i) (omega (arith, b, order-long s r o order)) (omega (arith, a, order-long s r o order))
      ∙ sym (before-place o i j mi mj)

  -- what an order leaves of a task
  seen-same : {Y : Type 0} (f : Task → Y) → ((v : Task) (turn : Turn) → f (record v { turn = turn }) ≡ f v) → (j : ℕ) → j < length s.tasks → f (task_at t j) ≡ f (task_at s j)
  seen-same f blind j less =
      elim (cases_Bool (is_on s r j)) [
        | inl on ↦ ap f (on-task j less on) ∙ blind (task_at s j) (Priority (kth_priority s r (place_in o j)))
        | inr off ↦ ap f (off-task j less off)
      ]

  res-same : (j : ℕ) → j < length s.tasks → (task_at t j).res.0 ≡ (task_at s j).res.0
  res-same j less = seen-same (λ (v : Task). v.res.0) (λ v turn. refl) j less

  worst-same : (j : ℕ) → j < length s.tasks → (task_at t j).worst ≡ (task_at s j).worst
  worst-same j less = seen-same (λ (v : Task). v.worst) (λ v turn. refl) j less

  region-same : (j : ℕ) → j < length s.tasks → (task_at t j).region ≡ (task_at s j).region
  region-same j less = seen-same (λ (v : Task). v.region) (λ v turn. refl) j less

  locks-same : (j : ℕ) → j < length s.tasks → (task_at t j).locks ≡ (task_at s j).locks
  locks-same j less = seen-same (λ (v : Task). v.locks) (λ v turn. refl) j less

  module _ (i : ℕ) (mi : is_member o i ≡ true) where
    own : (i < length s.tasks) × (is_on s r i ≡ true)
    own = member-there i mi

    own-res : (task_at s i).res.0 ≡ r
    own-res = eqb-true (task_at s i).res.0 r own.1

    own-task : task_at t i ≡ record (task_at s i) { turn = Priority (kth_priority s r (place_in o i)) }
    own-task = on-task i own.0 own.1

    higher-before : (j : ℕ) → j < length s.tasks → is_higher t i j ≡ is_before o i j
    higher-before j less =
        elim (cases_Bool (is_on s r j)) [
          | inl on ↦
              let res : (task_at s j).res.0 ≡ r = eqb-true (task_at s j).res.0 r on in
              let mj : is_member o j ≡ true = member-on j less on in
              rw (own-task, on-task j less on, own-res, res, same_place r) (priority-less i j mi mj)
          | inr off ↦
              let no_member : is_before o i j ≡ false = elim (cases_Bool (is_before o i j)) [
                | inl before ↦ absurd (false≢true (sym off ∙ (member-there j (before-member o i j before)).1))
                | inr none ↦ none
              ] in
              rw (own-task, off-task j less off, own-res, flip-no (task_at s j).res.0 r off, no_member) refl
        ]

    lower-after : (j : ℕ) → j < length s.tasks → is_higher t j i ≡ is_below s r (is_before o i) i j
    lower-after j less =
        elim (cases_Bool (is_on s r j)) [
          | inl on ↦
              let res : (task_at s j).res.0 ≡ r = eqb-true (task_at s j).res.0 r on in
              let mj : is_member o j ≡ true = member-on j less on in
              rw (own-task, on-task j less on, own-res, res, same_place r, lt-ltb j (length s.tasks) less)
              (priority-less j i mj mi ∙ before-place o j i mj mi ∙ opposite (place_in o i) (place_in o j) i j (place-own o i j mi mj) (λ same. ap (place_in o) same)
              ∙ ap (λ (b : Bool). not (b || j == i)) (sym (before-place o i j mi mj)))
          | inr off ↦ rw (own-task, off-task j less off, own-res, off, lt-ltb j (length s.tasks) less) refl
        ]

    -- the priority numbers on the resource that are no greater are those of the task itself, and of the ones before it
    number-reaches : (j : ℕ) → j < length s.tasks → is_on s r j ≡ true → nat_le (priority_of (task_at t j).turn) (priority_of (task_at t i).turn) ≡ (is_before o i j || j == i)
    number-reaches j less on =
        let mj : is_member o j ≡ true = member-on j less on in
        rw (own-task, on-task j less on)
        (not-less (kth_priority s r (place_in o i)) (kth_priority s r (place_in o j)) (is_before o i j || j == i)
        (priority-less j i mj mi ∙ before-place o j i mj mi ∙ opposite (place_in o i) (place_in o j) i j (place-own o i j mi mj) (λ same. ap (place_in o) same)
        ∙ ap (λ (b : Bool). not (b || j == i)) (sym (before-place o i j mi mj))))

    -- where one of the resource is below the task, its number isn't the greatest that there is
    number-small : (j : ℕ) → j < length s.tasks → is_below s r (is_before o i) i j ≡ true → priority_of (task_at t i).turn < MAX_PRIORITY
    number-small j less below =
        let on = (there-on s r j (and_parts (is_task_on s r j) (not (is_before o i j || j == i)) below).0).1 in
        let mj : is_member o j ≡ true = member-on j less on in
        let apart : is_before o j i ≡ true =
        before-place o j i mj mi ∙ opposite (place_in o i) (place_in o j) i j (place-own o i j mi mj) (λ same. ap (place_in o) same)
        ∙ ap (λ (b : Bool). not (b || j == i)) (sym (before-place o i j mi mj)) ∙ (and_parts (is_task_on s r j) (not (is_before o i j || j == i)) below).1 in
        let up = ltb-true (kth_priority s r (place_in o i)) (kth_priority s r (place_in o j)) (priority-less j i mj mi ∙ apart) in
        let most = least_from-le (λ p. nat_lt (place_in o j) (number_up_to s r p)) 0 MAX_PRIORITY in
        rw own-task (omega (arith, up, most))

    tasks-same : tasks_on t r ≡ tasks_on s r
    tasks-same =
        ap (filter (is_on t r)) places-same
        ∙ filter-agree (is_on t r) (is_on s r) 0 (length s.tasks) (λ j low high. ap (λ (q : ℕ). q == r) (res-same j (omega arith)))

    -- a ceiling is no less urgent than the task just where it, or one before it, uses the lock
    ceiling-reaches : (lock : List ℕ) → priority_of (task_at t i).turn < MAX_PRIORITY → nat_le (ceiling_of t r lock) (priority_of (task_at t i).turn) ≡ reaches s r (is_before o i) i lock
    ceiling-reaches lock small =
        let number : ℕ → ℕ = λ j. priority_of (task_at t j).turn in
        let users : ceiling_of t r lock ≡ least_over number MAX_PRIORITY (filter (λ j. uses_lock lock (task_at s j)) (tasks_on s r)) =
        ap (λ js. least_over number MAX_PRIORITY (filter (λ j. uses_lock lock (task_at t j)) js)) tasks-same
        ∙ least-passing (is_on s r) (λ j. uses_lock lock (task_at t j)) (λ j. uses_lock lock (task_at s j)) number number MAX_PRIORITY 0 (length s.tasks) (λ j low high on. (ap (list_any (λ (c : CriticalSection). bytes_eq lock c.lock)) (locks-same j (omega arith)), refl)) in
        ap (λ (c : ℕ). nat_le c (number i)) users
        ∙ least-reaches (is_on s r) (λ j. uses_lock lock (task_at s j)) (λ j. is_before o i j || j == i) number (number i) MAX_PRIORITY 0 (length s.tasks) (λ j low high on. number-reaches j (omega arith) on)
        ∙ ap (λ (b : Bool). b || reaches s r (is_before o i) i lock) (lt-leb MAX_PRIORITY (number i) small)

    sections-same : (worst most : ℕ) (cs : List CriticalSection) → priority_of (task_at t i).turn < MAX_PRIORITY
        → fold (λ most x. max most (section_blocking (priority_of (task_at t i).turn) worst x)) most (map (section_of t r) cs) ≡ sections_from s r (is_before o i) i worst most cs
    sections-same worst most [] small = refl
    sections-same worst most (c ∷ cs) small =
        let one : section_blocking (priority_of (task_at t i).turn) worst (section_of t r c) ≡ placed_section s r (is_before o i) i worst c =
        ap (λ (b : Bool). if b then min c.length worst - 1 else 0) (ceiling-reaches c.lock small) in
        ap (λ (m : ℕ). fold (λ most x. max most (section_blocking (priority_of (task_at t i).turn) worst x)) (max most m) (map (section_of t r) cs)) one
        ∙ sections-same worst (max most (placed_section s r (is_before o i) i worst c)) cs small

    -- what a task below blocks
    between-same : (kind : Kind) (j : ℕ) → j < length s.tasks → is_below s r (is_before o i) i j ≡ true → blocking_between t kind i j ≡ placed_between s r (is_before o i) i kind j
    between-same Preemptive j less below = rw (region-same j less, worst-same j less) refl
    between-same RoundRobin j less below = refl
    between-same (Tdma gap) j less below = refl
    between-same (Can bit) j less below = worst-same j less
    between-same Fifo j less below = refl
    between-same Ceiling j less below =
        let on = (there-on s r j (and_parts (is_task_on s r j) (not (is_before o i j || j == i)) below).0).1 in
        let u : Task = task_at s j in
        let p : ℕ = priority_of (task_at t i).turn in
        ap (λ (v : Task). max (min v.region v.worst - 1) (blocking_by_sections p v.worst (map (section_of t v.res.0) v.locks))) (on-task j less on)
        ∙ ap (λ (q : ℕ). max (min u.region u.worst - 1) (blocking_by_sections p u.worst (map (section_of t q) u.locks))) (eqb-true u.res.0 r on)
        ∙ ap (max (min u.region u.worst - 1)) (sections-same u.worst 0 u.locks (number-small j less below))

    resource-own : resource_of t i ≡ resource_at s r
    resource-own = resource-same (task_at t i).res.0 ∙ ap (λ (it : Task). resource_at s it.res.0) own-task ∙ ap (resource_at s) own-res

    -- what sources alone send: their streams
    sent-sources : (f : ℕ → Option Model) (g : ℕ → List SourceId) (x : List Bound) (them : List Activator) → are_sources them ≡ true
        → sent_by_all t x f them ≡ Some (map (λ (k : SourceId). source_stream s k.0) (flat_map (λ (a : Activator). streams_step a g) them))
    unfolding with_order
    sent-sources f g x [] told = refl
    sent-sources f g x (FromSource k ∷ them) told = ap (joined (Some (source_model s k.0))) (sent-sources f g x them told)
    sent-sources f g x (FromTask j ∷ them) told = absurd (false≢true told)

    link-own : slice_index_or (activators s.tasks) i [] ≡ (task_at s i).after
    link-own = get_or-map (λ (it : Task). it.after) s.tasks i no_task [] own.0

    input-own : (x : List Bound) → input t x i ≡ Some (sources_model s i)
    unfolding input streams_within
    input-own x =
        ap (λ (it : Task). sent_by_all t x (input_along t x 31) it.after) own-task
        ∙ sent-sources (input_along t x 31) (streams_within (activators s.tasks) 31) x (task_at s i).after (fed-source s r able.fed i own.0 own.1)
        ∙ ap (λ (them : List Activator). Some (map (λ (k : SourceId). source_stream s k.0) (flat_map (λ (a : Activator). streams_step a (streams_within (activators s.tasks) 31)) them))) (sym link-own)

    -- where sources alone are on clocks: their places there
    anchored-sources : (f : ℕ → List (Option Anchor)) (g : ℕ → List SourceId) (them : List Activator) → are_sources them ≡ true
        → flat_map (anchors_step t f) them ≡ map (λ (k : SourceId). source_anchor s k.0) (flat_map (λ (a : Activator). streams_step a g) them)
    unfolding with_order
    anchored-sources f g [] told = refl
    anchored-sources f g (FromSource k ∷ them) told = ap (λ (rest : List (Option Anchor)). source_anchor s k.0 ∷ rest) (anchored-sources f g them told)
    anchored-sources f g (FromTask j ∷ them) told = absurd (false≢true told)

    anchors-own : anchor_list t i ≡ map (λ (k : SourceId). source_anchor s k.0) (streams_of s i)
    unfolding anchors_within streams_within
    anchors-own =
        ap (λ (it : Task). flat_map (anchors_step t (anchors_within t 31)) it.after) own-task
        ∙ anchored-sources (anchors_within t 31) (streams_within (activators s.tasks) 31) (task_at s i).after (fed-source s r able.fed i own.0 own.1)
        ∙ ap (λ (them : List Activator). map (λ (k : SourceId). source_anchor s k.0) (flat_map (λ (a : Activator). streams_step a (streams_within (activators s.tasks) 31)) them)) (sym link-own)

    -- none of its streams is on a clock, where no task's is
    off-own : is_off_clocks s r ≡ true → AreOffClocks (anchors_of t i)
    off-own off =
        let none = none-listed s (streams_of s i) (off-clock s r off i own.0 own.1) in
        λ q. ap (λ (es : List (Option Anchor)). slice_index_or es q None) anchors-own ∙ none-at (map (λ (k : SourceId). source_anchor s k.0) (streams_of s i)) none q

  -- ---- the tasks before one of the resource as its rivals

  input-member : (x : List Bound) (j : ℕ) → is_member o j ≡ true → input t x j ≡ Some (sources_model s j)
  input-member x j mj = input-own j mj x

  module _ (x : List Bound) (i : ℕ) (mi : is_member o i ≡ true) where
    higher-same : higher_tasks t i ≡ filter (is_before o i) (task_places s)
    higher-same =
        ap (filter (is_higher t i)) places-same
        ∙ filter-agree (is_higher t i) (is_before o i) 0 (length s.tasks) (λ j low high. higher-before i mi j (omega arith))

    loads-same : map load_of (map (rival_of t x) (higher_tasks t i)) ≡ map load_of (rivals_at s (is_before o i))
    loads-same =
        ap (λ (js : List ℕ). map load_of (map (rival_of t x) js)) higher-same
        ∙ map-map load_of (rival_of t x) (filter (is_before o i) (task_places s))
        ∙ map-passing (is_before o i) (λ j. load_of (rival_of t x j)) (λ j. load_of (rival_at s j)) 0 (length s.tasks) (λ j low high before.
        let mj = before-member o i j before in
        let e = input-member x j mj in
        let w = worst-same j (omega arith) in
        rw (e, w) refl)
        ∙ sym (map-map load_of (rival_at s) (filter (is_before o i) (task_places s)))

    blocking-same : (kind : Kind) → blocking_of t kind i ≡ placed_blocking s r (is_before o i) i kind
    blocking-same kind =
        ap (λ (js : List ℕ). fold (λ most j. max most (blocking_between t kind i j)) 0 (filter (λ j. is_higher t j i) js)) places-same
        ∙ ap (fold (λ most j. max most (blocking_between t kind i j)) 0) (filter-agree (λ j. is_higher t j i) (is_below s r (is_before o i) i) 0 (length s.tasks) (λ j low high. lower-after i mi j (omega arith)))
        ∙ greatest-passing (is_below s r (is_before o i) i) (blocking_between t kind i) (placed_between s r (is_before o i) i kind) 0 0 (length s.tasks) (λ j low high below. between-same i mi kind j (omega arith) below)

    higher-off : is_off_clocks s r ≡ true → AllByRecursion (λ j. AreOffClocks (anchors_of t j)) (higher_tasks t i)
    higher-off off =
        subst (λ (js : List ℕ). AllByRecursion (λ j. AreOffClocks (anchors_of t j)) js) (sym higher-same)
        (each-passing (λ j. AreOffClocks (anchors_of t j)) (is_before o i) (task_places s) (λ j before. off-own j (before-member o i j before) off))

    by_priority-plainly : (kind : Kind)
        → plain_priority_bound t x i (sources_model s i) (blocking_of t kind i) ≡ preemptive_bound (sources_model s i) (task_at s i).worst (placed_blocking s r (is_before o i) i kind) (rivals_at s (is_before o i)) (resource_at s r).limit
    by_priority-plainly kind =
        rw (worst-same i (own i mi).0, resource-own i mi, blocking-same kind)
        (preemptive_bound-same (sources_model s i) (task_at s i).worst (placed_blocking s r (is_before o i) i kind) (map (rival_of t x) (higher_tasks t i)) (rivals_at s (is_before o i)) (resource_at s r).limit
        (λ w. work_in-same (map (rival_of t x) (higher_tasks t i)) (rivals_at s (is_before o i)) w loads-same))

    by_kind-plainly : (kind : Kind) → HasPriorities kind → plain_by_kind t x i (sources_model s i) kind ≡ placed_by_kind s r (is_before o i) i kind
    by_kind-plainly Preemptive h = by_priority-plainly Preemptive
    by_kind-plainly Ceiling h = by_priority-plainly Ceiling
    by_kind-plainly (Can bit) h =
        rw (worst-same i (own i mi).0, resource-own i mi, blocking-same (Can bit))
        (can_bound-same (sources_model s i) (task_at s i).worst (placed_blocking s r (is_before o i) i (Can bit)) (map (rival_of t x) (higher_tasks t i)) (rivals_at s (is_before o i)) bit (resource_at s r).limit
        (λ w. work_in-same (map (rival_of t x) (higher_tasks t i)) (rivals_at s (is_before o i)) w loads-same))
    by_kind-plainly RoundRobin h = absurd (false≢true h)
    by_kind-plainly (Tdma gap) h = absurd (false≢true h)
    by_kind-plainly Fifo h = absurd (false≢true h)

    by_kind-same : is_off_clocks s r ≡ true → (kind : Kind) → HasPriorities kind → bound_by_kind t x i (sources_model s i) kind ≡ placed_by_kind s r (is_before o i) i kind
    by_kind-same off kind h = by_kind-plain plain-bounds t x i (off-own i mi off) (higher-off off) (sources_model s i) kind ∙ by_kind-plainly kind h

    -- ---- where tasks are on clocks

    clocked-rival : (j : ℕ) → j < length s.tasks → is_member o j ≡ true → clocked_rival_of t x j ≡ clocked_rival_at s j
    clocked-rival j less mj =
        ap (λ (m : Option Model). added_rival m (anchor_list t j) (task_at t j).worst) (input-member x j mj)
        ∙ ap (λ (es : List (Option Anchor)). added_rival (Some (sources_model s j)) es (task_at t j).worst) (anchors-own j mj)
        ∙ ap (added_rival (Some (sources_model s j)) (source_anchors s j)) (worst-same j less)

    clocked_rivals-same : map (clocked_rival_of t x) (higher_tasks t i) ≡ clocked_rivals_at s (is_before o i)
    clocked_rivals-same =
        ap (map (clocked_rival_of t x)) higher-same
        ∙ map-passing (is_before o i) (clocked_rival_of t x) (clocked_rival_at s) 0 (length s.tasks) (λ j low high before. clocked-rival j (omega arith) (before-member o i j before))

    blocking-none : is_unblocked s r ≡ true → (kind : Kind) → is_preemptive kind ≡ true → blocking_of t kind i ≡ 0
    blocking-none none kind p =
        blocking-same kind
        ∙ greatest-none (placed_between s r (is_before o i) i kind) (is_below s r (is_before o i) i) (length s.tasks) (λ j less below.
        let on = there-on s r j (and_parts (is_task_on s r j) (not (is_before o i j || j == i)) below).0 in
        between-none s r (is_before o i) i kind j p (unblocked-each s r none j less on.1))

    on_clocks-same : (kind : Kind) → blocking_of t kind i ≡ 0 → priority_bound t x i (sources_model s i) (blocking_of t kind i) ≡ placed_on_clocks s r (is_before o i) i
    unfolding with_order
    on_clocks-same kind none =
        let bound : Anchors → ℕ → ℕ → List ClockedRival → ℕ → Bound = λ anchors worst blocking rivals limit. clocked_preemptive_bound (sources_model s i) anchors worst blocking rivals (clock_cycle s) (length s.sources) limit in
        ap (λ (es : List (Option Anchor)). bound (anchors_at es) (task_at t i).worst (blocking_of t kind i) (map (clocked_rival_of t x) (higher_tasks t i)) (resource_of t i).limit) (anchors-own i mi)
        ∙ ap (λ (worst : ℕ). bound (anchors_at (source_anchors s i)) worst (blocking_of t kind i) (map (clocked_rival_of t x) (higher_tasks t i)) (resource_of t i).limit) (worst-same i (own i mi).0)
        ∙ ap (λ (blocking : ℕ). bound (anchors_at (source_anchors s i)) (task_at s i).worst blocking (map (clocked_rival_of t x) (higher_tasks t i)) (resource_of t i).limit) none
        ∙ ap (λ (rivals : List ClockedRival). bound (anchors_at (source_anchors s i)) (task_at s i).worst 0 rivals (resource_of t i).limit) clocked_rivals-same
        ∙ ap (λ (it : Resource). bound (anchors_at (source_anchors s i)) (task_at s i).worst 0 (clocked_rivals_at s (is_before o i)) it.limit) (resource-own i mi)

    by_clocks-same : is_unblocked s r ≡ true → (kind : Kind) → is_preemptive kind ≡ true → bound_by_kind t x i (sources_model s i) kind ≡ placed_by_clocks s r (is_before o i) i kind
    by_clocks-same none Preemptive p = on_clocks-same Preemptive (blocking-none none Preemptive p)
    by_clocks-same none Ceiling p = on_clocks-same Ceiling (blocking-none none Ceiling p)
    by_clocks-same none RoundRobin p = absurd (false≢true p)
    by_clocks-same none (Tdma gap) p = absurd (false≢true p)
    by_clocks-same none (Can bit) p = absurd (false≢true p)
    by_clocks-same none Fifo p = absurd (false≢true p)

    -- the bound of a member is that of its place, at any vector
    pub response-placed : response t x i ≡ placed_bound s r (is_before o i) i
    unfolding response placed_bound
    response-placed =
        elim (cases_Bool (is_off_clocks s r)) [
          | inl off ↦ rw (input-own i mi x, resource-own i mi, off) (by_kind-same off (resource_at s r).kind able.kind)
          | inr on ↦
              let clear = compared s r able.clocks on in
              rw (input-own i mi x, resource-own i mi, on) (by_clocks-same clear.1 (resource_at s r).kind clear.0)
        ]
