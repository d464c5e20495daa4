-- A system with an order of one of its resources keeps the rules.
use Rattle.std.proofs.Common.{◌≡◌, ℕ, ◌<◌, ◌≤◌, nat_lt, true, List, map, length, slice_index_or, refl, ap, sym, ◌∙◌, inl, inr, arith}
use Rattle.std.specs.List.{list_any}
use Rattle.std.proofs.lemmas.Bool.{cases_Bool, cases_lt, cases_order, false≢true, eqb-true, eq-eqb, lt-ltb}
use Rattle.std.proofs.lemmas.List.{get_or_past}
use Rattle.std.proofs.lemmas.List.Elements.{All-weaker}
use Rattle.cpa_units.specs.declared.limits.TheConstants.{MAX_PRIORITY}
use Rattle.cpa_units.specs.declared.places.ResId.{ResId}
use Rattle.cpa_units.specs.Name.{is_name}
use Rattle.cpa_units.proofs.SearchLaws.{least_from-le}
use Rattle.cpa_units.proofs.PlaceLaws.{map-all_places}
use Rattle.cpa_model.specs.declared.entries.Task.{Task}
use Rattle.cpa_model.specs.declared.entries.Path.{Path}
use Rattle.cpa_model.specs.declared.entries.Kind.{Kind}
use Rattle.cpa_model.specs.declared.entries.Kind.TheVariants.{Preemptive, RoundRobin, Tdma, Can, Fifo, Ceiling}
use Rattle.cpa_model.specs.declared.entries.Turn.{Turn}
use Rattle.cpa_model.specs.declared.entries.Turn.TheVariants.{Priority}
use Rattle.cpa_model.specs.declared.entries.Activator.{Activator}
use Rattle.cpa_model.specs.declared.entries.Activator.TheVariants.{Source as FromSource, Task as FromTask}
use Rattle.cpa_model.specs.SystemLists.{SystemLists, task_at, resource_at, task_places, is_on, is_task, priority_of, no_task}
use Rattle.cpa_model.specs.Rules.{IsSizedTask, IsSystem, IsTask, IsPath, IsActivator, TurnFits, HaveOwnPriorities, HaveLocksTogether}
use Rattle.cpa_model.proofs.LockLaws.{SameLocks, together-same}
use Rattle.cpa_local.proofs.PassingPlaces.{map-map}
use Rattle.cpa_model.specs.Kinds.{HasPriorities}
use Rattle.cpa_assign.specs.Orders.{is_member, place_in, kth_priority, number_up_to, ordered_task, with_order, IsOrder}
use Rattle.cpa_assign.proofs.OrderLaws.{place-less, place-own}
use Rattle.cpa_assign.proofs.PlacingLaws.{order-long, ordered-long, ordered-at}
use Rattle.cpa_assign.proofs.PriorityLaws.{kth-less}

priority-fits : (kind : Kind) (n : ℕ) → HasPriorities kind → n ≤ MAX_PRIORITY → TurnFits kind (Priority n)
priority-fits Preemptive n h le = le
priority-fits (Can bit) n h le = le
priority-fits RoundRobin n h le = absurd (false≢true h)
priority-fits (Tdma gap) n h le = absurd (false≢true h)
priority-fits Fifo n h le = absurd (false≢true h)
priority-fits Ceiling n h le = le

same-number : (n m : ℕ) → Priority n ≡ Priority m → n ≡ m
same-number n m e = ap priority_of e

module _ (s : SystemLists) (r : ℕ) (o : List ℕ) (rules : IsSystem s) (kind : HasPriorities (resource_at s r).kind) (order : IsOrder s r o) where
  abbrev t : SystemLists
  t = with_order s r o

  long : length t.tasks ≡ length s.tasks
  long = ordered-long s r o

  -- what doesn't look at the turn sees the tasks as before
  seen_same : {Y : Type 0} (f : Task → Y) → ((t : Task) (turn : Turn) → f (record t { turn = turn }) ≡ f t) → (i : ℕ) → f (ordered_task s r o i) ≡ f (task_at s i)
  seen_same f blind i =
      elim (cases_Bool (is_on s r i)) [
        | inl on ↦ rw on (blind (task_at s i) (Priority (kth_priority s r (place_in o i))))
        | inr off ↦ rw off refl
      ]

  map_same : {Y : Type 0} (f : Task → Y) → ((t : Task) (turn : Turn) → f (record t { turn = turn }) ≡ f t) → map f t.tasks ≡ map f s.tasks
  unfolding with_order
  map_same f blind =
      let each : (λ (i : ℕ). f (ordered_task s r o i)) ≡ (λ (i : ℕ). f (task_at s i)) = λ k i. seen_same f blind i k in
      map-map f (ordered_task s r o) (task_places s) ∙ ap (λ g. map g (task_places s)) each ∙ map-all_places f s.tasks no_task

  after_same : (j : ℕ) → (task_at t j).after ≡ (task_at s j).after
  after_same j =
      elim (cases_lt j (length s.tasks)) [
        | inl less ↦ ap (λ (v : Task). v.after) (ordered-at s r o j no_task less) ∙ seen_same (λ (v : Task). v.after) (λ v turn. refl) j
        | inr past ↦ ap (λ (v : Task). v.after) (get_or_past t.tasks j no_task (omega (arith, past, long)) ∙ sym (get_or_past s.tasks j no_task past))
      ]

  activated : (a : Activator) → IsActivator s a → IsActivator t a
  unfolding with_order
  activated (FromSource k) there = there
  activated (FromTask j) there = omega (arith, there, long)

  turn_kept : (j : ℕ) → IsTask s (task_at s j) → is_on s r j ≡ true → TurnFits (resource_at s (task_at s j).res.0).kind (Priority (kth_priority s r (place_in o j)))
  turn_kept j it on =
      rw (eqb-true (task_at s j).res.0 r on)
      (priority-fits (resource_at s r).kind (kth_priority s r (place_in o j)) kind (least_from-le (λ p. nat_lt (place_in o j) (number_up_to s r p)) 0 MAX_PRIORITY))

  task_kept : (j : ℕ) → j < length s.tasks → IsTask t (ordered_task s r o j)
  unfolding with_order
  task_kept j less =
      let it : IsTask s (task_at s j) = rules.tasks j no_task less in
      elim (cases_Bool (is_on s r j)) [
        | inl on ↦
            rw on
            (record { placed = it.placed; some = it.some; activated = All-weaker (IsActivator s) (IsActivator t) activated (task_at s j).after it.activated; different = it.different; some_best = it.some_best; ordered = it.ordered; worst = it.worst; turn_fits = turn_kept j it on; region_fits = it.region_fits; locks_fit = it.locks_fit })
        | inr off ↦
            rw off
            (record { placed = it.placed; some = it.some; activated = All-weaker (IsActivator s) (IsActivator t) activated (task_at s j).after it.activated; different = it.different; some_best = it.some_best; ordered = it.ordered; worst = it.worst; turn_fits = it.turn_fits; region_fits = it.region_fits; locks_fit = it.locks_fit })
      ]

  small_kept : (j : ℕ) → j < length s.tasks → IsSizedTask s.size (ordered_task s r o j)
  small_kept j less =
      let it : IsSizedTask s.size (task_at s j) = rules.sized.times j no_task less in
      elim (cases_Bool (is_on s r j)) [
        | inl on ↦ rw on (record { worst = it.worst; slot = omega arith; region = it.region })
        | inr off ↦ rw off it
      ]

  path_kept : (p : Path) → IsPath s p → IsPath t p
  path_kept p path =
      record {
        some = path.some;
        there = λ k d less. let there = path.there k d less in omega (arith, there, long);
        linked = λ k less. ap (list_any (is_task (slice_index_or p.tasks k (record { 0 = 0 })).0)) (after_same _) ∙ path.linked k less;
        deadline = path.deadline;
      }

  on_there : (j : ℕ) → j < length s.tasks → is_on s r j ≡ true → is_member o j ≡ true
  on_there j less on = order.members j ∙ (rw (lt-ltb j (length s.tasks) less, on) refl)

  -- two tasks of the resource have different numbers
  numbers_differ : (i j : ℕ) → i < j → j < length s.tasks → is_on s r i ≡ true → is_on s r j ≡ true → kth_priority s r (place_in o i) ≡ kth_priority s r (place_in o j) → ⊥
  numbers_differ i j less there on_i on_j same =
      let first = on_there i (omega (arith, less, there)) on_i in
      let second = on_there j there on_j in
      let a = place-less o i first in
      let b = place-less o j second in
      let long_o = order-long s r o order in
      elim (cases_order (place_in o i) (place_in o j)) [
        | inl e ↦ let one = place-own o i j first second e in omega (arith, less, one)
        | inr apart ↦ elim apart [
          | inl up ↦ let more = kth-less s r rules kind (place_in o i) (place_in o j) up (omega (arith, b, long_o)) in omega (arith, more, same)
          | inr down ↦ let more = kth-less s r rules kind (place_in o j) (place_in o i) down (omega (arith, a, long_o)) in omega (arith, more, same)
        ]
      ]

  own_kept : (i j : ℕ) → i < j → j < length s.tasks → HaveOwnPriorities (ordered_task s r o i) (ordered_task s r o j)
  own_kept i j less there =
      elim (cases_Bool (is_on s r i)) [
        | inl on_i ↦ elim (cases_Bool (is_on s r j)) [
          | inl on_j ↦ rw (on_i, on_j) (λ res number its also. numbers_differ i j less there on_i on_j (same-number _ _ (its ∙ sym also)))
          | inr off_j ↦ rw (on_i, off_j) (λ res number its also. false≢true (sym off_j ∙ eq-eqb (task_at s j).res.0 r (sym (ap (λ (id : ResId). id.0) res) ∙ eqb-true (task_at s i).res.0 r on_i)))
        ]
        | inr off_i ↦ elim (cases_Bool (is_on s r j)) [
          | inl on_j ↦ rw (off_i, on_j) (λ res number its also. false≢true (sym off_i ∙ eq-eqb (task_at s i).res.0 r (ap (λ (id : ResId). id.0) res ∙ eqb-true (task_at s j).res.0 r on_j)))
          | inr off_j ↦ rw (off_i, off_j) (rules.priorities i j no_task less there)
        ]
      ]

  same_locks : (i : ℕ) → SameLocks (ordered_task s r o i) (task_at s i)
  same_locks i = record { res = seen_same (λ (v : Task). v.res) (λ v turn. refl) i; locks = seen_same (λ (v : Task). v.locks) (λ v turn. refl) i }

  locks_kept : (i j : ℕ) → i < j → j < length s.tasks → HaveLocksTogether (ordered_task s r o i) (ordered_task s r o j)
  locks_kept i j less there = together-same (ordered_task s r o i) (ordered_task s r o j) (task_at s i) (task_at s j) (same_locks i) (same_locks j) (rules.locks i j no_task less there)

  pub order_keeps_rules : IsSystem (with_order s r o)
  unfolding with_order
  order_keeps_rules =
      record {
        sized = record {
          resources = rules.sized.resources;
          sources = rules.sized.sources;
          tasks = omega (arith, long, rules.sized.tasks);
          paths = rules.sized.paths;
          limits = rules.sized.limits;
          arrivals = rules.sized.arrivals;
          times = λ j d less. let less_s : j < length s.tasks = omega (arith, less, long) in rw (ordered-at s r o j d less_s) (small_kept j less_s);
        };
        few_resources = rules.few_resources;
        few_sources = rules.few_sources;
        few_tasks = omega (arith, long, rules.few_tasks);
        few_paths = rules.few_paths;
        resources = rules.resources;
        sources = rules.sources;
        tasks = λ j d less. let less_s : j < length s.tasks = omega (arith, less, long) in rw (ordered-at s r o j d less_s) (task_kept j less_s);
        paths = λ k d less. path_kept _ (rules.paths k d less);
        chains = λ i less. rw (map_same (λ (v : Task). v.after) (λ v turn. refl)) (rules.chains i (omega (arith, less, long)));
        streams = λ i less. rw (map_same (λ (v : Task). v.after) (λ v turn. refl)) (rules.streams i (omega (arith, less, long)));
        resources_named = rules.resources_named;
        sources_named = rules.sources_named;
        clocks_named = rules.clocks_named;
        clocks = rules.clocks;
        tasks_named = λ j d less.
            let less_s : j < length s.tasks = omega (arith, less, long) in
            rw (ordered-at s r o j d less_s) (ap is_name (seen_same (λ (v : Task). v.name) (λ v turn. refl) j) ∙ rules.tasks_named j no_task less_s);
        paths_named = rules.paths_named;
        resource_names = rules.resource_names;
        activity_names = rw (map_same (λ (v : Task). v.name) (λ v turn. refl)) rules.activity_names;
        path_names = rules.path_names;
        priorities = λ i j d less there.
            let there_s : j < length s.tasks = omega (arith, there, long) in
            rw (ordered-at s r o i d (omega (arith, less, there_s)), ordered-at s r o j d there_s) (own_kept i j less there_s);
        locks = λ i j d less there.
            let there_s : j < length s.tasks = omega (arith, there, long) in
            rw (ordered-at s r o i d (omega (arith, less, there_s)), ordered-at s r o j d there_s) (locks_kept i j less there_s);
      }
