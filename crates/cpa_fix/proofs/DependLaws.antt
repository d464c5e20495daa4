-- The bounds on a resource depend on what it reads alone; so clean resources everywhere make a least solution.
use Rattle.std.proofs.Common.{◌≡◌, ℕ, zero, suc, ◌*◌, ◌<◌, length, Bool, true, List, [], ◌∷◌, map, Option, Some, None, refl, sym, ap, ◌∙◌, inl, inr, subst}
use Rattle.std.specs.List.{filter}
use Rattle.std.proofs.lemmas.Bool.{cases_lt, cases_Bool, and_parts, eqb-true, false≢true}
use Rattle.cpa_units.specs.declared.bound.Bound.{Bound}
use Rattle.cpa_units.specs.declared.bound.Bound.TheVariants.{Within}
use Rattle.cpa_units.specs.declared.limits.TheConstants.{MAX_CHAIN}
use Rattle.cpa_units.specs.Bounds.{IsNowhereAbove, bound_of, bound_plus}
use Rattle.cpa_units.proofs.BoundLaws.{zero_at_most}
use Rattle.cpa_events.specs.Events.{Model, eta_plus}
use Rattle.cpa_window.specs.declared.rivals.Rival.{Rival}
use Rattle.cpa_window.proofs.RivalLaws.{load_of, work_in-same}
use Rattle.cpa_fifo.proofs.FifoBoundLaws.{fifo_bound-same}
use Rattle.cpa_rr.specs.RoundRobin.{round_robin_bound}
use Rattle.cpa_clock.specs.Clocked.{clocked_preemptive_bound, clocked_can_bound}
use Rattle.cpa_model.specs.Clocks.{clock_cycle}
use Rattle.cpa_model.specs.declared.entries.Kind.{Kind}
use Rattle.cpa_model.specs.declared.entries.Kind.TheVariants.{Preemptive, RoundRobin, Tdma, Can, Fifo, Ceiling}
use Rattle.cpa_model.specs.SystemLists.{SystemLists, task_at, resource_at, resource_of, task_places, slot_of, is_higher, is_other, shares_resource, higher_tasks, other_tasks, no_task}
use Rattle.cpa_model.specs.Rules.{IsSystem, IsTask}
use Rattle.cpa_model.specs.Kinds.{has_feedback}
use Rattle.cpa_local.specs.Blocking.{blocking_of}
use Rattle.cpa_local.specs.Inputs.{input_along, input}
use Rattle.cpa_local.specs.Local.{rival_of, priority_bound, bound_by_kind, bound_at_input, response}
use Rattle.cpa_local.specs.OnClocks.{anchors_of, clocked_rival_of}
use Rattle.cpa_local.specs.Solution.{IsClosed, IsVector, least_of}
use Rattle.cpa_local.proofs.PassingPlaces.{map-map}
use Rattle.cpa_local.proofs.ResponseLaws.{bound_of-responses, bound_of-responses_past}
use Rattle.cpa_local.proofs.SentLaws.{sent_all-same}
use Rattle.cpa_local.proofs.SolutionLaws.{least_of-from_closed}
use Rattle.cpa_depend.proofs.ChainLaws.{LeadsTo-in_range}
use Rattle.cpa_depend.specs.Cone.{LeadsTo, LeadsBack, directly, through, Reads, itself, earlier}
use Rattle.cpa_fix.specs.Readings.{AgreeOnReads, IsClean}
use Rattle.cpa_local.specs.Rising.{AgreeOutside}
use Rattle.cpa_fix.specs.Rounds.{HasNoFeedback}

map-filter-same : {Y : Type 0} (p : ℕ → Bool) (f g : ℕ → Y) (js : List ℕ) → ((j : ℕ) → p j ≡ true → f j ≡ g j) → map f (filter p js) ≡ map g (filter p js)
map-filter-same p f g [] h = refl
map-filter-same p f g (j ∷ js) h =
    let rest = map-filter-same p f g js h in
    elim (cases_Bool (p j)) [
      | inl kept ↦ rw kept (let here = h j kept in cc)
      | inr dropped ↦ rw dropped rest
    ]

module _ (s : SystemLists) (x y : List Bound) where
  input_along-same : (chain i : ℕ) → ((j : ℕ) → LeadsTo s j i → bound_of x j ≡ bound_of y j) → input_along s x chain i ≡ input_along s y chain i
  input_along-same zero i same = refl
  input_along-same (suc chain) i same =
      sent_all-same s x y (input_along s x chain) (input_along s y chain) (task_at s i).after
      (λ j e. (same j (directly e), input_along-same chain j (λ k leads. same k (through leads e))))

  -- an input depends on the bounds before it alone
  pub input-same : (i : ℕ) → ((j : ℕ) → LeadsTo s j i → bound_of x j ≡ bound_of y j) → input s x i ≡ input s y i
  unfolding input
  input-same i same = input_along-same MAX_CHAIN i same

  shares : (r i j : ℕ) → (task_at s i).res.0 ≡ r → shares_resource s i j ≡ true → (task_at s j).res.0 ≡ r
  shares r i j on e = sym (eqb-true (task_at s i).res.0 (task_at s j).res.0 e) ∙ on

  module _ (r : ℕ) (before : (i : ℕ) → (task_at s i).res.0 ≡ r → (j : ℕ) → LeadsTo s j i → bound_of x j ≡ bound_of y j) where
    own_input : (i : ℕ) → (task_at s i).res.0 ≡ r → input s x i ≡ input s y i
    own_input i on = input-same i (before i on)

    rivals-same : (i : ℕ) → (task_at s i).res.0 ≡ r → map (clocked_rival_of s x) (higher_tasks s i) ≡ map (clocked_rival_of s y) (higher_tasks s i)
    rivals-same i on =
        map-filter-same (is_higher s i) (clocked_rival_of s x) (clocked_rival_of s y) (task_places s)
        (λ j p. ap (λ m. record { model = m; anchors = anchors_of s j; worst = (task_at s j).worst }) (own_input j (shares r i j on (and_parts _ _ p).0)))

    -- what others ask for, whatever their bounds
    other_loads-same : (i : ℕ) → (task_at s i).res.0 ≡ r → map load_of (map (rival_of s x) (other_tasks s i)) ≡ map load_of (map (rival_of s y) (other_tasks s i))
    other_loads-same i on =
        map-map load_of (rival_of s x) (other_tasks s i)
        ∙ map-filter-same (is_other s i) (λ j. load_of (rival_of s x j)) (λ j. load_of (rival_of s y j)) (task_places s)
        (λ j p. ap (λ m. (m, (task_at s j).worst)) (own_input j (shares r i j on (and_parts _ _ p).0)))
        ∙ sym (map-map load_of (rival_of s y) (other_tasks s i))

    priority_bound-same : (i : ℕ) (own : Model) (blocking : ℕ) → (task_at s i).res.0 ≡ r → priority_bound s x i own blocking ≡ priority_bound s y i own blocking
    priority_bound-same i own blocking on =
        ap (λ rivals. clocked_preemptive_bound own (anchors_of s i) (task_at s i).worst blocking rivals (clock_cycle s) (length s.sources) (resource_of s i).limit) (rivals-same i on)

    module _ (turns : (i : ℕ) (own : Model) → (task_at s i).res.0 ≡ r → (resource_of s i).kind ≡ RoundRobin → bound_by_kind s x i own RoundRobin ≡ bound_by_kind s y i own RoundRobin) where
      bound_by_kind-same : (i : ℕ) (own : Model) (kind : Kind) → (task_at s i).res.0 ≡ r → (resource_of s i).kind ≡ kind → bound_by_kind s x i own kind ≡ bound_by_kind s y i own kind
      bound_by_kind-same i own Preemptive on e = priority_bound-same i own (blocking_of s Preemptive i) on
      bound_by_kind-same i own Ceiling on e = priority_bound-same i own (blocking_of s Ceiling i) on
      bound_by_kind-same i own RoundRobin on e = turns i own on e
      bound_by_kind-same i own (Tdma gap) on e = refl
      bound_by_kind-same i own Fifo on e =
          fifo_bound-same own own (task_at s i).worst (task_at s i).worst (map (rival_of s x) (other_tasks s i)) (map (rival_of s y) (other_tasks s i)) (resource_of s i).limit
          (λ w. ap (bound_plus (Within (eta_plus own w * (task_at s i).worst))) (work_in-same (map (rival_of s x) (other_tasks s i)) (map (rival_of s y) (other_tasks s i)) w (other_loads-same i on)))
      bound_by_kind-same i own (Can bit) on e =
          ap (λ rivals. clocked_can_bound own (anchors_of s i) (task_at s i).worst (blocking_of s (Can bit) i) rivals (clock_cycle s) (length s.sources) bit (resource_of s i).limit) (rivals-same i on)

      bound_at_input-same : (i : ℕ) (m : Option Model) → (task_at s i).res.0 ≡ r → bound_at_input s x i m ≡ bound_at_input s y i m
      bound_at_input-same i (Some own) on = bound_by_kind-same i own (resource_of s i).kind on refl
      bound_at_input-same i None on = refl

      response_by_turns : (i : ℕ) → (task_at s i).res.0 ≡ r → response s x i ≡ response s y i
      unfolding response
      response_by_turns i on =
          ap (bound_at_input s x i) (own_input i on) ∙ bound_at_input-same i (input s y i) on

-- where no task of r leads to another, what they receive doesn't depend on the bounds of r's own tasks
pub input-outside : (s : SystemLists) (x y : List Bound) (r : ℕ) → (LeadsBack s r → ⊥) → AgreeOutside s r x y → (i : ℕ) → (task_at s i).res.0 ≡ r → input s x i ≡ input s y i
input-outside s x y r apart agree =
    own_input s x y r (λ i on j leads. agree j (λ back. apart (i, LeadsTo-in_range s j i leads, on, (j, leads, back))))

-- the bounds of r's tasks depend on what r reads alone
pub response-same : (s : SystemLists) (x y : List Bound) (r : ℕ) → AgreeOnReads s r x y → (i : ℕ) → (task_at s i).res.0 ≡ r → response s x i ≡ response s y i
response-same s x y r agree =
    response_by_turns s x y r before (λ i own on e.
    ap (λ rs. round_robin_bound own (task_at s i).worst (slot_of (task_at s i).turn) rs (resource_of s i).limit)
    (map-filter-same (is_other s i) (rival_of s x) (rival_of s y) (task_places s) (λ j p. rival-same j (shares s x y r i j on (and_parts _ _ p).0))))
  where
    before : (i : ℕ) → (task_at s i).res.0 ≡ r → (j : ℕ) → LeadsTo s j i → bound_of x j ≡ bound_of y j
    before i on j leads = agree j (subst (λ (q : ℕ). Reads s q (task_at s j).res.0) on (earlier leads))

    rival-same : (j : ℕ) → (task_at s j).res.0 ≡ r → rival_of s x j ≡ rival_of s y j
    rival-same j on =
        let model : input s x j ≡ input s y j = input-same s x y j (before j on) in
        let bound : bound_of x j ≡ bound_of y j = agree j (subst (λ (q : ℕ). Reads s r q) (sym on) itself) in
        let made : Option Model → Bound → Rival = λ m b. record { model = m; worst = (task_at s j).worst; slot = slot_of (task_at s j).turn; bound = b } in
        ap (λ m. made m (bound_of x j)) model ∙ ap (λ b. made (input s y j) b) bound

-- without feedback not even on the bounds of r's own tasks
pub response-outside : (s : SystemLists) (x y : List Bound) (r : ℕ) → HasNoFeedback s r → AgreeOutside s r x y → (i : ℕ) → (task_at s i).res.0 ≡ r → response s x i ≡ response s y i
response-outside s x y r apart agree =
    response_by_turns s x y r
    (λ i on j leads. agree j (λ back. apart.chains (i, LeadsTo-in_range s j i leads, on, (j, leads, back))))
    (λ i own on e. absurd (false≢true (sym apart.turns ∙ ap has_feedback (subst (λ (q : ℕ). (slice_resource q) ≡ RoundRobin) on e))))
  where
    slice_resource : ℕ → Kind
    slice_resource q = (resource_at s q).kind

-- where each resource is clean, the vector is closed
pub closed_from_clean : (s : SystemLists) (x : List Bound) → IsSystem s → ((r : ℕ) → r < length s.resources → (seen : List Bound) × IsClean s r seen x) → IsClosed s x
closed_from_clean s x rules clean i =
    elim (cases_lt i (length s.tasks)) [
      | inl in_range ↦
          let r = (task_at s i).res.0 in
          let t : IsTask s (task_at s i) = rules.tasks i no_task in_range in
          let reading = clean r t.placed in
          let same : response s reading.0 i ≡ response s x i = response-same s reading.0 x r reading.1.current i refl in
          rw (bound_of-responses s x i in_range, ← same) (reading.1.sound.answered i in_range refl)
      | inr past ↦ rw (bound_of-responses_past s x i past) (zero_at_most (bound_of x i))
    ]

-- a vector nowhere above the least solution, at which each resource is clean, is the least solution
pub clean_is_least : (s : SystemLists) (x : List Bound) → IsSystem s → IsVector s x → IsNowhereAbove x (least_of s) → ((r : ℕ) → r < length s.resources → (seen : List Bound) × IsClean s r seen x) → x ≡ least_of s
clean_is_least s x rules vector below clean = least_of-from_closed s x vector.long below (closed_from_clean s x rules clean)
