-- The anchors of streams along chains: each is where its activator's stream is, and their clocks are those of sources.
use Rattle.std.proofs.Common.{◌≡◌, ℕ, zero, suc, ◌+◌, ◌<◌, ◌++◌, List, [], ◌∷◌, length, map, Option, Some, None, true, false, refl, sym, ◌∙◌, ap, inl, inr, arith, get_or, length-append, option_map}
use Rattle.std.specs.List.{list_any, flat_map}
use Rattle.std.specs.Prelude.{◌||◌, Bool}
use Rattle.std.proofs.lemmas.Bool.{cases_Bool, false≢true}
use Rattle.std.proofs.lemmas.List.{get_or_append_left, get_or-append-add, length-map}
use Rattle.cpa_units.specs.declared.places.SourceId.{SourceId}
use Rattle.cpa_units.specs.declared.limits.TheConstants.{MAX_CHAIN}
use Rattle.cpa_model.specs.declared.entries.Activator.{Activator}
use Rattle.cpa_model.specs.declared.entries.Activator.TheVariants.{Source, Task}
use Rattle.cpa_model.specs.Chains.{activators, streams_step, streams_within}
use Rattle.cpa_model.specs.SystemLists.{SystemLists, task_at}
use Rattle.cpa_model.specs.Clocks.{clock_of, offset_of}
use Rattle.cpa_model.proofs.SystemLaws.{activators_at}
use Rattle.cpa_model.proofs.ClockLaws.{clock-there}
use Rattle.cpa_clock.specs.declared.anchor.Anchor.{Anchor}
use Rattle.cpa_clock.specs.Anchors.{Anchors}
use Rattle.cpa_clock.specs.Wider.{AreClocksBelow}
use Rattle.cpa_local.specs.OnClocks.{source_anchor, later_anchor, anchors_step, anchors_within, anchors_of}
use Rattle.cpa_sound.specs.JobStreams.{is_same, streams_before}
use Rattle.cpa_sound.proofs.KeepsCauses.{Starts}
use Rattle.cpa_sound.proofs.CauseStreams.{same-is, before-here, before-there, before}

or_tail : (b c : Bool) → b ≡ false → (b || c) ≡ true → c ≡ true
or_tail true c e h = absurd (false≢true (sym e))
or_tail false c e h = h

-- where a source is on a clock
anchor-parts : (offset : ℕ) (o : Option ℕ) (a : Anchor) → option_map (λ c. record { clock = c; offset = offset }) o ≡ Some a → (o ≡ Some a.clock) × (a.offset ≡ offset)
anchor-parts offset None a e = absurd cc
anchor-parts offset (Some c) a e = (ap Some (ap clock-in e), sym (ap offset-in e))
  where
    clock-in : Option Anchor → ℕ
    clock-in None = 0
    clock-in (Some b) = b.clock

    offset-in : Option Anchor → ℕ
    offset-in None = 0
    offset-in (Some b) = b.offset

pub source_anchor-is : (s : SystemLists) (k : ℕ) (a : Anchor) → source_anchor s k ≡ Some a → (clock_of s k ≡ Some a.clock) × (a.offset ≡ offset_of s k)
source_anchor-is s k a e = anchor-parts (offset_of s k) (clock_of s k) a e

-- the anchors of a task's streams by their places, where activators are followed over n tasks
abbrev pub anchors_along : SystemLists → ℕ → ℕ → Anchors
anchors_along s n i q = get_or (anchors_within s n i) q None

module _ (s : SystemLists) where
  -- an activator has an anchor for each of its streams
  step-long : (deeper : ℕ → List (Option Anchor)) (streams : ℕ → List SourceId) → ((j : ℕ) → length (deeper j) ≡ length (streams j)) → (a : Activator) → length (anchors_step s deeper a) ≡ length (streams_step a streams)
  step-long deeper streams same (Source k) = refl
  step-long deeper streams same (Task j) = length-map (deeper j.0) (later_anchor (task_at s j.0).best) ∙ same j.0

  steps-long : (deeper : ℕ → List (Option Anchor)) (streams : ℕ → List SourceId) → ((j : ℕ) → length (deeper j) ≡ length (streams j)) → (list : List Activator) → length (flat_map (anchors_step s deeper) list) ≡ length (flat_map (λ a. streams_step a streams) list)
  steps-long deeper streams same [] = refl
  steps-long deeper streams same (a ∷ list) =
      omega (
        arith,
        length-append (anchors_step s deeper a) (flat_map (anchors_step s deeper) list),
        length-append (streams_step a streams) (flat_map (λ b. streams_step b streams) list),
        step-long deeper streams same a,
        steps-long deeper streams same list,
      )

  -- a task has one for each of its streams
  pub anchors-long : (n i : ℕ) → length (anchors_within s n i) ≡ length (streams_within (activators s.tasks) n i)
  unfolding anchors_within streams_within
  anchors-long zero i = refl
  anchors-long (suc n) i = rw (activators_at s.tasks i) (steps-long (anchors_within s n) (streams_within (activators s.tasks) n) (anchors-long n) (task_at s i).after)

  -- each is where its activator has it
  anchor-found : (deeper : ℕ → List (Option Anchor)) (streams : ℕ → List SourceId) → ((j : ℕ) → length (deeper j) ≡ length (streams j)) → (list : List Activator) (a : Activator) (m : ℕ) → list_any (is_same a) list ≡ true → m < length (streams_step a streams)
      → get_or (flat_map (anchors_step s deeper) list) (streams_before streams a list + m) None ≡ get_or (anchors_step s deeper a) m None
  anchor-found deeper streams same [] a m h few = absurd (false≢true h)
  anchor-found deeper streams same (other ∷ others) a m h few =
      let xs : List (Option Anchor) = anchors_step s deeper other in
      let rest : List (Option Anchor) = flat_map (anchors_step s deeper) others in
      let long = step-long deeper streams same other in
      elim (cases_Bool (is_same a other)) [
        | inl e ↦
            let it : xs ≡ anchors_step s deeper a = ap (anchors_step s deeper) (sym (same-is a other e)) in
            let wide : length xs ≡ length (streams_step a streams) = long ∙ ap (λ b. length (streams_step b streams)) (sym (same-is a other e)) in
            let here = get_or_append_left xs rest None m (omega (arith, few, wide)) in
            let z : 0 + m ≡ m = omega arith in
            rw (before-here streams a other others e, z) (here ∙ ap (λ l. get_or l m None) it)
        | inr e ↦
            let z : length (streams_step other streams) + streams_before streams a others + m ≡ length xs + (streams_before streams a others + m) = omega (arith, long) in
            rw (before-there streams a other others e, z)
            (get_or-append-add xs rest (streams_before streams a others + m) None
            ∙ anchor-found deeper streams same others a m (or_tail (is_same a other) (list_any (is_same a) others) e h) few)
      ]

  get-later : (best : ℕ) (l : List (Option Anchor)) (m : ℕ) → get_or (map (later_anchor best) l) m None ≡ later_anchor best (get_or l m None)
  get-later best [] m = refl
  get-later best (a ∷ l) zero = refl
  get-later best (a ∷ l) (suc m) = get-later best l m

  anchor-at : (n i : ℕ) (a : Activator) → Starts s i a → (m : ℕ) → m < length (streams_step a (streams_within (activators s.tasks) n)) → anchors_along s (suc n) i (before s n i a + m) ≡ get_or (anchors_step s (anchors_within s n) a) m None
  unfolding anchors_within
  anchor-at n i a starts m few = anchor-found (anchors_within s n) (streams_within (activators s.tasks) n) (anchors-long n) (task_at s i).after a m starts few

  pub anchor-of_source : (n i : ℕ) (k : SourceId) → Starts s i (Source k) → anchors_along s (suc n) i (before s n i (Source k)) ≡ source_anchor s k.0
  anchor-of_source n i k starts =
      let z : before s n i (Source k) + 0 ≡ before s n i (Source k) = omega arith in
      rw z at (anchor-at n i (Source k) starts 0 (omega arith))

  -- what a task sends is later than what it was sent
  pub anchor-of_task : (n i j m : ℕ) → Starts s i (Task (record { 0 = j })) → m < length (streams_within (activators s.tasks) n j) → anchors_along s (suc n) i (before s n i (Task (record { 0 = j })) + m) ≡ later_anchor (task_at s j).best (anchors_along s n j m)
  anchor-of_task n i j m starts few = anchor-at n i (Task (record { 0 = j })) starts m few ∙ get-later (task_at s j).best (anchors_within s n j) m

  -- ---- the clocks that they are on

  IsOnClock : Option Anchor → Type 0
  IsOnClock o = (a : Anchor) → o ≡ Some a → a.clock < length s.sources

  on-none : IsOnClock None
  unfolding IsOnClock
  on-none a e = absurd cc

  on-later : (best : ℕ) (o : Option Anchor) → IsOnClock o → IsOnClock (later_anchor best o)
  unfolding IsOnClock
  on-later best None on a e = absurd cc
  on-later best (Some b) on a e =
      let below = on b refl in
      let same : a.clock ≡ b.clock = ap clock-of (sym e) in
      omega (arith, below, same)
    where
      clock-of : Option Anchor → ℕ
      clock-of None = 0
      clock-of (Some c) = c.clock

  AllOn : List (Option Anchor) → Type 0
  AllOn l = (m : ℕ) → IsOnClock (get_or l m None)

  all-nil : AllOn []
  unfolding AllOn
  all-nil m = on-none

  all-append : (l k : List (Option Anchor)) → AllOn l → AllOn k → AllOn (l ++ k)
  unfolding AllOn
  all-append [] k all rest m = rest m
  all-append (o ∷ l) k all rest zero = all zero
  all-append (o ∷ l) k all rest (suc m) = all-append l k (λ q. all (suc q)) rest m

  all-later : (best : ℕ) (l : List (Option Anchor)) → AllOn l → AllOn (map (later_anchor best) l)
  unfolding AllOn
  all-later best [] all m = on-none
  all-later best (o ∷ l) all zero = on-later best o (all zero)
  all-later best (o ∷ l) all (suc m) = all-later best l (λ q. all (suc q)) m

  all-step : (deeper : ℕ → List (Option Anchor)) → ((j : ℕ) → AllOn (deeper j)) → (a : Activator) → AllOn (anchors_step s deeper a)
  unfolding AllOn IsOnClock
  all-step deeper all (Source k) zero = λ a e. clock-there s k.0 a.clock (source_anchor-is s k.0 a e).0
  all-step deeper all (Source k) (suc m) = on-none
  all-step deeper all (Task j) m = all-later (task_at s j.0).best (deeper j.0) (all j.0) m

  all-steps : (deeper : ℕ → List (Option Anchor)) → ((j : ℕ) → AllOn (deeper j)) → (list : List Activator) → AllOn (flat_map (anchors_step s deeper) list)
  all-steps deeper all [] = all-nil
  all-steps deeper all (a ∷ list) = all-append (anchors_step s deeper a) (flat_map (anchors_step s deeper) list) (all-step deeper all a) (all-steps deeper all list)

  all-within : (n i : ℕ) → AllOn (anchors_within s n i)
  unfolding anchors_within
  all-within zero i = all-nil
  all-within (suc n) i = all-steps (anchors_within s n) (all-within n) (task_at s i).after

  -- the streams of a task are on the clocks that are counted
  pub anchors-counted : (i : ℕ) → AreClocksBelow (length s.sources) (anchors_of s i)
  unfolding AllOn IsOnClock
  anchors-counted i q a e = all-within MAX_CHAIN i q a e
