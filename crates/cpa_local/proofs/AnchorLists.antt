-- Where the streams of tasks are on clocks: by the anchors of their activators, and on which sources' clocks.
use Rattle.std.proofs.Common.{◌≡◌, ℕ, zero, suc, ◌+◌, ◌*◌, ◌<◌, ◌≤◌, ◌%◌, List, [], ◌∷◌, ◌++◌, length, map, take, get_or, true, false, is_some, Option, Some, None, refl, sym, ap, ◌∙◌, inl, inr, arith, subst}
use Rattle.std.specs.Prelude.{IsSome}
use Rattle.std.specs.List.{AllZip, flat_map, list_any}
use Rattle.std.specs.Option.{ForSome}
use Rattle.std.specs.Prelude.{option_map}
use Rattle.std.proofs.lemmas.Bool.{false≢true, true≢false, or_left, or_right, cases_lt}
use Rattle.std.proofs.lemmas.List.{length-append, length-map, get_or_past, take_more, take_all, map-append, append-nil, append_assoc}
use Rattle.std.proofs.lemmas.List.Concat.{flat_map-append}
use Rattle.std.proofs.lemmas.List.Folds.{length-flat_map-take}
use Rattle.std.proofs.lemmas.Option.{none-some, same_Some}
use Rattle.cpa_units.specs.declared.limits.TheConstants.{MAX_PERIOD, MAX_EXECUTION, MAX_CHAIN}
use Rattle.cpa_units.specs.declared.places.SourceId.{SourceId}
use Rattle.cpa_units.specs.declared.places.TaskId.{TaskId}
use Rattle.cpa_events.specs.declared.TheConstants.{MAX_STREAMS}
use Rattle.cpa_clock.specs.declared.anchor.Anchor.{Anchor}
use Rattle.cpa_model.specs.declared.entries.Activator.{Activator}
use Rattle.cpa_model.specs.declared.entries.Activator.TheVariants.{Source as FromSource, Task as FromTask}
use Rattle.cpa_model.specs.declared.entries.Task.{Task}
use Rattle.cpa_model.specs.Chains.{depth_within, streams_step, streams_within, activators}
use Rattle.cpa_model.specs.Clocks.{clock_of, clock_cycle, offset_of}
use Rattle.cpa_model.specs.Rules.{IsSystem, IsTask}
use Rattle.cpa_model.specs.SystemLists.{SystemLists, task_at, source_at, depth_of, streams_of, is_task, no_task}
use Rattle.cpa_model.proofs.ClockLaws.{clock-there, clock-whole, offset-small}
use Rattle.cpa_model.proofs.SystemLaws.{activators_at, activated-there, depth_of-activated, depth_within-activated, streams_of-activators}
use Rattle.cpa_local.specs.OnClocks.{source_anchor, later_anchor, anchors_step, anchors_within, anchor_list}
use Rattle.cpa_local.proofs.SentLaws.{is_task-itself}

pub is-none : {X : Type 0} (o : Option X) → is_some o ≡ false → o ≡ None
is-none None h = refl
is-none (Some x) h = absurd (true≢false h)

-- ---- later on a clock, one time after another

pub later_anchor-none : (o : Option Anchor) → later_anchor 0 o ≡ o
later_anchor-none None = refl
later_anchor-none (Some a) = let same : a.offset + 0 ≡ a.offset = omega arith in ap (λ n. Some (record { clock = a.clock; offset = n })) same

later_anchor-later : (late best : ℕ) (o : Option Anchor) → later_anchor late (later_anchor best o) ≡ later_anchor (late + best) o
later_anchor-later late best None = refl
later_anchor-later late best (Some a) = let same : a.offset + best + late ≡ a.offset + (late + best) = omega arith in ap (λ n. Some (record { clock = a.clock; offset = n })) same

pub later-none : (os : List (Option Anchor)) → map (later_anchor 0) os ≡ os
later-none [] = refl
later-none (o ∷ os) = ap (λ p. p ∷ map (later_anchor 0) os) (later_anchor-none o) ∙ ap (λ ps. o ∷ ps) (later-none os)

pub later-later : (late best : ℕ) (os : List (Option Anchor)) → map (later_anchor late) (map (later_anchor best) os) ≡ map (later_anchor (late + best)) os
later-later late best [] = refl
later-later late best (o ∷ os) =
    ap (λ p. p ∷ map (later_anchor late) (map (later_anchor best) os)) (later_anchor-later late best o) ∙ ap (λ ps. later_anchor (late + best) o ∷ ps) (later-later late best os)

-- ---- two lists, place by place

module _ {X Y : Type 0} (R : X → Y → Type 0) where
  zip-append : (xs xs' : List X) (ys ys' : List Y) → AllZip R xs ys → AllZip R xs' ys' → AllZip R (xs ++ xs') (ys ++ ys')
  zip-append [] xs' [] ys' h k = k
  zip-append [] xs' (y ∷ ys) ys' h k = absurd h
  zip-append (x ∷ xs) xs' [] ys' h k = absurd h
  zip-append (x ∷ xs) xs' (y ∷ ys) ys' h k = (h.0, zip-append xs xs' ys ys' h.1 k)

  zip-map : {Z : Type 0} (S : Z → Y → Type 0) (f : X → Z) → ((x : X) (y : Y) → R x y → S (f x) y) → (xs : List X) (ys : List Y) → AllZip R xs ys → AllZip S (map f xs) ys
  zip-map S f up [] [] h = tt
  zip-map S f up [] (y ∷ ys) h = absurd h
  zip-map S f up (x ∷ xs) [] h = absurd h
  zip-map S f up (x ∷ xs) (y ∷ ys) h = (up x y h.0, zip-map S f up xs ys h.1)

-- ---- where all chains are met within so many tasks, a task more changes nothing

module _ (s : SystemLists) where
  same-step : (f g : ℕ → List (Option Anchor)) (a : Activator) → ((j : ℕ) → is_task j a ≡ true → f j ≡ g j) → anchors_step s f a ≡ anchors_step s g a
  same-step f g (FromSource k) h = refl
  same-step f g (FromTask j) h = ap (map (later_anchor (task_at s j.0).best)) (h j.0 (is_task-itself j.0))

  same-steps : (f g : ℕ → List (Option Anchor)) (after : List Activator) → ((j : ℕ) → list_any (is_task j) after ≡ true → f j ≡ g j) → flat_map (anchors_step s f) after ≡ flat_map (anchors_step s g) after
  same-steps f g [] h = refl
  same-steps f g (a ∷ others) h =
      ap (λ os. os ++ flat_map (anchors_step s f) others) (same-step f g a (λ j e. h j (or_left _ _ e)))
      ∙ ap (λ os. anchors_step s g a ++ os) (same-steps f g others (λ j e. h j (or_right _ _ e)))

  settled : IsSystem s → (n i : ℕ) → i < length s.tasks → IsSome (depth_within (activators s.tasks) n i) → anchors_within s (suc n) i ≡ anchors_within s n i
  unfolding depth_within anchors_within
  settled rules zero i there met = absurd (false≢true met)
  settled rules (suc n) i there met =
      same-steps (anchors_within s (suc n)) (anchors_within s n) (task_at s i).after
      (λ j e. settled rules n j (activated-there s rules i j there e) (depth_within-activated s n i j e met))

  -- the streams of a task are those of its activators, one after the other
  pub anchor_list-activators : IsSystem s → (i : ℕ) → i < length s.tasks → anchor_list s i ≡ flat_map (anchors_step s (anchor_list s)) (task_at s i).after
  unfolding anchors_within
  anchor_list-activators rules i there =
      same-steps (anchors_within s 31) (anchor_list s) (task_at s i).after
      (λ j e. sym (settled rules 31 j (activated-there s rules i j there e) (depth_within-activated s 31 i j e (rules.chains i there))))

  -- ---- on which clocks they are

  -- a stream of source k is on its clock here, and comes no later after its start than so many ticks
  pub record IsOnClockOf (most : ℕ) (k : SourceId) (a : Anchor) : Type 0 where
    pub there : a.clock < length s.sources
    pub small : a.offset ≤ most
    pub whole : clock_cycle s a.clock % (source_at s k.0).period ≡ 0

  abbrev pub IsOnClock : ℕ → Option Anchor → SourceId → Type 0
  IsOnClock most o k = ForSome o (IsOnClockOf most k)

  source-on : IsSystem s → (most : ℕ) (k : SourceId) → MAX_PERIOD ≤ most → IsOnClock most (source_anchor s k.0) k
  source-on rules most k few = by (clock_of s k.0) refl
    where
      by : (o : Option ℕ) → clock_of s k.0 ≡ o → IsOnClock most (option_map (λ c. record { clock = c; offset = offset_of s k.0 }) o) k
      by None e a is = absurd (none-some a is)
      by (Some c) e a is =
          subst (IsOnClockOf most k) (same_Some (record { clock = c; offset = offset_of s k.0 }) a is)
          (record { there = clock-there s k.0 c e; small = omega (arith, few, offset-small s rules k.0); whole = clock-whole s rules k.0 c e })

  later-on : (most best : ℕ) (o : Option Anchor) (k : SourceId) → best ≤ MAX_EXECUTION → IsOnClock most o k → IsOnClock (most + MAX_EXECUTION) (later_anchor best o) k
  later-on most best None k short h a is = absurd (none-some a is)
  later-on most best (Some b) k short h a is =
      let before = h b refl in
      subst (IsOnClockOf (most + MAX_EXECUTION) k) (same_Some (record { clock = b.clock; offset = b.offset + best }) a is)
      (record { there = before.there; small = omega (arith, before.small, short); whole = before.whole })

  pub best-small : IsSystem s → (j : ℕ) → (task_at s j).best ≤ MAX_EXECUTION
  best-small rules j =
      elim (cases_lt j (length s.tasks)) [
        | inl there ↦ let t : IsTask s (task_at s j) = rules.tasks j no_task there in omega (arith, t.ordered, t.worst)
        | inr past ↦ omega (arith, ap (λ (t : Task). t.best) (get_or_past s.tasks j no_task past))
      ]

  steps-on : IsSystem s → (most : ℕ) (f : ℕ → List (Option Anchor)) (g : ℕ → List SourceId) → MAX_PERIOD ≤ most → ((j : ℕ) → AllZip (IsOnClock most) (f j) (g j))
      → (after : List Activator) → AllZip (IsOnClock (most + MAX_EXECUTION)) (flat_map (anchors_step s f) after) (flat_map (λ a. streams_step a g) after)
  steps-on rules most f g few each [] = tt
  steps-on rules most f g few each (FromSource k ∷ others) =
      zip-append (IsOnClock (most + MAX_EXECUTION)) (source_anchor s k.0 ∷ []) (flat_map (anchors_step s f) others) (k ∷ []) (flat_map (λ a. streams_step a g) others)
      (source-on rules (most + MAX_EXECUTION) k (omega arith), tt) (steps-on rules most f g few each others)
  steps-on rules most f g few each (FromTask j ∷ others) =
      zip-append (IsOnClock (most + MAX_EXECUTION)) (map (later_anchor (task_at s j.0).best) (f j.0)) (flat_map (anchors_step s f) others) (g j.0) (flat_map (λ a. streams_step a g) others)
      (zip-map (IsOnClock most) (IsOnClock (most + MAX_EXECUTION)) (later_anchor (task_at s j.0).best) (λ o k h. later-on most (task_at s j.0).best o k (best-small rules j.0) h) (f j.0) (g j.0) (each j.0))
      (steps-on rules most f g few each others)

  within-on : IsSystem s → (n i : ℕ) → AllZip (IsOnClock (MAX_PERIOD + n * MAX_EXECUTION)) (anchors_within s n i) (streams_within (activators s.tasks) n i)
  unfolding anchors_within streams_within
  within-on rules zero i = tt
  within-on rules (suc n) i =
      let more : MAX_PERIOD + suc n * MAX_EXECUTION ≡ MAX_PERIOD + n * MAX_EXECUTION + MAX_EXECUTION = omega arith in
      rw (activators_at s.tasks i, more)
      (steps-on rules (MAX_PERIOD + n * MAX_EXECUTION) (anchors_within s n) (streams_within (activators s.tasks) n) (omega arith) (within-on rules n) (task_at s i).after)

  pub anchors-on : IsSystem s → (i : ℕ) → AllZip (IsOnClock (MAX_PERIOD + 32 * MAX_EXECUTION)) (anchor_list s i) (streams_of s i)
  anchors-on rules i = within-on rules 32 i

-- as many as streams
zip-long : {X Y : Type 0} (R : X → Y → Type 0) (xs : List X) (ys : List Y) → AllZip R xs ys → length xs ≡ length ys
zip-long R [] [] h = refl
zip-long R [] (y ∷ ys) h = absurd h
zip-long R (x ∷ xs) [] h = absurd h
zip-long R (x ∷ xs) (y ∷ ys) h = ap suc (zip-long R xs ys h.1)

pub anchors-long : (s : SystemLists) → IsSystem s → (i : ℕ) → length (anchor_list s i) ≡ length (streams_of s i)
anchors-long s rules i = zip-long (IsOnClock s (MAX_PERIOD + 32 * MAX_EXECUTION)) (anchor_list s i) (streams_of s i) (anchors-on s rules i)

-- ---- a walk over the activators

flat-more : {X Y : Type 0} (f : X → List Y) (xs : List X) (k : ℕ) (d : X) → k < length xs → flat_map f (take (k + 1) xs) ≡ flat_map f (take k xs) ++ f (get_or xs k d)
flat-more f xs k d less =
    ap (flat_map f) (take_more xs k d less) ∙ flat_map-append f (take k xs) (get_or xs k d ∷ []) ∙ ap (λ ys. flat_map f (take k xs) ++ ys) (append-nil (f (get_or xs k d)))

-- the anchors that were put behind those found before: of these activators
abbrev pub ArePut : SystemLists → ℕ → List (Option Anchor) → List Activator → List (Option Anchor) → Type 0
ArePut s late before done now = now ≡ before ++ map (later_anchor late) (flat_map (anchors_step s (anchor_list s)) done)

module _ (s : SystemLists) (late : ℕ) (before now : List (Option Anchor)) (after : List Activator) (k : ℕ) (d : Activator) (less : k < length after) (h : ArePut s late before (take k after) now) where
  pub put-step : (new : List (Option Anchor)) (a : Activator) → get_or after k d ≡ a → new ≡ now ++ map (later_anchor late) (anchors_step s (anchor_list s) a) → ArePut s late before (take (k + 1) after) new
  put-step new a is put =
      let f = anchors_step s (anchor_list s) in
      let done = flat_map f (take k after) in
      put
      ∙ ap (λ os. os ++ map (later_anchor late) (f a)) h
      ∙ append_assoc before (map (later_anchor late) done) (map (later_anchor late) (f a))
      ∙ ap (λ os. before ++ os) (sym (map-append (later_anchor late) done (f a)))
      ∙ ap (λ os. before ++ map (later_anchor late) os) (ap (λ b. done ++ f b) (sym is) ∙ sym (flat-more f after k d less))

  pub put-task : (new : List (Option Anchor)) (j : TaskId) → get_or after k d ≡ FromTask j → new ≡ now ++ map (later_anchor (late + (task_at s j.0).best)) (anchor_list s j.0) → ArePut s late before (take (k + 1) after) new
  put-task new j is put = put-step new (FromTask j) is (put ∙ ap (λ os. now ++ os) (sym (later-later late (task_at s j.0).best (anchor_list s j.0))))

  step-long : IsSystem s → (a : Activator) → length (anchors_step s (anchor_list s) a) ≡ length (streams_step a (streams_of s))
  step-long rules (FromSource m) = refl
  step-long rules (FromTask j) = length-map (anchor_list s j.0) (later_anchor (task_at s j.0).best) ∙ anchors-long s rules j.0

  steps-long : IsSystem s → (many : List Activator) → length (flat_map (anchors_step s (anchor_list s)) many) ≡ length (flat_map (λ a. streams_step a (streams_of s)) many)
  steps-long rules [] = refl
  steps-long rules (a ∷ others) =
      let first = step-long rules a in
      let rest = steps-long rules others in
      let one = length-append (anchors_step s (anchor_list s) a) (flat_map (anchors_step s (anchor_list s)) others) in
      let two = length-append (streams_step a (streams_of s)) (flat_map (λ b. streams_step b (streams_of s)) others) in
      omega arith

  -- there is room for those of one more activator
  pub put-room : IsSystem s → (i : ℕ) (a : Activator) → i < length s.tasks → after ≡ (task_at s i).after → get_or after k d ≡ a → length before + length (streams_of s i) ≤ MAX_STREAMS
      → length now + length (streams_step a (streams_of s)) ≤ MAX_STREAMS
  put-room rules i a there are is room =
      let g : Activator → List SourceId = λ b. streams_step b (streams_of s) in
      let part : length (flat_map g (take k after)) + length (g a) ≤ length (flat_map g after) = subst (λ b. length (flat_map g (take k after)) + length (g b) ≤ length (flat_map g after)) is (length-flat_map-take g after k d less) in
      let whole : length (streams_of s i) ≡ length (flat_map g after) = ap length (streams_of-activators s rules i there) ∙ ap (λ many. length (flat_map g many)) (sym are) in
      let done = flat_map (anchors_step s (anchor_list s)) (take k after) in
      let long : length now ≡ length before + length (flat_map g (take k after)) =
      ap length h ∙ length-append before (map (later_anchor late) done) ∙ ap (λ n. length before + n) (length-map done (later_anchor late) ∙ steps-long rules (take k after)) in
      omega arith

-- those of all activators
pub put-all : (s : SystemLists) → IsSystem s → (late : ℕ) (before now : List (Option Anchor)) (after : List Activator) (count i : ℕ) → i < length s.tasks → after ≡ (task_at s i).after → length after ≤ count
    → ArePut s late before (take count after) now → now ≡ before ++ map (later_anchor late) (anchor_list s i)
put-all s rules late before now after count i there are all h =
    h
    ∙ ap (λ many. before ++ map (later_anchor late) (flat_map (anchors_step s (anchor_list s)) many)) (take_all count after all ∙ are)
    ∙ ap (λ os. before ++ map (later_anchor late) os) (sym (anchor_list-activators s rules i there))

-- a task before another: how much later its streams may be
pub put-late : (s : SystemLists) → IsSystem s → (late i j : ℕ) → i < length s.tasks → list_any (is_task j) (task_at s i).after ≡ true → late + depth_of s i * MAX_EXECUTION ≤ MAX_CHAIN * MAX_EXECUTION
    → late + (task_at s j).best + depth_of s j * MAX_EXECUTION ≤ MAX_CHAIN * MAX_EXECUTION
put-late s rules late i j there after room =
    let deep = depth_of-activated s rules i j there after in
    let small = best-small s rules j in
    omega arith
