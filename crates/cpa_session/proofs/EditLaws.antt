-- What each edit spares, and which can only raise bounds.
use Rattle.std.proofs.Common.{◌≡◌, ℕ, zero, suc, ◌+◌, ◌-◌, ◌<◌, ◌≤◌, ◌&&◌, nat_lt, length, Bool, true, false, List, [], ◌∷◌, ◌++◌, map, set, Some, None, refl, sym, ap, ◌∙◌, inl, inr, slice_index_or, arith, get_or-set_same, get_or-set_other, Option, slice_set}
use Rattle.std.specs.Prelude.{filter, option_map, if◌then◌else◌}
use Rattle.std.specs.List.{AllZip, range_with_len, remove, list_any}
use Rattle.std.proofs.lemmas.Bool.{cases_Bool, cases_lt, cases_eq, false≢true, lt-ltb, le-ltb, eq-eqb, eqb-false, and_from}
use Rattle.std.proofs.lemmas.List.{length-set, set_past, map-id, get_or_append_left, length_push, get_or_push, get_or-map, length-map, append-nil}
use Rattle.std.proofs.lemmas.List.Elements.{filter-append}
use Rattle.std.proofs.lemmas.List.Edits.{length-remove, get_or-remove_below, get_or-remove_above}
use Rattle.cpa_units.specs.Sets.{holds, Members}
use Rattle.cpa_units.specs.declared.places.TaskId.{TaskId}
use Rattle.cpa_units.proofs.PlaceLaws.{places, places-more}
use Rattle.cpa_units.specs.declared.places.ResId.{ResId}
use Rattle.cpa_clock.specs.declared.anchor.Anchor.{Anchor}
use Rattle.cpa_model.specs.declared.entries.Source.{Source}
use Rattle.cpa_model.specs.declared.entries.Task.{Task}
use Rattle.cpa_model.specs.declared.entries.Activator.{Activator}
use Rattle.cpa_model.specs.declared.entries.Activator.TheVariants.{Source as FromSource, Task as FromTask}
use Rattle.cpa_model.specs.SystemLists.{SystemLists, task_at, source_at, task_places, tasks_on, is_on, is_source, is_task, is_fed_by, is_activated_by, no_task, no_source}
use Rattle.cpa_model.specs.Streams.{model_of}
use Rattle.cpa_model.specs.Clocks.{clock_name, clock_of, offset_of, offset_on, of_sources}
use Rattle.cpa_model.proofs.KeptClocks.{clock-stays, moved-name}
use Rattle.cpa_model.specs.Changes.{with_task_at, with_source, with_offset, at_offset, with_task, without_task, place_without, activator_without, task_without}
use Rattle.cpa_edit.proofs.AnyLaws.{any-filter, place-any}
use Rattle.cpa_local.specs.OnClocks.{source_anchor}
use Rattle.cpa_local.proofs.PassingPlaces.{filter-agree}
use Rattle.cpa_local.proofs.WiderLaws.{each-itself}
use Rattle.cpa_session.specs.Spared.{place_before, IsSameActivator, IsSpared}
use Rattle.cpa_session.proofs.SideBySide.{beside_none, beside_made}

-- ---- lists of places

filter-one : (p : ℕ → Bool) (n : ℕ) → p n ≡ false → filter p (places (n + 1)) ≡ filter p (places n)
filter-one p n off =
    let none : filter p (n ∷ []) ≡ [] = rw off refl in
    ap (filter p) (places-more n) ∙ filter-append p (places n) (n ∷ []) ∙ ap (λ js. filter p (places n) ++ js) none ∙ append-nil (filter p (places n))

-- the places without one of them
abbrev pub skip : ℕ → ℕ → ℕ
skip gone i = if nat_lt i gone then i else i + 1

skip-low : (gone i : ℕ) → i < gone → skip gone i ≡ i
skip-low gone i low = rw (lt-ltb i gone low) refl

skip-high : (gone i : ℕ) → gone ≤ i → skip gone i ≡ i + 1
skip-high gone i high = rw (le-ltb i gone high) refl

skip-apart : (gone i j : ℕ) → skip gone i ≡ skip gone j → i ≡ j
skip-apart gone i j e =
    elim (cases_lt i gone) [
      | inl i_low ↦ elim (cases_lt j gone) [
        | inl j_low ↦ omega (arith, skip-low gone i i_low, skip-low gone j j_low)
        | inr j_high ↦ omega (arith, skip-low gone i i_low, skip-high gone j j_high)
      ]
      | inr i_high ↦ elim (cases_lt j gone) [
        | inl j_low ↦ omega (arith, skip-high gone i i_high, skip-low gone j j_low)
        | inr j_high ↦ omega (arith, skip-high gone i i_high, skip-high gone j j_high)
      ]
    ]

-- behind it each place is one more
filter-shift : (gone : ℕ) (p : ℕ → Bool) (a m : ℕ) → gone ≤ a → filter p (range_with_len (a + 1) m) ≡ map (skip gone) (filter (λ j. p (skip gone j)) (range_with_len a m))
filter-shift gone p a zero h = refl
filter-shift gone p a (suc m) h =
    let rest = filter-shift gone p (a + 1) m (omega arith) in
    let at : skip gone a ≡ a + 1 = skip-high gone a h in
    elim (cases_Bool (p (a + 1))) [
      | inl on ↦
          let here : p (skip gone a) ≡ true = ap p at ∙ on in
          rw (on, here) (ap (λ js. (a + 1) ∷ js) rest ∙ ap (λ j. j ∷ map (skip gone) (filter (λ j. p (skip gone j)) (range_with_len (a + 1) m))) (sym at))
      | inr off ↦
          let here : p (skip gone a) ≡ false = ap p at ∙ off in
          rw (off, here) rest
    ]

filter-skip : (gone : ℕ) (p : ℕ → Bool) (a m : ℕ) → a ≤ gone → gone ≤ a + m → p gone ≡ false → filter p (range_with_len a (suc m)) ≡ map (skip gone) (filter (λ j. p (skip gone j)) (range_with_len a m))
filter-skip gone p a zero low high off =
    let same : a ≡ gone = omega arith in
    rw (same, off) refl
filter-skip gone p a (suc m) low high off =
    elim (cases_lt a gone) [
      | inl before ↦
          let rest = filter-skip gone p (a + 1) m (omega arith) (omega arith) off in
          let at : skip gone a ≡ a = skip-low gone a before in
          elim (cases_Bool (p a)) [
            | inl on ↦
                let here : p (skip gone a) ≡ true = ap p at ∙ on in
                rw (on, here) (ap (λ js. a ∷ js) rest ∙ ap (λ j. j ∷ map (skip gone) (filter (λ j. p (skip gone j)) (range_with_len (a + 1) m))) (sym at))
            | inr out ↦
                let here : p (skip gone a) ≡ false = ap p at ∙ out in
                rw (out, here) rest
          ]
      | inr not_before ↦
          let same : a ≡ gone = omega arith in
          let here : p a ≡ false = ap p same ∙ off in
          rw here (filter-shift gone p a (suc m) not_before)
    ]

-- ---- sources on clocks

-- where another source stands at a place, on the same clock, all others are where they were
anchor-beside : (s : SystemLists) (k : ℕ) (r : Source) (named : clock_name r.on_clock ≡ clock_name (source_at s k).on_clock) (j : ℕ) → (j ≡ k → ⊥)
    → source_anchor (record s { sources = slice_set s.sources k r }) j ≡ source_anchor s j
anchor-beside s k r named j other =
    let t : SystemLists = record s { sources = slice_set s.sources k r } in
    let offset : offset_of t j ≡ offset_of s j = ap (λ (u : Source). offset_on u.on_clock) (get_or-set_other s.sources k j r no_source other) in
    let at : Option ℕ → ℕ → Option Anchor = λ clock ticks. option_map (λ c. record { clock = c; offset = ticks }) clock in
    ap (λ o. at o (offset_of t j)) (clock-stays s k r named j) ∙ ap (λ n. at (clock_of s j) n) offset

-- ---- edits of entries at their places

-- tasks stay where they are, on their resources, and only those on touched resources change
pub record IsInPlace (s t : SystemLists) (touched : List Bool) : Type 0 where
  pub resources : s.resources ≡ t.resources
  pub sources : length s.sources ≡ length t.sources
  pub count : length s.tasks ≡ length t.tasks
  pub res : (i : ℕ) → (task_at s i).res.0 ≡ (task_at t i).res.0
  pub same : (i : ℕ) → holds touched (task_at t i).res.0 ≡ false → task_at s i ≡ task_at t i

-- what activates an untouched task sends the same
abbrev pub SendSame : SystemLists → SystemLists → List Bool → Type 0
SendSame s t touched = (i : ℕ) → i < length t.tasks → holds touched (task_at t i).res.0 ≡ false
    → AllZip (IsSameActivator s t (place_before None)) (task_at t i).after (task_at t i).after

same-source : (s t : SystemLists) → s.sources ≡ t.sources → (a : Activator) → IsSameActivator s t (place_before None) a a
same-source s t e (FromSource k) = (ap (λ (sources : List Source). model_of (slice_index_or sources k.0 no_source)) e, ap (λ (sources : List Source). source_anchor (of_sources sources) k.0) e)
same-source s t e (FromTask j) = refl

pub same-sources : (s t : SystemLists) (them : List Activator) → s.sources ≡ t.sources → AllZip (IsSameActivator s t (place_before None)) them them
same-sources s t them e = each-itself (IsSameActivator s t (place_before None)) (same-source s t e) them

pub spared-in_place : (s t : SystemLists) (touched : List Bool) → IsInPlace s t touched → SendSame s t touched → IsSpared s t touched (place_before None)
spared-in_place s t touched h sent =
    record {
      resources = h.resources;
      sources = h.sources;
      apart = λ i j e. e;
      same = λ i less off.
          let it : task_at s i ≡ task_at t i = h.same i off in
          record {
            there = omega (arith, h.count);
            res = h.res i;
            after = rw it (sent i less off);
            best = ap (λ (u : Task). u.best) it;
            worst = ap (λ (u : Task). u.worst) it;
            turn = ap (λ (u : Task). u.turn) it;
            region = ap (λ (u : Task). u.region) it;
            locks = ap (λ (u : Task). u.locks) it;
          };
      listed = λ old new tests.
          let agree : (j : ℕ) → 0 ≤ j → j < 0 + length s.tasks → old j ≡ new j = λ j low high.
          elim (cases_Bool (holds touched (task_at t j).res.0)) [
            | inl on ↦ tests.none_old j (omega arith) (ap (holds touched) (h.res j) ∙ on) ∙ sym (tests.none_new j (omega (arith, h.count)) on)
            | inr off ↦ sym (tests.same j (omega (arith, h.count)) off)
          ] in
          filter-agree old new 0 (length s.tasks) agree ∙ ap (λ n. filter new (places n)) h.count ∙ sym (map-id (filter new (places (length t.tasks))));
    }

-- another task at a place, on the same resource, which is touched
pub in_place-set : (s : SystemLists) (p : ℕ) (u : Task) (touched : List Bool) → u.res ≡ (task_at s p).res → Members touched (task_at s p).res.0
    → IsInPlace s (with_task_at s p u) touched
in_place-set s p u touched res on =
    record {
      resources = refl;
      sources = refl;
      count = sym (length-set s.tasks p u);
      res = λ i. sym (res_at i);
      same = λ i off. elim (cases_eq i p) [
        | inl same ↦
            let there : holds touched (task_at (with_task_at s p u) i).res.0 ≡ true = ap (holds touched) (res_at i) ∙ ap (λ j. holds touched (task_at s j).res.0) same ∙ on in
            absurd (false≢true (sym off ∙ there))
        | inr other ↦ sym (get_or-set_other s.tasks p i u no_task other)
      ];
    }
  where
    res_at : (i : ℕ) → (task_at (with_task_at s p u) i).res.0 ≡ (task_at s i).res.0
    res_at i =
        elim (cases_eq i p) [
          | inl same ↦ elim (cases_lt p (length s.tasks)) [
            | inl less ↦ rw same (ap (λ (v : Task). v.res.0) (get_or-set_same s.tasks p u no_task less) ∙ ap (λ (r : ResId). r.0) res)
            | inr past ↦ ap (λ (us : List Task). (slice_index_or us i no_task).res.0) (set_past s.tasks p u past)
          ]
          | inr other ↦ ap (λ (v : Task). v.res.0) (get_or-set_other s.tasks p i u no_task other)
        ]

pub in_place-trans : (s t u : SystemLists) (touched : List Bool) → IsInPlace s t touched → IsInPlace t u touched → IsInPlace s u touched
in_place-trans s t u touched first second =
    record {
      resources = first.resources ∙ second.resources;
      sources = first.sources ∙ second.sources;
      count = first.count ∙ second.count;
      res = λ i. first.res i ∙ second.res i;
      same = λ i off. first.same i (ap (holds touched) (second.res i) ∙ off) ∙ second.same i off;
    }

-- a source changes, and touches what it feeds
pub in_place-source : (s : SystemLists) (k period jitter distance : ℕ) (touched : List Bool) → IsInPlace s (with_source s k period jitter distance) touched
unfolding with_source
in_place-source s k period jitter distance touched =
    record { resources = refl; sources = sym (length-set s.sources k (record (source_at s k) { period = period; jitter = jitter; distance = distance })); count = refl; res = λ i. refl; same = λ i off. refl }

-- and so where it comes at another offset of its clock
pub in_place-offset : (s : SystemLists) (k offset : ℕ) (touched : List Bool) → IsInPlace s (with_offset s k offset) touched
unfolding with_offset
in_place-offset s k offset touched =
    record { resources = refl; sources = sym (length-set s.sources k (record (source_at s k) { on_clock = at_offset offset (source_at s k).on_clock })); count = refl; res = λ i. refl; same = λ i off. refl }

module _ (s : SystemLists) (k : ℕ) (touched : List Bool) (feeds : (r : ℕ) → holds touched r ≡ list_any (is_fed_by s k) (tasks_on s r)) where
  -- a task that the source feeds is on a resource that is touched
  fed-touched : (i : ℕ) → i < length s.tasks → is_fed_by s k i ≡ true → Members touched (task_at s i).res.0
  fed-touched i less fed =
      let r = (task_at s i).res.0 in
      feeds (task_at s i).res.0 ∙ any-filter (is_fed_by s k) (is_on s (task_at s i).res.0) (task_places s)
      ∙ sym (place-any (λ j. is_on s (task_at s i).res.0 j && is_fed_by s k j) (length s.tasks) i less
      (and_from (is_on s (task_at s i).res.0 i) (is_fed_by s k i) (eq-eqb (task_at s i).res.0 (task_at s i).res.0 refl) fed))

  -- another source at its place, on the same clock
  module _ (r : Source) (named : clock_name r.on_clock ≡ clock_name (source_at s k).on_clock) where
    abbrev changed : SystemLists
    changed = record s { sources = slice_set s.sources k r }

    by_other : (a : Activator) → is_source k a ≡ false → IsSameActivator s changed (place_before None) a a
    by_other (FromTask j) other = refl
    by_other (FromSource m) other =
        (ap model_of (sym (get_or-set_other s.sources k m.0 r no_source (eqb-false m.0 k other))), sym (anchor-beside s k r named m.0 (eqb-false m.0 k other)))

    sent-changed : SendSame s changed touched
    sent-changed i less off =
        elim (cases_Bool (is_fed_by s k i)) [
          | inl fed ↦ absurd (false≢true (sym off ∙ fed-touched i less fed))
          | inr free ↦ beside_none (IsSameActivator s changed (place_before None)) (is_source k) (task_at s i).after free by_other
        ]

  pub sent-source : (period jitter distance : ℕ) → SendSame s (with_source s k period jitter distance) touched
  unfolding with_source
  sent-source period jitter distance = sent-changed (record (source_at s k) { period = period; jitter = jitter; distance = distance }) refl

  pub sent-offset : (offset : ℕ) → SendSame s (with_offset s k offset) touched
  unfolding with_offset
  sent-offset offset = sent-changed (record (source_at s k) { on_clock = at_offset offset (source_at s k).on_clock }) (moved-name offset (source_at s k).on_clock)

-- ---- a task more

module _ (s : SystemLists) (u : Task) (touched : List Bool) (on : Members touched u.res.0) where
  long-with_task : length (with_task s u).tasks ≡ length s.tasks + 1
  unfolding with_task
  long-with_task = length_push s.tasks u

  old-with_task : (i : ℕ) → i < length s.tasks → task_at (with_task s u) i ≡ task_at s i
  unfolding with_task
  old-with_task i less = get_or_append_left s.tasks (u ∷ []) no_task i less

  new-with_task : task_at (with_task s u) (length s.tasks) ≡ u
  unfolding with_task
  new-with_task = get_or_push s.tasks u no_task (length s.tasks) refl

  sources-with_task : s.sources ≡ (with_task s u).sources
  unfolding with_task
  sources-with_task = refl

  resources-with_task : s.resources ≡ (with_task s u).resources
  unfolding with_task
  resources-with_task = refl

  -- an untouched task isn't the new one
  old-place : (i : ℕ) → i < length (with_task s u).tasks → holds touched (task_at (with_task s u) i).res.0 ≡ false → i < length s.tasks
  old-place i less off =
      elim (cases_lt i (length s.tasks)) [
        | inl it ↦ it
        | inr past ↦
            let same : i ≡ length s.tasks = omega (arith, long-with_task) in
            let there : Members touched (task_at (with_task s u) i).res.0 = ap (λ (j : ℕ). holds touched (task_at (with_task s u) j).res.0) same ∙ ap (λ (v : Task). holds touched v.res.0) new-with_task ∙ on in
            absurd (false≢true (sym off ∙ there))
      ]

  pub spared-with_task : IsSpared s (with_task s u) touched (place_before None)
  spared-with_task =
      record {
        resources = resources-with_task;
        sources = ap length sources-with_task;
        apart = λ i j e. e;
        same = λ i less off.
            let before = old-place i less off in
            let it : task_at s i ≡ task_at (with_task s u) i = sym (old-with_task i before) in
            record {
              there = before;
              res = ap (λ (v : Task). v.res.0) it;
              after = rw it (same-sources s (with_task s u) (task_at (with_task s u) i).after sources-with_task);
              best = ap (λ (v : Task). v.best) it;
              worst = ap (λ (v : Task). v.worst) it;
              turn = ap (λ (v : Task). v.turn) it;
              region = ap (λ (v : Task). v.region) it;
              locks = ap (λ (v : Task). v.locks) it;
            };
        listed = λ old new tests.
            let agree : (j : ℕ) → 0 ≤ j → j < 0 + length s.tasks → old j ≡ new j = λ j low high.
            let before : j < length s.tasks = omega arith in
            let same : (task_at (with_task s u) j).res.0 ≡ (task_at s j).res.0 = ap (λ (v : Task). v.res.0) (old-with_task j before) in
            elim (cases_Bool (holds touched (task_at (with_task s u) j).res.0)) [
              | inl here ↦ tests.none_old j before (ap (holds touched) (sym same) ∙ here) ∙ sym (tests.none_new j (omega (arith, long-with_task)) here)
              | inr off ↦ sym (tests.same j (omega (arith, long-with_task)) off)
            ] in
            let last : new (length s.tasks) ≡ false = tests.none_new (length s.tasks) (omega (arith, long-with_task)) (ap (λ (v : Task). holds touched v.res.0) new-with_task ∙ on) in
            filter-agree old new 0 (length s.tasks) agree
            ∙ sym (filter-one new (length s.tasks) last)
            ∙ ap (λ n. filter new (places n)) (sym long-with_task)
            ∙ sym (map-id (filter new (places (length (with_task s u).tasks))));
      }

-- ---- a task less

place-back : (gone j : ℕ) → (j ≡ gone → ⊥) → j ≡ skip gone (place_without gone j)
place-back gone j other =
    elim (cases_lt gone j) [
      | inl behind ↦ rw (lt-ltb gone j behind) (let high : gone ≤ j - 1 = omega arith in omega (arith, skip-high gone (j - 1) high))
      | inr not_behind ↦ rw (le-ltb gone j not_behind) (let low : j < gone = omega arith in sym (skip-low gone j low))
    ]

module _ (s : SystemLists) (gone : TaskId) (touched : List Bool) (there : gone.0 < length s.tasks) (on : Members touched (task_at s gone.0).res.0)
    (free : (i : ℕ) → i < length s.tasks → is_activated_by s gone.0 i ≡ false) where
  abbrev t : SystemLists
  t = without_task s gone.0

  long-without : length t.tasks + 1 ≡ length s.tasks
  unfolding without_task
  long-without = omega (arith, length-map (remove s.tasks gone.0) (task_without gone.0), length-remove s.tasks gone.0 there)

  removed-at : (i : ℕ) → i < length t.tasks → slice_index_or (remove s.tasks gone.0) i no_task ≡ task_at s (skip gone.0 i)
  removed-at i less =
      elim (cases_lt i gone.0) [
        | inl low ↦ get_or-remove_below s.tasks gone.0 no_task i low there ∙ ap (task_at s) (sym (skip-low gone.0 i low))
        | inr high ↦ get_or-remove_above s.tasks gone.0 no_task i high there ∙ ap (task_at s) (sym (skip-high gone.0 i high))
      ]

  kept-at : (i : ℕ) → i < length t.tasks → task_at t i ≡ task_without gone.0 (task_at s (skip gone.0 i))
  unfolding without_task
  kept-at i less =
      let in_it : i < length (remove s.tasks gone.0) = omega (arith, long-without, length-remove s.tasks gone.0 there) in
      get_or-map (task_without gone.0) (remove s.tasks gone.0) i no_task no_task in_it ∙ ap (task_without gone.0) (removed-at i less)

  skip-there : (i : ℕ) → i < length t.tasks → skip gone.0 i < length s.tasks
  skip-there i less =
      elim (cases_lt i gone.0) [
        | inl low ↦ omega (arith, skip-low gone.0 i low, long-without)
        | inr high ↦ omega (arith, skip-high gone.0 i high, long-without)
      ]

  sources-without : s.sources ≡ t.sources
  unfolding without_task
  sources-without = refl

  resources-without : s.resources ≡ t.resources
  unfolding without_task
  resources-without = refl

  moved-one : (a : Activator) → is_task gone.0 a ≡ false → IsSameActivator s t (place_before (Some gone)) a (activator_without gone.0 a)
  moved-one (FromSource k) other =
      (ap (λ (sources : List Source). model_of (slice_index_or sources k.0 no_source)) sources-without, ap (λ (sources : List Source). source_anchor (of_sources sources) k.0) sources-without)
  moved-one (FromTask j) other = place-back gone.0 j.0 (eqb-false j.0 gone.0 other)

  moved : (i : ℕ) → i < length s.tasks → AllZip (IsSameActivator s t (place_before (Some gone))) (task_at s i).after (map (activator_without gone.0) (task_at s i).after)
  moved i less = beside_made (IsSameActivator s t (place_before (Some gone))) (is_task gone.0) (activator_without gone.0) (task_at s i).after (free i less) moved-one

  res-kept : (i : ℕ) → i < length t.tasks → (task_at t i).res.0 ≡ (task_at s (skip gone.0 i)).res.0
  res-kept i less = ap (λ (v : Task). v.res.0) (kept-at i less)

  pub spared-without : IsSpared s t touched (place_before (Some gone))
  spared-without =
      record {
        resources = resources-without;
        sources = ap length sources-without;
        apart = λ i j e. skip-apart gone.0 i j e;
        same = λ i less off.
            let it = kept-at i less in
            let before = skip-there i less in
            record {
              there = before;
              res = sym (res-kept i less);
              after = rw it (moved (skip gone.0 i) before);
              best = sym (ap (λ (v : Task). v.best) it);
              worst = sym (ap (λ (v : Task). v.worst) it);
              turn = sym (ap (λ (v : Task). v.turn) it);
              region = sym (ap (λ (v : Task). v.region) it);
              locks = sym (ap (λ (v : Task). v.locks) it);
            };
        listed = λ old new tests.
            let one : length s.tasks ≡ suc (length t.tasks) = omega (arith, long-without) in
            let agree : (j : ℕ) → 0 ≤ j → j < 0 + length t.tasks → old (skip gone.0 j) ≡ new j = λ j low high.
            let less : j < length t.tasks = omega arith in
            elim (cases_Bool (holds touched (task_at t j).res.0)) [
              | inl here ↦ tests.none_old (skip gone.0 j) (skip-there j less) (ap (holds touched) (sym (res-kept j less)) ∙ here) ∙ sym (tests.none_new j less here)
              | inr off ↦ sym (tests.same j less off)
            ] in
            ap (λ n. filter old (places n)) one
            ∙ filter-skip gone.0 old 0 (length t.tasks) (omega arith) (omega (arith, long-without)) (tests.none_old gone.0 there on)
            ∙ ap (map (skip gone.0)) (filter-agree (λ j. old (skip gone.0 j)) new 0 (length t.tasks) agree);
      }
