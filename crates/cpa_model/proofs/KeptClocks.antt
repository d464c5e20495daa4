-- What a system keeps of its clocks, as it is gathered and as sources change.
use Rattle.std.proofs.Common.{◌≡◌, ℕ, zero, suc, ◌+◌, ◌<◌, ◌≤◌, ◌==◌, ◌||◌, Bool, true, false, List, [], ◌∷◌, ◌++◌, length, map, set, take, drop, slice_index_or, get_or, All, is_some, ◌≢◌, Option, Some, None, option_map, refl, sym, ap, ◌∙◌, inl, inr, arith}
use Rattle.std.specs.Prelude.{filter, position, if◌then◌else◌}
use Rattle.std.specs.List.{list_any, range_with_len}
use Rattle.std.specs.Str.{bytes_eq}
use Rattle.std.proofs.lemmas.Bool.{cases_Bool, cases_eq, cases_lt, eq-eqb, ne_eqb, eqb-true, true≢false, false≢true}
use Rattle.std.proofs.Math.Nat.{le_trans}
use Rattle.std.proofs.lemmas.List.{get_or_past, get_or-set_same, get_or-set_other, length-set, ext_get_or, take_more, take-append-drop, map-append, append-nil}
use Rattle.std.proofs.lemmas.List.Elements.{filter-append, All-drop}
use Rattle.std.proofs.lemmas.List.Sums.{fold_push}
use Rattle.std.proofs.lemmas.List.Folds.{position_or_len-set, map_fixed}
use Rattle.std.proofs.lemmas.List.FromFn.{length-map-range_with_len, get_or-map-range_with_len, length-range_with_len}
use Rattle.std.proofs.lemmas.Option.{none-some, same_Some}
use Rattle.cpa_units.specs.declared.limits.TheConstants.{MAX_PERIOD}
use Rattle.cpa_draft.specs.Clocks.{least_common_multiple, common_cycle, is_too_long}
use Rattle.cpa_draft.proofs.ClockLaws.{cycle-part}
use Rattle.cpa_draft.proofs.ListLaws.{map-map}
use Rattle.cpa_model.specs.declared.clocks.Ticking.{Ticking}
use Rattle.cpa_model.specs.declared.entries.OnClock.{OnClock}
use Rattle.cpa_model.specs.declared.entries.Source.{Source}
use Rattle.cpa_model.specs.SystemLists.{SystemLists, source_at, no_source}
use Rattle.cpa_model.specs.Rules.{IsSource}
use Rattle.cpa_model.specs.Changes.{with_source, with_offset, at_offset}
use Rattle.cpa_model.specs.Clocks.{clock_name, names_clock, is_on_clock, is_clocked, has_clocks, first_on, clock_of, offset_on, offset_of, clock_periods, cycle_on, clock_cycle, ticking_of, kept_clocks, renewed, renewed_by, renewed_clocks, moved, moved_clocks, cycle_known, of_sources}
use Rattle.cpa_model.proofs.BuiltLaws.{map-same}
use Rattle.cpa_model.proofs.ClockLaws.{named-on, first-same, cycle-same, clock-own, clock-same, clock-past, no_clocks, periods-some, short-cycle}

abbrev places : SystemLists → List ℕ
places s = range_with_len 0 (length s.sources)

-- what is kept, where sources are on clocks and where none is
pub kept-some : (s : SystemLists) → has_clocks s ≡ true → kept_clocks s ≡ map (ticking_of s) (range_with_len 0 (length s.sources))
unfolding kept_clocks
kept-some s some = rw some refl

pub kept-none : (s : SystemLists) → has_clocks s ≡ false → kept_clocks s ≡ []
unfolding kept_clocks
kept-none s none = rw none refl

-- where a source is on no clock, nothing is known of it
pub ticking-none : (s : SystemLists) (k : ℕ) → clock_of s k ≡ None → ticking_of s k ≡ None
ticking-none s k e = rw e refl

-- what is kept at a place
pub kept-known : (s : SystemLists) (k : ℕ) → get_or (kept_clocks s) k None ≡ ticking_of s k
kept-known s k = elim (cases_Bool (has_clocks s)) [
  | inl some ↦ ap (λ ts. get_or ts k None) (kept-some s some) ∙ elim (cases_lt k (length s.sources)) [
    | inl less ↦ get_or-map-range_with_len (ticking_of s) 0 (length s.sources) k k None less (omega arith)
    | inr past ↦
        get_or_past (map (ticking_of s) (places s)) k None (rw (length-map-range_with_len (ticking_of s) 0 (length s.sources)) past)
        ∙ sym (ticking-none s k (clock-past s k past))
  ]
  | inr none ↦ ap (λ ts. get_or ts k None) (kept-none s none) ∙ sym (ticking-none s k (no_clocks s none k))
]

pub kept-long : (s : SystemLists) → has_clocks s ≡ true → length (kept_clocks s) ≡ length s.sources
kept-long s some = ap length (kept-some s some) ∙ length-map-range_with_len (ticking_of s) 0 (length s.sources)

-- a source that is on a clock is there
any-some : {X : Type 0} (p : X → Bool) (xs : List X) → list_any p xs ≡ true → 0 < length xs
any-some p [] h = absurd (false≢true h)
any-some p (x ∷ xs) h = omega arith

-- something is kept where some source is on a clock
pub kept-empty : (s : SystemLists) → length (kept_clocks s) ≡ 0 → has_clocks s ≡ false
kept-empty s empty = elim (cases_Bool (has_clocks s)) [
  | inl some ↦ absurd (let long = kept-long s some in let there = any-some is_clocked s.sources some in omega arith)
  | inr none ↦ none
]

pub kept-full : (s : SystemLists) → 0 < length (kept_clocks s) → has_clocks s ≡ true
kept-full s full = elim (cases_Bool (has_clocks s)) [
  | inl some ↦ some
  | inr none ↦ absurd (let e : length (kept_clocks s) ≡ 0 = ap length (kept-none s none) in omega arith)
]

-- only the sources matter
pub kept-sources : (s : SystemLists) → kept_clocks (of_sources s.sources) ≡ kept_clocks s
unfolding kept_clocks
kept-sources s = refl

-- ---- the cycle of a clock, source by source

periods-append : (name : List ℕ) (rs us : List Source) → clock_periods (of_sources (rs ++ us)) name ≡ clock_periods (of_sources rs) name ++ clock_periods (of_sources us) name
periods-append name rs us =
    ap (map (λ (r : Source). r.period)) (filter-append (is_on_clock name) rs us) ∙ map-append (λ (r : Source). r.period) (filter (is_on_clock name) rs) (filter (is_on_clock name) us)

-- the cycle of the first sources is in its range
pub cycle-first : (name : List ℕ) (rs : List Source) (k : ℕ) → All IsSource rs → is_too_long (clock_periods (of_sources rs) name) ≡ false → common_cycle (clock_periods (of_sources (take k rs)) name) ≤ MAX_PERIOD
cycle-first name rs k are short =
    let first = clock_periods (of_sources (take k rs)) name in
    let last = clock_periods (of_sources (drop k rs)) name in
    let whole : first ++ last ≡ clock_periods (of_sources rs) name = sym (periods-append name (take k rs) (drop k rs)) ∙ ap (λ us. clock_periods (of_sources us) name) (take-append-drop k rs) in
    let part = cycle-part first last (periods-some (of_sources (drop k rs)) (All-drop IsSource k rs are) name) in
    le_trans (rw whole at part) (short-cycle (clock_periods (of_sources rs) name) short)

-- a source more that is on the clock
pub cycle-joined : (name : List ℕ) (rs : List Source) (k : ℕ) (d : Source) → k < length rs → is_on_clock name (get_or rs k d) ≡ true
    → common_cycle (clock_periods (of_sources (take (k + 1) rs)) name) ≡ least_common_multiple (common_cycle (clock_periods (of_sources (take k rs)) name)) (get_or rs k d).period
cycle-joined name rs k d less on =
    let one : clock_periods (of_sources (get_or rs k d ∷ [])) name ≡ (get_or rs k d).period ∷ [] = rw on refl in
    ap (λ us. common_cycle (clock_periods (of_sources us) name)) (take_more rs k d less)
    ∙ ap common_cycle (periods-append name (take k rs) (get_or rs k d ∷ []) ∙ ap (λ ps. clock_periods (of_sources (take k rs)) name ++ ps) one)
    ∙ fold_push least_common_multiple 1 (clock_periods (of_sources (take k rs)) name) (get_or rs k d).period

-- and one that isn't
pub cycle-passed : (name : List ℕ) (rs : List Source) (k : ℕ) (d : Source) → k < length rs → is_on_clock name (get_or rs k d) ≡ false
    → common_cycle (clock_periods (of_sources (take (k + 1) rs)) name) ≡ common_cycle (clock_periods (of_sources (take k rs)) name)
cycle-passed name rs k d less off =
    let none : clock_periods (of_sources (get_or rs k d ∷ [])) name ≡ [] = rw off refl in
    ap (λ us. common_cycle (clock_periods (of_sources us) name)) (take_more rs k d less)
    ∙ ap common_cycle (periods-append name (take k rs) (get_or rs k d ∷ []) ∙ ap (λ ps. clock_periods (of_sources (take k rs)) name ++ ps) none ∙ append-nil (clock_periods (of_sources (take k rs)) name))

-- what is known of the first source on a clock has the clock's cycle
pub cycle-at_first : (s : SystemLists) (k c : ℕ) → clock_of s k ≡ Some c → cycle_known (ticking_of s c) ≡ clock_cycle s k
cycle-at_first s k c e = rw (clock-own s k c e) (sym (clock-same s k c e))

-- so that is where a source is on a clock
pub ticking-found : (s : SystemLists) (k c cycle : ℕ) (o : OnClock) → (source_at s k).on_clock ≡ Some o → first_on s (Some o) ≡ Some c → cycle ≡ clock_cycle s k
    → Some (record { clock = record { 0 = c }; cycle = cycle; offset = o.offset }) ≡ ticking_of s k
ticking-found s k c cycle o e at is =
    let here : clock_of s k ≡ Some c = ap (first_on s) e ∙ at in
    let offset : offset_of s k ≡ o.offset = ap offset_on e in
    rw (here, is, offset) refl

-- ---- a source is written over

-- what is made of those that pass stays, where the new one passes as the old one did and the same is made of it
filter-set : {X Y : Type 0} (f : X → Y) (p : X → Bool) (xs : List X) (k : ℕ) (y d : X) → p y ≡ p (get_or xs k d) → (p y ≡ true → f y ≡ f (get_or xs k d)) → map f (filter p (set xs k y)) ≡ map f (filter p xs)
filter-set f p [] k y d same made = refl
filter-set f p (x ∷ xs) zero y d same made = elim (cases_Bool (p y)) [
  | inl passes ↦ let old : p x ≡ true = sym same ∙ passes in rw (passes, old, made passes) refl
  | inr fails ↦ let old : p x ≡ false = sym same ∙ fails in rw (fails, old) refl
]
filter-set f p (x ∷ xs) (suc k) y d same made = elim (cases_Bool (p x)) [
  | inl passes ↦ rw passes (ap (λ zs. f x ∷ zs) (filter-set f p xs k y d same made))
  | inr fails ↦ rw fails (filter-set f p xs k y d same made)
]

any-set : {X : Type 0} (p : X → Bool) (xs : List X) (k : ℕ) (y d : X) → p y ≡ p (get_or xs k d) → list_any p (set xs k y) ≡ list_any p xs
any-set p [] k y d same = refl
any-set p (x ∷ xs) zero y d same = ap (λ b. b || list_any p xs) same
any-set p (x ∷ xs) (suc k) y d same = ap (λ b. p x || b) (any-set p xs k y d same)

-- whether a source is on a clock, by the name alone
abbrev is_named : List ℕ → Option (List ℕ) → Bool
is_named name None = false
is_named name (Some clock) = bytes_eq name clock

named-clock : (name : List ℕ) (on : Option OnClock) → names_clock name on ≡ is_named name (clock_name on)
named-clock name None = refl
named-clock name (Some o) = refl

on-same_name : (name : List ℕ) (on other : Option OnClock) → clock_name on ≡ clock_name other → names_clock name on ≡ names_clock name other
on-same_name name on other e = named-clock name on ∙ ap (is_named name) e ∙ sym (named-clock name other)

clocked-name : (on : Option OnClock) → is_some on ≡ is_some (clock_name on)
clocked-name None = refl
clocked-name (Some o) = refl

-- what is kept, made of what was kept before
kept-by : (s t : SystemLists) (f : Option Ticking → Option Ticking) → has_clocks t ≡ has_clocks s → length t.sources ≡ length s.sources → ((j : ℕ) → f (ticking_of s j) ≡ ticking_of t j) → map f (kept_clocks s) ≡ kept_clocks t
kept-by s t f clocks long each = elim (cases_Bool (has_clocks s)) [
  | inl some ↦
      ap (map f) (kept-some s some) ∙ map-map (ticking_of s) f (places s)
      ∙ map-same (λ j. f (ticking_of s j)) (ticking_of t) (places s) (λ i d less. each (get_or (places s) i d))
      ∙ ap (λ n. map (ticking_of t) (range_with_len 0 n)) (sym long) ∙ sym (kept-some t (clocks ∙ some))
  | inr none ↦ ap (map f) (kept-none s none) ∙ sym (kept-none t (clocks ∙ none))
]

-- another source at a place, of a clock of the same name
module _ (s : SystemLists) (k : ℕ) (r : Source) (named : clock_name r.on_clock ≡ clock_name (source_at s k).on_clock) where
  abbrev changed : SystemLists
  changed = record s { sources = set s.sources k r }

  set-past : length s.sources ≤ k → source_at changed k ≡ source_at s k
  set-past past = get_or_past (set s.sources k r) k no_source (rw (length-set s.sources k r) past) ∙ sym (get_or_past s.sources k no_source past)

  name-stays : (j : ℕ) → clock_name (source_at changed j).on_clock ≡ clock_name (source_at s j).on_clock
  name-stays j = elim (cases_eq j k) [
    | inl is ↦ elim (cases_lt k (length s.sources)) [
      | inl less ↦ rw is (ap (λ (u : Source). clock_name u.on_clock) (get_or-set_same s.sources k r no_source less) ∙ named)
      | inr past ↦ rw is (ap (λ (u : Source). clock_name u.on_clock) (set-past past))
    ]
    | inr other ↦ ap (λ (u : Source). clock_name u.on_clock) (get_or-set_other s.sources k j r no_source other)
  ]

  on-stays : (name : List ℕ) → is_on_clock name r ≡ is_on_clock name (source_at s k)
  on-stays name = on-same_name name r.on_clock (source_at s k).on_clock named

  first-stays : (on : Option OnClock) → first_on changed on ≡ first_on s on
  first-stays None = refl
  first-stays (Some o) = rw (position_or_len-set (is_on_clock o.clock) s.sources k r no_source (on-stays o.clock), length-set s.sources k r) refl

  -- sources stay on their clocks
  pub clock-stays : (j : ℕ) → clock_of changed j ≡ clock_of s j
  clock-stays j = first-stays (source_at changed j).on_clock ∙ first-same s (source_at changed j).on_clock (source_at s j).on_clock (name-stays j)

  pub clocks-stay : has_clocks changed ≡ has_clocks s
  clocks-stay =
      any-set is_clocked s.sources k r no_source
      (clocked-name r.on_clock ∙ ap is_some named ∙ sym (clocked-name (source_at s k).on_clock))

  -- the periods of a clock stay, unless the source is on it and has another period
  pub periods-stay : (name : List ℕ) → (is_on_clock name r ≡ true → r.period ≡ (source_at s k).period) → clock_periods changed name ≡ clock_periods s name
  periods-stay name same = filter-set (λ (u : Source). u.period) (is_on_clock name) s.sources k r no_source (on-stays name) same

-- a source with another period
module _ (s : SystemLists) (k : ℕ) (r : Source) (same : r.on_clock ≡ (source_at s k).on_clock) where
  abbrev named : clock_name r.on_clock ≡ clock_name (source_at s k).on_clock
  named = ap clock_name same

  on-kept : (j : ℕ) → (source_at (changed s k r named) j).on_clock ≡ (source_at s j).on_clock
  on-kept j = elim (cases_eq j k) [
    | inl is ↦ elim (cases_lt k (length s.sources)) [
      | inl less ↦ rw is (ap (λ (u : Source). u.on_clock) (get_or-set_same s.sources k r no_source less) ∙ same)
      | inr past ↦ rw is (ap (λ (u : Source). u.on_clock) (set-past s k r named past))
    ]
    | inr other ↦ ap (λ (u : Source). u.on_clock) (get_or-set_other s.sources k j r no_source other)
  ]

  -- the cycle of another clock stays
  cycle-kept_on : (on : Option OnClock) → first_on s on ≢ clock_of s k → cycle_on (changed s k r named) on ≡ cycle_on s on
  cycle-kept_on None other = refl
  cycle-kept_on (Some o) other =
      ap common_cycle
      (periods-stay s k r named o.clock
      (λ on. absurd (other (first-same s (Some o) (source_at s k).on_clock (sym (named-on o.clock r.on_clock on) ∙ named)))))

  cycle-kept : (j : ℕ) → clock_of s j ≢ clock_of s k → clock_cycle (changed s k r named) j ≡ clock_cycle s j
  cycle-kept j other = ap (cycle_on (changed s k r named)) (on-kept j) ∙ cycle-kept_on (source_at s j).on_clock other

  -- where the source is on no clock, all stays
  ticking-stays : clock_of s k ≡ None → (j : ℕ) → ticking_of s j ≡ ticking_of (changed s k r named) j
  ticking-stays none j = by (clock_of s j) refl
    where
      by : (o : Option ℕ) → clock_of s j ≡ o → ticking_of s j ≡ ticking_of (changed s k r named) j
      by None e = ticking-none s j e ∙ sym (ticking-none (changed s k r named) j (clock-stays s k r named j ∙ e))
      by (Some b) e =
          let cycle = cycle-kept j (λ is. none-some b (sym none ∙ sym is ∙ e)) in
          let offset = ap offset_on (on-kept j) in
          rw (clock-stays s k r named j, e, cycle, offset) refl

  -- where it is on one, all sources on it have its cycle
  ticking-renewed : (c : ℕ) → clock_of s k ≡ Some c → (j : ℕ) → renewed c (clock_cycle (changed s k r named) k) (ticking_of s j) ≡ ticking_of (changed s k r named) j
  ticking-renewed c at j = by (clock_of s j) refl
    where
      t : SystemLists
      t = changed s k r named

      by : (o : Option ℕ) → clock_of s j ≡ o → renewed c (clock_cycle (changed s k r named) k) (ticking_of s j) ≡ ticking_of (changed s k r named) j
      by None e = rw (e, clock-stays s k r named j) (rw e refl)
      by (Some b) e = elim (cases_eq b c) [
        | inl is ↦
            let here : clock_of (changed s k r named) j ≡ Some c = clock-stays s k r named j ∙ e ∙ ap Some is in
            let there : clock_of (changed s k r named) k ≡ Some c = clock-stays s k r named k ∙ at in
            let cycle : clock_cycle (changed s k r named) k ≡ clock_cycle (changed s k r named) j = clock-same (changed s k r named) k c there ∙ sym (clock-same (changed s k r named) j c here) in
            let offset : offset_of (changed s k r named) j ≡ offset_of s j = ap offset_on (on-kept j) in
            rw (here, e, is, eq-eqb c c refl, cycle, offset) refl
        | inr other ↦
            let cycle = cycle-kept j (λ is. other (same_Some b c (sym e ∙ is ∙ at))) in
            let offset : offset_of (changed s k r named) j ≡ offset_of s j = ap offset_on (on-kept j) in
            rw (clock-stays s k r named j, e, ne_eqb b c other, cycle, offset) refl
      ]

  -- so what is kept is brought up to date by that
  pub kept-renewed : renewed_clocks (changed s k r named) k (kept_clocks s) ≡ kept_clocks (changed s k r named)
  kept-renewed = ap (λ o. renewed_by o (clock_cycle (changed s k r named) k) (kept_clocks s)) (kept-known s k) ∙ by (clock_of s k) refl
    where
      by : (o : Option ℕ) → clock_of s k ≡ o → renewed_by (ticking_of s k) (clock_cycle (changed s k r named) k) (kept_clocks s) ≡ kept_clocks (changed s k r named)
      by None e =
          rw (ticking-none s k e)
          (sym (map_fixed (λ o. o) (kept_clocks s) (λ i d less. refl))
          ∙ kept-by s (changed s k r named) (λ o. o) (clocks-stay s k r named) (length-set s.sources k r) (ticking-stays e))
      by (Some c) e = rw e (kept-by s (changed s k r named) (renewed c (clock_cycle (changed s k r named) k)) (clocks-stay s k r named) (length-set s.sources k r) (ticking-renewed c e))

-- a source with another offset
pub moved-name : (offset : ℕ) (on : Option OnClock) → clock_name (at_offset offset on) ≡ clock_name on
moved-name offset None = refl
moved-name offset (Some o) = refl

moved-offset : (s : SystemLists) (offset c : ℕ) (on : Option OnClock) → first_on s on ≡ Some c → offset_on (at_offset offset on) ≡ offset
moved-offset s offset c None e = absurd (none-some c e)
moved-offset s offset c (Some o) e = refl

module _ (s : SystemLists) (k offset : ℕ) where
  abbrev moved_source : Source
  moved_source = record (source_at s k) { on_clock = at_offset offset (source_at s k).on_clock }

  abbrev moved_named : clock_name moved_source.on_clock ≡ clock_name (source_at s k).on_clock
  moved_named = moved-name offset (source_at s k).on_clock

  abbrev moved_system : SystemLists
  moved_system = changed s k moved_source moved_named

  cycle-moved_on : (on other : Option OnClock) → clock_name on ≡ clock_name other → cycle_on moved_system on ≡ cycle_on s other
  cycle-moved_on on other e = cycle-same moved_system on other e ∙ by other
    where
      by : (on : Option OnClock) → cycle_on moved_system on ≡ cycle_on s on
      by None = refl
      by (Some o) = ap common_cycle (periods-stay s k moved_source moved_named o.clock (λ on. refl))

  cycle-moved : (j : ℕ) → clock_cycle moved_system j ≡ clock_cycle s j
  cycle-moved j = cycle-moved_on (source_at moved_system j).on_clock (source_at s j).on_clock (name-stays s k moved_source moved_named j)

  -- the source itself
  ticking-moved : k < length s.sources → moved offset (ticking_of s k) ≡ ticking_of moved_system k
  ticking-moved less = by (clock_of s k) refl
    where
      by : (o : Option ℕ) → clock_of s k ≡ o → moved offset (ticking_of s k) ≡ ticking_of moved_system k
      by None e = rw (e, clock-stays s k moved_source moved_named k) (rw e refl)
      by (Some c) e =
          let own : offset_of moved_system k ≡ offset =
          ap (λ (u : Source). offset_on u.on_clock) (get_or-set_same s.sources k moved_source no_source less) ∙ moved-offset s offset c (source_at s k).on_clock e in
          rw (clock-stays s k moved_source moved_named k, e, cycle-moved k, own) refl

  -- and another
  ticking-other : (j : ℕ) → j ≢ k → ticking_of s j ≡ ticking_of moved_system j
  ticking-other j other =
      let offsets : offset_of moved_system j ≡ offset_of s j = ap (λ (u : Source). offset_on u.on_clock) (get_or-set_other s.sources k j moved_source no_source other) in
      rw (clock-stays s k moved_source moved_named j, cycle-moved j, offsets) refl

  pub kept-moved : k < length s.sources → moved_clocks k offset (kept_clocks s) ≡ kept_clocks moved_system
  kept-moved less = elim (cases_Bool (has_clocks s)) [
    | inl some ↦ with_clocks some
    | inr none ↦ rw (kept-none s none, kept-none moved_system (clocks-stay s k moved_source moved_named ∙ none)) refl
  ]
    where
      at_place : has_clocks s ≡ true → (i : ℕ) → get_or (moved_clocks k offset (kept_clocks s)) i None ≡ get_or (kept_clocks moved_system) i None
      at_place some i = elim (cases_eq i k) [
        | inl is ↦
            rw is
            (get_or-set_same (kept_clocks s) k (moved offset (get_or (kept_clocks s) k None)) None (omega (arith, kept-long s some))
            ∙ ap (moved offset) (kept-known s k) ∙ ticking-moved less ∙ sym (kept-known moved_system k))
        | inr other ↦
            get_or-set_other (kept_clocks s) k i (moved offset (get_or (kept_clocks s) k None)) None other
            ∙ kept-known s i ∙ ticking-other i other ∙ sym (kept-known moved_system i)
      ]

      with_clocks : has_clocks s ≡ true → moved_clocks k offset (kept_clocks s) ≡ kept_clocks moved_system
      with_clocks some =
          ext_get_or None (moved_clocks k offset (kept_clocks s)) (kept_clocks moved_system)
          (length-set (kept_clocks s) k (moved offset (get_or (kept_clocks s) k None))
          ∙ kept-long s some ∙ sym (kept-long moved_system (clocks-stay s k moved_source moved_named ∙ some) ∙ length-set s.sources k moved_source))
          (λ i within. at_place some i)
