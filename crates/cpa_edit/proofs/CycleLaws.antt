-- The cycle and the events of a clock, source by source, where one source has another period.
use Rattle.std.proofs.Common.{◌≡◌, ◌≢◌, ℕ, ◌+◌, ◌<◌, ◌≤◌, Bool, true, false, cond, List, [], ◌∷◌, ◌++◌, length, map, set, take, drop, get_or, All, Option, None, Some, refl, sym, ap, ◌∙◌, inl, inr, arith}
use Rattle.std.specs.Prelude.{filter, nat_lt}
use Rattle.std.proofs.lemmas.Bool.{cases_Bool, cases_eq, cases_lt, or_parts, ltb-false, le-ltb, true≢false, false≢true}
use Rattle.std.proofs.lemmas.List.{get_or-set_same, get_or-set_other, length-set, take_more, take_all, take-append-drop, map-append, append-nil}
use Rattle.std.proofs.lemmas.List.Elements.{All-set, All-filter, All-drop, All-take, filter-append}
use Rattle.std.proofs.lemmas.Option.{none-some, same_Some}
use Rattle.cpa_units.specs.declared.limits.TheConstants.{MAX_PERIOD}
use Rattle.cpa_draft.specs.declared.clocks.TheConstants.{MAX_STARTS}
use Rattle.cpa_draft.specs.Clocks.{is_too_long}
use Rattle.cpa_draft.proofs.ClockLaws.{multiple-some, measure-more, part-short}
use Rattle.cpa_draft.proofs.ListLaws.{all-map}
use Rattle.cpa_model.specs.declared.entries.Source.{Source}
use Rattle.cpa_model.specs.SystemLists.{SystemLists, source_at, no_source}
use Rattle.cpa_model.specs.Rules.{IsSystem}
use Rattle.cpa_model.specs.Changes.{with_source}
use Rattle.cpa_model.specs.Clocks.{is_on_clock, clock_periods, of_sources}
use Rattle.cpa_edit.specs.declared.clocks.Schedule.{Schedule}
use Rattle.cpa_edit.specs.Schedules.{schedule_of, joined, is_long, unless_long, IsShort}

-- the source itself has the period
pub period-own : (s : SystemLists) (k period jitter distance : ℕ) → k < length s.sources → (source_at (with_source s k period jitter distance) k).period ≡ period
unfolding with_source
period-own s k period jitter distance less =
    ap (λ (r : Source). r.period) (get_or-set_same s.sources k (record (source_at s k) { period = period; jitter = jitter; distance = distance }) no_source less)

-- and another has what it had
pub period-other : (s : SystemLists) (k period jitter distance j : ℕ) → j ≢ k → (source_at (with_source s k period jitter distance) j).period ≡ (source_at s j).period
unfolding with_source
period-other s k period jitter distance j other =
    ap (λ (r : Source). r.period) (get_or-set_other s.sources k j (record (source_at s k) { period = period; jitter = jitter; distance = distance }) no_source other)

-- each is on its clock
clock-stays : (s : SystemLists) (k period jitter distance j : ℕ) → k < length s.sources → (source_at (with_source s k period jitter distance) j).on_clock ≡ (source_at s j).on_clock
unfolding with_source
clock-stays s k period jitter distance j less = elim (cases_eq j k) [
  | inl is ↦ rw is (ap (λ (r : Source). r.on_clock) (get_or-set_same s.sources k (record (source_at s k) { period = period; jitter = jitter; distance = distance }) no_source less))
  | inr other ↦ ap (λ (r : Source). r.on_clock) (get_or-set_other s.sources k j (record (source_at s k) { period = period; jitter = jitter; distance = distance }) no_source other)
]

sources-count : (s : SystemLists) (k period jitter distance : ℕ) → length (with_source s k period jitter distance).sources ≡ length s.sources
unfolding with_source
sources-count s k period jitter distance = length-set s.sources k (record (source_at s k) { period = period; jitter = jitter; distance = distance })

abbrev HasPeriod : Source → Type 0
HasPeriod r = 0 < r.period

periods-some : (s : SystemLists) → IsSystem s → (k period jitter distance : ℕ) → 0 < period → All HasPeriod (with_source s k period jitter distance).sources
unfolding with_source
periods-some s rules k period jitter distance some =
    All-set HasPeriod s.sources k (record (source_at s k) { period = period; jitter = jitter; distance = distance }) some (λ j d less. let is = rules.sources j d less in omega (arith, is.some_period))

-- the periods of the sources on a clock
periods-above : (name : List ℕ) (rs : List Source) → All HasPeriod rs → All (λ p. 0 < p) (clock_periods (of_sources rs) name)
periods-above name rs each =
    all-map (λ p. 0 < p) (λ (r : Source). r.period) (filter (is_on_clock name) rs) (λ k r less. All-filter (is_on_clock name) HasPeriod rs each k r less)

periods-append : (name : List ℕ) (rs us : List Source) → clock_periods (of_sources (rs ++ us)) name ≡ clock_periods (of_sources rs) name ++ clock_periods (of_sources us) name
periods-append name rs us =
    ap (map (λ (r : Source). r.period)) (filter-append (is_on_clock name) rs us) ∙ map-append (λ (r : Source). r.period) (filter (is_on_clock name) rs) (filter (is_on_clock name) us)

periods-joined : (name : List ℕ) (rs : List Source) (k : ℕ) (d : Source) → k < length rs → is_on_clock name (get_or rs k d) ≡ true
    → clock_periods (of_sources (take (k + 1) rs)) name ≡ clock_periods (of_sources (take k rs)) name ++ (get_or rs k d).period ∷ []
periods-joined name rs k d less on =
    let one : clock_periods (of_sources (get_or rs k d ∷ [])) name ≡ (get_or rs k d).period ∷ [] = rw on refl in
    ap (λ us. clock_periods (of_sources us) name) (take_more rs k d less)
    ∙ periods-append name (take k rs) (get_or rs k d ∷ []) ∙ ap (λ ps. clock_periods (of_sources (take k rs)) name ++ ps) one

periods-passed : (name : List ℕ) (rs : List Source) (k : ℕ) (d : Source) → k < length rs → is_on_clock name (get_or rs k d) ≡ false
    → clock_periods (of_sources (take (k + 1) rs)) name ≡ clock_periods (of_sources (take k rs)) name
periods-passed name rs k d less off =
    let none : clock_periods (of_sources (get_or rs k d ∷ [])) name ≡ [] = rw off refl in
    ap (λ us. clock_periods (of_sources us) name) (take_more rs k d less)
    ∙ periods-append name (take k rs) (get_or rs k d ∷ []) ∙ ap (λ ps. clock_periods (of_sources (take k rs)) name ++ ps) none ∙ append-nil (clock_periods (of_sources (take k rs)) name)

-- what is too long with the first sources is so with all
long-part : (name : List ℕ) (rs : List Source) (n : ℕ) → All HasPeriod rs → is_too_long (clock_periods (of_sources (take n rs)) name) ≡ true → is_too_long (clock_periods (of_sources rs) name) ≡ true
long-part name rs n each long = elim (cases_Bool (is_too_long (clock_periods (of_sources rs) name))) [
  | inl already ↦ already
  | inr shorter ↦
      let first = clock_periods (of_sources (take n rs)) name in
      let last = clock_periods (of_sources (drop n rs)) name in
      let whole : first ++ last ≡ clock_periods (of_sources rs) name = sym (periods-append name (take n rs) (drop n rs)) ∙ ap (λ us. clock_periods (of_sources us) name) (take-append-drop n rs) in
      let short : is_too_long first ≡ false =
      part-short first last (periods-above name (take n rs) (All-take HasPeriod n rs each)) (periods-above name (drop n rs) (All-drop HasPeriod n rs each)) (ap is_too_long whole ∙ shorter) in
      absurd (true≢false (sym long ∙ short))
]

-- schedules

short-from : (s : Schedule) → 0 < s.cycle → is_long s ≡ false → IsShort s
short-from s some h =
    let both = or_parts (nat_lt MAX_PERIOD s.cycle) (nat_lt MAX_STARTS s.starts) h in
    record { some = some; cycle = ltb-false MAX_PERIOD s.cycle both.0; starts = ltb-false MAX_STARTS s.starts both.1 }

not-long : (s : Schedule) → IsShort s → is_long s ≡ false
not-long s short = rw (le-ltb MAX_PERIOD s.cycle short.cycle, le-ltb MAX_STARTS s.starts short.starts) refl

unless-none : (long : Bool) (s : Schedule) → cond long None (Some s) ≡ None → long ≡ true
unless-none true s e = refl
unless-none false s e = absurd (none-some s (sym e))

record HasJoined (long : Bool) (s next : Schedule) : Type 0 where
  pub short : long ≡ false
  pub is : next ≡ s

unless-some : (long : Bool) (s next : Schedule) → cond long None (Some s) ≡ Some next → HasJoined long s next
unless-some true s next e = absurd (none-some next e)
unless-some false s next e = record { short = refl; is = sym (same_Some s next e) }

schedule-more : (ps : List ℕ) (p : ℕ) → All (λ q. 0 < q) ps → 0 < p → schedule_of (ps ++ p ∷ []) ≡ joined (schedule_of ps) p
schedule-more ps p each some =
    let more = measure-more ps p each some in
    ap (λ m. let s : Schedule = record { cycle = m.cycle; starts = m.starts } in s) more

-- the schedule of the first sources
pub record HasMet (s : SystemLists) (k period : ℕ) (name : List ℕ) (n : ℕ) (m : Schedule) : Type 0 where
  pub short : IsShort m
  pub is : (jitter distance : ℕ) → m ≡ schedule_of (clock_periods (of_sources (take n (with_source s k period jitter distance).sources)) name)

pub met-none : (s : SystemLists) (k period : ℕ) (name : List ℕ) → HasMet s k period name 0 (record { cycle = 1; starts = 0 })
met-none s k period name = record { short = record { some = omega arith; cycle = omega arith; starts = omega arith }; is = λ jitter distance. refl }

module _ (s : SystemLists) (rules : IsSystem s) (k period : ℕ) (name : List ℕ) (n : ℕ) (m : Schedule) (there : k < length s.sources) (some : 0 < period) (are : HasMet s k period name n m) where
  on-same : (jitter distance : ℕ) → is_on_clock name (source_at (with_source s k period jitter distance) n) ≡ is_on_clock name (source_at s n)
  on-same jitter distance = on-as (source_at (with_source s k period jitter distance) n) (source_at s n) (clock-stays s k period jitter distance n there)
    where
      on-as : (r u : Source) → r.on_clock ≡ u.on_clock → is_on_clock name r ≡ is_on_clock name u
      on-as r u e = rw e refl

  pub met-passed : n < length s.sources → is_on_clock name (source_at s n) ≡ false → HasMet s k period name (n + 1) m
  met-passed less off = record {
    short = are.short;
    is = λ jitter distance.
        are.is jitter distance
        ∙ ap schedule_of
        (sym (periods-passed name (with_source s k period jitter distance).sources n no_source (rw (sources-count s k period jitter distance) less) (on-same jitter distance ∙ off)));
  }

  module _ (own : ℕ) (is_own : (jitter distance : ℕ) → own ≡ (source_at (with_source s k period jitter distance) n).period) (less : n < length s.sources) (on : is_on_clock name (source_at s n) ≡ true) where
    joined-is : (jitter distance : ℕ) → joined m own ≡ schedule_of (clock_periods (of_sources (take (n + 1) (with_source s k period jitter distance).sources)) name)
    joined-is jitter distance =
        let rs = (with_source s k period jitter distance).sources in
        let each = periods-some s rules k period jitter distance some in
        let within : n < length (with_source s k period jitter distance).sources = rw (sources-count s k period jitter distance) less in
        let above : 0 < own = rw (is_own jitter distance) (each n no_source within) in
        ap (λ (u : Schedule). joined u own) (are.is jitter distance)
        ∙ sym (schedule-more (clock_periods (of_sources (take n rs)) name) own (periods-above name (take n rs) (All-take HasPeriod n rs each)) above)
        ∙ ap (λ p. schedule_of (clock_periods (of_sources (take n rs)) name ++ p ∷ [])) (is_own jitter distance)
        ∙ ap schedule_of (sym (periods-joined name rs n no_source within (on-same jitter distance ∙ on)))

    -- one more source, with which the clock isn't too long
    pub met-joined : (next : Schedule) → unless_long (joined m own) ≡ Some next → HasMet s k period name (n + 1) next
    met-joined next e =
        let has = unless-some (is_long (joined m own)) (joined m own) next e in
        rw (has.is) (record { short = short-from (joined m own) (multiple-some m.cycle own) has.short; is = joined-is })

    -- and one with which it is
    pub met-long : unless_long (joined m own) ≡ None → (jitter distance : ℕ) → true ≡ is_too_long (clock_periods (with_source s k period jitter distance) name)
    met-long e jitter distance =
        let long : is_long (joined m own) ≡ true = unless-none (is_long (joined m own)) (joined m own) e in
        sym (long-part name (with_source s k period jitter distance).sources (n + 1) (periods-some s rules k period jitter distance some) (sym (ap is_long (joined-is jitter distance)) ∙ long))

  -- all sources
  pub met-all : length s.sources ≤ n → (jitter distance : ℕ) → false ≡ is_too_long (clock_periods (with_source s k period jitter distance) name)
  met-all end jitter distance =
      sym (not-long m are.short) ∙ ap is_long (are.is jitter distance)
      ∙ ap (λ us. is_too_long (clock_periods (of_sources us) name)) (take_all n (with_source s k period jitter distance).sources (rw (sources-count s k period jitter distance) end))
