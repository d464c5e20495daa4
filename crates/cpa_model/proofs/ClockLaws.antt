-- Clocks of a system: what its rules say of them.
use Rattle.std.proofs.Common.{◌≡◌, ℕ, zero, suc, ◌<◌, ◌≤◌, ◌%◌, Bool, true, false, List, [], ◌∷◌, length, map, slice_index_or, get_or, All, Option, Some, None, is_some, refl, sym, ap, ◌∙◌, inl, inr, arith, lit≤}
use Rattle.std.specs.Prelude.{filter, position}
use Rattle.std.specs.List.{list_any}
use Rattle.std.specs.Str.{bytes_eq}
use Rattle.std.proofs.lemmas.Bool.{cases_Bool, cases_lt, or_parts, ltb-false, true≢false, false≢true}
use Rattle.std.proofs.lemmas.List.{get_or_past, get_or-set_same, get_or-set_other}
use Rattle.std.proofs.lemmas.List.Elements.{All-filter}
use Rattle.std.proofs.lemmas.List.Quantifiers.{position-Some}
use Rattle.std.proofs.lemmas.Option.{none-some, same_Some}
use Rattle.std.proofs.lemmas.Slice.Eq.{bytes_eq-Decides}
use Rattle.std.proofs.Math.Nat.{le_trans}
use Rattle.cpa_units.specs.declared.limits.TheConstants.{MAX_PERIOD}
use Rattle.cpa_draft.specs.Clocks.{common_cycle, is_too_long}
use Rattle.cpa_draft.proofs.ClockLaws.{cycle-some, cycle-whole}
use Rattle.cpa_draft.proofs.ListLaws.{all-map, none-at}
use Rattle.cpa_model.specs.declared.entries.OnClock.{OnClock}
use Rattle.cpa_model.specs.declared.entries.Source.{Source}
use Rattle.cpa_model.specs.SystemLists.{SystemLists, source_at, no_source}
use Rattle.cpa_model.specs.Rules.{IsSystem, IsSource, HasShortClock}
use Rattle.cpa_model.specs.Clocks.{clock_name, names_clock, is_on_clock, is_clocked, has_clocks, first_on, clock_of, offset_on, offset_of, clock_periods, cycle_on, clock_cycle}

-- a source whose clock has this name
pub named-on : (name : List ℕ) (on : Option OnClock) → names_clock name on ≡ true → clock_name on ≡ Some name
named-on name None h = absurd (false≢true h)
named-on name (Some o) h = ap Some (sym ((bytes_eq-Decides name o.clock).0 h))

-- the first source and the cycle of a clock, by its name
abbrev first_named : SystemLists → Option (List ℕ) → Option ℕ
first_named s None = None
first_named s (Some name) = position (is_on_clock name) s.sources

abbrev cycle_named : SystemLists → Option (List ℕ) → ℕ
cycle_named s None = 1
cycle_named s (Some name) = common_cycle (clock_periods s name)

first-named : (s : SystemLists) (on : Option OnClock) → first_on s on ≡ first_named s (clock_name on)
first-named s None = refl
first-named s (Some o) = refl

cycle-named : (s : SystemLists) (on : Option OnClock) → cycle_on s on ≡ cycle_named s (clock_name on)
cycle-named s None = refl
cycle-named s (Some o) = refl

-- sources whose clocks have one name have one clock
pub first-same : (s : SystemLists) (on other : Option OnClock) → clock_name on ≡ clock_name other → first_on s on ≡ first_on s other
first-same s on other e = first-named s on ∙ ap (first_named s) e ∙ sym (first-named s other)

pub cycle-same : (s : SystemLists) (on other : Option OnClock) → clock_name on ≡ clock_name other → cycle_on s on ≡ cycle_on s other
cycle-same s on other e = cycle-named s on ∙ ap (cycle_named s) e ∙ sym (cycle-named s other)

-- the first source on a clock
record IsFirst (s : SystemLists) (on : Option OnClock) (c : ℕ) : Type 0 where
  pub there : c < length s.sources
  pub named : clock_name (source_at s c).on_clock ≡ clock_name on

first-is : (s : SystemLists) (on : Option OnClock) (c : ℕ) → first_on s on ≡ Some c → IsFirst s on c
first-is s None c e = absurd (none-some c e)
first-is s (Some o) c e =
    let p = position-Some (is_on_clock o.clock) s.sources c no_source e in
    record { there = p.0; named = named-on o.clock (source_at s c).on_clock p.1 }

pub clock-there : (s : SystemLists) (k c : ℕ) → clock_of s k ≡ Some c → c < length s.sources
clock-there s k c e = (first-is s (source_at s k).on_clock c e).there

-- the first source on a clock is on it
pub clock-named : (s : SystemLists) (k c : ℕ) → clock_of s k ≡ Some c → clock_name (source_at s c).on_clock ≡ clock_name (source_at s k).on_clock
clock-named s k c e = (first-is s (source_at s k).on_clock c e).named

pub clock-own : (s : SystemLists) (k c : ℕ) → clock_of s k ≡ Some c → clock_of s c ≡ Some c
clock-own s k c e = first-same s (source_at s c).on_clock (source_at s k).on_clock (clock-named s k c e) ∙ e

pub clock-same : (s : SystemLists) (k c : ℕ) → clock_of s k ≡ Some c → clock_cycle s k ≡ clock_cycle s c
clock-same s k c e = sym (cycle-same s (source_at s c).on_clock (source_at s k).on_clock (clock-named s k c e))

-- what stands past the sources is on no clock
pub clock-past : (s : SystemLists) (k : ℕ) → length s.sources ≤ k → clock_of s k ≡ None
clock-past s k past = ap (λ (r : Source). first_on s r.on_clock) (get_or_past s.sources k no_source past)

pub clock-of_source : (s : SystemLists) (k c : ℕ) → clock_of s k ≡ Some c → k < length s.sources
clock-of_source s k c e = elim (cases_lt k (length s.sources)) [
  | inl there ↦ there
  | inr past ↦ absurd (none-some c (sym (clock-past s k past) ∙ e))
]

-- where no source is on a clock
unclocked : (s : SystemLists) (on : Option OnClock) → is_some on ≡ false → first_on s on ≡ None
unclocked s None h = refl
unclocked s (Some o) h = absurd (true≢false h)

pub no_clocks : (s : SystemLists) → has_clocks s ≡ false → (k : ℕ) → clock_of s k ≡ None
no_clocks s none k = elim (cases_lt k (length s.sources)) [
  | inl there ↦ unclocked s (source_at s k).on_clock (none-at is_clocked s.sources k no_source none there)
  | inr past ↦ clock-past s k past
]

-- the periods of a clock's sources
pub periods-some : (s : SystemLists) → All IsSource s.sources → (name : List ℕ) → All (λ p. 0 < p) (clock_periods s name)
periods-some s sources name =
    all-map (λ p. 0 < p) (λ (r : Source). r.period) (filter (is_on_clock name) s.sources)
    (λ k r less. let is = All-filter (is_on_clock name) IsSource s.sources sources k r less in omega (arith, is.some_period))

-- what is so of the periods of a clock's sources is so of that of each
period-among : (P : ℕ → Type 0) (name : List ℕ) (rs : List Source) → All P (map (λ (r : Source). r.period) (filter (is_on_clock name) rs))
    → (k : ℕ) → k < length rs → is_on_clock name (slice_index_or rs k no_source) ≡ true → P (slice_index_or rs k no_source).period
period-among P name [] each k less on = absurd (omega arith)
period-among P name (r ∷ rs) each zero less on = (rw on at each) 0 0 (omega arith)
period-among P name (r ∷ rs) each (suc k) less on = elim (cases_Bool (is_on_clock name r)) [
  | inl here ↦ period-among P name rs (λ i d within. (rw here at each) (suc i) d (omega arith)) k (omega arith) on
  | inr there ↦ period-among P name rs (rw there at each) k (omega arith) on
]

clocked-some : (s : SystemLists) (on : Option OnClock) (c : ℕ) → first_on s on ≡ Some c → is_some on ≡ true
clocked-some s None c e = absurd (none-some c e)
clocked-some s (Some o) c e = refl

-- a cycle is a whole number of periods of each source on the clock
cycle-whole_on : (s : SystemLists) → All IsSource s.sources → (k : ℕ) (on : Option OnClock) → (source_at s k).on_clock ≡ on → is_some on ≡ true → k < length s.sources → cycle_on s on % (source_at s k).period ≡ 0
cycle-whole_on s sources k None e some less = absurd (false≢true some)
cycle-whole_on s sources k (Some o) e some less =
    let own : bytes_eq o.clock o.clock ≡ true = (bytes_eq-Decides o.clock o.clock).1 refl in
    let on : is_on_clock o.clock (source_at s k) ≡ true = ap (names_clock o.clock) e ∙ own in
    period-among (λ p. common_cycle (clock_periods s o.clock) % p ≡ 0) o.clock s.sources (cycle-whole (clock_periods s o.clock) (periods-some s sources o.clock)) k less on

pub clock-whole : (s : SystemLists) → IsSystem s → (k c : ℕ) → clock_of s k ≡ Some c → clock_cycle s c % (source_at s k).period ≡ 0
clock-whole s rules k c e =
    let whole : clock_cycle s k % (source_at s k).period ≡ 0 = cycle-whole_on s rules.sources k (source_at s k).on_clock refl (clocked-some s (source_at s k).on_clock c e) (clock-of_source s k c e) in
    rw (← clock-same s k c e) whole

-- a cycle is at least a tick
cycle-some_on : (s : SystemLists) (on : Option OnClock) → 0 < cycle_on s on
cycle-some_on s None = omega arith
cycle-some_on s (Some o) = cycle-some (clock_periods s o.clock)

pub clock-some : (s : SystemLists) (c : ℕ) → 0 < clock_cycle s c
clock-some s c = cycle-some_on s (source_at s c).on_clock

-- and in its range
pub short-cycle : (periods : List ℕ) → is_too_long periods ≡ false → common_cycle periods ≤ MAX_PERIOD
short-cycle periods h = ltb-false _ _ (or_parts _ _ h).0

cycle-short_on : (s : SystemLists) (k : ℕ) (on : Option OnClock) → (source_at s k).on_clock ≡ on → HasShortClock s (source_at s k) → cycle_on s on ≤ MAX_PERIOD
cycle-short_on s k None e short = lit≤ tt
cycle-short_on s k (Some o) e short = short-cycle (clock_periods s o.clock) (short o e)

cycle-past : (s : SystemLists) (k : ℕ) → length s.sources ≤ k → clock_cycle s k ≡ 1
cycle-past s k past = ap (λ (r : Source). cycle_on s r.on_clock) (get_or_past s.sources k no_source past)

pub clock-short : (s : SystemLists) → IsSystem s → (c : ℕ) → clock_cycle s c ≤ MAX_PERIOD
clock-short s rules c = elim (cases_lt c (length s.sources)) [
  | inl there ↦ cycle-short_on s c (source_at s c).on_clock refl (rules.clocks c no_source there)
  | inr past ↦ let one : clock_cycle s c ≡ 1 = cycle-past s c past in omega arith
]

-- an offset is below the period
offset-less_on : (s : SystemLists) (r : Source) (on : Option OnClock) → r.on_clock ≡ on → IsSource r → offset_on on < r.period
offset-less_on s r None e is = omega (arith, is.some_period)
offset-less_on s r (Some o) e is = is.offset o e

pub offset-less : (s : SystemLists) → IsSystem s → (k c : ℕ) → clock_of s k ≡ Some c → offset_of s k < (source_at s k).period
offset-less s rules k c e = offset-less_on s (source_at s k) (source_at s k).on_clock refl (rules.sources k no_source (clock-of_source s k c e))

offset-past : (s : SystemLists) (k : ℕ) → length s.sources ≤ k → offset_of s k ≡ 0
offset-past s k past = ap (λ (r : Source). offset_on r.on_clock) (get_or_past s.sources k no_source past)

pub offset-small : (s : SystemLists) → IsSystem s → (k : ℕ) → offset_of s k ≤ MAX_PERIOD
offset-small s rules k = elim (cases_lt k (length s.sources)) [
  | inl there ↦
      let is = rules.sources k no_source there in
      let less = offset-less_on s (source_at s k) (source_at s k).on_clock refl is in
      omega (arith, is.period)
  | inr past ↦ let none : offset_of s k ≡ 0 = offset-past s k past in omega arith
]
