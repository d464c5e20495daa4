-- That a clock leaves a lead exactly where events come by it.
use Rattle.std.proofs.Common.{◌≡◌, ◌∙◌, ◌↔◌, ℕ, zero, suc, ◌+◌, ◌-◌, ◌*◌, ◌/◌, ◌%◌, ◌<◌, ◌≤◌, max, not, Bool, true, false, List, [], ◌∷◌, length, get_or, Option, Some, None, option_map, refl, sym, ap, subst, arith}
use Rattle.std.proofs.Math.Nat.{mul-le-mul_left, le_trans, le-max_left, le-max_right}
use Rattle.std.proofs.lemmas.Nat.{div-add-mod', mod_below}
use Rattle.std.proofs.lemmas.Bool.{false≢true, and_parts, and_from}
use Rattle.std.specs.Option.{is_some}
use Rattle.std.proofs.lemmas.Option.{none-some}
use Rattle.cpa_model.specs.Clocks.{clock_of, clock_cycle}
use Rattle.cpa_model.specs.Rules.{IsSystem}
use Rattle.cpa_model.specs.SystemLists.{SystemLists, source_at, no_source}
use Rattle.cpa_model.proofs.ClockLaws.{clock-there, clock-of_source, clock-whole, clock-some, offset-less}
use Rattle.cpa_trace.specs.Trace.{TraceLists, times_of, time_of, KeepsClock}
use Rattle.cpa_trace.specs.Breaches.{first_below, first_some, fits_lead, is_clock, serves, leaves_lead, events_to, clock_breach_on, clock_breach}
use Rattle.cpa_trace.proofs.SearchLaws.{is_some-below, below-found, first_below-none, first_below-fails, first_some-none, first_some-fails}
use Rattle.cpa_trace.proofs.LeadLaws.{ComeBy, before_last, come, fits-come, fits-periods, fits-fewer}
use Rattle.cpa_trace.proofs.OffLaws.{serves_before, here-fits, misses-none, serves-split, serves-more, serves-other, is_clock-some, some-is_clock}
use Rattle.cpa_trace.specs.declared.breach.Breach.TheVariants.{Clock}
use Rattle.cpa_trace.specs.Offs.{HasEvents}

-- the most events of a source
abbrev most_events : List (List ℕ) → ℕ
most_events [] = 0
most_events (times ∷ more) = max (length times) (most_events more)

events-most : (lists : List (List ℕ)) (k : ℕ) → length (get_or lists k []) ≤ most_events lists
events-most [] k = omega arith
events-most (times ∷ more) zero = le-max_left (length times) (most_events more)
events-most (times ∷ more) (suc k) = le_trans (events-most more k) (le-max_right (length times) (most_events more))

module _ (s : SystemLists) (kept : IsSystem s) (tr : TraceLists) (c : ℕ) where
  -- all events of the sources on the clock come by it
  abbrev pub all_serve : ℕ → Bool
  all_serve = serves_before s tr c (length s.sources)

  some_period : (k : ℕ) → clock_of s k ≡ Some c → 0 < (source_at s k).period
  some_period k on = (kept.sources k no_source (clock-of_source s k c on)).some_period

  -- the cycle is so many periods
  periods : (k : ℕ) → clock_of s k ≡ Some c → clock_cycle s c ≡ clock_cycle s c / (source_at s k).period * (source_at s k).period
  periods k on = omega (arith, div-add-mod' (clock_cycle s c) (source_at s k).period, clock-whole s kept k c on)

  module _ (keeps : KeepsClock s tr c) where
    whole_fits : (k : ℕ) → clock_of s k ≡ Some c → fits_lead (source_at s k) (times_of tr k) keeps.lead (length (times_of tr k)) ≡ true
    whole_fits k on =
        fits-come (source_at s k) (times_of tr k) (some_period k on) (offset-less s kept k c on) keeps.lead (keeps.before k) (length (times_of tr k))
        (record { not_early = λ n h. keeps.not_early k n on h; not_late = λ n h. keeps.not_late k n on h })
        (length (times_of tr k)) (omega arith)

    rest_fits : (k : ℕ) → clock_of s k ≡ Some c → fits_lead (source_at s k) (times_of tr k) (keeps.lead % clock_cycle s c) (length (times_of tr k)) ≡ true
    rest_fits k on =
        let p = (source_at s k).period in
        let q = keeps.lead / clock_cycle s c * (clock_cycle s c / p) in
        let cycles = div-add-mod' keeps.lead (clock_cycle s c) in
        let rows : keeps.lead / clock_cycle s c * clock_cycle s c ≡ keeps.lead / clock_cycle s c * (clock_cycle s c / p) * p =
        ap (λ n. keeps.lead / clock_cycle s c * n) (periods k on) ∙ (omega arith) in
        let e : keeps.lead % clock_cycle s c + q * p ≡ keeps.lead = omega (arith, cycles, rows) in
        sym (fits-periods (source_at s k) (times_of tr k) (keeps.lead % clock_cycle s c) q (length (times_of tr k)))
        ∙ ap (λ lead. fits_lead (source_at s k) (times_of tr k) lead (length (times_of tr k))) e ∙ whole_fits k on

    pub keeps-serves : (lead : ℕ) × (lead < clock_cycle s c) × (all_serve lead ≡ true)
    keeps-serves =
        (keeps.lead % clock_cycle s c, mod_below keeps.lead (clock_cycle s c) (clock-some s c), misses-none s tr c (length s.sources) (keeps.lead % clock_cycle s c) (λ k h on. rest_fits k on))

  module _ (lead : ℕ) (all : all_serve lead ≡ true) where
    fits : (k : ℕ) → clock_of s k ≡ Some c → fits_lead (source_at s k) (times_of tr k) lead (length (times_of tr k)) ≡ true
    fits k on = here-fits s tr c (length s.sources) lead k (clock-of_source s k c on) on all

    -- so many cycles that events came before
    abbrev long : ℕ
    long = lead + most_events tr.times * clock_cycle s c

    abbrev before : ℕ → ℕ
    before k = before_last (source_at s k) (times_of tr k) long (length (times_of tr k) - 1)

    comes : (k n : ℕ) → clock_of s k ≡ Some c → length (times_of tr k) ≡ n → ComeBy (source_at s k) (times_of tr k) long (before k) n
    comes k zero on e = record { not_early = λ n h. absurd (omega arith); not_late = λ n h. absurd (omega arith) }
    comes k (suc last) on e =
        let p = (source_at s k).period in
        let q = most_events tr.times * (clock_cycle s c / p) in
        let few : suc last ≤ most_events tr.times = omega (arith, events-most tr.times k, e) in
        let one : 1 ≤ clock_cycle s c / p = by_cycles (clock_cycle s c / p) refl in
        let more : most_events tr.times * 1 ≤ q = mul-le-mul_left (most_events tr.times) one in
        let rows : most_events tr.times * clock_cycle s c ≡ q * p = ap (λ n. most_events tr.times * n) (periods k on) ∙ (omega arith) in
        let same : lead + q * p ≡ long = omega (arith, rows) in
        let end : last ≡ length (times_of tr k) - 1 = omega (arith, e) in
        let here = come (source_at s k) (times_of tr k) (some_period k on) (offset-less s kept k c on) lead q last (omega arith) (rw e at (fits k on)) in
        subst (λ l. ComeBy (source_at s k) (times_of tr k) long (before_last (source_at s k) (times_of tr k) long l) (suc last)) end
        (subst (λ l. ComeBy (source_at s k) (times_of tr k) l (before_last (source_at s k) (times_of tr k) l last) (suc last)) same here)
      where
        by_cycles : (n : ℕ) → clock_cycle s c / (source_at s k).period ≡ n → 1 ≤ n
        by_cycles zero none = absurd (omega (arith, periods k on, ap (λ m. m * (source_at s k).period) none, clock-some s c))
        by_cycles (suc n) none = omega arith

    pub serves-keeps : KeepsClock s tr c
    serves-keeps = record {
      lead = long;
      before = before;
      not_early = λ k n on h. (comes k (length (times_of tr k)) on refl).not_early n h;
      not_late = λ k n on h. (comes k (length (times_of tr k)) on refl).not_late n h;
    }

  none-map : {A B : Type 0} (f : A → B) (o : Option A) → option_map f o ≡ None → o ≡ None
  none-map f None e = refl
  none-map f (Some x) e = absurd (none-some (f x) (sym e))

  not-false : (b : Bool) → not b ≡ false → b ≡ true
  not-false true e = refl
  not-false false e = absurd (false≢true (sym e))

  abbrev Reached : ℕ → Type 0
  Reached k = (lead : ℕ) × (lead < clock_cycle s c) × (serves_before s tr c k lead ≡ true)

  module _ (none : first_some (clock_breach s tr) (length s.sources) ≡ None) where
    -- the source leaves one of the leads that those before it leave
    reached-more : (k n : ℕ) → k < length s.sources → clock_of s k ≡ Some c → length (times_of tr k) ≡ suc n → Reached (k + 1)
    reached-more k n there on e =
        let whole = first_some-fails (clock_breach s tr) (length s.sources) k none there in
        let here : first_below (λ m. not (leaves_lead s tr (events_to tr k (m + 1)) c)) (length (times_of tr k)) ≡ None = none-map _ _ (sym (ap (clock_breach_on s tr k) on) ∙ whole) in
        let one : n + 1 ≡ length (times_of tr k) = omega (arith, e) in
        let fails = first_below-fails (λ m. not (leaves_lead s tr (events_to tr k (m + 1)) c)) (length (times_of tr k)) here n (omega (arith, e)) in
        let left : leaves_lead s tr (events_to tr k (n + 1)) c ≡ true = not-false _ fails in
        let found = below-found (serves s tr (events_to tr k (n + 1)) c) (clock_cycle s c) left in
        let parts = and_parts _ _ (sym (serves-split s tr c k on there (n + 1) found.0) ∙ found.2) in
        (found.0, found.1, serves-more s tr c k on found.0 ∙ and_from _ _ parts.1 (subst (λ m. fits_lead (source_at s k) (times_of tr k) found.0 m ≡ true) one parts.0))

    reached : (k : ℕ) → k ≤ length s.sources → Reached k
    reached zero h = (0, clock-some s c, misses-none s tr c 0 0 (λ k less. absurd (omega arith)))
    reached (suc k) h =
        let before = reached k (omega arith) in
        let next : k + 1 ≡ suc k = omega arith in
        subst Reached next (by_clock (is_clock (clock_of s k) c) (length (times_of tr k)) refl refl before)
      where
        same : (HasEvents s tr c k → ⊥) → Reached k → Reached (k + 1)
        same other before = (before.0, before.1, serves-other s tr c k before.0 other ∙ before.2)

        by_clock : (b : Bool) (n : ℕ) → is_clock (clock_of s k) c ≡ b → length (times_of tr k) ≡ n → Reached k → Reached (k + 1)
        by_clock false n e l before = same (λ has. absurd (false≢true (sym e ∙ is_clock-some (clock_of s k) c has.on))) before
        by_clock true zero e l before = same (λ has. absurd (omega (arith, l, has.some))) before
        by_clock true (suc n) e l before = reached-more k n (omega arith) (some-is_clock (clock_of s k) c e) l

    pub keeps-clock : KeepsClock s tr c
    keeps-clock = let all = reached (length s.sources) (omega arith) in serves-keeps all.0 all.2

  -- and where events come by it, none doesn't
  pub keeps-breach : KeepsClock s tr c → (k : ℕ) → clock_of s k ≡ Some c → clock_breach s tr k ≡ None
  keeps-breach keeps k on =
      let there = clock-of_source s k c on in
      let one = keeps-serves keeps in
      ap (clock_breach_on s tr k) on
      ∙ ap (option_map (λ n. Clock (record { 0 = k }) (time_of tr k n)))
      (first_below-none (λ n. not (leaves_lead s tr (events_to tr k (n + 1)) c)) (length (times_of tr k))
      (λ n h.
      let fits = fits-fewer (source_at s k) (times_of tr k) one.0 (length (times_of tr k) - (n + 1)) (n + 1) (length (times_of tr k)) (omega arith) (fits one.0 one.2 k on) in
      let before = misses-none s tr c k one.0 (λ j less on'. here-fits s tr c (length s.sources) one.0 j (omega arith) on' one.2) in
      ap not (is_some-below (serves s tr (events_to tr k (n + 1)) c) (clock_cycle s c) one.0 one.1 (serves-split s tr c k on there (n + 1) one.0 ∙ and_from _ _ fits before))))

-- a trace keeps all clocks exactly where no source has an event that doesn't come by its clock
pub clocks-is : (s : SystemLists) → IsSystem s → (tr : TraceLists) → (first_some (clock_breach s tr) (length s.sources) ≡ None) ↔ ((c : ℕ) → c < length s.sources → KeepsClock s tr c)
clocks-is s kept tr = (
  λ none c h. keeps-clock s kept tr c none,
  λ keeps. first_some-none (clock_breach s tr) (length s.sources) (λ k h. ap is_some (by_clock keeps k (clock_of s k) refl)),
)
  where
    by_clock : ((c : ℕ) → c < length s.sources → KeepsClock s tr c) → (k : ℕ) (o : Option ℕ) → clock_of s k ≡ o → clock_breach s tr k ≡ None
    by_clock keeps k None e = ap (clock_breach_on s tr k) e
    by_clock keeps k (Some c) e = keeps-breach s kept tr c (keeps c (clock-there s k c e)) k e
