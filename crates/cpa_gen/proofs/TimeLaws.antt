-- The times of generated traces.
use Rattle.std.proofs.Common.{◌≡◌, ◌<◌, ◌≤◌, ℕ, zero, suc, ◌+◌, ◌*◌, ◌-◌, ◌/◌, min, nat_le, ◌==◌, if◌then◌else◌, Bool, true, false, Option, Some, None, refl, ap, ◌∙◌, arith, rules}
use Rattle.std.proofs.Math.Nat.{div-mul-le_self, min-le_left, mod-lt}
use Rattle.std.specs.Option.{ForSome}
use Rattle.std.proofs.lemmas.Bool.{leb-true, leb-false}
use Rattle.std.proofs.lemmas.Nat.{le-div, mul-le}
use Rattle.cpa_units.specs.declared.limits.TheConstants.{MAX_TRACE_TIME}
use Rattle.cpa_model.specs.declared.entries.Source.{Source}
use Rattle.cpa_model.specs.declared.entries.OnClock.{OnClock}
use Rattle.cpa_model.specs.Clocks.{offset_on}
use Rattle.cpa_model.specs.Rules.{IsSource}
use Rattle.rand_pcg.specs.Lcg.{Lcg}
use Rattle.cpa_gen.specs.Laws.{EventsAreInTime}
use Rattle.cpa_gen.specs.Draws.{after_draws, draw, output}
use Rattle.cpa_gen.specs.MadeTraces.{begin_made, earliest, events_made, late_by, late_drawn, late_first, time_made}
use Rattle.cpa_gen.specs.declared.traces.Lateness.{Lateness}
use Rattle.cpa_gen.specs.declared.traces.Lateness.TheVariants.{First, Until}
use Rattle.cpa_gen.proofs.DrawLaws.{draw_later}

-- no event is later after its period's begin than the jitter
abbrev pub IsLate : Source → (ℕ → ℕ) → Type 0
IsLate r late = (m : ℕ) → late m ≤ r.jitter

pub late_first-within : (r : Source) → IsLate r (late_first r)
late_first-within r m = by_place (m == 0)
  where
    by_place : (b : Bool) → (if b then r.jitter else 0) ≤ r.jitter
    by_place true = omega arith
    by_place false = omega arith

pub late_by-within : (late : Lateness) (r : Source) → IsLate r (late_by late r)
late_by-within First r m = late_first-within r m
late_by-within (Until moment) r m = min-le_left r.jitter (moment - begin_made r m)

pub late_drawn-within : (g : Lcg) (k : ℕ) (r : Source) → IsLate r (late_drawn g k r)
late_drawn-within g k r m = let below : draw g (k + m) (r.jitter + 1) < r.jitter + 1 = mod-lt (output g (k + m)) (omega arith) in omega (arith, below)

-- the latest time of the first event
abbrev first_end : Source → ℕ
first_end r = offset_on r.on_clock + r.jitter

-- an offset is below the period
pub offset-early : (r : Source) → IsSource r → offset_on r.on_clock < r.period
offset-early r kept = by_clock r.on_clock kept.offset
  where
    by_clock : (on : Option OnClock) → ForSome on (λ o. o.offset < r.period) → offset_on on < r.period
    by_clock None h = kept.some_period
    by_clock (Some o) h = h o refl

one_more : (m p : ℕ) → suc m * p ≡ m * p + p
one_more m p = omega arith

module _ (r : Source) (rules : IsSource r) (late : ℕ → ℕ) (within : IsLate r late) where
  pub earliest-within : (m : ℕ) → earliest r late m ≤ begin_made r m + r.jitter
  earliest-within zero = omega arith
  earliest-within (suc m) = omega (arith, earliest-within m, within m, rules.distance, one_more m r.period)

  pub time-within : (m : ℕ) → time_made r late m ≤ begin_made r m + r.jitter
  time-within m = omega (arith, earliest-within m, within m)

  pub time-from : (m : ℕ) → begin_made r m ≤ time_made r late m
  time-from m = omega arith

pub in_time : (most : ℕ) (r : Source) → IsSource r → (m : ℕ) → m < events_made most r → begin_made r m + r.jitter ≤ MAX_TRACE_TIME
in_time most r kept m l = by_jitter (nat_le (first_end r) MAX_TRACE_TIME) refl l
  where
    by_jitter : (b : Bool) → nat_le (first_end r) MAX_TRACE_TIME ≡ b → m < (if b then min most ((MAX_TRACE_TIME - first_end r) / r.period + 1) else 0) → begin_made r m + r.jitter ≤ MAX_TRACE_TIME
    by_jitter true e l =
        let few : m ≤ (MAX_TRACE_TIME - first_end r) / r.period = omega (arith, l) in
        let first : first_end r ≤ MAX_TRACE_TIME = leb-true _ _ e in
        omega (arith, div-mul-le_self (MAX_TRACE_TIME - first_end r) r.period, mul-le m r.period ((MAX_TRACE_TIME - first_end r) / r.period) r.period few (omega arith), first)
    by_jitter false e l = absurd (omega (arith, l))

pub few_made : (most : ℕ) (r : Source) → events_made most r ≤ most
few_made most r = by_jitter (nat_le (first_end r) MAX_TRACE_TIME)
  where
    by_jitter : (b : Bool) → (if b then min most ((MAX_TRACE_TIME - first_end r) / r.period + 1) else 0) ≤ most
    by_jitter true = omega arith
    by_jitter false = omega arith

counted : (most : ℕ) (r : Source) → IsSource r → (m : ℕ) → m < most → begin_made r m + r.jitter ≤ MAX_TRACE_TIME → m < events_made most r
counted most r kept m few l = by_jitter (nat_le (first_end r) MAX_TRACE_TIME) refl
  where
    by_jitter : (b : Bool) → nat_le (first_end r) MAX_TRACE_TIME ≡ b → m < (if b then min most ((MAX_TRACE_TIME - first_end r) / r.period + 1) else 0)
    by_jitter true e =
        let less : m ≤ (MAX_TRACE_TIME - first_end r) / r.period = le-div m (MAX_TRACE_TIME - first_end r) r.period (omega (arith, kept.some_period)) (omega (arith, l)) in
        omega (arith, less, few)
    by_jitter false e =
        let late : MAX_TRACE_TIME < first_end r = leb-false _ _ e in
        absurd (omega (arith, l, late))

pub events_in_time : EventsAreInTime
events_in_time most r kept m = (λ l. (omega (arith, l, few_made most r), in_time most r kept m l), λ h. counted most r kept m h.0 h.1)

-- the next draw of a generator that has given k outputs
pub draw_at : (g h : Lcg) (k n : ℕ) → h ≡ after_draws g k → draw h 0 n ≡ draw g (0 + k) n
draw_at g h k n e = let z : k ≡ 0 + k = omega arith in draw_later g h k n e ∙ ap (λ j. draw g j n) z

-- no time of these events passes 64 bits
pub time_fits : (r : Source) → IsSource r → (m e : ℕ) → m < 100 → e ≤ begin_made r m + r.jitter → e ≤ 102000000000
time_fits r kept m e l f = omega (arith, f, mul-le m r.period 100 1000000000 (omega (arith, l)) kept.period, kept.period, kept.jitter, offset-early r kept)

pub earliest-more : (r : Source) (late : ℕ → ℕ) (m : ℕ) → time_made r late m + r.distance ≡ earliest r late (m + 1)
earliest-more r late m = let e : suc m ≡ m + 1 = omega arith in ap (earliest r late) e
