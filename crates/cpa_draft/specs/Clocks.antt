-- Clocks: the sources that name one, and when its schedule repeats.
use Rattle.std.specs.Prelude.{◌≡◌, ◌<◌, ◌≤◌, All, ℕ, ◌+◌, ◌*◌, ◌/◌, ◌%◌, ◌&&◌, ◌||◌, ◌==◌, nat_lt, if◌then◌else◌, Bool, false, List, [], ◌∷◌, Option, Some, None, filter, map, fold, sum_by}
use Rattle.std.specs.Str.{bytes_eq}
use Rattle.cpa_units.specs.declared.limits.TheConstants.{MAX_PERIOD}
use Rattle.cpa_units.specs.Search.{least_from}
use Rattle.cpa_draft.specs.Numbers.{nat_of}
use Rattle.cpa_draft.specs.declared.clocks.TheConstants.{MAX_STARTS}
use Rattle.cpa_draft.specs.declared.clocks.Measure.{Measure}
use Rattle.cpa_draft.specs.declared.draft.DraftSource.{DraftSource}

-- the least common multiple of two numbers above 0
abbrev pub least_common_multiple : ℕ → ℕ → ℕ
least_common_multiple a b = least_from (λ k. (k % a == 0) && (k % b == 0)) 1 (a * b)

-- the cycle of a clock whose sources have these periods: after it, all of them come as before
abbrev pub common_cycle : List ℕ → ℕ
common_cycle periods = fold least_common_multiple 1 periods

-- how many events a cycle of that length has
abbrev pub starts_in : ℕ → List ℕ → ℕ
starts_in cycle periods = sum_by (λ period. cycle / period) periods

-- the cycle is too long to be looked at, or it has too many events
abbrev pub is_too_long : List ℕ → Bool
is_too_long periods = nat_lt MAX_PERIOD (common_cycle periods) || nat_lt MAX_STARTS (starts_in (common_cycle periods) periods)

-- whether a name that may be absent is this one
abbrev pub is_clock : List ℕ → Option (List ℕ) → Bool
is_clock name None = false
is_clock name (Some clock) = bytes_eq name clock

-- the periods of those of some sources that are on a clock
abbrev pub periods_on : List ℕ → List DraftSource → List ℕ
periods_on name sources = map (λ (r : DraftSource). nat_of r.period) (filter (λ (r : DraftSource). is_clock name r.clock) sources)

-- whether the clock of a source, with the sources up to it, is too long
abbrev pub is_overlong : Option (List ℕ) → List DraftSource → Bool
is_overlong None sources = false
is_overlong (Some name) sources = is_too_long (periods_on name sources)

-- when the schedule of periods repeats, and how many events it has until then
abbrev pub measure_of : List ℕ → Measure
measure_of periods = record { cycle = common_cycle periods; starts = starts_in (common_cycle periods) periods }

-- the same with one more period
abbrev pub joined : Measure → ℕ → Measure
joined m period =
    let cycle = least_common_multiple m.cycle period in
    record { cycle = cycle; starts = m.starts * (cycle / m.cycle) + cycle / period }

abbrev pub is_long : Measure → Bool
is_long m = nat_lt MAX_PERIOD m.cycle || nat_lt MAX_STARTS m.starts

pub record IsShort (m : Measure) : Type 0 where
  pub some : 0 < m.cycle
  pub cycle : m.cycle ≤ MAX_PERIOD
  pub starts : m.starts ≤ MAX_STARTS

-- the measures of some clocks, each with its name
abbrev pub Measures : Type 0
Measures = List (List ℕ × Measure)

-- the measure of a clock, also where no source of it was met
abbrev pub measured : Measures → List ℕ → Measure
measured [] name = record { cycle = 1; starts = 0 }
measured (m ∷ ms) name = if bytes_eq name m.0 then m.1 else measured ms name

-- the period of a source is in its range
abbrev pub IsTicking : DraftSource → Type 0
IsTicking r = (0 < nat_of r.period) × (nat_of r.period ≤ MAX_PERIOD)

-- the measures are those of some sources, and none is too long
pub record AreMeasured (sources : List DraftSource) (clocks : Measures) : Type 0 where
  pub periods : All IsTicking sources
  pub known : (name : List ℕ) → measured clocks name ≡ measure_of (periods_on name sources)
  pub short : (name : List ℕ) → IsShort (measured clocks name)
