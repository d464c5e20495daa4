-- Clocks of a system. A clock is the sources that name it; it is told by the place of its first source.
use Rattle.std.specs.Prelude.{ℕ, ◌==◌, if◌then◌else◌, Bool, false, List, [], filter, map, length, position, slice_index_or, slice_set, Option, Some, None, is_some, option_map}
use Rattle.std.specs.List.{list_any, range_with_len}
use Rattle.std.specs.Str.{bytes_eq}
use Rattle.cpa_units.specs.declared.limits.Size.TheVariants.{Large}
use Rattle.cpa_draft.specs.Clocks.{common_cycle}
use Rattle.cpa_model.specs.declared.entries.OnClock.{OnClock}
use Rattle.cpa_model.specs.declared.entries.Source.{Source}
use Rattle.cpa_model.specs.declared.clocks.Ticking.{Ticking}
use Rattle.cpa_model.specs.SystemLists.{SystemLists, source_at}

-- the name of a clock, where there is one
abbrev pub clock_name : Option OnClock → Option (List ℕ)
clock_name on = option_map (λ (o : OnClock). o.clock) on

abbrev pub names_clock : List ℕ → Option OnClock → Bool
names_clock name None = false
names_clock name (Some o) = bytes_eq name o.clock

-- whether a source is on the clock of this name
abbrev pub is_on_clock : List ℕ → Source → Bool
is_on_clock name r = names_clock name r.on_clock

-- whether a source is on a clock at all
abbrev pub is_clocked : Source → Bool
is_clocked r = is_some r.on_clock

abbrev pub has_clocks : SystemLists → Bool
has_clocks s = list_any is_clocked s.sources

-- the place of the first source on a clock
abbrev pub first_on : SystemLists → Option OnClock → Option ℕ
first_on s None = None
first_on s (Some o) = position (is_on_clock o.clock) s.sources

-- the clock of a source
abbrev pub clock_of : SystemLists → ℕ → Option ℕ
clock_of s k = first_on s (source_at s k).on_clock

abbrev pub offset_on : Option OnClock → ℕ
offset_on None = 0
offset_on (Some o) = o.offset

-- how long after the start of its clock the first event of a source comes, where it isn't late
abbrev pub offset_of : SystemLists → ℕ → ℕ
offset_of s k = offset_on (source_at s k).on_clock

-- the periods of the sources on a clock
abbrev pub clock_periods : SystemLists → List ℕ → List ℕ
clock_periods s name = map (λ (r : Source). r.period) (filter (is_on_clock name) s.sources)

abbrev pub cycle_on : SystemLists → Option OnClock → ℕ
cycle_on s None = 1
cycle_on s (Some o) = common_cycle (clock_periods s o.clock)

-- the cycle of the clock of source c: the least common multiple of the periods of all sources on it
abbrev pub clock_cycle : SystemLists → ℕ → ℕ
clock_cycle s c = cycle_on s (source_at s c).on_clock

-- the clock of a source, its cycle, and the source's offset
abbrev pub ticking_of : SystemLists → ℕ → Option Ticking
ticking_of s k = option_map (λ c. record { clock = record { 0 = c }; cycle = clock_cycle s k; offset = offset_of s k }) (clock_of s k)

-- what stands in place of a system where its sources alone matter
abbrev pub of_sources : List Source → SystemLists
of_sources sources = record { size = Large; resources = []; sources = sources; tasks = []; paths = [] }

-- what a system keeps beside its lists: where each source is on a clock, and nothing where none is
unfoldable pub kept_clocks : SystemLists → List (Option Ticking)
kept_clocks s = if has_clocks s then map (ticking_of s) (range_with_len 0 (length s.sources)) else []

-- the cycle of what is known of a source
abbrev pub cycle_known : Option Ticking → ℕ
cycle_known None = 0
cycle_known (Some t) = t.cycle

-- the sources of a clock have this cycle
abbrev pub renewed : ℕ → ℕ → Option Ticking → Option Ticking
renewed clock cycle o = option_map (λ (t : Ticking). if t.clock.0 == clock then record t { cycle = cycle } else t) o

abbrev pub renewed_by : Option Ticking → ℕ → List (Option Ticking) → List (Option Ticking)
renewed_by None cycle kept = kept
renewed_by (Some t) cycle kept = map (renewed t.clock.0 cycle) kept

-- the clock of source k has its cycle
abbrev pub renewed_clocks : SystemLists → ℕ → List (Option Ticking) → List (Option Ticking)
renewed_clocks s k kept = renewed_by (slice_index_or kept k None) (clock_cycle s k) kept

-- source k has this offset
abbrev pub moved : ℕ → Option Ticking → Option Ticking
moved offset o = option_map (λ (t : Ticking). record t { offset = offset }) o

abbrev pub moved_clocks : ℕ → ℕ → List (Option Ticking) → List (Option Ticking)
moved_clocks k offset kept = slice_set kept k (moved offset (slice_index_or kept k None))
