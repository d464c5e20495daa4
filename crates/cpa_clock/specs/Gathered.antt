-- Rivals that are gathered by clocks, for the analysis of one task.
use Rattle.std.specs.Prelude.{ℕ, ◌≡◌, ◌+◌, ◌*◌, ◌<◌, ◌≤◌, ◌%◌, ◌==◌, ◌++◌, if◌then◌else◌, Option, Some, None, option_map, List, [], ◌∷◌, length, map, take, All, slice_get, slice_index_or}
use Rattle.std.specs.List.{AllZip}
use Rattle.std.specs.Option.{ForSome}
use Rattle.cpa_units.specs.declared.limits.TheConstants.{MAX_PERIOD, MAX_SOURCES, MAX_TASKS}
use Rattle.cpa_events.specs.declared.stream.Stream.{Stream}
use Rattle.cpa_events.specs.declared.TheConstants.{MAX_STREAMS}
use Rattle.cpa_events.specs.Events.{Model, IsModelInRange}
use Rattle.cpa_window.specs.declared.rivals.Rival.{Rival}
use Rattle.cpa_window.specs.Rivals.{work_in, IsRival}
use Rattle.cpa_phase.specs.declared.placed.TheConstants.{MAX_OFFSET}
use Rattle.cpa_phase.specs.declared.placed.Placed.{Placed}
use Rattle.cpa_phase.specs.declared.clock.Clock.{Clock}
use Rattle.cpa_phase.specs.Streams.{IsPlacedOn}
use Rattle.cpa_clock.specs.declared.anchor.Anchor.{Anchor}
use Rattle.cpa_clock.specs.declared.clock_lists.ClockLists.{ClockLists}
use Rattle.cpa_clock.specs.declared.gathered.Gathered.{Gathered}
use Rattle.cpa_clock.specs.Anchors.{Anchors}
use Rattle.cpa_clock.specs.Clocked.{only_anchor}
use Rattle.cpa_clock.specs.Rivals.{ClockedRival, streams_on, free_rival, free_of}

-- anchors by the places of streams
abbrev pub anchors_at : List (Option Anchor) → Anchors
anchors_at anchors q = slice_index_or anchors q None

-- the cycles of clocks by their numbers, 1 where there is none
abbrev pub cycles_at : List ℕ → ℕ → ℕ
cycles_at cycles c = slice_index_or cycles c 1

-- cycles with which the analysis can compute
pub record AreCycles (cycles : List ℕ) : Type 0 where
  pub few : length cycles ≤ MAX_SOURCES
  pub some : All (λ c. 0 < c) cycles
  pub short : All (λ c. c ≤ MAX_PERIOD) cycles

-- a stream is on one of the clocks, and comes the same way in each of its cycles
pub record IsAnchoredAt (cycles : List ℕ) (a : Anchor) (m : Stream) : Type 0 where
  pub there : a.clock < length cycles
  pub offset : a.offset ≤ MAX_OFFSET
  pub whole : cycles_at cycles a.clock % m.period ≡ 0

-- the same of one that may be on none
abbrev pub IsAnchored : List ℕ → Option Anchor → Stream → Type 0
IsAnchored cycles anchor m = ForSome anchor (λ a. IsAnchoredAt cycles a m)

-- an input whose streams are on the clocks that these anchors say; nothing is said of an unbounded one
abbrev pub IsInputOn : List ℕ → List (Option Anchor) → Option Model → Type 0
IsInputOn cycles anchors input = ForSome input (λ m. IsModelInRange m × AllZip (IsAnchored cycles) anchors m)

-- the clock of a task that comes by one stream on it
abbrev pub own_clock : Model → Anchors → Option ℕ
own_clock own anchors = option_map (λ (a : Anchor). a.clock) (only_anchor own anchors)

-- a rival as it is added
abbrev pub added_rival : Option Model → List (Option Anchor) → ℕ → ClockedRival
added_rival input anchors worst = record { model = input; anchors = anchors_at anchors; worst = worst }

-- ---- lists of streams by the numbers of their clocks, as they are kept

-- the number of the clock at a place, its cycle and its streams
abbrev pub number_at : ClockLists → ℕ → ℕ
number_at l k = slice_index_or l.numbers.items k 0

abbrev pub cycle_at : List Clock → ℕ → ℕ
cycle_at clocks k = slice_index_or (map (λ (c : Clock). c.cycle) clocks) k 1

abbrev pub streams_at : List Clock → ℕ → List Placed
streams_at clocks k = slice_index_or (map (λ (c : Clock). c.streams.items) clocks) k []

-- a place at which there is a clock, and that of this one, which may have none
abbrev pub IsPlace : ClockLists → ℕ → Type 0
IsPlace l k = k < length l.numbers.items

abbrev pub IsPlaceOf : ClockLists → ℕ → ℕ → Type 0
IsPlaceOf l c k = IsPlace l k × (number_at l k ≡ c)

abbrev pub HasNoPlace : ClockLists → ℕ → Type 0
HasNoPlace l c = (k : ℕ) → IsPlaceOf l c k → ⊥

-- a clock has this cycle
abbrev pub IsClockOf : List ℕ → ℕ → ℕ → Type 0
IsClockOf cycles c cycle = (c < length cycles) × (cycle ≡ cycles_at cycles c)

-- each clock that occurs has a list
abbrev pub HasLists : ClockLists → Type 0
HasLists l = length l.numbers.items ≤ length l.clocks.items

-- the clocks that occur
abbrev pub clocks_in : ClockLists → List Clock
clocks_in l = take (length l.numbers.items) l.clocks.items

-- these are the lists, by the numbers of their clocks, of streams on those clocks
pub record AreLists (cycles : List ℕ) (lists : ℕ → List Placed) (l : ClockLists) : Type 0 where
  pub long : HasLists l
  pub there : (k : ℕ) → IsPlace l k → number_at l k < length cycles
  pub once : (k : ℕ) → IsPlace l k → slice_get l.places.items (number_at l k) ≡ Some k
  pub cycle : (k : ℕ) → IsPlace l k → cycle_at l.clocks.items k ≡ cycles_at cycles (number_at l k)
  pub streams : (k : ℕ) → IsPlace l k → streams_at l.clocks.items k ≡ lists (number_at l k)
  pub none : (c : ℕ) → HasNoPlace l c → lists c ≡ []

-- a list that has just begun, and lists before it that stay
abbrev pub IsEmptyAt : List Clock → ℕ → ℕ → Type 0
IsEmptyAt clocks k cycle = (cycle_at clocks k ≡ cycle) × (streams_at clocks k ≡ [])

abbrev pub AreSameBefore : ℕ → List Clock → List Clock → Type 0
AreSameBefore place old new = (k : ℕ) → k < place → (cycle_at new k ≡ cycle_at old k) × (streams_at new k ≡ streams_at old k)

-- a list that got a stream more, and others that stay
pub record HasMoreAt (place : ℕ) (stream : Placed) (old new : List Clock) : Type 0 where
  pub long : length new ≡ length old
  pub cycles : (k : ℕ) → k < length old → cycle_at new k ≡ cycle_at old k
  pub here : streams_at new place ≡ streams_at old place ++ stream ∷ []
  pub elsewhere : (k : ℕ) → (k ≡ place → ⊥) → streams_at new k ≡ streams_at old k

-- a place was noted at a number, and what stood at others stays
pub record IsNoted (old new : List ℕ) (number place : ℕ) : Type 0 where
  pub there : slice_get new number ≡ Some place
  pub others : (c k : ℕ) → (c ≡ number → ⊥) → slice_get old c ≡ Some k → slice_get new c ≡ Some k

-- one stream more at the end of a clock's list
abbrev pub more_at : ℕ → Placed → (ℕ → List Placed) → ℕ → List Placed
more_at number stream lists c = if number == c then lists c ++ stream ∷ [] else lists c

-- no list has more than so many streams, and each stream is on the list's clock
pub record AreListsOn (cycles : List ℕ) (most : ℕ) (lists : ℕ → List Placed) : Type 0 where
  pub few : (c : ℕ) → length (lists c) ≤ most
  pub each : (c : ℕ) → All (IsPlacedOn (cycles_at cycles c)) (lists c)

-- ---- rivals

-- of lists by clock that of the task's own, and those of others
abbrev pub joint_among : Option ℕ → (ℕ → List Placed) → List Placed
joint_among None lists = []
joint_among (Some own) lists = lists own

abbrev pub unless_own : Option ℕ → (ℕ → List Placed) → ℕ → List Placed
unless_own None lists c = lists c
unless_own (Some own) lists c = if own == c then [] else lists c

-- these lists are gathered, for a task whose one stream is on this clock, or on none
pub record HasStreams (own : Option ℕ) (cycles : List ℕ) (lists : ℕ → List Placed) (g : Gathered) : Type 0 where
  pub clock : g.own ≡ own
  pub joint : g.joint.items ≡ joint_among own lists
  pub others : AreLists cycles (unless_own own lists) g.others

-- the streams of an input that are on no clock, whose places go on from `first`
abbrev pub or_on_clock : Option Anchor → Stream → Model → Model
or_on_clock None m others = m ∷ others
or_on_clock (Some a) m others = others

abbrev pub free_streams : Anchors → ℕ → Model → Model
free_streams anchors first [] = []
free_streams anchors first (m ∷ ms) = or_on_clock (anchors first) m (free_streams anchors (first + 1) ms)

-- a model of streams, if there are any
abbrev pub model_of : Model → Option Model
model_of [] = None
model_of (m ∷ ms) = Some (m ∷ ms)

-- it as a rival on no clock, if there is one
abbrev pub as_one : ℕ → Option Model → List Rival
as_one worst None = []
as_one worst (Some m) = free_rival worst (Some m) ∷ []

-- and of one that may be none its streams
abbrev pub streams_so_far : Option Model → Model
streams_so_far None = []
streams_so_far (Some m) = m

-- these rivals are gathered
pub record IsGathered (own : Option ℕ) (cycles : List ℕ) (rivals : List ClockedRival) (g : Gathered) : Type 0 where
  pub count : g.added ≡ length rivals
  pub few : length rivals < MAX_TASKS
  pub streams : HasStreams own cycles (λ c. streams_on c rivals) g
  pub in_range : AreListsOn cycles (MAX_STREAMS * length rivals) (λ c. streams_on c rivals)
  pub free : (w : ℕ) → work_in g.free.items w ≡ work_in (free_of rivals) w
  pub free_in_range : All IsRival g.free.items
  pub free_few : length g.free.items ≤ length rivals

-- some rivals are
abbrev pub AreGathered : Option ℕ → List ℕ → Gathered → Type 0
AreGathered own cycles g = (rivals : List ClockedRival) × IsGathered own cycles rivals g
