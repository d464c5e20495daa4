-- The other tasks of a resource, whose streams may be on clocks: as lists by clock, and what they ask for.
use Rattle.std.specs.Prelude.{ℕ, ◌+◌, ◌==◌, if◌then◌else◌, Option, Some, None, List, [], ◌∷◌, sum_by}
use Rattle.std.specs.List.{range_with_len}
use Rattle.cpa_units.specs.declared.bound.Bound.{Bound}
use Rattle.cpa_units.specs.declared.bound.Bound.TheVariants.{Within, Overload}
use Rattle.cpa_units.specs.Bounds.{bound_plus}
use Rattle.cpa_events.specs.declared.stream.Stream.{Stream}
use Rattle.cpa_events.specs.Events.{Model}
use Rattle.cpa_window.specs.declared.rivals.Rival.{Rival}
use Rattle.cpa_window.specs.Rivals.{work_in}
use Rattle.cpa_phase.specs.declared.placed.Placed.{Placed}
use Rattle.cpa_phase.specs.Clocks.{clock_work}
use Rattle.cpa_clock.specs.Anchors.{Anchors, placed_at}
use Rattle.cpa_clock.specs.declared.anchor.Anchor.{Anchor}

-- a rival with the clocks of its streams
pub record ClockedRival : Type 0 where
  pub model : Option Model
  pub anchors : Anchors
  pub worst : ℕ

-- ---- the streams on one clock, each before those that follow it

abbrev pub with_stream : ℕ → ℕ → Option Anchor → Stream → List Placed → List Placed
with_stream clock worst None m others = others
with_stream clock worst (Some a) m others = if a.clock == clock then placed_at m a worst ∷ others else others

abbrev pub with_input : ℕ → ℕ → Anchors → ℕ → Model → List Placed → List Placed
with_input clock worst anchors first [] others = others
with_input clock worst anchors first (m ∷ ms) others = with_stream clock worst (anchors first) m (with_input clock worst anchors (first + 1) ms others)

abbrev pub with_rival : ℕ → ℕ → Anchors → Option Model → List Placed → List Placed
with_rival clock worst anchors None others = others
with_rival clock worst anchors (Some m) others = with_input clock worst anchors 0 m others

abbrev pub streams_on : ℕ → List ClockedRival → List Placed
streams_on clock [] = []
streams_on clock (r ∷ rs) = with_rival clock r.worst r.anchors r.model (streams_on clock rs)

-- ---- the streams on none, each as a rival of one stream; an unbounded input as one

abbrev pub free_rival : ℕ → Option Model → Rival
free_rival worst m = record { model = m; worst = worst; slot = 0; bound = Overload }

abbrev pub with_free_stream : ℕ → Option Anchor → Stream → List Rival → List Rival
with_free_stream worst None m others = free_rival worst (Some (m ∷ [])) ∷ others
with_free_stream worst (Some a) m others = others

abbrev pub with_free_input : ℕ → Anchors → ℕ → Model → List Rival → List Rival
with_free_input worst anchors first [] others = others
with_free_input worst anchors first (m ∷ ms) others = with_free_stream worst (anchors first) m (with_free_input worst anchors (first + 1) ms others)

abbrev pub with_free_rival : ℕ → Anchors → Option Model → List Rival → List Rival
with_free_rival worst anchors None others = free_rival worst None ∷ others
with_free_rival worst anchors (Some m) others = with_free_input worst anchors 0 m others

abbrev pub free_of : List ClockedRival → List Rival
free_of [] = []
free_of (r ∷ rs) = with_free_rival r.worst r.anchors r.model (free_of rs)

-- ---- what they ask for in a window that starts at a moment of one clock, if of one

-- the streams on that clock
abbrev pub joint_of : Option ℕ → List ClockedRival → List Placed
joint_of None rivals = []
joint_of (Some known) rivals = streams_on known rivals

-- the work of a clock that isn't that one
abbrev pub unless_known : Option ℕ → ℕ → ℕ → ℕ
unless_known None clock work = work
unless_known (Some known) clock work = if known == clock then 0 else work

-- the work of all other clocks, of so many, each as it asks for most; `cycle` says their cycles
abbrev pub other_clocks_work : Option ℕ → List ClockedRival → (ℕ → ℕ) → ℕ → ℕ → ℕ
other_clocks_work known rivals cycle count w = sum_by (λ c. unless_known known c (clock_work (streams_on c rivals) (cycle c) w)) (range_with_len 0 count)

-- and of those on no clock besides
abbrev pub rest_of : Option ℕ → List ClockedRival → (ℕ → ℕ) → ℕ → ℕ → Bound
rest_of known rivals cycle count w = bound_plus (Within (other_clocks_work known rivals cycle count w)) (work_in (free_of rivals) w)
