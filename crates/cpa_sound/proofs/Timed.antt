-- Jobs that arrive by a clock, each within an interval of its own.
use Rattle.std.specs.Prelude.{◌≡◌, ℕ, ◌+◌, ◌*◌, ◌%◌, ◌<◌, ◌≤◌, Bool, true, Option, Some, None}
use Rattle.cpa_events.specs.declared.stream.Stream.{Stream}
use Rattle.cpa_events.specs.Events.{Model}
use Rattle.cpa_phase.specs.Phases.{earliest_arrival}
use Rattle.cpa_clock.specs.declared.anchor.Anchor.{Anchor}
use Rattle.cpa_clock.specs.Anchors.{Anchors, Moment, phase_on}
use Rattle.cpa_sound.specs.Course.{Course, Arrives}
use Rattle.cpa_sound.proofs.Parts.{jobs_in, ArePart, count_from, of_stream, EachStream}

-- job number n of a part that arrives before a time does so from start + n * period on, and not more than the jitter later, by a clock that
-- began `lead` before time 0
abbrev pub PartKeepsTime : Course → (ℕ → Bool) → ℕ → ℕ → Stream → ℕ → Type 0
PartKeepsTime c part lead start st t =
    (k a : ℕ) → part k ≡ true → Arrives c k a → a < t → (start + jobs_in part k * st.period ≤ a + lead) × (a + lead ≤ start + jobs_in part k * st.period + st.jitter)

-- so it is for a stream on a clock, whose cycle is some of its periods, where so many of its events came before the run began; nothing is said of one that is on none
abbrev pub PartKeepsAnchor : (ℕ → ℕ) → (ℕ → ℕ) → Course → (ℕ → Bool) → Option Anchor → Stream → ℕ → Type 0
PartKeepsAnchor lead cycle c part None st t = Unit {0}
PartKeepsAnchor lead cycle c part (Some a) st t = (cycle a.clock % st.period ≡ 0) × ((first : ℕ) × PartKeepsTime c part (lead a.clock) (a.offset + first * st.period) st t)

-- time s is at x of a clock, up to whole cycles
pub record IsAt (lead cycle : ℕ) (s x : ℕ) : Type 0 where
  pub ahead : ℕ
  pub behind : ℕ
  pub same : s + lead + ahead * cycle ≡ x + behind * cycle
  pub some : 0 < x
  pub within : x ≤ cycle

-- and so on each clock
abbrev pub IsMoment : (ℕ → ℕ) → (ℕ → ℕ) → ℕ → Moment → Type 0
IsMoment lead cycle s moment = (clock : ℕ) → IsAt (lead clock) (cycle clock) s (moment clock)

-- from time s on the jobs of a part that arrive before a time come no sooner than the stream says at this phase
abbrev pub PartComesFrom : Course → (ℕ → Bool) → ℕ → Stream → ℕ → ℕ → Type 0
PartComesFrom c part phase st s t = (k l a b : ℕ) → ArePart c part k l a b → s ≤ a → b < t → s + earliest_arrival st phase (count_from part k l) ≤ b

-- so it is for each stream of a model
abbrev pub StreamsComeFrom : Course → (ℕ → ℕ) → Moment → Anchors → Model → ℕ → ℕ → Type 0
StreamsComeFrom c stream moment anchors m s t = EachStream (λ q st. PartComesFrom c (of_stream stream q) (phase_on moment (anchors q) st) st s t) 0 m

-- no window from s on that ends by a time has more arrivals than these
abbrev pub ComesFrom : Course → (ℕ → ℕ) → ℕ → ℕ → Type 0
ComesFrom c most s t = (v : ℕ) → s + v ≤ t → c.arrived (s + v) ≤ c.arrived s + most v

-- the q-th job from s on comes no sooner than this, where it comes before a time
abbrev pub ComesLate : Course → (ℕ → ℕ) → ℕ → ℕ → Type 0
ComesLate c earliest s t = (q b : ℕ) → Arrives c (c.arrived s + q) b → b < t → s + earliest (q + 1) ≤ b
