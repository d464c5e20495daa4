-- A part of a task's jobs, taken in their order, as those that one activator started or that one stream has.
use Rattle.std.specs.Prelude.{◌≡◌, ℕ, zero, suc, ◌+◌, ◌-◌, ◌<◌, ◌≤◌, ◌==◌, Bool, true, if◌then◌else◌, slice_get, Some}
use Rattle.cpa_events.specs.declared.stream.Stream.{Stream}
use Rattle.cpa_events.specs.Streams.{stream_delta_minus, stream_delta_plus}
use Rattle.cpa_events.specs.Events.{Model}
use Rattle.cpa_sound.specs.Course.{Course, Arrives}

-- how many of the first jobs belong to a part
unfoldable pub jobs_in : (ℕ → Bool) → ℕ → ℕ
jobs_in part zero = 0
jobs_in part (suc k) = jobs_in part k + (if part k then 1 else 0)

-- two jobs of a part, with the times at which they arrive
pub record ArePart (c : Course) (part : ℕ → Bool) (k l a b : ℕ) : Type 0 where
  pub first : part k ≡ true
  pub last : part l ≡ true
  pub order : k ≤ l
  pub comes : Arrives c k a
  pub follows : Arrives c l b

-- how many jobs of the part there are from one to another, both counted
abbrev pub count_from : (ℕ → Bool) → ℕ → ℕ → ℕ
count_from part k l = jobs_in part (l + 1) - jobs_in part k

-- the arrivals of a part before a time come no closer than a stream says
abbrev pub PartKeepsApart : Course → (ℕ → Bool) → Stream → ℕ → Type 0
PartKeepsApart c part st t = (k l a b : ℕ) → ArePart c part k l a b → b < t → a + stream_delta_minus st (count_from part k l) ≤ b

-- and no farther
abbrev pub PartKeepsNear : Course → (ℕ → Bool) → Stream → ℕ → Type 0
PartKeepsNear c part st t = (k l a b : ℕ) → ArePart c part k l a b → b < t → b ≤ a + stream_delta_plus st (count_from part k l)

-- the jobs of a part of c that arrive before a time are those of a part of d, each when that one is complete
abbrev pub IsFed : Course → Course → (ℕ → Bool) → (ℕ → Bool) → ℕ → Type 0
IsFed c d part sent until = (t : ℕ) → t < until → jobs_in part (c.arrived (t + 1)) ≡ jobs_in sent (d.ended t)

-- so it is for each stream of a model, numbered from `first` on
abbrev pub EachStream : (ℕ → Stream → Type 0) → ℕ → Model → Type 0
EachStream P first m = (q : ℕ) (st : Stream) → slice_get m q ≡ Some st → P (first + q) st

-- the jobs of one stream, where each job has the number of its stream
abbrev pub of_stream : (ℕ → ℕ) → ℕ → ℕ → Bool
of_stream stream q k = stream k == q

-- the arrivals of each stream of a model come no closer than it says
abbrev pub StreamsKeepApart : Course → (ℕ → ℕ) → Model → ℕ → Type 0
StreamsKeepApart c stream m t = EachStream (λ q st. PartKeepsApart c (of_stream stream q) st t) 0 m
