-- The least solution as numbers in a buffer.
use Rattle.std.specs.Prelude.{◌≡◌, ℕ, List, length, map}
use Rattle.cpa_units.specs.declared.bound.Bound.{Bound}
use Rattle.cpa_units.specs.Words.{word_of}
use Rattle.cpa_model.specs.SystemLists.{SystemLists}
use Rattle.cpa_local.specs.Paths.{path_worst}
use Rattle.cpa_local.specs.Solution.{IsLeast}
use Rattle.cpa_report.specs.Report.{verdict}
use Rattle.cpa_sound.specs.BoundsHold.{BoundsHold}
use Rattle.cpa_memory.specs.Given.{over}

-- the greatest times of all paths from end to end
abbrev pub latencies_of : SystemLists → List Bound → List Bound
latencies_of s x = map (path_worst x) s.paths

-- values of the least solution as words, at the beginning of a buffer, with the verdict on the system and their count
pub record TellsNumbers (s : SystemLists) (values : List Bound → List Bound) (status : ℕ) (before now : List ℕ) (count : ℕ) : Type 0 where
  pub bounds : List Bound
  pub least : IsLeast s bounds
  -- they bound the response times of all jobs and paths, in every run whose trace obeys
  pub hold : BoundsHold s bounds
  pub status_is : status ≡ verdict s bounds
  pub count_is : count ≡ length (values bounds)
  pub out_is : now ≡ over (map word_of (values bounds)) before
