-- The report of a system, as an answer.
use Rattle.std.specs.Prelude.{◌≡◌, List, Some}
use Rattle.cpa_units.specs.declared.bound.Bound.{Bound}
use Rattle.cpa_model.specs.SystemLists.{SystemLists}
use Rattle.cpa_report.specs.Report.{report_text, verdict}
use Rattle.cpa_local.specs.Solution.{IsLeast}
use Rattle.cpa_sound.specs.BoundsHold.{BoundsHold}
use Rattle.cpa_call.specs.Answers.{Answer}

-- the report of a system, at its least solution
pub record IsReport (s : SystemLists) (answer : Answer) : Type 0 where
  pub bounds : List Bound
  pub least : IsLeast s bounds
  -- they bound the response times of all jobs and paths, in every run whose trace obeys
  pub hold : BoundsHold s bounds
  pub status_is : answer.status ≡ Some (verdict s bounds)
  pub text_is : answer.text ≡ report_text s bounds
