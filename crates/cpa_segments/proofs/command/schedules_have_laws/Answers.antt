use Rattle.cpa_segments.proofs.ReadLaws.{schedules-read-back}
use Rattle.cpa_segments.proofs.command.schedules_have_laws.Goals as goal

pub returns : goal.returns
returns c = schedules-read-back
