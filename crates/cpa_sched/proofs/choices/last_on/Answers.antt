use Rattle.std.proofs.Common.{◌∙◌, option_map, ap}
use Rattle.cpa_model.specs.SystemLists.{place_of}
use Rattle.cpa_sched.specs.Steps.{last_of}
use Rattle.cpa_sched.proofs.ScanLaws.{last-is}
use Rattle.cpa_sched.proofs.choices.last_on.Goals as goal

pub returns : goal.returns
returns c = ap (option_map place_of) (c.copied.ensures ∙ c.last.ensures.value) ∙ (last-is c.tasks_on.result.now ∙ ap last_of c.tasks_on.ensures.places)
