use Rattle.cpa_model.specs.SystemLists.{resource_at}
use Rattle.cpa_sched.proofs.RegionLaws.{region-some, region-few}
use Rattle.cpa_sched.proofs.regions.region_of.Goals as goal

pub returns-clause-some : goal.returns-clause-some
returns-clause-some c = region-some (resource_at c.args.system.now c.task.result.now.res.0).kind c.task.result.now.region c.task.ensures.rules.region_fits

pub returns-clause-most : goal.returns-clause-most
returns-clause-most c = region-few (resource_at c.args.system.now c.task.result.now.res.0).kind c.task.result.now.region c.task.ensures.rules.region_fits
