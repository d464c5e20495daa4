use Rattle.cpa_depend.proofs.ConeLaws.{grown-more, cone-is, missing-wider}
use Rattle.cpa_depend.specs.Cone.{start}
use Rattle.cpa_depend.proofs.cones.cone_by.Goals as goal

pub passes-init : goal.passes-init
passes-init c = record { all = λ r m. m; within = λ r m. start m }

pub passes-smaller : goal.passes-smaller
passes-smaller c = missing-wider c.args.system.now c.passes.set c.in-Some.wider c.in-Some.ensures

pub passes-preserved : goal.passes-preserved
passes-preserved c = grown-more c.args.system.now c.args.from c.passes.set c.in-Some.wider c.passes.invariant c.in-Some.ensures

pub returns : goal.returns
returns c = cone-is c.args.system.now c.args.from c.passes.set c.passes.invariant c.in_default.ensures
