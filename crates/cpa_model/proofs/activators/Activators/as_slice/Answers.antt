use Rattle.std.proofs.Common.{length-take, arith}
use Rattle.cpa_model.proofs.activators.Activators.as_slice.Goals as goal

pub returns-clause-value : goal.returns-clause-value
returns-clause-value c = c.self.view_is

pub returns-clause-some : goal.returns-clause-some
returns-clause-some c = omega (arith, length-take c.self.inside.len c.self.inside.held)

pub returns-clause-few : goal.returns-clause-few
returns-clause-few c = omega (arith, length-take c.self.inside.len c.self.inside.held)
