use Rattle.std.proofs.Common.{[], Option, sym, subst}
use Rattle.std.specs.Prelude.{IfSome}
use Rattle.cpa_events.specs.Events.{Model, IsModelInRange}
use Rattle.cpa_local.proofs.InputLaws.{input-in_range}
use Rattle.cpa_local.proofs.TrailLaws.{known-none}
use Rattle.cpa_local.proofs.inputs.find_input.Goals as goal

pub find_along-requires-clause-known : goal.find_along-requires-clause-known
find_along-requires-clause-known c = known-none c.args.system.now c.args.x.now 8192 []

pub returns : goal.returns
returns c =
    record {
      value = c.find_along.ensures;
      in_range = subst (λ (o : Option Model). IfSome o IsModelInRange) (sym c.find_along.ensures) (input-in_range c.args.system.now c.args.x.now c.has_rules.ensures c.requires.vector c.args.task.0 c.requires.there);
    }
