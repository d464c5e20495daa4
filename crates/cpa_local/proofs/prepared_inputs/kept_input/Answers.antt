use Rattle.std.proofs.Common.{◌<◌, ◌∙◌, length, Option, None, sym, subst, arith}
use Rattle.std.specs.Prelude.{IfSome}
use Rattle.std.proofs.lemmas.List.{get_or_default}
use Rattle.cpa_events.specs.Events.{Model, IsModelInRange}
use Rattle.cpa_local.proofs.InputLaws.{input-in_range}
use Rattle.cpa_local.proofs.prepared_inputs.kept_input.Goals as goal

pub returns : goal.returns
returns c =
    let listed : c.args.task.0 < length c.args.inputs.now = omega (arith, c.requires.there, c.requires.long) in
    let told = c.as_ref.ensures.value ∙ (c.index-inputs-task.is ∙ get_or_default c.args.inputs.now c.args.task.0 _ None listed ∙ c.requires.known) in
    record {
      value = told;
      in_range = subst (λ (o : Option Model). IfSome o IsModelInRange) (sym told) (input-in_range c.args.system.now c.args.x.now c.has_rules.ensures c.requires.vector c.args.task.0 c.requires.there);
    }
