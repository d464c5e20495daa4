use Rattle.std.proofs.Common.{take, ◌∙◌, ap}
use Rattle.std.proofs.lemmas.List.{take-map}
use Rattle.cpa_model.specs.Changes.{activator_without}
use Rattle.cpa_model.proofs.activators.Activators.close_up.Goals as goal

pub returns-else-self-lt2 : goal.returns-else-self-lt2
returns-else-self-lt2 c =
    rw (← c.self.view_is) (ap (take c.self.inside.len) c.close_up_activators.ensures ∙ take-map (activator_without c.args.removed.0) c.self.inside.len c.self.inside.held)
