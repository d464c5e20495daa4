use Rattle.std.proofs.Common.{◌∙◌, ap}
use Rattle.toml.specs.Data.{string}
use Rattle.toml.specs.View.{view}
use Rattle.cpa_model.specs.declared.entries.Task.{Task}
use Rattle.cpa_file.specs.Printed.{name_data}
use Rattle.cpa_file.proofs.StepLaws.{push-taken}
use Rattle.cpa_file.proofs.print.name_values.Goals as goal

pub loop-k-preserved : goal.loop-k-preserved
loop-k-preserved c =
    push-taken view (name_data c.args.system.now) c.loop-k.values.items c.push.new.self.items c.in_ok-text_value.field-0 c.args.tasks.now c.loop-k.k c.get.result
    c.in_ok-push.ensures.items c.get.ensures (c.in_ok-text_value.ensures ∙ ap string c.name_text.ensures ∙ ap (λ (t : Task). string t.name) c.task.ensures.value) c.loop-k.invariant
