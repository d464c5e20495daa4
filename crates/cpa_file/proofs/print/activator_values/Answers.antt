use Rattle.std.proofs.Common.{◌∙◌, ap}
use Rattle.toml.specs.Data.{string}
use Rattle.toml.specs.View.{view}
use Rattle.cpa_file.specs.Printed.{activator_data}
use Rattle.cpa_file.proofs.StepLaws.{push-taken}
use Rattle.cpa_file.proofs.print.activator_values.Goals as goal

pub loop-k-preserved : goal.loop-k-preserved
loop-k-preserved c =
    push-taken view (activator_data c.args.system.now) c.loop-k.values.items c.push.new.self.items c.in_ok-text_value.field-0 c.args.after.now c.loop-k.k c.get.result
    c.in_ok-push.ensures.items c.get.ensures (c.in_ok-text_value.ensures ∙ ap string c.activator_text.ensures) c.loop-k.invariant
