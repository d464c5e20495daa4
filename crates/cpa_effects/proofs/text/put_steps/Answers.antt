use Rattle.std.proofs.Common.{append_assoc}
use Rattle.cpa_units.proofs.PlaceLaws.{flat_map-places_more}
use Rattle.cpa_effects.specs.ChainText.{step_line}
use Rattle.cpa_effects.proofs.text.put_steps.Goals as goal

pub loop-k-preserved : goal.loop-k-preserved
loop-k-preserved c =
    rw (c.in_ok-put_step.ensures, c.loop-k.invariant, flat_map-places_more (step_line c.args.reading c.args.system.now c.args.x.now c.args.tasks.now) c.loop-k.k) (simp append_assoc)
