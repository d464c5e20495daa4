use Rattle.std.proofs.Common.{◌∙◌}
use Rattle.cpa_local.proofs.ClockedInputs.{are-cycles}
use Rattle.cpa_assign.proofs.ClockedSources.{sources-on}
use Rattle.cpa_assign.proofs.by_clocks.add_rival.Goals as goal

pub add-requires-clause-cycles : goal.add-requires-clause-cycles
add-requires-clause-cycles c = are-cycles c.args.system.now c.args.cycles.now c.requires.cycles c.has_rules.ensures

pub add-requires-clause-input : goal.add-requires-clause-input
add-requires-clause-input c =
    sources-on c.args.system.now c.has_rules.ensures c.args.cycles.now c.requires.cycles c.args.task.0 c.sources_model.result c.as_slice.result.now c.sources_model.ensures.value
    (c.as_slice.ensures.value ∙ c.in_ok-anchors.ensures) c.sources_model.ensures.in_range
