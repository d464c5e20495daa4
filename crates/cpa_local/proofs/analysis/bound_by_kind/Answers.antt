use Rattle.std.proofs.Common.{◌≡◌}
use Rattle.cpa_model.specs.declared.entries.Kind.TheVariants.{Tdma}
use Rattle.cpa_model.specs.SystemLists.{resource_of}
use Rattle.cpa_local.proofs.analysis.bound_by_kind.Goals as goal

pub returns-in-Tdma-clause-value : goal.returns-in-Tdma-clause-value
returns-in-Tdma-clause-value c =
    let kind : (resource_of c.args.system.now c.args.task.0).kind ≡ Tdma c.in-Tdma.gap = rw (← c.task.ensures.value, ← c.resource.ensures.value) c.in-Tdma.is in
    rw kind (c.tdma.ensures c.args.x.now c.in-Tdma.gap)
