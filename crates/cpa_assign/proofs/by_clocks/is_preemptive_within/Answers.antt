use Rattle.std.proofs.Common.{◌∙◌, ◌↔◌, sym, ap, subst}
use Rattle.std.specs.Prelude.{IsTrue}
use Rattle.cpa_units.specs.declared.bound.Bound.TheVariants.{Within}
use Rattle.cpa_units.specs.Bounds.{IsAtMost}
use Rattle.cpa_units.specs.Sets.{holds}
use Rattle.cpa_clock.specs.Gathered.{IsGathered, anchors_at, own_clock}
use Rattle.cpa_model.specs.declared.entries.Task.{Task}
use Rattle.cpa_model.specs.declared.entries.Resource.{Resource}
use Rattle.cpa_local.proofs.ClockedInputs.{are-cycles}
use Rattle.cpa_assign.specs.Placing.{clocked_rivals_at, without}
use Rattle.cpa_assign.proofs.ClockedSources.{sources-on, placed-found}
use Rattle.cpa_assign.proofs.by_clocks.is_preemptive_within.Goals as goal

pub respond-requires-clause-cycles : goal.respond-requires-clause-cycles
respond-requires-clause-cycles c = are-cycles c.args.system.now c.args.cycles.now c.requires.cycles c.has_rules.ensures

pub respond-requires-clause-own : goal.respond-requires-clause-own
respond-requires-clause-own c =
    sources-on c.args.system.now c.has_rules.ensures c.args.cycles.now c.requires.cycles c.args.task.0 c.sources_model-own.result c.as_slice-2.result.now c.sources_model-own.ensures.value
    (c.as_slice-2.ensures.value ∙ c.in_ok-anchors.ensures) c.sources_model-own.ensures.in_range

pub returns : goal.returns
returns c =
    let s = c.args.system.now in
    let above = without (holds c.args.free.now) c.args.task.0 in
    let rivals = clocked_rivals_at s above in
    let clock = c.own_clock-clock.ensures ∙ ap (λ os. own_clock c.sources_model-own.result (anchors_at os)) (c.as_slice.ensures.value ∙ sym c.as_slice-2.ensures.value) in
    let gathered = subst (λ k. IsGathered k c.args.cycles.now rivals c.gather_by_clocks.new.gathered) clock c.in_ok-gather_by_clocks.ensures in
    let found = c.in_ok-bound.ensures rivals gathered in
    let worst = ap (λ (t : Task). t.worst) c.task.ensures.value in
    let limit = ap (λ (r : Resource). r.limit) c.resource.ensures.value in
    let placed = placed-found s c.has_rules.ensures c.args.cycles.now c.requires.cycles c.args.res.0 c.args.task.0 above c.sources_model-own.result c.as_slice-2.result.now c.task.result.now.worst c.resource.result.now.limit
    c.sources_model-own.ensures.value (c.as_slice-2.ensures.value ∙ c.in_ok-anchors.ensures) worst limit in
    subst (λ b. IsTrue c.is_at_most.result ↔ IsAtMost b (Within c.args.most)) (found ∙ placed) c.is_at_most.ensures
