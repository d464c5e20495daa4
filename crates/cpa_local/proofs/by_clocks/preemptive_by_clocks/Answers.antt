use Rattle.std.proofs.Common.{◌≡◌, ◌∙◌, map, refl, ap, subst}
use Rattle.std.specs.Prelude.{IfOk}
use Rattle.cpa_clock.specs.Gathered.{IsGathered, anchors_at, own_clock}
use Rattle.cpa_model.specs.declared.entries.Resource.{Resource}
use Rattle.cpa_model.specs.declared.entries.Task.{Task}
use Rattle.cpa_model.specs.SystemLists.{task_at, resource_at, higher_tasks}
use Rattle.cpa_local.specs.Worked.{clocked_rival_by}
use Rattle.cpa_local.proofs.ClockedInputs.{are-cycles, by-preemptive}
use Rattle.cpa_local.proofs.by_clocks.preemptive_by_clocks.Goals as goal

pub respond-requires-clause-cycles : goal.respond-requires-clause-cycles
respond-requires-clause-cycles c = rw c.cycles.ensures (are-cycles c.args.system.now c.args.clocks.now.cycles c.requires.anchors.cycles c.requires.rules)

pub returns : goal.returns
returns c x known =
    let s = c.args.system.now in
    let i = c.args.task.0 in
    let rivals = map (clocked_rival_by s c.args.inputs.now) (higher_tasks s i) in
    let anchors = c.anchors.ensures ∙ c.requires.anchors.anchors i c.requires.there refl in
    let gathered = c.in_ok-gather_by_clocks.ensures in
    let bound = c.respond.ensures rivals (rw (anchors, c.cycles.ensures) gathered) in
    let worst = ap (λ (t : Task). t.worst) c.task-entry.ensures.value in
    let limit = ap (λ (r : Resource). r.limit) c.resource.ensures.value ∙ ap (λ (t : Task). (resource_at s t.res.0).limit) c.task-entry.ensures.value in
    let same = by-preemptive s x i c.args.inputs.now known c.cycles.result.now (c.cycles.ensures ∙ c.requires.anchors.cycles) c.args.own.now c.anchors.result.now c.task-entry.result.now.worst c.args.blocking c.resource.result.now.limit anchors worst limit in
    subst (λ b. IfOk c.respond.result (λ found. found ≡ b)) same bound
