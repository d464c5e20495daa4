use Rattle.std.proofs.Common.{◌∙◌, Bool, Option, refl, sym, subst}
use Rattle.std.specs.Bool.{OnTrue, OnFalse}
use Rattle.cpa_events.specs.Events.{Model}
use Rattle.cpa_clock.specs.Gathered.{IsInputOn}
use Rattle.cpa_model.specs.SystemLists.{task_at}
use Rattle.cpa_local.specs.OnClocks.{anchor_list}
use Rattle.cpa_local.specs.Worked.{HasAnchors, IsOffClocks}
use Rattle.cpa_local.proofs.ClockedInputs.{input-on, inputs-on}
use Rattle.cpa_local.proofs.OffClocks.{plain-preemptive}
use Rattle.cpa_local.proofs.analysis.preemptive.Goals as goal

pub preemptive_by_clocks-requires-clause-own : goal.preemptive_by_clocks-requires-clause-own
preemptive_by_clocks-requires-clause-own c =
    let s = c.args.system.now in
    let i = c.args.task.0 in
    let known : HasAnchors s (task_at s i).res.0 c.args.clocks.now =
    subst (λ (b : Bool). OnTrue b (HasAnchors s (task_at s i).res.0 c.args.clocks.now)) (sym c.is_on.ensures ∙ c.if-is_on.true) c.requires.clocks.some in
    subst (λ (m : Option Model). IsInputOn c.args.clocks.now.cycles (anchor_list s i) m) c.requires.received
    (input-on s c.args.clocks.now.cycles known.cycles c.requires.rules c.args.x.now c.requires.vector i c.requires.there)

pub preemptive_by_clocks-requires-clause-inputs : goal.preemptive_by_clocks-requires-clause-inputs
preemptive_by_clocks-requires-clause-inputs c =
    let s = c.args.system.now in
    let r = (task_at s c.args.task.0).res.0 in
    let known : HasAnchors s r c.args.clocks.now = subst (λ (b : Bool). OnTrue b (HasAnchors s r c.args.clocks.now)) (sym c.is_on.ensures ∙ c.if-is_on.true) c.requires.clocks.some in
    inputs-on s c.args.clocks.now.cycles known.cycles c.requires.rules c.args.x.now c.requires.vector r c.args.inputs.now c.requires.known

pub returns-clause-value : goal.returns-clause-value
returns-clause-value c =
    let s = c.args.system.now in
    let i = c.args.task.0 in
    let off : IsOffClocks s (task_at s i).res.0 = subst (λ (b : Bool). OnFalse b (IsOffClocks s (task_at s i).res.0)) (sym c.is_on.ensures ∙ c.if-is_on.false) c.requires.clocks.none in
    rw (c.respond.ensures, c.gather_higher-count.ensures.value, c.resource.ensures.value, c.task-entry.ensures.value)
    (plain-preemptive s c.args.x.now i off c.requires.there c.plain_bounds_are_the_same.ensures c.args.own.now c.args.blocking)
