use Rattle.std.proofs.Common.{◌≡◌, ◌∙◌, Bool, true, sym, ap, subst}
use Rattle.std.specs.Bool.{OnTrue}
use Rattle.cpa_model.specs.declared.entries.Resource.{Resource}
use Rattle.cpa_model.specs.SystemLists.{resource_at}
use Rattle.cpa_model.specs.Kinds.{wants_inputs}
use Rattle.cpa_local.specs.Inputs.{AreInputs}
use Rattle.cpa_local.specs.Worked.{Worked, HasCycle, HasLongest, HasClocks}
use Rattle.cpa_local.proofs.scratch.Scratch.follow.Goals as goal

pub returns-then-wants_inputs-clause-prepared : goal.returns-then-wants_inputs-clause-prepared
returns-then-wants_inputs-clause-prepared c =
    let s = c.args.system.now in
    let r = c.args.res.0 in
    let wanted : true ≡ wants_inputs (resource_at s r).kind = sym c.if-wants_inputs.true ∙ c.wants_inputs.ensures ∙ ap (λ (e : Resource). wants_inputs e.kind) c.resource.ensures.value in
    record {
      cycle = subst (λ (w : Worked). HasCycle s r w.cycle (resource_at s r).kind) (sym c.self.view_is) c.requires.cycle;
      longest = subst (λ (w : Worked). HasLongest s r w.longest (resource_at s r).kind) (sym c.self.view_is) c.requires.longest;
      inputs = subst (λ (b : Bool). OnTrue b (AreInputs s r c.args.x.now c.learn.new.inputs.items)) wanted c.learn.ensures.known;
      clocks = subst (λ (w : Worked). HasClocks s r w.clocks (resource_at s r).kind) (sym c.self.view_is) c.requires.clocks;
    }
