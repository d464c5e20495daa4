use Rattle.std.proofs.Common.{◌≡◌, ◌<◌, ◌||◌, ◌==◌, ℕ, ◌∷◌, [], sym, ap, ◌∙◌, arith}
use Rattle.cpa_units.specs.Sets.{holds}
use Rattle.cpa_model.specs.declared.entries.Activator.{Activator}
use Rattle.cpa_model.specs.declared.entries.Task.{Task as Entry}
use Rattle.cpa_model.specs.SystemLists.{task_at, depth_of}
use Rattle.cpa_model.proofs.SystemLaws.{activated-there, depth_of-activated}
use Rattle.cpa_depend.proofs.ChainLaws.{walk-start, walk-over, walk-next, walk-on, one-activates}
use Rattle.cpa_depend.proofs.chains.with_earlier.Goals as goal

pub steps-init : goal.steps-init
steps-init c = walk-start c.args.system.now c.args.task.0 c.args.set c.requires.there

pub task-requires-in-Some : goal.task-requires-in-Some
task-requires-in-Some c =
    let s = c.args.system.now in
    let one = sym (ap (λ (t : Entry). t.after) c.task.ensures.value) ∙ c.only.ensures.alone c.in-Some.after c.in-Some.is ∙ ap (λ (a : Activator). a ∷ []) c.in-Task.is in
    activated-there s c.requires.rules c.steps.at.0 c.in-Task.earlier.0 c.steps.invariant.there (one-activates s c.steps.at.0 c.in-Task.earlier one)

pub steps-smaller : goal.steps-smaller
steps-smaller c =
    let s = c.args.system.now in
    let one = sym (ap (λ (t : Entry). t.after) c.task.ensures.value) ∙ c.only.ensures.alone c.in-Some.after c.in-Some.is ∙ ap (λ (a : Activator). a ∷ []) c.in-Task.is in
    let deeper = depth_of-activated s c.requires.rules c.steps.at.0 c.in-Task.earlier.0 c.steps.invariant.there (one-activates s c.steps.at.0 c.in-Task.earlier one) in
    let less : depth_of s c.in-Task.earlier.0 < depth_of s c.steps.at.0 = omega arith in
    less

pub steps-preserved : goal.steps-preserved
steps-preserved c =
    let s = c.args.system.now in
    let one = sym (ap (λ (t : Entry). t.after) c.task.ensures.value) ∙ c.only.ensures.alone c.in-Some.after c.in-Some.is ∙ ap (λ (a : Activator). a ∷ []) c.in-Task.is in
    let with_k : (q : ℕ) → holds c.with-all.result q ≡ (q == (task_at s c.in-Task.earlier.0).res.0 || holds c.steps.all q) =
    λ q. c.with-all.ensures q ∙ ap (λ (t : Entry). q == t.res.0 || holds c.steps.all q) c.task-in-Some.ensures.value in
    walk-next s c.args.task.0 c.args.set c.steps.all c.with-all.result c.steps.at.0 c.in-Task.earlier c.requires.rules one with_k c.steps.invariant

pub returns-in_default-after : goal.returns-in_default-after
returns-in_default-after c =
    let one = sym (ap (λ (t : Entry). t.after) c.task.ensures.value) ∙ c.only.ensures.alone c.in-Some.after c.in-Some.is ∙ ap (λ (a : Activator). a ∷ []) c.in_default-after.is in
    walk-over c.args.system.now c.args.task.0 c.args.set c.steps.all c.steps.at.0 _ one c.steps.invariant

pub returns : goal.returns
returns c = walk-on c.args.system.now c.args.task.0 c.args.set c.steps.all c.with_each_chain.result c.steps.at.0 c.with_each_chain.ensures c.steps.invariant
