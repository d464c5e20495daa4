use Rattle.std.proofs.Common.{None, sym, ap, ◌∙◌, arith}
use Rattle.std.proofs.lemmas.List.{get_or_default}
use Rattle.cpa_units.specs.declared.limits.TheConstants.{MAX_LIMIT}
use Rattle.cpa_units.specs.Bounds.{bound_of}
use Rattle.cpa_model.specs.declared.entries.Activator.TheVariants.{Task as FromTask}
use Rattle.cpa_model.specs.declared.entries.Task.{Task}
use Rattle.cpa_model.specs.SystemLists.{task_at}
use Rattle.cpa_model.proofs.SystemLaws.{activated-there, depth_of-activated, depth_of-most}
use Rattle.cpa_local.specs.Inputs.{output_of}
use Rattle.cpa_local.proofs.GatherLaws.{one-activated, one-sent, known-range, known-jitter}
use Rattle.cpa_local.proofs.prepared_inputs.find_by_known.Goals as goal

pub bounds-known-earlier : goal.bounds-known-earlier
bounds-known-earlier c =
    let s = c.args.system.now in
    let one = sym (ap (λ (t : Task). t.after) c.task.ensures.value) ∙ (c.only_task.ensures c.in-Some.earlier).0 c.in-Some.is in
    let there = activated-there s c.has_rules.ensures c.args.task.0 c.in-Some.earlier.0 c.requires.there (one-activated s c.args.x.now c.has_rules.ensures c.args.task.0 c.in-Some.earlier one) in
    omega (arith, there, c.has_rules.ensures.few_tasks)

pub find_output-requires-clause-there : goal.find_output-requires-clause-there
find_output-requires-clause-there c =
    let s = c.args.system.now in
    let one = sym (ap (λ (t : Task). t.after) c.task.ensures.value) ∙ (c.only_task.ensures c.in-Some.earlier).0 c.in-Some.is in
    activated-there s c.has_rules.ensures c.args.task.0 c.in-Some.earlier.0 c.requires.there (one-activated s c.args.x.now c.has_rules.ensures c.args.task.0 c.in-Some.earlier one)

pub find_output-requires-clause-in_range : goal.find_output-requires-clause-in_range
find_output-requires-clause-in_range c =
    let s = c.args.system.now in
    let one = sym (ap (λ (t : Task). t.after) c.task.ensures.value) ∙ (c.only_task.ensures c.in-Some.earlier).0 c.in-Some.is in
    let there = activated-there s c.has_rules.ensures c.args.task.0 c.in-Some.earlier.0 c.requires.there (one-activated s c.args.x.now c.has_rules.ensures c.args.task.0 c.in-Some.earlier one) in
    let known = c.requires.known c.in-Some.earlier.0 c.if-known-earlier.true in
    let told = c.index-inputs-earlier.is ∙ get_or_default c.args.inputs.now c.in-Some.earlier.0 _ None known.0 ∙ known.1 in
    known-range s c.args.x.now c.has_rules.ensures c.requires.vector c.in-Some.earlier.0 0 there c.index-inputs-earlier.result told

pub find_output-requires-clause-jitter : goal.find_output-requires-clause-jitter
find_output-requires-clause-jitter c =
    let s = c.args.system.now in
    let one = sym (ap (λ (t : Task). t.after) c.task.ensures.value) ∙ (c.only_task.ensures c.in-Some.earlier).0 c.in-Some.is in
    let activated = one-activated s c.args.x.now c.has_rules.ensures c.args.task.0 c.in-Some.earlier one in
    let there = activated-there s c.has_rules.ensures c.args.task.0 c.in-Some.earlier.0 c.requires.there activated in
    let deep = depth_of-activated s c.has_rules.ensures c.args.task.0 c.in-Some.earlier.0 c.requires.there activated in
    let most = depth_of-most s c.args.task.0 in
    let known = c.requires.known c.in-Some.earlier.0 c.if-known-earlier.true in
    let told = c.index-inputs-earlier.is ∙ get_or_default c.args.inputs.now c.in-Some.earlier.0 _ None known.0 ∙ known.1 in
    known-jitter s c.args.x.now c.has_rules.ensures c.requires.vector c.in-Some.earlier.0 MAX_LIMIT there c.index-inputs-earlier.result told (omega (arith, deep, most))

pub returns-in-Some : goal.returns-in-Some
returns-in-Some c =
    let s = c.args.system.now in
    let one = sym (ap (λ (t : Task). t.after) c.task.ensures.value) ∙ (c.only_task.ensures c.in-Some.earlier).0 c.in-Some.is in
    let known = c.requires.known c.in-Some.earlier.0 c.if-known-earlier.true in
    let told = c.index-inputs-earlier.is ∙ get_or_default c.args.inputs.now c.in-Some.earlier.0 _ None known.0 ∙ known.1 in
    c.find_output.ensures
    ∙ ap (output_of (task_at s c.in-Some.earlier.0).best (bound_of c.args.x.now c.in-Some.earlier.0)) told
    ∙ sym (one-sent s c.args.x.now c.has_rules.ensures c.args.task.0 (FromTask c.in-Some.earlier) c.requires.there one)
