use Rattle.std.proofs.Common.{◌<◌, ◌∙◌, ◌∷◌, [], Some, sym, ap, arith}
use Rattle.cpa_events.specs.Streams.{stream_later}
use Rattle.cpa_model.specs.declared.entries.Activator.{Activator}
use Rattle.cpa_model.specs.declared.entries.Task.{Task}
use Rattle.cpa_model.specs.Streams.{stream_of}
use Rattle.cpa_model.specs.SystemLists.{depth_of}
use Rattle.cpa_model.proofs.SystemLaws.{depth_of-activated}
use Rattle.cpa_local.proofs.GatherLaws.{way-source, way-source-there, way-activated, way-there, way-unbounded, way-next, way-longer}
use Rattle.cpa_local.proofs.chain_walks.walk.Goals as goal

pub source-requires : goal.source-requires
source-requires c =
    let one = sym (ap (λ (t : Task). t.after) c.steps.invariant.entry) ∙ c.only.ensures.alone c.in-Some.after c.in-Some.is ∙ ap (λ (a : Activator). a ∷ []) c.in-Source.is in
    way-source-there c.args.system.now c.args.x.now c.requires.rules c.args.task.0 c.args.way.late c.args.way.least c.steps.at.0 c.steps.back.late c.steps.back.least c.in-Source.source one c.steps.invariant.way

pub returns-in-Source : goal.returns-in-Source
returns-in-Source c =
    let one = sym (ap (λ (t : Task). t.after) c.steps.invariant.entry) ∙ c.only.ensures.alone c.in-Some.after c.in-Some.is ∙ ap (λ (a : Activator). a ∷ []) c.in-Source.is in
    let stream = c.later.ensures.value ∙ ap (stream_later c.steps.back.late c.steps.back.least) (c.stream-stream.ensures.value ∙ ap stream_of c.source.ensures.value) in
    (c.later.ensures.in_range, way-source c.args.system.now c.args.x.now c.requires.rules c.args.task.0 c.args.way.late c.args.way.least c.steps.at.0 c.steps.back.late c.steps.back.least c.in-Source.source one c.steps.invariant.way ∙ ap (λ u. Some (u ∷ [])) (sym stream))

pub get-requires : goal.get-requires
get-requires c =
    let s = c.args.system.now in
    let one = sym (ap (λ (t : Task). t.after) c.steps.invariant.entry) ∙ c.only.ensures.alone c.in-Some.after c.in-Some.is ∙ ap (λ (a : Activator). a ∷ []) c.in-Task.is in
    let there = way-there s c.args.x.now c.requires.rules c.args.task.0 c.args.way.late c.args.way.least c.steps.at.0 c.steps.back.late c.steps.back.least c.in-Task.earlier one c.steps.invariant.way in
    omega (arith, there, c.requires.vector.long)

pub returns-in_default-get : goal.returns-in_default-get
returns-in_default-get c =
    let s = c.args.system.now in
    let one = sym (ap (λ (t : Task). t.after) c.steps.invariant.entry) ∙ c.only.ensures.alone c.in-Some.after c.in-Some.is ∙ ap (λ (a : Activator). a ∷ []) c.in-Task.is in
    way-unbounded s c.args.x.now c.requires.rules c.args.task.0 c.args.way.late c.args.way.least c.steps.at.0 c.steps.back.late c.steps.back.least c.in-Task.earlier one c.steps.invariant.way (sym c.get.ensures ∙ c.in_default-get.is)

pub task-entry-requires-in-Task : goal.task-entry-requires-in-Task
task-entry-requires-in-Task c =
    let s = c.args.system.now in
    let one = sym (ap (λ (t : Task). t.after) c.steps.invariant.entry) ∙ c.only.ensures.alone c.in-Some.after c.in-Some.is ∙ ap (λ (a : Activator). a ∷ []) c.in-Task.is in
    way-there s c.args.x.now c.requires.rules c.args.task.0 c.args.way.late c.args.way.least c.steps.at.0 c.steps.back.late c.steps.back.least c.in-Task.earlier one c.steps.invariant.way

pub after-back-requires-clause-room : goal.after-back-requires-clause-room
after-back-requires-clause-room c =
    let s = c.args.system.now in
    let one = sym (ap (λ (t : Task). t.after) c.steps.invariant.entry) ∙ c.only.ensures.alone c.in-Some.after c.in-Some.is ∙ ap (λ (a : Activator). a ∷ []) c.in-Task.is in
    way-longer s c.args.x.now c.requires.rules c.args.task.0 c.args.way.late c.args.way.least c.steps.at.0 c.steps.back.late c.steps.back.least c.in-Task.earlier one c.steps.invariant.way c.in-Within.bound c.requires.vector (sym c.get.ensures ∙ c.in-Within.is)

pub steps-smaller : goal.steps-smaller
steps-smaller c =
    let s = c.args.system.now in
    let one = sym (ap (λ (t : Task). t.after) c.steps.invariant.entry) ∙ c.only.ensures.alone c.in-Some.after c.in-Some.is ∙ ap (λ (a : Activator). a ∷ []) c.in-Task.is in
    let deeper = depth_of-activated s c.requires.rules c.steps.at.0 c.in-Task.earlier.0 c.steps.invariant.way.there (way-activated s c.args.x.now c.requires.rules c.args.task.0 c.args.way.late c.args.way.least c.steps.at.0 c.steps.back.late c.steps.back.least c.in-Task.earlier one c.steps.invariant.way) in
    let less : depth_of s c.in-Task.earlier.0 < depth_of s c.steps.at.0 = omega arith in
    less

pub steps-preserved : goal.steps-preserved
steps-preserved c =
    let s = c.args.system.now in
    let one = sym (ap (λ (t : Task). t.after) c.steps.invariant.entry) ∙ c.only.ensures.alone c.in-Some.after c.in-Some.is ∙ ap (λ (a : Activator). a ∷ []) c.in-Task.is in
    record {
      way = rw (c.after-back.ensures.late, c.after-back.ensures.least, c.task-entry-in-Task.ensures.value)
          (way-next s c.args.x.now c.requires.rules c.args.task.0 c.args.way.late c.args.way.least c.steps.at.0 c.steps.back.late c.steps.back.least c.in-Task.earlier one c.steps.invariant.way c.in-Within.bound c.requires.vector (sym c.get.ensures ∙ c.in-Within.is));
      entry = c.task-entry-in-Task.ensures.value;
    }
