use Rattle.std.proofs.Common.{◌≤◌, ◌∙◌, arith, map, length}
use Rattle.std.proofs.lemmas.List.{length-map, take_all}
use Rattle.cpa_model.specs.SystemLists.{no_task}
use Rattle.cpa_model.specs.declared.entries.Task.{Task}
use Rattle.cpa_trace.proofs.NameLaws.{differ-right, is-new, next-name}
use Rattle.cpa_trace.proofs.index.task_names.Goals as goal

pub add-requires : goal.add-requires
add-requires c =
    rw (c.loop-i.invariant, c.bytes.ensures.value, c.task.ensures.value)
    (is-new (λ (r : Task). r.name) c.args.system.now.tasks c.loop-i.i no_task (differ-right _ _ c.tasks-i-end.ensures.rules.activity_names) (omega arith))

pub loop-i-preserved : goal.loop-i-preserved
loop-i-preserved c =
    c.in_ok-add.ensures
    ∙ rw (c.loop-i.invariant, c.bytes.ensures.value, c.task.ensures.value) (next-name (λ (r : Task). r.name) c.args.system.now.tasks c.loop-i.i no_task (omega arith))

pub loop-i-init : goal.loop-i-init
loop-i-init c = c.new-names.ensures

pub returns : goal.returns
returns c =
    let all : length (map (λ (r : Task). r.name) c.args.system.now.tasks) ≤ c.loop-i.i = rw (length-map) (omega (arith, c.tasks-i-end.ensures.count, c.loop-i-test.false)) in
    c.loop-i.invariant ∙ take_all c.loop-i.i _ all
