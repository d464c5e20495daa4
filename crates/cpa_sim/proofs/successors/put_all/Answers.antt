use Rattle.std.proofs.Common.{◌≡◌, ◌≢◌, ◌∙◌, ◌+◌, ◌<◌, length, List, map, get_or, sym, ap, subst, arith}
use Rattle.std.specs.Prelude.{AllPairs}
use Rattle.std.proofs.lemmas.List.{length-map}
use Rattle.std.proofs.lemmas.List.Elements.{All-get_or}
use Rattle.cpa_units.specs.declared.places.TaskId.{TaskId}
use Rattle.cpa_model.specs.declared.entries.Activator.{Activator}
use Rattle.cpa_model.specs.declared.entries.Activator.TheVariants.{Source}
use Rattle.cpa_model.specs.declared.entries.Task.{Task}
use Rattle.cpa_model.specs.Rules.{IsActivator}
use Rattle.cpa_model.specs.SystemLists.{task_at}
use Rattle.cpa_sim.specs.Arrivals.{with_fed}
use Rattle.cpa_sim.proofs.SuccessorLaws.{AreGrowing, growing-all, growing-more, has-list}
use Rattle.cpa_sim.proofs.successors.put_all.Goals as goal

pub put-requires : goal.put-requires
put-requires c =
    let s = c.args.system.now in
    let m = c.loop-after.after-index in
    let none : Activator = Source (record { 0 = 0 }) in
    let slice = c.as_slice-after-items.result.now in
    let same = c.as_slice-after-items.ensures.value in
    let sources = c.loop-after.successors.by_source.items in
    let tasks = c.loop-after.successors.by_task.items in
    let there : IsActivator s (get_or slice m none) =
    subst (λ (xs : List Activator). IsActivator s (get_or xs m none)) (sym same) (All-get_or (IsActivator s) c.task.result.now.after m none (omega (arith, c.loop-after-test.true, ap length same)) c.task.ensures.rules.activated) in
    has-list s (get_or slice m none) (length sources) (length tasks) there (sym (length-map sources (λ v. v.items)) ∙ c.loop-after.invariant.count_sources) (sym (length-map tasks (λ v. v.items)) ∙ c.loop-after.invariant.count_tasks)

pub loop-after-preserved : goal.loop-after-preserved
loop-after-preserved c =
    let s = c.args.system.now in
    let task = c.args.task in
    let m = c.loop-after.after-index in
    let none : Activator = Source (record { 0 = 0 }) in
    let many = (task_at s task.0).after in
    let slice = c.as_slice-after-items.result.now in
    let a = get_or slice m none in
    let same = c.as_slice-after-items.ensures.value in
    let after = ap (λ (t : Task). t.after) c.task.ensures.value in
    let less : m < length many = omega (arith, c.loop-after-test.true, ap length same, ap length after) in
    let is : get_or many m none ≡ a = ap (λ xs. get_or xs m none) (sym (same ∙ after)) in
    let there : IsActivator s a =
    subst (λ (xs : List Activator). IsActivator s (get_or xs m none)) (sym same) (All-get_or (IsActivator s) c.task.result.now.after m none (omega (arith, c.loop-after-test.true, ap length same)) c.task.ensures.rules.activated) in
    let different = subst (λ (xs : List Activator). AllPairs (λ a b. a ≢ b) xs) after c.task.ensures.rules.different in
    let sources = map (λ v. v.items) c.loop-after.successors.by_source.items in
    let tasks = map (λ v. v.items) c.loop-after.successors.by_task.items in
    let grown = growing-more s task many m none less different sources tasks a is there c.loop-after.invariant in
    subst (λ (xs : List (List TaskId)). AreGrowing s task many (m + 1) xs (map (λ v. v.items) c.put.new.successors.by_task.items)) (sym c.in_ok-put.ensures.fed)
    (subst (λ (xs : List (List TaskId)). AreGrowing s task many (m + 1) (with_fed a task sources) xs) (sym c.in_ok-put.ensures.activated) grown)

pub returns : goal.returns
returns c =
    let s = c.args.system.now in
    let same = c.as_slice-after-items.ensures.value in
    let after = ap (λ (t : Task). t.after) c.task.ensures.value in
    growing-all s c.args.task (map (λ v. v.items) c.loop-after.successors.by_source.items) (map (λ v. v.items) c.loop-after.successors.by_task.items) c.loop-after.after-index
    (omega (arith, c.loop-after-test.false, ap length same, ap length after)) c.loop-after.invariant
