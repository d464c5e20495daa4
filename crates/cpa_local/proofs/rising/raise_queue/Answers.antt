use Rattle.std.proofs.Common.{◌≡◌, ◌<◌, ◌≤◌, length, get_or, refl, sym, ◌∙◌, arith}
use Rattle.std.proofs.lemmas.Bool.{eqb-true, eqb-false}
use Rattle.cpa_model.specs.SystemLists.{task_at}
use Rattle.cpa_model.proofs.SystemLaws.{no_id}
use Rattle.cpa_model.proofs.ResourceTaskLaws.{on-each}
use Rattle.cpa_local.proofs.RisingLaws.{answered-whole}
use Rattle.cpa_local.proofs.OneQueue.{one_bound}
use Rattle.cpa_local.proofs.rising.raise_queue.Goals as goal

pub returns-then-is_empty-clause-answered : goal.returns-then-is_empty-clause-answered
returns-then-is_empty-clause-answered c =
    let tasks = c.tasks_on-tasks.result.now in
    let none : length tasks ≤ 0 = (let empty : length tasks ≡ 0 = eqb-true (length tasks) 0 (sym c.is_empty.ensures ∙ c.if-is_empty.true) in omega arith) in
    answered-whole c.args.system.now c.args.res.0 tasks c.args.x.now c.args.x.now 0 c.tasks_on-tasks.ensures.places none
    (record { risen = c.requires.start; others = λ i off. refl; answered = λ k less. absurd (omega arith) })

pub respond_prepared-requires-clause-prepared : goal.respond_prepared-requires-clause-prepared
respond_prepared-requires-clause-prepared c =
    let tasks = c.tasks_on-tasks.result.now in
    let some : 0 < length tasks = (let full : length tasks ≡ 0 → ⊥ = eqb-false (length tasks) 0 (sym c.is_empty.ensures ∙ c.if-is_empty.false) in omega arith) in
    rw (on-each c.args.system.now c.args.res.0 tasks c.tasks_on-tasks.ensures.places 0 no_id some) c.requires.prepared

pub raise_to-requires-clause-one : goal.raise_to-requires-clause-one
raise_to-requires-clause-one c i less on =
    let tasks = c.tasks_on-tasks.result.now in
    let some : 0 < length tasks = (let full : length tasks ≡ 0 → ⊥ = eqb-false (length tasks) 0 (sym c.is_empty.ensures ∙ c.if-is_empty.false) in omega arith) in
    let first = (get_or tasks 0 no_id).0 in
    let there : first < length c.args.system.now.tasks = c.tasks_on-tasks.ensures.there 0 no_id some in
    let first_on : (task_at c.args.system.now first).res.0 ≡ c.args.res.0 = on-each c.args.system.now c.args.res.0 tasks c.tasks_on-tasks.ensures.places 0 no_id some in
    c.in_ok-bound.ensures.value ∙ one_bound c.args.system.now c.args.x.now c.args.res.0 first i c.requires.kind there first_on less on
