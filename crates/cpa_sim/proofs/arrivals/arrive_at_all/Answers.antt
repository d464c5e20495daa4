use Rattle.std.proofs.Common.{◌≡◌, ◌∙◌, ◌+◌, ◌++◌, Bool, true, false, take, List, [], cond, eqb, refl, sym, ap, arith}
use Rattle.std.specs.List.{range_with_len}
use Rattle.std.proofs.lemmas.Bool.{false≢true}
use Rattle.std.proofs.lemmas.List.{take_all}
use Rattle.cpa_sim.specs.declared.jobs.Cause.{Cause}
use Rattle.cpa_sim.specs.Run.{causes_by}
use Rattle.cpa_sim.specs.JobQueues.{QueueCounts, causes_of, with_arrivals}
use Rattle.cpa_sim.specs.Simulation.{queue_at}
use Rattle.cpa_sim.specs.Arrivals.{is_among}
use Rattle.cpa_sim.proofs.SuccessorLaws.{placed}
use Rattle.cpa_sim.proofs.ArrivalLaws.{arrivals-none, given-none, given-same, given-then, given-one, place_in, listed-there, not-yet, listed-among, listed-more}
use Rattle.cpa_sim.proofs.KeptLaws.{arrived-kept}
use Rattle.cpa_sim.proofs.arrivals.arrive_at_all.Goals as goal

no-matter : (b : Bool) (new : List Cause) → new ≡ [] → [] ≡ cond b new []
no-matter true new none = sym none
no-matter false new none = refl

pub arrive_at-requires-clause-there : goal.arrive_at-requires-clause-there
arrive_at-requires-clause-there c = listed-there c.args.system.now c.args.tasks.now c.requires.tasks c.loop-task.task-index c.loop-task-test.true

-- the next task has the jobs that it had
pub arrive_at-requires-clause-few : goal.arrive_at-requires-clause-few
arrive_at-requires-clause-few c =
    let s = c.args.system.now in
    let tasks = c.args.tasks.now in
    let m = c.loop-task.task-index in
    let t = place_in tasks m in
    let there = listed-there s tasks c.requires.tasks m c.loop-task-test.true in
    let none : is_among (take m tasks) t ≡ false = not-yet s tasks c.requires.tasks m c.loop-task-test.true in
    let same : queue_at c.loop-task.queues.items t ≡ queue_at c.args.queues.now.items t =
    c.loop-task.invariant.arrived t there ∙ (ap (λ b. with_arrivals c.args.now (cond b (causes_of c.args.causes) []) (queue_at c.args.queues.now.items t)) none ∙ arrivals-none c.args.now (queue_at c.args.queues.now.items t)) in
    let few = c.requires.few t there (listed-among s tasks c.requires.tasks m c.loop-task-test.true) in
    omega (arith, ap (λ (l : QueueCounts). l.count) same, ap (λ (l : QueueCounts). l.room) same, few)

pub loop-task-init : goal.loop-task-init
loop-task-init c = given-none c.args.system.now c.args.places.now.items c.args.now c.args.queues.now.items c.args.dispatches.now.items c.requires.queues c.requires.dispatches

pub loop-task-preserved : goal.loop-task-preserved
loop-task-preserved c =
    let s = c.args.system.now in
    let now = c.args.now in
    let tasks = c.args.tasks.now in
    let m = c.loop-task.task-index in
    let new = causes_of c.args.causes in
    let l0 = c.args.queues.now.items in
    let d0 = c.args.dispatches.now.items in
    let l1 = c.loop-task.queues.items in
    let d1 = c.loop-task.dispatches.items in
    let l2 = c.arrive_at.new.queues.items in
    let d2 = c.arrive_at.new.dispatches.items in
    let made = c.in_ok-arrive_at.ensures in
    let one = given-one s c.args.places.now.items now (place_in tasks m) new l1 d1 l2 d2 made.count_queues made.count_dispatches made.arrived made.others made.unchanged made.asked made.within in
    let both = given-then s c.args.places.now.items now (placed s c.has_rules.ensures) (λ i. cond (is_among (take m tasks) i) new []) (λ i. cond (eqb (place_in tasks m) i) new []) l0 d0 l1 d1 l2 d2 c.loop-task.invariant one in
    given-same s c.args.places.now.items now (λ i. cond (is_among (take m tasks) i) new [] ++ cond (eqb (place_in tasks m) i) new []) (λ i. cond (is_among (take (m + 1) tasks) i) new []) l0 d0 l2 d2 both
    (λ i less. listed-more s tasks c.requires.tasks new m c.loop-task-test.true i)

-- a task that got none has none that are kept
pub returns-in_err-arrive_at-clause-memory : goal.returns-in_err-arrive_at-clause-memory
returns-in_err-arrive_at-clause-memory c = λ unkept.
    let tasks = c.args.tasks.now in
    let m = c.loop-task.task-index in
    let t = place_in tasks m in
    let l0 = c.args.queues.now.items in
    let there = listed-there c.args.system.now tasks c.requires.tasks m c.loop-task-test.true in
    let same = c.loop-task.invariant.arrived t there in
    let none = arrived-kept c.args.now (cond (is_among (take m tasks) t) (causes_of c.args.causes) []) (queue_at l0 t) (unkept t there) in
    absurd (false≢true (c.in_err-arrive_at.ensures.memory (ap (λ (l : QueueCounts). l.kept) same ∙ none)))

-- all of them had their turn
pub returns-after-loop-task-clause-given : goal.returns-after-loop-task-clause-given
returns-after-loop-task-clause-given c =
    let tasks = c.args.tasks.now in
    let m = c.loop-task.task-index in
    let new = causes_of c.args.causes in
    given-same c.args.system.now c.args.places.now.items c.args.now (λ i. cond (is_among (take m tasks) i) new []) (λ i. cond (is_among tasks i) new []) c.args.queues.now.items c.args.dispatches.now.items c.loop-task.queues.items c.loop-task.dispatches.items
    c.loop-task.invariant
    (λ i less. ap (λ ts. cond (is_among ts i) new []) (take_all m tasks c.loop-task-test.false))

-- no job comes
pub returns-else-causes-gt0-clause-given : goal.returns-else-causes-gt0-clause-given
returns-else-causes-gt0-clause-given c =
    let s = c.args.system.now in
    let tasks = c.args.tasks.now in
    let new = causes_of c.args.causes in
    let l0 = c.args.queues.now.items in
    let d0 = c.args.dispatches.now.items in
    let count : c.args.causes.count ≡ 0 = omega (arith, c.if-causes-gt0.false) in
    let none : new ≡ [] = ap (λ n. causes_by c.args.causes.by (range_with_len c.args.causes.first n)) count in
    given-same s c.args.places.now.items c.args.now (λ i. []) (λ i. cond (is_among tasks i) new []) l0 d0 l0 d0 (given-none s c.args.places.now.items c.args.now l0 d0 c.requires.queues c.requires.dispatches)
    (λ i less. no-matter (is_among tasks i) new none)
