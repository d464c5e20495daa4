use Rattle.std.proofs.Common.{◌≡◌, ◌∙◌, ◌<◌, ◌-◌, length, [], cond, sym, ap, arith}
use Rattle.std.specs.List.{range_with_len}
use Rattle.std.proofs.lemmas.Result.{on_ok_weaker}
use Rattle.std.proofs.lemmas.List.{get_or_read, length-map}
use Rattle.cpa_model.specs.declared.entries.Activator.TheVariants.{Task}
use Rattle.cpa_model.specs.SystemLists.{places_of, is_activated_by}
use Rattle.cpa_sim.specs.declared.jobs.Causes.{Causes}
use Rattle.cpa_sim.specs.Run.{causes_by}
use Rattle.cpa_sim.specs.JobQueues.{QueueCounts, no_queue, causes_of}
use Rattle.cpa_sim.specs.Simulation.{queue_at}
use Rattle.cpa_sim.specs.Arrivals.{is_among, by_last}
use Rattle.cpa_sim.proofs.ArrivalLaws.{given-same, among-is, list-of, listed-read}
use Rattle.cpa_sim.proofs.arrivals.arrive_by_last.Goals as goal

pub arrive_at_all-requires-clause-tasks : goal.arrive_at_all-requires-clause-tasks
arrive_at_all-requires-clause-tasks c =
    let s = c.args.system.now in
    let t = c.args.task.0 in
    let lists = c.args.successors.now.by_task.items in
    let low : t < length lists = omega (arith, c.requires.there, c.requires.successors.count_tasks, length-map lists (λ v. v.items)) in
    let read = listed-read (λ v. v.items) lists t c.index-2.result.now low c.index-2.ensures in
    list-of s (is_activated_by s t) c.as_slice-tasks.result.now (ap places_of (c.as_slice-tasks.ensures.value ∙ sym read) ∙ c.requires.successors.activated t c.requires.there)

pub arrive_at_all-requires-clause-few : goal.arrive_at_all-requires-clause-few
arrive_at_all-requires-clause-few c = λ i less among.
    let s = c.args.system.now in
    let t = c.args.task.0 in
    let lists = c.args.successors.now.by_task.items in
    let low : t < length lists = omega (arith, c.requires.there, c.requires.successors.count_tasks, length-map lists (λ v. v.items)) in
    let read = listed-read (λ v. v.items) lists t c.index-2.result.now low c.index-2.ensures in
    let are = ap places_of (c.as_slice-tasks.ensures.value ∙ sym read) ∙ c.requires.successors.activated t c.requires.there in
    c.requires.few i less (sym (among-is s (is_activated_by s t) c.as_slice-tasks.result.now are i less) ∙ among)

-- a job has no higher number than its task has jobs
pub arrive_at_all-requires-clause-numbers : goal.arrive_at_all-requires-clause-numbers
arrive_at_all-requires-clause-numbers c = λ some. omega (arith, c.saturating_sub.ensures, c.done.ensures.few)

pub returns-clause-given : goal.returns-clause-given
returns-clause-given c =
    let s = c.args.system.now in
    let t = c.args.task.0 in
    let l0 = c.args.queues.now.items in
    let d0 = c.args.dispatches.now.items in
    let tasks = c.as_slice-tasks.result.now in
    let lists = c.args.successors.now.by_task.items in
    let low : t < length lists = omega (arith, c.requires.there, c.requires.successors.count_tasks, length-map lists (λ v. v.items)) in
    let read = listed-read (λ v. v.items) lists t c.index-2.result.now low c.index-2.ensures in
    let are = ap places_of (c.as_slice-tasks.ensures.value ∙ sym read) ∙ c.requires.successors.activated t c.requires.there in
    let queue : c.index.result.now ≡ queue_at l0 t = get_or_read l0 t c.index.result.now (omega (arith, c.requires.there, c.requires.queues)) c.index.ensures no_queue in
    let done : c.index.result.now.done ≡ (queue_at l0 t).done = ap (λ (l : QueueCounts). l.done) queue in
    let first : c.saturating_sub.result ≡ (queue_at l0 t).done - 1 = omega (arith, c.saturating_sub.ensures, c.done.ensures.value, done) in
    let causes : Causes = record { by = Task c.args.task; first = c.saturating_sub.result; count = 1 } in
    on_ok_weaker c.arrive_at_all.result
    (λ given. given-same s c.args.places.now.items c.args.now (λ i. cond (is_among tasks i) (causes_of causes) []) (by_last s l0 t) l0 d0 c.arrive_at_all.new.queues.items c.arrive_at_all.new.dispatches.items given
    (λ i less. ap (λ b. cond b (causes_of causes) []) (among-is s (is_activated_by s t) tasks are i less)
    ∙ ap (λ n. cond (is_activated_by s t i) (causes_by (Task (record { 0 = t })) (range_with_len n 1)) []) first))
    c.arrive_at_all.ensures.given
