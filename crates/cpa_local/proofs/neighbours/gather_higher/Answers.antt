use Rattle.std.proofs.Common.{◌<◌, ◌≤◌, take, length, map, ap, sym, ◌∙◌, arith}
use Rattle.std.specs.Prelude.{filter}
use Rattle.std.proofs.lemmas.List.{map-append, length-map, take_more_set}
use Rattle.std.proofs.lemmas.List.Elements.{All-push}
use Rattle.cpa_window.specs.Rivals.{IsRival}
use Rattle.cpa_model.specs.declared.entries.Task.{Task}
use Rattle.cpa_model.specs.SystemLists.{is_on, task_at, task_places, tasks_on, is_higher}
use Rattle.cpa_model.proofs.SystemLaws.{no_id}
use Rattle.cpa_model.proofs.ResourceTaskLaws.{task_list-few}
use Rattle.cpa_local.specs.Local.{rival_of}
use Rattle.cpa_local.proofs.RivalLaws.{places-long, higher-on, higher-few, passing-more, failing-more, found-all}
use Rattle.cpa_local.proofs.neighbours.gather_higher.Goals as goal
use Rattle.cpa_local.proofs.neighbours.gather_higher.Goals.{then-is_higher, else-is_higher}

pub bounds-rivals-count : goal.bounds-rivals-count
bounds-rivals-count c =
    let long = places-long c.tasks_on-other-items.result.now _ (c.tasks_on-other-items.ensures.places ∙ ap (tasks_on c.args.system.now) (ap (λ (t : Task). t.res.0) c.task.ensures.value)) in
    omega (arith, c.loop-other.invariant.few, c.loop-other.invariant.room, c.loop-other-test.true, c.requires.room, long)

pub offset_bounds-rivals-count : goal.offset_bounds-rivals-count
offset_bounds-rivals-count c =
    let few = task_list-few (is_on c.args.system.now c.task.result.now.res.0) (length c.args.system.now.tasks) c.tasks_on-other-items.result.now c.tasks_on-other-items.ensures.places in
    let small : c.loop-other.count ≤ 8192 = omega (arith, c.loop-other.invariant.few, c.loop-other-test.true, c.tasks_on-other-items.ensures.rules.few_tasks) in
    omega (arith, small)

pub loop-other-preserved : goal.loop-other-preserved
loop-other-preserved c =
    let s = c.args.system.now in
    let ids = c.tasks_on-other-items.result.now in
    let k = c.loop-other.other-index in
    let long = places-long ids _ (c.tasks_on-other-items.ensures.places ∙ ap (tasks_on s) (ap (λ (t : Task). t.res.0) c.task.ensures.value)) in
    let less : c.loop-other.count < length c.loop-other.rivals =
    omega (arith, c.loop-other.invariant.few, c.loop-other.invariant.room, c.loop-other-test.true, c.requires.room, long) in
    elim c.if-is_higher.branch [
      | then-is_higher w ↦
          let chosen = sym c.is_higher.ensures ∙ w.if-is_higher.true in
          let more = passing-more (is_higher s c.args.task.0) ids k no_id c.loop-other-test.true chosen in
          let put = take_more_set c.loop-other.rivals c.loop-other.count w.put_rival.new.place less in
          record {
            found = rw (w.rivals-is, w.count-is, put, c.loop-other.invariant.found, w.put_rival.ensures.value, more)
                (sym (map-append (rival_of s c.args.x.now) _ _));
            few = rw w.count-is (let few = c.loop-other.invariant.few in omega arith);
            each = rw (w.rivals-is, w.count-is, put)
                (All-push IsRival (take c.loop-other.count c.loop-other.rivals) w.put_rival.new.place c.loop-other.invariant.each w.put_rival.ensures.in_range);
            room = c.if-is_higher.auto.rivals ∙ c.loop-other.invariant.room;
          }
      | else-is_higher w ↦
          let left = sym c.is_higher.ensures ∙ w.if-is_higher.false in
          record {
            found = rw (w.rivals-is, w.count-is, c.loop-other.invariant.found) (ap (map (rival_of s c.args.x.now)) (sym (failing-more (is_higher s c.args.task.0) ids k no_id c.loop-other-test.true left)));
            few = rw w.count-is (let few = c.loop-other.invariant.few in omega arith);
            each = rw (w.rivals-is, w.count-is) c.loop-other.invariant.each;
            room = c.if-is_higher.auto.rivals ∙ c.loop-other.invariant.room;
          }
    ]

pub returns-clause-value : goal.returns-clause-value
returns-clause-value c =
    let s = c.args.system.now in
    let on = ap (λ (t : Task). t.res.0) c.task.ensures.value in
    c.loop-other.invariant.found
    ∙ ap (map (rival_of s c.args.x.now))
    (found-all s (task_at s c.args.task.0).res.0 (is_higher s c.args.task.0) c.tasks_on-other-items.result.now c.loop-other.other-index (higher-on s c.args.task.0) (c.tasks_on-other-items.ensures.places ∙ ap (tasks_on s) on) c.loop-other-test.false)

pub returns-clause-in_range : goal.returns-clause-in_range
returns-clause-in_range c =
    let s = c.args.system.now in
    let on = ap (λ (t : Task). t.res.0) c.task.ensures.value in
    let found = c.loop-other.invariant.found
    ∙ ap (map (rival_of s c.args.x.now))
    (found-all s (task_at s c.args.task.0).res.0 (is_higher s c.args.task.0) c.tasks_on-other-items.result.now c.loop-other.other-index (higher-on s c.args.task.0) (c.tasks_on-other-items.ensures.places ∙ ap (tasks_on s) on) c.loop-other-test.false) in
    let long = ap length found ∙ length-map (filter (is_higher s c.args.task.0) (task_places s)) (rival_of s c.args.x.now) in
    record {
      few = omega (arith, higher-few s c.args.task.0 c.requires.there, c.tasks_on-other-items.ensures.rules.few_tasks);
      each = c.loop-other.invariant.each;
    }

pub returns-clause-few : goal.returns-clause-few
returns-clause-few c =
    let long = places-long c.tasks_on-other-items.result.now _ (c.tasks_on-other-items.ensures.places ∙ ap (tasks_on c.args.system.now) (ap (λ (t : Task). t.res.0) c.task.ensures.value)) in
    omega (arith, c.loop-other.invariant.few, c.loop-other.invariant.room, c.loop-other.auto.other-index-end, c.requires.room, long)
