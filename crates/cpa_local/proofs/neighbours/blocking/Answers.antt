use Rattle.std.proofs.Common.{◌∙◌, take, get_or, sym, ap, arith}
use Rattle.std.specs.Prelude.{filter}
use Rattle.cpa_model.specs.declared.entries.Task.{Task}
use Rattle.cpa_model.specs.SystemLists.{task_at, tasks_on, places_of, is_higher}
use Rattle.cpa_model.proofs.SystemLaws.{no_id}
use Rattle.cpa_local.specs.Blocking.{blocking_between}
use Rattle.cpa_local.proofs.BlockingLaws.{greatest_in, greatest-push}
use Rattle.cpa_local.proofs.RivalLaws.{lower-on, passing-more, failing-more, found-all}
use Rattle.cpa_local.proofs.neighbours.blocking.Goals as goal
use Rattle.cpa_local.proofs.neighbours.blocking.Goals.{then-is_higher, else-is_higher}

pub loop-other-preserved : goal.loop-other-preserved
loop-other-preserved c =
    let s = c.args.system.now in
    let ids = c.tasks_on-other-items.result.now in
    let k = c.loop-other.other-index in
    elim c.if-is_higher.branch [
      | then-is_higher w ↦
          let lower = sym c.is_higher.ensures ∙ w.if-is_higher.true in
          let short = w.most_with-most.ensures.in_range in
          record {
            found = rw (w.most-is, w.most_with-most.ensures.value, c.loop-other.invariant.found, passing-more (λ j. is_higher s j c.args.task.0) ids k no_id c.loop-other-test.true lower)
                (sym (greatest-push (blocking_between s c.args.kind c.args.task.0) (filter (λ j. is_higher s j c.args.task.0) (places_of (take k ids))) (get_or ids k no_id).0));
            small = omega (arith, w.most-is, short);
          }
      | else-is_higher w ↦
          let higher = sym c.is_higher.ensures ∙ w.if-is_higher.false in
          record {
            found = rw (w.most-is, c.loop-other.invariant.found) (ap (greatest_in (blocking_between s c.args.kind c.args.task.0)) (sym (failing-more (λ j. is_higher s j c.args.task.0) ids k no_id c.loop-other-test.true higher)));
            small = rw w.most-is c.loop-other.invariant.small;
          }
    ]

pub returns-clause-value : goal.returns-clause-value
returns-clause-value c =
    let s = c.args.system.now in
    let on = ap (λ (t : Task). t.res.0) c.task.ensures.value in
    c.loop-other.invariant.found
    ∙ ap (greatest_in (blocking_between s c.args.kind c.args.task.0))
    (found-all s (task_at s c.args.task.0).res.0 (λ j. is_higher s j c.args.task.0) c.tasks_on-other-items.result.now c.loop-other.other-index (lower-on s c.args.task.0) (c.tasks_on-other-items.ensures.places ∙ ap (tasks_on s) on) c.loop-other-test.false)
