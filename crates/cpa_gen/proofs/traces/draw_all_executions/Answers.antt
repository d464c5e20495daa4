use Rattle.std.proofs.Common.{◌≡◌, ap, ap₂, ◌∙◌, map, List, ℕ}
use Rattle.cpa_model.specs.SystemLists.{task_at}
use Rattle.cpa_gen.specs.Draws.{after_draws}
use Rattle.cpa_gen.specs.MadeTraces.{before_task, executions_drawn, jobs_by, jobs_made}
use Rattle.cpa_gen.proofs.ListLaws.{map_push, table_more}
use Rattle.cpa_gen.proofs.ShiftLaws.{after_more, before_task-more, executions_shifted}
use Rattle.cpa_gen.proofs.traces.draw_all_executions.Goals as goal

pub loop-i-preserved : goal.loop-i-preserved
loop-i-preserved c g e =
    let s = c.args.system.now in
    let i = c.loop-i.i in
    let now = c.loop-i.invariant g e in
    let jobs : c.jobs_by-jobs.result ≡ jobs_made s i = c.jobs_by-jobs.ensures ∙ ap (λ n. jobs_by n s i) c.most_made-most.ensures.value in
    let f : ℕ → List ℕ = λ i. executions_drawn g (before_task s i) (task_at s i) (jobs_made s i) in
    let taken = after_more g c.loop-i.rng c.drawn_executions.new.rng (before_task s i) (jobs_made s i) now.0 (c.in_ok-drawn_executions.ensures.taken ∙ ap (after_draws c.loop-i.rng) jobs) in (
      taken ∙ ap (after_draws g) (before_task-more s i),
      table_more f i (map (λ v. v.items) c.loop-i.executions.items) _ c.in_ok-drawn_executions.field-0.items now.1
          (c.in_ok-drawn_executions.ensures.executions ∙ ap₂ (executions_drawn c.loop-i.rng 0) c.task.ensures.value jobs ∙ executions_shifted g c.loop-i.rng (before_task s i) (task_at s i) (jobs_made s i) now.0)
          (map_push (λ v. v.items) c.loop-i.executions.items c.push.new.self.items c.in_ok-drawn_executions.field-0 c.in_ok-push.ensures.items),
    )
