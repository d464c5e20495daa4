use Rattle.std.proofs.Common.{ap₂, ◌∙◌, map}
use Rattle.cpa_model.specs.SystemLists.{source_at}
use Rattle.cpa_gen.specs.MadeTraces.{late_by, times_made, most_made}
use Rattle.cpa_gen.proofs.ListLaws.{map_push, table_more}
use Rattle.cpa_gen.proofs.traces.all_worst_times.Goals as goal

pub loop-j-preserved : goal.loop-j-preserved
loop-j-preserved c =
    let s = c.args.system.now in
    let j = c.loop-j.j in
    table_more (λ j. times_made (most_made s) (source_at s j) (late_by c.args.late (source_at s j))) j (map (λ v. v.items) c.loop-j.times.items) _ c.in_ok-worst_times.field-0.items c.loop-j.invariant
    (c.in_ok-worst_times.ensures ∙ ap₂ (λ n r. times_made n r (late_by c.args.late r)) c.most_made-most.ensures.value c.source.ensures.value)
    (map_push (λ v. v.items) c.loop-j.times.items c.push.new.self.items c.in_ok-worst_times.field-0 c.in_ok-push.ensures.items)
