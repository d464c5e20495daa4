use Rattle.std.proofs.Common.{◌∙◌, map, ap}
use Rattle.std.specs.List.{range_with_len}
use Rattle.cpa_sim.specs.Outcome.{outcome_of}
use Rattle.cpa_gen.specs.Adding.{tally_of}
use Rattle.cpa_gen.proofs.SeenLaws.{seen-one}
use Rattle.cpa_gen.proofs.observation.see.Goals as goal

pub returns : goal.returns
returns c =
    let s = c.args.system.now in
    let o = c.in_ok-outcome.outcome in
    let run = c.in_ok-outcome.ensures.run ∙ ap (outcome_of s) c.in_ok-trace.ensures.value in
    let has = c.in_ok-tallies.ensures ∙ ap (λ n. map (tally_of o) (range_with_len 0 n)) c.tasks.ensures.count in
    seen-one s c.args.x.now c.args.number c.args.k o c.in_ok-tallies.field-0.items c.jobs_in.result c.beyond.result run has c.jobs_in.ensures c.beyond.ensures.count
