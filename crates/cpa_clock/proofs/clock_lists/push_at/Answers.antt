use Rattle.std.proofs.Common.{◌∙◌, ◌∷◌, [], ◌++◌, ap}
use Rattle.cpa_phase.specs.declared.clock.Clock.{Clock}
use Rattle.cpa_clock.proofs.ListLaws.{more_at_place, cycle_at-is, streams_at-is}
use Rattle.cpa_clock.proofs.clock_lists.push_at.Goals as goal

pub returns : goal.returns
returns c =
    let clock : Clock = record { cycle = c.index_mut.result.now.cycle; streams = c.push.new.self } in
    let is = c.index_mut.ensures.value in
    more_at_place c.args.clocks.now.items c.args.place clock c.args.stream c.requires
    (cycle_at-is c.args.clocks.now.items c.args.place c.index_mut.result.now c.requires is)
    (c.in_ok-push.ensures.items ∙ (ap (λ xs. xs ++ c.args.stream ∷ []) (streams_at-is c.args.clocks.now.items c.args.place c.index_mut.result.now c.requires is)))
