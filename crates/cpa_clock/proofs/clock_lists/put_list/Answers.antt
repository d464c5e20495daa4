use Rattle.std.proofs.Common.{rules, ◌∙◌, arith}
use Rattle.cpa_phase.specs.declared.clock.Clock.{Clock}
use Rattle.cpa_clock.proofs.ListLaws.{cycle_at-put, streams_at-put, cycle_at-other, streams_at-other}
use Rattle.cpa_clock.proofs.clock_lists.put_list.Goals as goal

pub returns-then-place-len-clause-empty : goal.returns-then-place-len-clause-empty
returns-then-place-len-clause-empty c =
    let clock : Clock = record { cycle = c.args.cycle; streams = c.clear.new.self } in (
      cycle_at-put c.args.clocks.now.items c.args.place clock (search rules),
      streams_at-put c.args.clocks.now.items c.args.place clock (search rules) ∙ (search rules),
    )

pub returns-then-place-len-clause-before : goal.returns-then-place-len-clause-before
returns-then-place-len-clause-before c k less =
    let clock : Clock = record { cycle = c.args.cycle; streams = c.clear.new.self } in (
      cycle_at-other c.args.clocks.now.items c.args.place clock k (λ same. omega arith),
      streams_at-other c.args.clocks.now.items c.args.place clock k (λ same. omega arith),
    )
