use Rattle.std.proofs.Common.{◌≡◌, ◌≤◌, true, false, take, get_or, ap, ◌∙◌, sym, arith}
use Rattle.std.proofs.lemmas.List.{take_all}
use Rattle.cpa_units.specs.declared.limits.TheConstants.{MAX_PERIOD}
use Rattle.cpa_draft.specs.Clocks.{least_common_multiple, common_cycle}
use Rattle.cpa_draft.proofs.ClockLaws.{cycle-some}
use Rattle.cpa_model.specs.declared.entries.Source.{Source}
use Rattle.cpa_model.specs.Rules.{IsSource}
use Rattle.cpa_model.specs.Clocks.{is_on_clock, clock_periods, of_sources}
use Rattle.cpa_model.proofs.KeptClocks.{cycle-first, cycle-joined, cycle-passed}
use Rattle.cpa_model.proofs.clocks.cycle_of.Goals as goal
use Rattle.cpa_model.proofs.clocks.cycle_of.Goals.{then-is_on, else-is_on}

pub least_multiple-cycle-requires-clause-a : goal.least_multiple-cycle-requires-clause-a
least_multiple-cycle-requires-clause-a c =
    let small : common_cycle (clock_periods (of_sources (take c.loop-source.source-index c.args.sources.now)) c.args.name.now) ≤ MAX_PERIOD =
    cycle-first c.args.name.now c.args.sources.now c.loop-source.source-index c.requires.periods c.requires.short in
    let some = cycle-some (clock_periods (of_sources (take c.loop-source.source-index c.args.sources.now)) c.args.name.now) in
    rw c.loop-source.invariant (some, small)

pub least_multiple-cycle-requires-clause-b : goal.least_multiple-cycle-requires-clause-b
least_multiple-cycle-requires-clause-b c =
    let is : IsSource c.source-item.result = rw (c.source-item.is) (c.requires.periods c.loop-source.source-index c.source-item.result c.loop-source-test.true) in (
      omega (arith, is.some_period),
      is.period,
    )

pub loop-source-preserved : goal.loop-source-preserved
loop-source-preserved c =
    let on : is_on_clock c.args.name.now c.source-item.result ≡ is_on_clock c.args.name.now (get_or c.args.sources.now c.loop-source.source-index c.source-item.result) = ap (is_on_clock c.args.name.now) c.source-item.is in
    elim c.if-is_on.branch [
      | then-is_on w ↦
          w.cycle-is ∙ w.least_multiple-cycle.ensures
          ∙ ap (λ n. least_common_multiple n c.source-item.result.period) c.loop-source.invariant
          ∙ ap (λ (r : Source). least_common_multiple (common_cycle (clock_periods (of_sources (take c.loop-source.source-index c.args.sources.now)) c.args.name.now)) r.period) c.source-item.is
          ∙ sym (cycle-joined c.args.name.now c.args.sources.now c.loop-source.source-index c.source-item.result c.loop-source-test.true (sym on ∙ sym c.is_on.ensures ∙ w.if-is_on.true))
      | else-is_on w ↦
          w.cycle-is ∙ c.loop-source.invariant
          ∙ sym (cycle-passed c.args.name.now c.args.sources.now c.loop-source.source-index c.source-item.result c.loop-source-test.true (sym on ∙ sym c.is_on.ensures ∙ w.if-is_on.false))
    ]

pub returns : goal.returns
returns c =
    c.loop-source.invariant ∙ ap (λ us. common_cycle (clock_periods (of_sources us) c.args.name.now)) (take_all c.loop-source.source-index c.args.sources.now c.loop-source-test.false)
