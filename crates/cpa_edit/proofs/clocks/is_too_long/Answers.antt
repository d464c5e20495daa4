use Rattle.std.proofs.Common.{◌≡◌, ◌<◌, true, false, length, sym, ap, ◌∙◌, arith}
use Rattle.cpa_model.specs.SystemLists.{source_at}
use Rattle.cpa_model.specs.Clocks.{is_on_clock}
use Rattle.cpa_edit.proofs.CycleLaws.{met-none, met-joined, met-passed, met-long, met-all}
use Rattle.cpa_edit.proofs.clocks.is_too_long.Goals as goal
use Rattle.cpa_edit.proofs.clocks.is_too_long.Goals.{then-is_on+in-Some, else-is_on}

pub loop-k-init : goal.loop-k-init
loop-k-init c = met-none c.args.system.now c.args.source.0 c.args.period c.args.name.now

pub join-requires-clause-schedule : goal.join-requires-clause-schedule
join-requires-clause-schedule c = c.loop-k.invariant.short

pub returns-in_default : goal.returns-in_default
returns-in_default c = λ jitter distance.
    let less : c.loop-k.k < length c.args.system.now.sources = omega (arith, c.loop-k-test.true, c.sources-k-end.ensures.count) in
    let on : is_on_clock c.args.name.now (source_at c.args.system.now c.loop-k.k) ≡ true = sym (ap (is_on_clock c.args.name.now) c.source.ensures.value) ∙ sym c.is_on.ensures ∙ c.if-is_on.true in
    met-long c.args.system.now c.has_rules.ensures c.args.source.0 c.args.period c.args.name.now c.loop-k.k c.loop-k.schedule c.requires.source c.requires.period.0 c.loop-k.invariant
    c.period_at.result c.period_at.ensures.value less on (sym c.join.ensures ∙ c.in_default.is) jitter distance

pub loop-k-preserved : goal.loop-k-preserved
loop-k-preserved c =
    let less : c.loop-k.k < length c.args.system.now.sources = omega (arith, c.loop-k-test.true, c.sources-k-end.ensures.count) in
    let same : c.is_on.result ≡ is_on_clock c.args.name.now (source_at c.args.system.now c.loop-k.k) = c.is_on.ensures ∙ ap (is_on_clock c.args.name.now) c.source.ensures.value in
    elim c.if-is_on.branch [
      | then-is_on+in-Some w ↦
          rw (w.schedule-is)
          (met-joined c.args.system.now c.has_rules.ensures c.args.source.0 c.args.period c.args.name.now c.loop-k.k c.loop-k.schedule c.requires.source c.requires.period.0 c.loop-k.invariant
          w.period_at.result w.period_at.ensures.value less (sym same ∙ w.if-is_on.true) w.in-Some.next (sym w.join.ensures ∙ w.in-Some.is))
      | else-is_on w ↦
          rw (w.schedule-is)
          (met-passed c.args.system.now c.has_rules.ensures c.args.source.0 c.args.period c.args.name.now c.loop-k.k c.loop-k.schedule c.requires.source c.requires.period.0 c.loop-k.invariant
          less (sym same ∙ w.if-is_on.false))
    ]

pub returns : goal.returns
returns c =
    met-all c.args.system.now c.has_rules.ensures c.args.source.0 c.args.period c.args.name.now c.loop-k.k c.loop-k.schedule c.requires.source c.requires.period.0 c.loop-k.invariant
    (omega (arith, c.loop-k-test.false, c.sources-k-end.ensures.count))
