use Rattle.std.proofs.Common.{length, sym, ap, ◌∙◌, arith}
use Rattle.cpa_model.specs.Chains.{activators}
use Rattle.cpa_model.specs.declared.entries.Activator.TheVariants.{Source, Task}
use Rattle.cpa_model.proofs.ChainLaws.{streams_within-none, streams-part, streams-all}
use Rattle.cpa_model.proofs.chains.+chain_streams.Goals.{in-Source, in-Task}
use Rattle.cpa_model.proofs.chains.+chain_streams.Goals as goal

pub returns-then-left-eq0 : goal.returns-then-left-eq0
returns-then-left-eq0 t c = sym (ap length (c.go_back-at.ensures.streams ∙ streams_within-none (activators c.args.tasks.now) c.go_back-at.result.1 c.go_back-at.result.0 c.if-left-eq0.true))

pub chain_streams-streams-requires : goal.chain_streams-streams-requires
chain_streams-streams-requires t c =
    let part = streams-part (activators c.args.tasks.now) c.go_back-at.result.1 c.go_back-at.result.0 c.loop-after.after-index c.activators_of-after-items.result.now (Task c.in-Task.next) (Source (record { 0 = 0 })) (omega arith)
    c.activators_of-after-items.ensures c.loop-after-test.true c.in-Task.is in
    (omega (arith, c.decreases, c.go_back-at.ensures.fewer), omega (arith, part, c.requires, ap length c.go_back-at.ensures.streams))

pub overflow_add-count : goal.overflow_add-count
overflow_add-count t c = elim c.match-after.branch [
  | in-Source w ↦
      let part = streams-part (activators c.args.tasks.now) c.go_back-at.result.1 c.go_back-at.result.0 c.loop-after.after-index c.activators_of-after-items.result.now (Source w.in-Source.field-0) (Source (record { 0 = 0 })) (omega arith)
      c.activators_of-after-items.ensures c.loop-after-test.true w.in-Source.is in
      omega (arith, part, c.requires, c.loop-after.invariant, ap length c.go_back-at.ensures.streams)
  | in-Task w ↦
      let part = streams-part (activators c.args.tasks.now) c.go_back-at.result.1 c.go_back-at.result.0 c.loop-after.after-index c.activators_of-after-items.result.now (Task w.in-Task.next) (Source (record { 0 = 0 })) (omega arith)
      c.activators_of-after-items.ensures c.loop-after-test.true w.in-Task.is in
      omega (arith, part, c.requires, c.loop-after.invariant, w.chain_streams-streams.ensures, ap length c.go_back-at.ensures.streams)
]

pub returns : goal.returns
returns t c =
    c.loop-after.invariant
    ∙ ap length (streams-all (activators c.args.tasks.now) c.go_back-at.result.1 c.go_back-at.result.0 c.loop-after.after-index c.activators_of-after-items.result.now (omega arith) c.activators_of-after-items.ensures
    c.loop-after-test.false)
    ∙ sym (ap length c.go_back-at.ensures.streams)
