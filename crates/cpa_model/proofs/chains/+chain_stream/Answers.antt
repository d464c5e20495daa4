use Rattle.std.proofs.Common.{◌≡◌, Some, length, ap, arith}
use Rattle.cpa_model.specs.Chains.{activators}
use Rattle.std.specs.Prelude.{Ok}
use Rattle.cpa_model.specs.declared.entries.Activator.TheVariants.{Source, Task}
use Rattle.cpa_model.proofs.ChainLaws.{streams_within-none, stream-there, streams-all}
use Rattle.cpa_model.proofs.chains.+chain_stream.Goals.{in-Source, in-Source-2, in-Task}
use Rattle.cpa_model.proofs.chains.+chain_stream.Goals as goal

pub returns-then-left-eq0 : goal.returns-then-left-eq0
returns-then-left-eq0 t c =
    let none = ap length (streams_within-none (activators c.args.tasks.now) c.go_back-at.result.1 c.go_back-at.result.0 c.if-left-eq0.true) in omega (arith, none, ap length c.go_back-at.ensures.streams)

pub returns-in-Ok : goal.returns-in-Ok
returns-in-Ok t c = rw c.go_back-at.ensures.streams (elim c.match-after.branch [
  | in-Source w ↦
      stream-there (activators c.args.tasks.now) c.go_back-at.result.1 c.go_back-at.result.0 c.loop-after.after-index c.args.place c.loop-after.ahead c.activators_of-after-items.result.now (Source w.in-Source.source) (Source (record { 0 = 0 })) c.in-Ok.source (omega arith)
      c.activators_of-after-items.ensures c.loop-after-test.true w.in-Source.is c.loop-after.invariant
      (rw (w.if-ahead-eq0.true) (ap Some cc))
  | in-Source-2 w ↦ cc
  | in-Task w ↦
      let same : w.chain_stream-found.result ≡ Ok c.in-Ok.source = cc in
      stream-there (activators c.args.tasks.now) c.go_back-at.result.1 c.go_back-at.result.0 c.loop-after.after-index c.args.place c.loop-after.ahead c.activators_of-after-items.result.now (Task w.in-Task.next) (Source (record { 0 = 0 })) c.in-Ok.source (omega arith)
      c.activators_of-after-items.ensures c.loop-after-test.true w.in-Task.is c.loop-after.invariant
      (rw same at w.chain_stream-found.ensures)
])

pub returns : goal.returns
returns t c =
    let all = ap length (streams-all (activators c.args.tasks.now) c.go_back-at.result.1 c.go_back-at.result.0 c.loop-after.after-index c.activators_of-after-items.result.now (omega arith) c.activators_of-after-items.ensures
    c.loop-after-test.false) in
    omega (arith, all, c.loop-after.invariant, ap length c.go_back-at.ensures.streams)
