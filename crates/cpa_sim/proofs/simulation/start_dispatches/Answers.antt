use Rattle.std.proofs.Common.{◌∙◌, ◌+◌, false, length, None, refl, ap}
use Rattle.std.proofs.lemmas.List.{length_push}
use Rattle.cpa_sim.specs.declared.dispatches.Dispatch.{Dispatch}
use Rattle.cpa_sim.specs.Simulation.{no_dispatch, IsFirst}
use Rattle.cpa_sim.proofs.PlaceLaws.{push-more}
use Rattle.cpa_sim.proofs.simulation.start_dispatches.Goals as goal

pub loop-k-preserved : goal.loop-k-preserved
loop-k-preserved c =
    let s = c.args.system.now in
    let k = c.loop-k.k in
    let dispatches = c.loop-k.dispatches.items in
    let dispatch : Dispatch = record { state = c.first_state-state.result; running = None; ticks = 0; gone = 0; ends = false; waiters = c.none.result } in
    let e = c.in_ok-push.ensures.items in
    let first : IsFirst s k dispatch = record { state = c.first_state-state.ensures.state; gone = refl; ticks = refl; idle = refl } in
    record {
      count = ap length e ∙ (length_push dispatches dispatch ∙ ap (λ n. n + 1) c.loop-k.invariant.count);
      first = λ r less. rw e (push-more (λ r (x : Dispatch). IsFirst s r x) dispatches k dispatch no_dispatch c.loop-k.invariant.count c.loop-k.invariant.first first r less);
    }
