use Rattle.std.proofs.Common.{◌≡◌, ◌-◌, ◌<◌, ℕ, length, Some, None, option_map}
use Rattle.cpa_model.specs.SystemLists.{place_of}
use Rattle.cpa_sim.specs.Simulation.{ends_of}
use Rattle.cpa_sim.specs.Arrivals.{AreGiven}
use Rattle.cpa_sim.proofs.ArrivalLaws.{upto, started_below}
use Rattle.cpa_sim.proofs.arrivals.arrive_in_order.Given as goal

abbrev pub invariant-ends : goal.invariant-ends
invariant-ends l = record {
  there : (j : ℕ) → option_map place_of l.next ≡ Some j → j < length l.system.tasks;
  ends : (j : ℕ) → option_map place_of l.next ≡ Some j → ends_of l.system l.initial.dispatches.items j ≡ 1;
  given : AreGiven l.system l.places.items l.now (λ i. started_below l.system l.initial.queues.items l.initial.dispatches.items i (upto (length l.system.tasks) (option_map place_of l.next))) l.initial.queues.items l.initial.dispatches.items l.queues.items l.dispatches.items;
}

abbrev pub decreases-ends : goal.decreases-ends
decreases-ends l = elim l.next [ None ↦ 0 | Some task ↦ length l.system.tasks - task.0 ]
