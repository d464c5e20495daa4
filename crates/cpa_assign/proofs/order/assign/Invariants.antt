use Rattle.std.proofs.Common.{◌≡◌, ◌+◌, length}
use Rattle.std.specs.Prelude.{filter}
use Rattle.cpa_units.specs.Sets.{holds}
use Rattle.cpa_model.specs.SystemLists.{task_places, tasks_on, places_of}
use Rattle.cpa_model.specs.Rules.{IsSystem}
use Rattle.cpa_assign.specs.Orders.{IsOrderable}
use Rattle.cpa_assign.specs.Placing.{IsRoom}
use Rattle.cpa_assign.proofs.MeetLaws.{IsPart}
use Rattle.cpa_assign.proofs.order.assign.Given as goal

abbrev pub invariant-loop-placed : goal.invariant-loop-placed
invariant-loop-placed l = record {
  part : (rules : IsSystem l.system) (able : IsOrderable l.system l.fn.res.0) → IsPart l.system l.fn.res.0 rules able (holds l.free.items) (places_of l.tasks.items);
  placed : length l.tasks.items ≡ l.placed;
  left : length l.tasks.items + length (filter (holds l.free.items) (task_places l.system)) ≡ length (tasks_on l.system l.fn.res.0);
  marks : length l.free.items ≡ length l.system.tasks;
  room : IsRoom l.system l.fn.res.0 l.room;
}
