use Rattle.std.proofs.Common.{◌≡◌, ◌≤◌, length, map, take, All}
use Rattle.std.specs.Prelude.{filter}
use Rattle.cpa_window.specs.Rivals.{IsRival}
use Rattle.cpa_model.specs.SystemLists.{is_higher, places_of}
use Rattle.cpa_local.specs.Local.{rival_of}
use Rattle.cpa_local.proofs.neighbours.gather_higher.Given as goal

abbrev pub invariant-loop-other : goal.invariant-loop-other
invariant-loop-other l = record {
  found : take l.count l.rivals ≡ map (rival_of l.system l.x) (filter (is_higher l.system l.fn.task.0) (places_of (take l.other-index l.other-items)));
  few : l.count ≤ l.other-index;
  each : All IsRival (take l.count l.rivals);
  room : length l.rivals ≡ length l.fn.rivals;
}
