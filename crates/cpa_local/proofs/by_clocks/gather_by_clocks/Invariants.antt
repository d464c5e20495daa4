use Rattle.std.proofs.Common.{map, take}
use Rattle.std.specs.Prelude.{filter}
use Rattle.cpa_clock.specs.Gathered.{IsGathered, own_clock}
use Rattle.cpa_model.specs.SystemLists.{is_higher, places_of}
use Rattle.cpa_local.specs.OnClocks.{anchors_of}
use Rattle.cpa_local.specs.Worked.{clocked_rival_by}
use Rattle.cpa_local.proofs.by_clocks.gather_by_clocks.Given as goal

abbrev pub invariant-loop-other : goal.invariant-loop-other
invariant-loop-other l =
    IsGathered (own_clock l.own (anchors_of l.system l.fn.task.0)) l.clocks.cycles
    (map (clocked_rival_by l.system l.inputs) (filter (is_higher l.system l.fn.task.0) (places_of (take l.other-index l.other-items)))) l.gathered
