use Rattle.std.proofs.Common.{◌≡◌, ◌≤◌, take}
use Rattle.std.specs.Prelude.{count_by}
use Rattle.cpa_sim.specs.SimText.{is_set}
use Rattle.cpa_sim.proofs.text.complete.Given as goal

abbrev pub invariant-loop-passage : goal.invariant-loop-passage
invariant-loop-passage l = record {
  count : l.count ≡ count_by is_set (take l.passage-index l.passages);
  small : l.count ≤ l.passage-index;
}
