use Rattle.std.proofs.Common.{◌≡◌, ◌++◌}
use Rattle.std.specs.List.{range_with_len, flat_map}
use Rattle.cpa_effects.specs.ChainText.{step_line}
use Rattle.cpa_effects.proofs.text.put_steps.Given as goal

abbrev pub invariant-loop-k : goal.invariant-loop-k
invariant-loop-k l = l.text ≡ l.initial.text ++ flat_map (step_line l.reading l.system l.x l.tasks) (range_with_len 0 l.k)
