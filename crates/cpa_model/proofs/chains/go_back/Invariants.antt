use Rattle.std.proofs.Common.{◌≡◌, ◌-◌}
use Rattle.cpa_model.specs.Chains.{activators, streams_within}
use Rattle.cpa_model.proofs.chains.go_back.Given as goal

abbrev pub invariant-loop-passed : goal.invariant-loop-passed
invariant-loop-passed l = streams_within (activators l.tasks) l.most l.task ≡ streams_within (activators l.tasks) (l.most - l.passed) l.at
