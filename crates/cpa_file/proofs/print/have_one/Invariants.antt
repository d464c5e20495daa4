use Rattle.std.proofs.Common.{◌≡◌, true, take}
use Rattle.std.specs.List.{list_all}
use Rattle.cpa_file.specs.Printed.{has_one}
use Rattle.cpa_file.proofs.print.have_one.Given as goal

abbrev pub invariant-loop-k : goal.invariant-loop-k
invariant-loop-k l = list_all has_one (take l.k l.system.tasks) ≡ true
