use Rattle.std.proofs.Common.{◌≡◌, take, false}
use Rattle.std.specs.List.{list_any}
use Rattle.cpa_audit.specs.Auditing.{lies_before}
use Rattle.cpa_audit.proofs.auditing.some_before.Given as goal

abbrev pub invariant-loop-going : goal.invariant-loop-going
invariant-loop-going l = list_any (lies_before l.place) (take l.going-index l.opens) ≡ false
