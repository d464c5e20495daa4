use Rattle.std.proofs.Common.{◌+◌, ◌*◌, ◌^◌, ◌≤◌}
use Rattle.cpa_units.specs.declared.limits.TheConstants.{MAX_PERIOD}
use Rattle.cpa_events.specs.Events.{eta_plus}
use Rattle.cpa_events.proofs.model.least_alone.Given as goal

abbrev pub invariant-loop-stream : goal.invariant-loop-stream
invariant-loop-stream l =
    record {
      room : l.n ≤ eta_plus l.streams (l.least + 1);
      small : l.least ≤ 2 ^ 33 * MAX_PERIOD;
    }
