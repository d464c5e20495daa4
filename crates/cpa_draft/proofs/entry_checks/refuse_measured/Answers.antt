use Rattle.std.proofs.Common.{Ok, ap}
use Rattle.cpa_draft.proofs.entry_checks.refuse_measured.Goals as goal

pub first_long-requires-clause-known : goal.first_long-requires-clause-known
first_long-requires-clause-known c = c.in_ok-place.ensures.known (ap Ok c.in-None.is)
