use Rattle.std.proofs.Common.{◌≡◌, drop}
use Rattle.cpa_draft.specs.Refusals.{is_misfed}
use Rattle.cpa_draft.proofs.FirstLemmas.{first_from}
use Rattle.cpa_draft.proofs.streams.first_misfed.Given as goal

abbrev pub invariant-loop-place : goal.invariant-loop-place
invariant-loop-place l = first_from (is_misfed l.draft) 0 l.tasks ≡ first_from (is_misfed l.draft) l.place (drop l.place l.tasks)
