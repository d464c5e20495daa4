use Rattle.std.proofs.Common.{sym, ◌∙◌}
use Rattle.std.proofs.lemmas.Bool.{true≢false}
use Rattle.cpa_local.proofs.TrailLaws.{unmarked}
use Rattle.cpa_local.proofs.trail.Trail.with_room.Goals as goal

pub returns-clause-none : goal.returns-clause-none
returns-clause-none c = λ i h. absurd (true≢false (sym h ∙ unmarked 8192 i))
