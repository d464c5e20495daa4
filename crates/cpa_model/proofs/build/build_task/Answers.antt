use Rattle.std.proofs.Common.{refl}
use Rattle.cpa_model.specs.Built.{built_task}
use Rattle.cpa_model.proofs.build.build_task.Goals as goal

pub returns-clause-ok : goal.returns-clause-ok
unfolding built_task
returns-clause-ok c =
    rw (
      c.in_ok-name.ensures.ok,
      c.build_executions-best.ensures.least,
      c.build_executions-best.ensures.greatest,
      c.build_activators.ensures,
      c.build_turn.ensures,
      c.kind_of-kind.ensures,
      c.bit_at.ensures,
      c.rate_at.ensures,
      c.unwrap_or-place.ensures,
      c.resource-found.ensures,
      c.bytes.ensures,
      c.names.ensures,
      c.natural_or.ensures,
      c.in_ok-locks.ensures.ok,
      c.sections.ensures,
    )
    refl
