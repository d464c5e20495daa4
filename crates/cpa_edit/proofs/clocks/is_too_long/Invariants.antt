use Rattle.cpa_edit.proofs.CycleLaws.{HasMet}
use Rattle.cpa_edit.proofs.clocks.is_too_long.Given as goal

abbrev pub invariant-loop-k : goal.invariant-loop-k
invariant-loop-k l = HasMet l.system l.source.0 l.period l.name l.k l.schedule
