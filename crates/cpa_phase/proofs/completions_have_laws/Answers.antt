use Rattle.std.proofs.Common.{arith}
use Rattle.cpa_phase.proofs.SentLaws.{sent_on-wider, sent_on-later}
use Rattle.cpa_phase.proofs.completions_have_laws.Goals as goal

pub returns-clause-keep : goal.returns-clause-keep
returns-clause-keep c p best bound worst m arrival response after before least greatest = (omega arith, omega arith)

pub returns-clause-grow : goal.returns-clause-grow
returns-clause-grow c p q best best' bound bound' worst h b k =
    (λ order. sent_on-wider p q best best' bound bound' worst h b k order, sent_on-later p q best bound bound' worst h k)
