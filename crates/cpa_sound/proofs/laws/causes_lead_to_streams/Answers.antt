use Rattle.cpa_sound.proofs.CauseInstants as cause_instants
use Rattle.cpa_sound.proofs.Soundness as soundness
use Rattle.cpa_sound.proofs.laws.causes_lead_to_streams.Goals as goal

pub returns-clause-streams : goal.returns-clause-streams
returns-clause-streams c = soundness.each_job_has_a_stream

pub returns-clause-once : goal.returns-clause-once
returns-clause-once c = soundness.a_cause_starts_one_job

pub returns-clause-instants : goal.returns-clause-instants
returns-clause-instants c = cause_instants.a_job_arrives_with_its_cause
