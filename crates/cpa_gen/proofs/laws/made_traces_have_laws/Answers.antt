use Rattle.cpa_gen.proofs.ObeyLaws.{made_traces_obey}
use Rattle.cpa_gen.proofs.MostLaws.{events_are_a_hundred, events_are_few}
use Rattle.cpa_gen.proofs.ReplayLaws.{made_traces_replay}
use Rattle.cpa_gen.proofs.TimeLaws.{events_in_time}
use Rattle.cpa_gen.proofs.laws.made_traces_have_laws.Goals as goal

pub returns-clause-events : goal.returns-clause-events
returns-clause-events c = events_in_time

pub returns-clause-small : goal.returns-clause-small
returns-clause-small c = events_are_a_hundred

pub returns-clause-few : goal.returns-clause-few
returns-clause-few c = events_are_few

pub returns-clause-obey : goal.returns-clause-obey
returns-clause-obey c = made_traces_obey

pub returns-clause-replay : goal.returns-clause-replay
returns-clause-replay c = made_traces_replay
