use Rattle.cpa_effects.proofs.EffectLaws as effects
use Rattle.cpa_effects.proofs.laws.chains_have_bounds.Goals as goal

pub returns-clause-held : goal.returns-clause-held
returns-clause-held c = effects.held_bounds_bound_chains

pub returns-clause-closed : goal.returns-clause-closed
returns-clause-closed c = effects.closed_vectors_bound_chains

pub returns-clause-least : goal.returns-clause-least
returns-clause-least c = effects.least_solutions_bound_chains

pub returns-clause-one_stream : goal.returns-clause-one_stream
returns-clause-one_stream c = effects.one_stream_goes_on

pub returns-clause-equal : goal.returns-clause-equal
returns-clause-equal c = effects.held_is_reaction
