use Rattle.cpa_session.proofs.session.change_places.Goals as goal

pub returns-clause-solution : goal.returns-clause-solution
returns-clause-solution c = cc

pub returns-clause-old_solution : goal.returns-clause-old_solution
returns-clause-old_solution c = cc
