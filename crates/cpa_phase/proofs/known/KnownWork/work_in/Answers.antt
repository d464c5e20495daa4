use Rattle.cpa_phase.proofs.known.KnownWork.work_in.Goals as goal

pub returns-in-Some-clause-small : goal.returns-in-Some-clause-small
returns-in-Some-clause-small c = let a = c.in-Some.ensures c.args.clocks.now c.requires.known in a.small
