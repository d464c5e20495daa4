use Rattle.cpa_clock.proofs.clock_lists.ClockLists.place_of.Goals as goal

pub returns-in-None-clause-same : goal.returns-in-None-clause-same
returns-in-None-clause-same c cycles lists clock h = c.open.ensures.same cycles lists clock (c.in-None.ensures.none cycles lists h) h
