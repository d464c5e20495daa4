use Rattle.cpa_bench.proofs.crowd.«+split_and_join».Given as goal

abbrev pub decreases-split_and_join : goal.decreases-split_and_join
decreases-split_and_join a = a.seats
