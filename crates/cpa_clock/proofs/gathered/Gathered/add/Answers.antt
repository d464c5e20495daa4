use Rattle.cpa_clock.proofs.gathered.Gathered.add.Goals as goal

pub returns-in-Some : goal.returns-in-Some
returns-in-Some c own rivals h = rw c.in-Some.is (c.add_bounded.ensures own rivals h)

pub returns-in-None : goal.returns-in-None
returns-in-None c own rivals h = rw c.in-None.is (c.add_unbounded.ensures own c.args.cycles.now rivals c.args.anchors.now h)
