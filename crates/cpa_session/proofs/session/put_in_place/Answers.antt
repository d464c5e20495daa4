use Rattle.std.proofs.Common.{sym, ◌∙◌}
use Rattle.cpa_session.proofs.EditedLaws.{unrefused}
use Rattle.cpa_session.proofs.ChainsKept.{resources-kept_by, long-kept_by}
use Rattle.cpa_session.proofs.session.put_in_place.Goals as goal

pub carried_too-readings-requires-clause-same : goal.carried_too-readings-requires-clause-same
carried_too-readings-requires-clause-same c =
    rw (c.change_places-old.ensures.old_solution, c.change_places-old.ensures.system)
    (c.requires.solved.sound.long ∙ resources-kept_by c.args.system.now c.args.next.system c.args.edit.now c.requires.edited)

pub carried_too-readings-requires-clause-long : goal.carried_too-readings-requires-clause-long
carried_too-readings-requires-clause-long c =
    rw (c.change_places-old.ensures.old_solution, c.change_places-old.ensures.system)
    (long-kept_by c.args.system.now c.args.next.system c.args.edit.now c.args.solution.now.bounds c.args.solution.now.readings c.requires.edited (sym c.keeps_chains.ensures ∙ c.if-keeps_chains.true) c.requires.solved)

pub update_spare_system-spare-requires : goal.update_spare_system-spare-requires
update_spare_system-spare-requires c =
    rw c.change_places-old.ensures.old_system (unrefused c.args.system.now c.args.next.system c.args.edit.now c.requires.edited).1
