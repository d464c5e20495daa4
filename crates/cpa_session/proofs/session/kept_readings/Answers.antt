use Rattle.std.proofs.Common.{◌≡◌, List, Option, sym, subst, ◌∙◌}
use Rattle.std.specs.Prelude.{IfSome}
use Rattle.cpa_fix.specs.declared.readings.Reading.{Reading}
use Rattle.cpa_session.proofs.ChainsKept.{resources-kept_by, long-kept_by}
use Rattle.cpa_session.proofs.session.kept_readings.Goals as goal

pub carry_in_place-requires-clause-same : goal.carry_in_place-requires-clause-same
carry_in_place-requires-clause-same c =
    let equal : c.in-Some.equal ≡ c.args.transition.now.solution.now.readings = subst (λ (o : Option (List (Option Reading))). IfSome o (λ it. it ≡ c.args.transition.now.solution.now.readings)) c.in-Some.is c.requires.equal in
    rw equal (c.requires.transition.solved.sound.long ∙ resources-kept_by c.args.transition.now.old.now c.args.transition.now.next.now c.args.transition.now.edit.now c.requires.transition.made)

pub carry_in_place-requires-clause-long : goal.carry_in_place-requires-clause-long
carry_in_place-requires-clause-long c =
    let equal : c.in-Some.equal ≡ c.args.transition.now.solution.now.readings = subst (λ (o : Option (List (Option Reading))). IfSome o (λ it. it ≡ c.args.transition.now.solution.now.readings)) c.in-Some.is c.requires.equal in
    rw equal (long-kept_by c.args.transition.now.old.now c.args.transition.now.next.now c.args.transition.now.edit.now c.args.transition.now.solution.now.bounds c.args.transition.now.solution.now.readings c.requires.transition.made (sym c.keeps_chains.ensures ∙ c.if-keeps_chains.true) c.requires.transition.solved)

pub carried_readings-requires : goal.carried_readings-requires
carried_readings-requires c = c.requires.transition.solved.sound.long ∙ resources-kept_by c.args.transition.now.old.now c.args.transition.now.next.now c.args.transition.now.edit.now c.requires.transition.made
