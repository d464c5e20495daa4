use Rattle.cpa_session.proofs.EditedLaws.{unrefused-by}
use Rattle.cpa_session.proofs.session.Session.edit_unrefused.Goals as goal

pub returns-in-Err-clause-refused : goal.returns-in-Err-clause-refused
returns-in-Err-clause-refused g c =
    unrefused-by c.args.self.now c.args.edit.now _ c.requires.unrefused
    (λ number e. let f : ⊥ = cc in f)

pub returns-in-Ok-clause-fresh : goal.returns-in-Ok-clause-fresh
returns-in-Ok-clause-fresh g c = c.make.ensures.fresh

pub returns-in-Err-clause-fresh : goal.returns-in-Err-clause-fresh
returns-in-Err-clause-fresh g c = c.make.ensures.fresh
