use Rattle.std.proofs.Common.{sym}
use Rattle.cpa_edit.proofs.EditLaws.{edited-size}
use Rattle.cpa_session.proofs.SearchLaws.{fresh-by_copy, marked-by_copy}
use Rattle.cpa_session.proofs.session.Session.commit_edit.Goals as goal

pub solve_edited-requires-clause-room : goal.solve_edited-requires-clause-room
solve_edited-requires-clause-room g c κs within = rw (edited-size c.args.self.now c.args.next.edit.now c.args.next.system c.requires.edited) c.requires.room

pub returns-in_err-solution-clause-fresh : goal.returns-in_err-solution-clause-fresh
returns-in_err-solution-clause-fresh g c =
    fresh-by_copy c.args.self.now c.self.inside.system c.args.self.now c.args.next.system c.args.next.edit.now c.args.next.touched c.self.view_is (sym c.self.view_is) c.requires.edited c.requires.touched
    c.args.trail.now c.solve_edited.new.trail c.solve_edited.ensures.fresh

pub returns-clause-fresh : goal.returns-clause-fresh
returns-clause-fresh g c =
    fresh-by_copy c.args.self.now c.self.inside.system c.args.self.now c.args.next.system c.args.next.edit.now c.args.next.touched c.self.view_is (sym c.self.view_is) c.requires.edited c.requires.touched
    c.args.trail.now c.solve_edited.new.trail c.solve_edited.ensures.fresh

pub returns-clause-marked : goal.returns-clause-marked
returns-clause-marked g c =
    marked-by_copy c.args.self.now c.self.inside.system c.args.self.now c.args.next.system c.args.next.edit.now c.args.next.touched c.self.view_is (sym c.self.view_is) c.requires.edited c.requires.touched
    c.solve_edited.new.trail c.in_ok-solution.ensures.marked
