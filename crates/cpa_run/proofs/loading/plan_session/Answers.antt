use Rattle.std.proofs.Common.{◌∙◌}
use Rattle.cpa_trace.proofs.ReadingLaws.{if_err-same}
use Rattle.cpa_words.specs.Words.{Session}
use Rattle.cpa_call.specs.Ends.{IsEndOf}
use Rattle.cpa_run.specs.Plan.{plan_for}
use Rattle.cpa_run.proofs.PlanLaws.{session-planned, session-ended}
use Rattle.cpa_run.proofs.loading.plan_session.Goals as goal

pub returns-in_err-script-clause-ended : goal.returns-in_err-script-clause-ended
returns-in_err-script-clause-ended g c = λ told.
    let held = g.F.Files.held c.args.files.now in
    let ended = c.in_err-script.ensures.ended (c.load_system.ensures.told ∙ told) in
    if_err-same c.from_residual-in_err-script.result (IsEndOf (plan_for held (Session c.args.file.now c.args.script.now c.args.workers))) c.in_err-script.field-0.0
    c.from_residual-in_err-script.ensures.1
    (session-ended held (g.F.Files.held c.load_system.new.files) c.args.file.now c.args.script.now c.args.workers c.in_ok-system.system c.in_err-script.field-0.0
    c.load_system.ensures.held (c.in_ok-system.ensures.planned told) ended)

pub returns-clause-planned : goal.returns-clause-planned
returns-clause-planned g c = λ told.
    session-planned (g.F.Files.held c.args.files.now) (g.F.Files.held c.load_system.new.files) c.args.file.now c.args.script.now c.args.workers c.in_ok-system.system c.in_ok-script.script
    c.load_system.ensures.held (c.in_ok-system.ensures.planned told) (c.in_ok-script.ensures.planned (c.load_system.ensures.told ∙ told))
