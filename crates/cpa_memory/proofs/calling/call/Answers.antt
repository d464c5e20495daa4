use Rattle.std.proofs.Common.{refl, arith}
use Rattle.std.specs.Prelude.{◌≢◌}
use Rattle.cpa_words.specs.Commands.{asked}
use Rattle.cpa_run.specs.Plan.{plan_for}
use Rattle.cpa_run.specs.Output.{IsAnswerTo}
use Rattle.cpa_memory.specs.Held.{held_in}
use Rattle.cpa_memory.proofs.AnswerLaws.{ended-all}
use Rattle.cpa_memory.proofs.calling.call.Goals as goal

pub returns-clause-answers : goal.returns-clause-answers
returns-clause-answers c =
    let said = c.run_command-status.ensures in
    let status = c.run_command-status.result in
    let read : status ≢ 11 = λ is. absurd (omega (arith, said.unread is)) in
    let sunk : status ≢ 20 = λ is. absurd (omega (arith, said.unsent is)) in
    ended-all (IsAnswerTo (plan_for (held_in c.args.texts) (asked c.args.command))) c.ended.result status c.nothing-written.result.bytes.items c.run_command-status.new.sink c.nothing-written.ensures
    c.ended.ensures.reply c.ended.ensures.status (λ enough. said.answered refl (read, sunk, enough))
