use Rattle.std.proofs.Common.{subst}
use Rattle.cpa_call.specs.Answers.{SendsPart}
use Rattle.cpa_call.specs.Calls.{MeetsCall, loaded, sent}
use Rattle.cpa_effects.specs.Calls.{Call, IsOutputOf, IsUnread}
use Rattle.cpa_effects.proofs.command.write_chain.Goals as goal

pub returns : goal.returns
returns g c =
    let held = g.F.Files.held c.args.files.now in
    let owed : Call → Type 0 = λ it.
    MeetsCall (IsOutputOf it held) (SendsPart (IsOutputOf it held)) (IsUnread it.words (g.F.Files.faults c.args.files.now) (g.F.Files.faults c.write_chain_by.new.files) (g.F.Files.last_failed c.write_chain_by.new.files))
    (loaded (g.F.Files.told c.args.files.now) (g.F.Files.faults c.args.files.now) (g.F.Files.faults c.write_chain_by.new.files) (g.F.Files.last_failed c.write_chain_by.new.files))
    (sent (g.K.Sink.sent c.args.sink.now) (g.K.Sink.sent c.write_chain_by.new.sink) (g.K.Sink.faults c.args.sink.now) (g.K.Sink.faults c.write_chain_by.new.sink)) c.write_chain_by.result in
    subst owed c.read_request-request.ensures c.write_chain_by.ensures
