use Rattle.std.proofs.Common.{◌≡◌, length, arith}
use Rattle.cpa_model.specs.Rules.{IsSystem}
use Rattle.cpa_model.specs.SystemLists.{streams_of}
use Rattle.cpa_model.proofs.SystemLaws.{streams_of-some, streams_of-few}
use Rattle.cpa_model.proofs.system.System.streams.Goals as goal

pub returns-clause-some : goal.returns-clause-some
returns-clause-some c =
    let valid : IsSystem c.args.self.now = rw (← c.self.view_is) c.self.invariant.0 in
    let same : c.chain_streams.result ≡ length (streams_of c.args.self.now c.args.task.0) = rw (← c.self.view_is, ← c.as_slice.ensures.value) c.chain_streams.ensures in
    omega (arith, streams_of-some c.args.self.now valid c.args.task.0 c.requires)

pub returns-clause-few : goal.returns-clause-few
returns-clause-few c =
    let valid : IsSystem c.args.self.now = rw (← c.self.view_is) c.self.invariant.0 in
    let same : c.chain_streams.result ≡ length (streams_of c.args.self.now c.args.task.0) = rw (← c.self.view_is, ← c.as_slice.ensures.value) c.chain_streams.ensures in
    omega (arith, streams_of-few c.args.self.now valid c.args.task.0 c.requires)
