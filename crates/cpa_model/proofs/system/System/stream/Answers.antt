use Rattle.std.proofs.Common.{◌≡◌}
use Rattle.std.proofs.lemmas.Option.{get_or_from_slice_get}
use Rattle.cpa_model.specs.Rules.{IsSystem}
use Rattle.cpa_model.specs.SystemLists.{stream_at, streams_of}
use Rattle.cpa_model.proofs.SystemLaws.{stream_at-there}
use Rattle.cpa_model.proofs.system.System.stream.Goals as goal

pub returns-clause-there : goal.returns-clause-there
returns-clause-there c =
    let valid : IsSystem c.args.self.now = rw (← c.self.view_is) c.self.invariant.0 in
    let same : stream_at c.args.self.now c.args.task.0 c.args.k ≡ c.in-Ok.source =
    get_or_from_slice_get (streams_of c.args.self.now c.args.task.0) c.args.k c.in-Ok.source (record { 0 = 0 }) (rw (← c.self.view_is, ← c.as_slice.ensures.value) c.in-Ok.ensures) in
    rw (← same) (stream_at-there c.args.self.now valid c.args.task.0 c.args.k c.requires.task c.requires.stream)
