use Rattle.std.proofs.Common.{sym, ◌∙◌}
use Rattle.cpa_draft.specs.Search.{TellsTooMany}
use Rattle.cpa_draft.proofs.StreamLaws.{tells-none}
use Rattle.cpa_draft.proofs.streams.measure_streams.Goals as goal

pub returns-then-have_one_each : goal.returns-then-have_one_each
returns-then-have_one_each c =
    let told : TellsTooMany c.args.links.now c.new.result.items = rw c.new.ensures.items (tells-none c.args.links.now (sym c.have_one_each.ensures ∙ c.if-have_one_each.true)) in told
