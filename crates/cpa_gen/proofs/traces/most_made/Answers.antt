use Rattle.std.proofs.Common.{◌/◌, ◌∙◌, min, max, ap}
use Rattle.cpa_gen.specs.MadeTraces.{most_made}
use Rattle.cpa_gen.proofs.traces.most_made.Goals as goal

pub returns-clause-value : goal.returns-clause-value
unfolding most_made
returns-clause-value c =
    c.min.ensures ∙ ap (λ n. min 100 (2000000 / n)) (c.max-share.ensures ∙ ap (λ n. max n 1) c.streams_in-streams.ensures.value)
