use Rattle.std.proofs.Common.{◌∙◌, filter, ap}
use Rattle.cpa_sched.specs.Steps.{most_urgent}
use Rattle.cpa_sched.proofs.choices.urgent_on.Goals as goal

pub returns : goal.returns
returns g c = c.most_urgent.ensures ∙ ap (λ js. most_urgent c.args.system.now (filter (g.Q.Queue.ready c.args.queue.now).waits js)) c.tasks_on.ensures.places
