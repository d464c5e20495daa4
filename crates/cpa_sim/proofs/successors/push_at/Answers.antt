use Rattle.cpa_sim.proofs.SuccessorLaws.{longer-list}
use Rattle.cpa_sim.proofs.successors.push_at.Goals as goal

pub returns : goal.returns
returns c = longer-list (λ w. w.items) c.args.lists.now.items c.args.place c.args.task c.index_mut.result.now c.push.new.self c.requires c.index_mut.ensures.value c.in_ok-push.ensures.items
