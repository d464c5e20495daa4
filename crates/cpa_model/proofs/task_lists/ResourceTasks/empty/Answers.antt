use Rattle.cpa_model.proofs.task_lists.ResourceTasks.empty.Goals as goal

pub returns : goal.returns
returns c = c.new.ensures.items
