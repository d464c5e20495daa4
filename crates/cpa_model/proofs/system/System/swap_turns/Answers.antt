use Rattle.cpa_model.proofs.ChangedLaws.{swap-written, system-same}
use Rattle.std.proofs.Common.{refl}
use Rattle.std.proofs.lemmas.List.{length-set}
use Rattle.cpa_model.proofs.ResourceTaskLaws.{task_lists-written}
use Rattle.cpa_model.proofs.system.System.swap_turns.Goals as goal

pub invariant_of-self : goal.invariant_of-self
invariant_of-self c =
    let rules = rw (← c.self.view_is) at c.requires.rules in
    let here = rw (← c.self.view_is) at c.requires.first in
    let there = rw (← c.self.view_is) at c.requires.second in
    let once = task_lists-written _ _ c.args.first.0 c.index_mut-entry.result.now (record c.index_mut-entry.result.now { turn = c.index-2.result.now.turn }) _ here c.index_mut-entry.ensures.value refl c.self.invariant.1 in (
      system-same _ _
          (swap-written _ c.args.first.0 c.args.second.0 c.index.result.now c.index-2.result.now c.index_mut-entry.result.now c.index_mut-other.result.now
          (rw (← c.self.view_is) at c.requires.first) (rw (← c.self.view_is) at c.requires.second) c.index.ensures c.index-2.ensures c.index_mut-entry.ensures.value c.index_mut-other.ensures.value)
          rules,
      task_lists-written _ _ c.args.second.0 c.index_mut-other.result.now _ _ (rw (length-set c.self.inside.tasks.items c.args.first.0 (record c.index_mut-entry.result.now { turn = c.index-2.result.now.turn })) there) c.index_mut-other.ensures.value refl once,
      c.self.invariant.2,
    )

pub returns : goal.returns
returns c =
    rw (← c.self.view_is)
    (swap-written _ c.args.first.0 c.args.second.0 c.index.result.now c.index-2.result.now c.index_mut-entry.result.now c.index_mut-other.result.now
    (rw (← c.self.view_is) at c.requires.first) (rw (← c.self.view_is) at c.requires.second) c.index.ensures c.index-2.ensures c.index_mut-entry.ensures.value c.index_mut-other.ensures.value)
