use Rattle.std.proofs.Common.{◌≡◌, ◌∙◌, length, replicate, List, [], ap}
use Rattle.std.proofs.lemmas.List.{get_or-replicate, length-replicate}
use Rattle.cpa_units.specs.declared.places.TaskId.{TaskId}
use Rattle.cpa_model.specs.SystemLists.{SystemLists, places_of}
use Rattle.cpa_sim.specs.Arrivals.{listed, AreSuccessors}
use Rattle.cpa_sim.proofs.successors.find_successors.Goals as goal

-- no task follows yet
none-follows : (s : SystemLists) (by_source by_task : List (List TaskId)) → by_source ≡ replicate (length s.sources) [] → by_task ≡ replicate (length s.tasks) [] → AreSuccessors s 0 by_source by_task
none-follows s by_source by_task sources tasks = record {
  count_sources = ap length sources ∙ length-replicate (length s.sources) [];
  count_tasks = ap length tasks ∙ length-replicate (length s.tasks) [];
  fed = λ k less. ap (λ (lists : List (List TaskId)). places_of (listed lists k)) sources ∙ ap places_of (get_or-replicate (length s.sources) k [] [] less);
  activated = λ j less. ap (λ (lists : List (List TaskId)). places_of (listed lists j)) tasks ∙ ap places_of (get_or-replicate (length s.tasks) j [] [] less);
}

pub loop-k-init : goal.loop-k-init
loop-k-init c =
    none-follows c.args.system.now _ _
    (c.in_ok-empty_lists.ensures ∙ ap (λ n. replicate n []) c.sources.ensures.count)
    (c.in_ok-empty_lists-2.ensures ∙ ap (λ n. replicate n []) c.tasks.ensures.count)
