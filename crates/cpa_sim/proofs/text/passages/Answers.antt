use Rattle.std.proofs.Common.{◌≡◌, ◌∙◌, ◌-◌, ◌++◌, ◌<◌, length, [], ◌∷◌, map, None, option_map, sym, ap, arith}
use Rattle.std.specs.List.{range_with_len}
use Rattle.std.proofs.lemmas.List.{get_or_read}
use Rattle.cpa_units.proofs.PlaceLaws.{map-places_more}
use Rattle.cpa_model.specs.SystemLists.{path_at}
use Rattle.cpa_sim.specs.Outcome.{jobs_seen, job_at}
use Rattle.cpa_sim.specs.SimText.{passage, passage_end, first_task, further_tasks}
use Rattle.cpa_sim.proofs.text.passages.Goals as goal

pub loop-m-preserved : goal.loop-m-preserved
loop-m-preserved c =
    let o = c.args.outcome.now in
    let p = path_at c.args.system.now c.args.path.0 in
    let m = c.loop-m.m in
    let first = c.first_task-first.ensures.value in
    let there : m < length (jobs_seen o (first_task p)) = omega (arith, c.loop-m-test.true, c.count-m-end.ensures, ap (λ i. length (jobs_seen o i)) first) in
    let ends = c.in_ok-ends.ends.items in
    let end : c.index.result.now ≡ passage_end o (first_task p) m (further_tasks p) =
    get_or_read ends m c.index.result.now (omega (arith, there, c.in_ok-ends.ensures.count)) c.index.ensures None ∙ c.in_ok-ends.ensures.ends m there in
    let start : c.arrival.result ≡ (job_at o (first_task p) m).arrival = c.arrival.ensures ∙ ap (λ i. (job_at o i m).arrival) first in
    let is : c.duration.result ≡ passage o p m =
    c.duration.ensures ∙ (ap (option_map (λ e. e - c.arrival.result)) end ∙ ap (λ a. option_map (λ e. e - a) (passage_end o (first_task p) m (further_tasks p))) start) in
    c.in_ok-push.ensures.items
    ∙ (ap (λ xs. xs ++ c.duration.result ∷ []) c.loop-m.invariant
    ∙ (ap (λ x. map (passage o p) (range_with_len 0 m) ++ x ∷ []) is ∙ sym (map-places_more (passage o p) m)))
