-- The causes of the jobs that come at one time, task by task and source by source.
use Rattle.std.proofs.Common.{◌≡◌, ℕ, ◌+◌, ◌<◌, ◌++◌, length, List, [], ◌∷◌, Bool, true, false, cond, None, refl, ◌∙◌, ap, arith}
use Rattle.std.specs.List.{range_with_len}
use Rattle.std.proofs.lemmas.List.{length-map, map-append}
use Rattle.std.proofs.lemmas.List.FromFn.{length-range_with_len, map-range_with_len_more}
use Rattle.cpa_model.specs.declared.entries.Activator.{Activator}
use Rattle.cpa_model.specs.declared.entries.Activator.TheVariants.{Source, Task}
use Rattle.cpa_model.specs.SystemLists.{SystemLists, is_fed_by, is_activated_by}
use Rattle.cpa_trace.specs.Trace.{TraceLists}
use Rattle.cpa_sim.specs.declared.jobs.Cause.{Cause}
use Rattle.cpa_sim.specs.declared.jobs.Causes.{Causes}
use Rattle.cpa_sim.specs.Run.{causes_by, events_at, by_task, by_source, by_tasks, by_sources, arriving}
use Rattle.cpa_sim.specs.declared.jobs.Job.{Job}
use Rattle.cpa_sim.specs.JobQueues.{causes_of, new_seen}
use Rattle.cpa_sim.proofs.RangeLaws.{flat_map-agree, flat_map-none}

-- none where nothing happens
pub by-none : (b : Bool) (a : Activator) (numbers : List ℕ) → numbers ≡ [] → cond b (causes_by a numbers) [] ≡ []
by-none true a numbers e = ap (causes_by a) e
by-none false a numbers e = refl

pub length-causes : (c : Causes) → length (causes_of c) ≡ c.count
length-causes c = length-map (range_with_len c.first c.count) (λ n. let made : Cause = record { by = c.by; number = n } in made) ∙ length-range_with_len c.first c.count

-- one cause more
pub causes-more : (a : Activator) (first k j : ℕ) → first + k ≡ j → causes_by a (range_with_len first (k + 1)) ≡ causes_by a (range_with_len first k) ++ record { by = a; number = j } ∷ []
causes-more a first k j e = map-range_with_len_more (λ n. let made : Cause = record { by = a; number = n } in made) first k j e

pub seen-more : (now : ℕ) (a : Activator) (first k j : ℕ) → first + k ≡ j
    → new_seen now (causes_by a (range_with_len first (k + 1))) ≡ new_seen now (causes_by a (range_with_len first k)) ++ record { arrival = now; end = None; cause = record { by = a; number = j } } ∷ []
seen-more now a first k j e =
    ap (new_seen now) (causes-more a first k j e)
    ∙ map-append (λ (cause : Cause). let made : Job = record { arrival = now; end = None; cause = cause } in made) (causes_by a (range_with_len first k)) (record { by = a; number = j } ∷ [])

module _ (s : SystemLists) (tr : TraceLists) (now i : ℕ) where
  -- the same jobs end
  pub arriving-agrees : (f g : ℕ → List ℕ) → ((j : ℕ) → j < length s.tasks → f j ≡ g j) → arriving s tr now f i ≡ arriving s tr now g i
  arriving-agrees f g agree =
      ap (λ cs. cs ++ by_sources s tr now i)
      (flat_map-agree (λ j. by_task s f j i) (λ j. by_task s g j i) 0 (length s.tasks)
      (λ j low high. ap (λ ns. cond (is_activated_by s j i) (causes_by (Task (record { 0 = j })) ns) []) (agree j (omega arith))))

  -- nothing ends, and no event comes
  pub arriving-none : (f : ℕ → List ℕ) → ((j : ℕ) → j < length s.tasks → f j ≡ []) → ((k : ℕ) → k < length s.sources → events_at tr k now ≡ []) → arriving s tr now f i ≡ []
  arriving-none f ends events =
      let a : by_tasks s f i ≡ [] = flat_map-none (λ j. by_task s f j i) 0 (length s.tasks) (λ j low high. by-none (is_activated_by s j i) (Task (record { 0 = j })) (f j) (ends j (omega arith))) in
      let b : by_sources s tr now i ≡ [] =
      flat_map-none (λ k. by_source s tr now k i) 0 (length s.sources) (λ k low high. by-none (is_fed_by s k i) (Source (record { 0 = k })) (events_at tr k now) (events k (omega arith))) in
      ap (λ cs. cs ++ by_sources s tr now i) a ∙ b
