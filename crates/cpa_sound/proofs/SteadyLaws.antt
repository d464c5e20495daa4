-- Where no stream of a task is that of a sporadic source, none that its activators send is.
use Rattle.std.proofs.Common.{◌≡◌, ℕ, suc, List, [], ◌∷◌, Bool, true, false, sym, ◌∙◌, ap, subst, inl, inr}
use Rattle.std.specs.List.{list_any, flat_map}
use Rattle.std.proofs.lemmas.Bool.{cases_Bool, or_parts, false≢true}
use Rattle.std.proofs.lemmas.List.Folds.{list_any-append}
use Rattle.std.proofs.lemmas.List.Concat.{flat_map-cons}
use Rattle.cpa_units.specs.declared.places.SourceId.{SourceId}
use Rattle.cpa_units.specs.declared.places.TaskId.{TaskId}
use Rattle.cpa_model.specs.declared.entries.Activator.{Activator}
use Rattle.cpa_model.specs.declared.entries.Activator.TheVariants.{Source, Task}
use Rattle.cpa_model.specs.Chains.{activators, streams_step, streams_within}
use Rattle.cpa_model.specs.SystemLists.{SystemLists, source_at, task_at, is_sporadic}
use Rattle.cpa_model.proofs.SystemLaws.{activators_at}
use Rattle.cpa_sound.specs.JobStreams.{is_same}
use Rattle.cpa_sound.proofs.KeepsCauses.{Starts}
use Rattle.cpa_sound.proofs.CauseStreams.{same-is, or_tail}

-- some stream of a task that is met within n tasks is that of a sporadic source
abbrev pub has_sporadic : SystemLists → ℕ → ℕ → Bool
has_sporadic s n i = list_any (is_sporadic s) (streams_within (activators s.tasks) n i)

-- what no element of a concatenation has, none of each part has
none-of_part : (test : SourceId → Bool) (part : Activator → List SourceId) (a : Activator) (list : List Activator) → list_any (is_same a) list ≡ true → list_any test (flat_map part list) ≡ false
    → list_any test (part a) ≡ false
none-of_part test part a [] has none = absurd (false≢true has)
none-of_part test part a (b ∷ bs) has none =
    let whole = sym (list_any-append test (part b) (flat_map part bs)) ∙ (ap (list_any test) (sym (flat_map-cons part b bs)) ∙ none) in
    let both = or_parts (list_any test (part b)) (list_any test (flat_map part bs)) whole in
    elim (cases_Bool (is_same a b)) [
      | inl same ↦ subst (λ c. list_any test (part c) ≡ false) (sym (same-is a b same)) both.0
      | inr other ↦ none-of_part test part a bs (or_tail (is_same a b) (list_any (is_same a) bs) other has) both.1
    ]

steady-sent : (s : SystemLists) (n i : ℕ) (a : Activator) → Starts s i a → has_sporadic s (suc n) i ≡ false → list_any (is_sporadic s) (streams_step a (streams_within (activators s.tasks) n)) ≡ false
unfolding streams_within
steady-sent s n i a starts steady =
    let part : Activator → List SourceId = λ b. streams_step b (streams_within (activators s.tasks) n) in
    none-of_part (is_sporadic s) part a (task_at s i).after starts (ap (λ many. list_any (is_sporadic s) (flat_map part many)) (sym (activators_at s.tasks i)) ∙ steady)

pub steady-source : (s : SystemLists) (n i : ℕ) (k : SourceId) → Starts s i (Source k) → has_sporadic s (suc n) i ≡ false → (source_at s k.0).sporadic ≡ false
steady-source s n i k starts steady = (or_parts (source_at s k.0).sporadic false (steady-sent s n i (Source k) starts steady)).0

pub steady-task : (s : SystemLists) (n i : ℕ) (j : TaskId) → Starts s i (Task j) → has_sporadic s (suc n) i ≡ false → has_sporadic s n j.0 ≡ false
steady-task s n i j starts steady = steady-sent s n i (Task j) starts steady
