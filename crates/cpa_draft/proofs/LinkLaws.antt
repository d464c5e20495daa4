-- What the activators of the tasks of a draft are.
use Rattle.std.proofs.Common.{◌≡◌, ℕ, zero, suc, ◌+◌, ◌-◌, ◌<◌, Bool, true, false, ◌||◌, is_none, nat_lt, List, [], ◌∷◌, map, length, slice_index_or, Option, Some, None, inl, inr, refl, sym, ap, arith, length-append}
use Rattle.std.proofs.lemmas.Bool.{ltb-false, cases_Bool, true≢false}
use Rattle.std.proofs.lemmas.List.{length-map, get_or-map}
use Rattle.cpa_draft.specs.DraftLists.{DraftLists}
use Rattle.cpa_draft.specs.declared.draft.DraftTask.{DraftTask}
use Rattle.cpa_draft.specs.declared.links.Link.{Link}
use Rattle.cpa_draft.specs.declared.links.Link.TheVariants.{Nothing, Source, Task}
use Rattle.cpa_draft.specs.Names.{resource_names, source_names, task_names, activity_names, place_of, link_at, link_of, links_of, is_nothing}
use Rattle.cpa_draft.proofs.ListLaws.{get_or-any}
use Rattle.cpa_draft.proofs.Maps.{list_any-map}
use Rattle.std.specs.List.{list_any}
use Rattle.cpa_draft.specs.Search.{AreWithin}
use Rattle.cpa_draft.proofs.NameLaws.{place_below}

-- what holds of each image and of the default holds at each place
at-map : {X Y : Type 0} (P : Y → Type 0) (f : X → Y) (xs : List X) (k : ℕ) (d : Y) → ((x : X) → P (f x)) → P d → P (slice_index_or (map f xs) k d)
at-map P f [] k d each past = past
at-map P f (x ∷ xs) zero d each past = each x
at-map P f (x ∷ xs) (suc k) d each past = at-map P f xs k d each past

place_in : Link → ℕ
place_in (Task j) = j
place_in _ = 0

is_task : Link → Bool
is_task (Task j) = true
is_task _ = false

same-task : (i j : ℕ) → Task i ≡ Task j → i ≡ j
unfolding place_in
same-task i j e = ap place_in e

source-task : (j : ℕ) → Source ≡ Task j → ⊥
unfolding is_task
source-task j e = true≢false (sym (ap is_task e))

nothing-task : (j : ℕ) → Nothing ≡ Task j → ⊥
unfolding is_task
nothing-task j e = true≢false (sym (ap is_task e))

link_at-within : (sources tasks : ℕ) (o : Option ℕ) (j : ℕ) → ((k : ℕ) → o ≡ Some k → k < sources + tasks) → link_at sources o ≡ Task j → j < tasks
link_at-within sources tasks None j below e = absurd (nothing-task j e)
link_at-within sources tasks (Some k) j below e = elim (cases_Bool (nat_lt k sources)) [
  | inl less ↦ absurd (source-task j (rw less at e))
  | inr not_less ↦
      let p : k - sources ≡ j = same-task (k - sources) j (rw not_less at e) in
      omega (arith, below k refl, ltb-false _ _ not_less)
]

link_of-within : (d : DraftLists) (name : List ℕ) (j : ℕ) → link_of d name ≡ Task j → j < length d.tasks
link_of-within d name j e =
    link_at-within (length d.sources) (length d.tasks) (place_of (activity_names d) name) j
    (λ k at. omega (arith, place_below (activity_names d) name k at, length-append (source_names d) (task_names d), length-map d.sources (λ r. r.name), length-map d.tasks (λ (t : DraftTask). t.name)))
    e

pub links_of-within : (d : DraftLists) → AreWithin (links_of d)
links_of-within d i k j e =
    let below : j < length d.tasks =
    at-map (λ ls. slice_index_or ls k Source ≡ Task j → j < length d.tasks) (λ (t : DraftTask). map (link_of d) t.after) d.tasks i []
    (λ t. at-map (λ l. l ≡ Task j → j < length d.tasks) (link_of d) t.after k Source (λ name. link_of-within d name j) (λ e. absurd (source-task j e)))
    (λ e. absurd (source-task j e)) e in
    omega (arith, length-map d.tasks (λ (t : DraftTask). map (link_of d) t.after))

-- what a task's names name shows by its links
pub lacking : (d : DraftLists) (k : ℕ) (t e : DraftTask) → k < length d.tasks
    → (is_none (place_of (resource_names d) (slice_index_or d.tasks k t).on) || list_any is_nothing (slice_index_or (links_of d) k []))
    ≡ (is_none (place_of (resource_names d) (slice_index_or d.tasks k e).on) || list_any (λ name. is_nothing (link_of d name)) (slice_index_or d.tasks k e).after)
lacking d k t e less =
    rw (get_or-any d.tasks k t e less, get_or-map (λ (t : DraftTask). map (link_of d) t.after) d.tasks k e [] less, list_any-map is_nothing (link_of d) (slice_index_or d.tasks k e).after) refl
