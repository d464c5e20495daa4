-- Edits that leave tasks on their resources and in their chains leave what each resource reads.
use Rattle.std.proofs.Common.{◌≡◌, ℕ, ◌<◌, length, Bool, true, List, Option, Ok, refl, sym, ap, ◌∙◌, inl, inr, subst}
use Rattle.std.proofs.lemmas.Bool.{cases_eq, cases_lt, false≢true}
use Rattle.std.proofs.lemmas.List.{get_or-set_same, get_or-set_other, set_past, length-set}
use Rattle.std.specs.Prelude.{slice_index_or}
use Rattle.std.specs.List.{list_any}
use Rattle.cpa_units.specs.declared.places.ResId.{ResId}
use Rattle.cpa_model.specs.declared.entries.Task.{Task}
use Rattle.cpa_model.specs.declared.entries.Turn.TheVariants as turn
use Rattle.cpa_model.specs.SystemLists.{SystemLists, task_at, no_task, is_task}
use Rattle.cpa_model.specs.Changes.{with_task_at, with_exec, with_turn, with_swapped, with_source, with_offset, with_task, without_task}
use Rattle.cpa_depend.specs.Cone.{Activates, LeadsTo, directly, through, Reads, itself, earlier, AreReads}
use Rattle.cpa_edit.specs.declared.edit.Edit.{Edit}
use Rattle.cpa_edit.specs.declared.edit.Edit.TheVariants.{Exec, Priority, Swap, Slot, Source as SourceEdit, Offset, Add, Remove}
use Rattle.cpa_edit.specs.Edited.{edited, change}
use Rattle.cpa_edit.specs.Named.{task_place}
use Rattle.cpa_units.specs.declared.bound.Bound.{Bound}
use Rattle.cpa_fix.specs.declared.readings.Reading.{Reading}
use Rattle.cpa_fix.specs.Readings.{IsSolved}
use Rattle.cpa_session.specs.Carried.{AreLong}
use Rattle.cpa_session.specs.Editing.{keeps_chains}
use Rattle.cpa_session.proofs.EditedLaws.{unrefused}

-- the same resources, and each task on its own and in its chains
record IsInChains (s t : SystemLists) : Type 0 where
  resources : s.resources ≡ t.resources
  res : (i : ℕ) → (task_at s i).res ≡ (task_at t i).res
  after : (i : ℕ) → (task_at s i).after ≡ (task_at t i).after

in_chains-back : (s t : SystemLists) → IsInChains s t → IsInChains t s
in_chains-back s t h = record { resources = sym h.resources; res = λ i. sym (h.res i); after = λ i. sym (h.after i) }

activates-kept : (s t : SystemLists) → IsInChains s t → (j i : ℕ) → Activates s j i → Activates t j i
activates-kept s t h j i on = ap (list_any (is_task j)) (sym (h.after i)) ∙ on

leads-kept : (s t : SystemLists) → IsInChains s t → {j i : ℕ} → LeadsTo s j i → LeadsTo t j i
leads-kept s t h {j} {i} (directly a) = directly (activates-kept s t h j i a)
leads-kept s t h {j} {i} (through {k = k} l a) = through (leads-kept s t h l) (activates-kept s t h k i a)

reads-kept : (s t : SystemLists) → IsInChains s t → (r q : ℕ) → Reads s r q → Reads t r q
reads-kept s t h r q (itself) = itself
reads-kept s t h r q (earlier {j = j} {i = i} l) =
    subst (λ (n : ℕ). Reads t n (task_at s j).res.0) (ap (λ (k : ResId). k.0) (sym (h.res i)))
    (subst (λ (n : ℕ). Reads t (task_at t i).res.0 n) (ap (λ (k : ResId). k.0) (sym (h.res j))) (earlier (leads-kept s t h l)))

table-kept : (s t : SystemLists) (table : List (List Bool)) → IsInChains s t → AreReads s table → AreReads t table
table-kept s t table h table_is r less q =
    let there : r < length s.resources = subst (λ rs. r < length rs) (sym h.resources) less in
    let row = table_is r there q in
    (λ member. reads-kept s t h r q (row.0 member), λ reads. row.1 (reads-kept t s (in_chains-back s t h) r q reads))

-- one task is another, on the same resource and in the same chain
set-field : {X : Type 0} (f : Task → X) (s : SystemLists) (p : ℕ) (u : Task) → f u ≡ f (task_at s p) → (i : ℕ) → f (task_at s i) ≡ f (task_at (with_task_at s p u) i)
set-field f s p u same i =
    sym (elim (cases_eq i p) [
      | inl here ↦ elim (cases_lt p (length s.tasks)) [
        | inl less ↦ rw here (ap f (get_or-set_same s.tasks p u no_task less) ∙ same)
        | inr past ↦ ap (λ (us : List Task). f (slice_index_or us i no_task)) (set_past s.tasks p u past)
      ]
      | inr other ↦ ap f (get_or-set_other s.tasks p i u no_task other)
    ])

in_chains-set : (s : SystemLists) (p : ℕ) (u : Task) → u.res ≡ (task_at s p).res → u.after ≡ (task_at s p).after → IsInChains s (with_task_at s p u)
in_chains-set s p u res after =
    record {
      resources = refl;
      res = set-field (λ (v : Task). v.res) s p u res;
      after = set-field (λ (v : Task). v.after) s p u after;
    }

in_chains-trans : (s t u : SystemLists) → IsInChains s t → IsInChains t u → IsInChains s u
in_chains-trans s t u h k =
    record { resources = h.resources ∙ k.resources; res = λ i. h.res i ∙ k.res i; after = λ i. h.after i ∙ k.after i }

in_chains-change : (s : SystemLists) (e : Edit) → keeps_chains e ≡ true → IsInChains s (change s e)
unfolding change with_exec with_turn with_swapped with_source with_offset
in_chains-change s (Exec task best worst) on = in_chains-set s (task_place s task) (record (task_at s (task_place s task)) { best = best; worst = worst }) refl refl
in_chains-change s (Priority task number) on = in_chains-set s (task_place s task) (record (task_at s (task_place s task)) { turn = turn.Priority number }) refl refl
in_chains-change s (Slot task ticks) on = in_chains-set s (task_place s task) (record (task_at s (task_place s task)) { turn = turn.Slot ticks }) refl refl
in_chains-change s (Swap first second) on =
    let i = task_place s first in
    let j = task_place s second in
    let u : Task = record (task_at s i) { turn = (task_at s j).turn } in
    let m : SystemLists = with_task_at s i u in
    let v : Task = record (task_at m j) { turn = (task_at s i).turn } in
    in_chains-trans s m (with_task_at m j v) (in_chains-set s i u refl refl) (in_chains-set m j v refl refl)
in_chains-change s (SourceEdit name period jitter distance) on = record { resources = refl; res = λ i. refl; after = λ i. refl }
in_chains-change s (Offset name offset) on = record { resources = refl; res = λ i. refl; after = λ i. refl }
in_chains-change s (Add name res after best worst number) on = absurd (false≢true on)
in_chains-change s (Remove task) on = absurd (false≢true on)

pub table-kept_by : (s t : SystemLists) (e : Edit) (table : List (List Bool)) → edited s e ≡ Ok t → keeps_chains e ≡ true → AreReads s table → AreReads t table
table-kept_by s t e table made on = table-kept s t table (subst (IsInChains s) (unrefused s t e made).0 (in_chains-change s e on))

-- ---- as many tasks and resources

-- no edit brings or takes a resource
resources-change : (s : SystemLists) (e : Edit) → (change s e).resources ≡ s.resources
unfolding change with_exec with_turn with_swapped with_source with_offset with_task without_task
resources-change s (Exec task best worst) = refl
resources-change s (Priority task number) = refl
resources-change s (Slot task ticks) = refl
resources-change s (Swap first second) = refl
resources-change s (SourceEdit name period jitter distance) = refl
resources-change s (Offset name offset) = refl
resources-change s (Add name res after best worst number) = refl
resources-change s (Remove task) = refl

pub resources-kept_by : (s t : SystemLists) (e : Edit) → edited s e ≡ Ok t → length s.resources ≡ length t.resources
resources-kept_by s t e made = ap length (sym (resources-change s e) ∙ ap (λ (u : SystemLists). u.resources) (unrefused s t e made).0)

tasks-change : (s : SystemLists) (e : Edit) → keeps_chains e ≡ true → length (change s e).tasks ≡ length s.tasks
unfolding change with_exec with_turn with_swapped with_source with_offset
tasks-change s (Exec task best worst) on = length-set s.tasks (task_place s task) (record (task_at s (task_place s task)) { best = best; worst = worst })
tasks-change s (Priority task number) on = length-set s.tasks (task_place s task) (record (task_at s (task_place s task)) { turn = turn.Priority number })
tasks-change s (Slot task ticks) on = length-set s.tasks (task_place s task) (record (task_at s (task_place s task)) { turn = turn.Slot ticks })
tasks-change s (Swap first second) on =
    let i = task_place s first in
    let j = task_place s second in
    let u : Task = record (task_at s i) { turn = (task_at s j).turn } in
    let m : SystemLists = with_task_at s i u in
    length-set m.tasks j (record (task_at m j) { turn = (task_at s i).turn }) ∙ length-set s.tasks i u
tasks-change s (SourceEdit name period jitter distance) on = refl
tasks-change s (Offset name offset) on = refl
tasks-change s (Add name res after best worst number) on = absurd (false≢true on)
tasks-change s (Remove task) on = absurd (false≢true on)

pub tasks-kept_by : (s t : SystemLists) (e : Edit) → edited s e ≡ Ok t → keeps_chains e ≡ true → length s.tasks ≡ length t.tasks
tasks-kept_by s t e made on = sym (tasks-change s e on) ∙ ap (λ (u : SystemLists). length u.tasks) (unrefused s t e made).0

-- the readings of the old system fit the new one
pub long-kept_by : (s t : SystemLists) (e : Edit) (x : List Bound) (kept : List (Option Reading)) → edited s e ≡ Ok t → keeps_chains e ≡ true → IsSolved s x kept → AreLong kept (length t.tasks)
long-kept_by s t e x kept made on solved r reading is = (solved.sound.sound r reading is).vector.long ∙ tasks-kept_by s t e made on
