-- What an entry that was read keeps.
use Rattle.std.proofs.Common.{◌≡◌, ℕ, ◌+◌, Bool, true, false, List, [], Option, Some, None, Result, Ok, Err, cond, refl, ◌∙◌, ap}
use Rattle.std.specs.List.{list_all}
use Rattle.std.proofs.lemmas.Bool.{and_from}
use Rattle.std.proofs.lemmas.Option.{none-some, same_Some}
use Rattle.toml.specs.Data.{Data, Items, no_items, item}
use Rattle.cpa_units.specs.declared.limits.Size.{Size}
use Rattle.cpa_draft.specs.declared.draft.DraftTask.{DraftTask}
use Rattle.std.specs.Prelude.{codes, All}
use Rattle.std.proofs.lemmas.List.Sums.{AllPass-from_list_all}
use Rattle.cpa_draft.specs.declared.draft.DraftResource.{DraftResource}
use Rattle.cpa_draft.specs.declared.draft.DraftSource.{DraftSource}
use Rattle.cpa_draft.specs.declared.draft.DraftPath.{DraftPath}
use Rattle.cpa_draft.specs.DraftLists.{DraftLists}
use Rattle.cpa_draft.specs.declared.refusal.Part.{Part}
use Rattle.cpa_draft.specs.declared.refusal.Part.TheVariants.{File, Task}
use Rattle.cpa_draft.specs.declared.refusal.Refusal.{Refusal}
use Rattle.cpa_file.specs.Document.{refusal, is_other_format, integer_at, has_form, items_at, in_part, entries_of, entries_at, joined, lists_of, draft_of}
use Rattle.cpa_file.specs.declared.format.Format.{Format}
use Rattle.cpa_file.specs.Fields.{◌>>=◌}
use Rattle.cpa_file.specs.Formats.{format_with, size_of}
use Rattle.cpa_file.specs.Lists.{read_all, with_entry}
use Rattle.cpa_file.specs.Entries.{task_entry, task_fields, with_executions}
use Rattle.cpa_model.specs.Built.{has_executions}

pub task_entry-executions : (format : Format) (d : Data) (t : DraftTask) → task_entry format d ≡ Some t → has_executions t ≡ true
unfolding task_entry
task_entry-executions format d t e = by (task_fields format d) e
  where
    cond_is : {A : Type 0} (b : Bool) (x y : A) → cond b (Some x) None ≡ Some y → (b ≡ true) × (x ≡ y)
    cond_is true x y e = (refl, same_Some x y e)
    cond_is false x y e = absurd (none-some y e)

    by : (o : Option DraftTask) → (o >>= with_executions) ≡ Some t → has_executions t ≡ true
    by None e = absurd (none-some t e)
    by (Some u) e = let (is, same) = cond_is (has_executions u) u t e in rw (← same) is

abbrev list_of : {X : Type 0} → Result (List X) ℕ → List X
list_of (Ok xs) = xs
list_of (Err k) = []

kept : {X : Type 0} (read : Data → Option X) (p : X → Bool) → ((d : Data) (x : X) → read d ≡ Some x → p x ≡ true)
    → (k : ℕ) (ds : Items) → list_all p (list_of (read_all read k ds)) ≡ true
kept read p each k no_items = refl
kept {X} read p each k (item d ds) = by (read d) refl (read_all read (k + 1) ds) (kept read p each (k + 1) ds)
  where
    by : (o : Option X) → read d ≡ o → (r : Result (List X) ℕ) → list_all p (list_of r) ≡ true → list_all p (list_of (with_entry k o r)) ≡ true
    by None here r rest = refl
    by (Some x) here (Err n) rest = refl
    by (Some x) here (Ok ys) rest = and_from _ _ (each d x here) rest

-- what each entry keeps, all keep
pub read_all-keeps : {X : Type 0} (read : Data → Option X) (p : X → Bool) → ((d : Data) (x : X) → read d ≡ Some x → p x ≡ true)
    → (k : ℕ) (ds : Items) (xs : List X) → read_all read k ds ≡ Ok xs → list_all p xs ≡ true
read_all-keeps read p each k ds xs e = rw e at (kept read p each k ds)

-- each task that was read has its executions

tasks_in : (format : Format) (part : Part) (items : Option Items) (ts : List DraftTask) → entries_of part (task_entry format) items ≡ Ok ts → list_all has_executions ts ≡ true
tasks_in format part None ts e = cc
tasks_in format part (Some ds) ts e = by (read_all (task_entry format) 1 ds) refl e
  where
    by : (r : Result (List DraftTask) ℕ) → read_all (task_entry format) 1 ds ≡ r → in_part part r ≡ Ok ts → list_all has_executions ts ≡ true
    by (Ok us) here e = let same : us ≡ ts = cc in read_all-keeps (task_entry format) has_executions (task_entry-executions format) 1 ds ts (here ∙ ap Ok same)
    by (Err k) here e = cc

joined-tasks : (z : Size) (a : Result (List DraftResource) Refusal) (b : Result (List DraftSource) Refusal) (c : Result (List DraftTask) Refusal) (e : Result (List DraftPath) Refusal) (d : DraftLists) → joined z a b c e ≡ Ok d → c ≡ Ok d.tasks
joined-tasks z (Err r) b c e d h = cc
joined-tasks z (Ok rs) (Err r) c e d h = cc
joined-tasks z (Ok rs) (Ok ss) (Err r) e d h = cc
joined-tasks z (Ok rs) (Ok ss) (Ok ts) (Err r) d h = cc
joined-tasks z (Ok rs) (Ok ss) (Ok ts) (Ok ps) d h = ap (λ (r : Result DraftLists Refusal). by r) h
  where
    by : Result DraftLists Refusal → Result (List DraftTask) Refusal
    by (Ok d) = Ok d.tasks
    by (Err r) = Err r

lists-executions : (format : Format) (x : Data) (d : DraftLists) → lists_of format x ≡ Ok d → list_all has_executions d.tasks ≡ true
unfolding lists_of entries_at
lists-executions format x d e = tasks_in format Task (items_at (codes "task") x) d.tasks (joined-tasks (size_of format) _ _ (entries_of Task (task_entry format) (items_at (codes "task") x)) _ d e)

-- of each draft
pub draft-executions : (x : Data) (d : DraftLists) → draft_of x ≡ Ok d → All (λ t. has_executions t ≡ true) d.tasks
unfolding draft_of
draft-executions x d e = AllPass-from_list_all has_executions d.tasks (by (is_other_format (integer_at (codes "format") x)) (has_form x) e)
  where
    by : (other formed : Bool) → cond other (Err (refusal 13 File 0)) (cond formed (lists_of (format_with (integer_at (codes "format") x)) x) (Err (refusal 1 File 0))) ≡ Ok d → list_all has_executions d.tasks ≡ true
    by true formed h = cc
    by false true h = lists-executions (format_with (integer_at (codes "format") x)) x d h
    by false false h = cc
