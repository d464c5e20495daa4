-- What is known of scripts, resources and tasks that are planned.
use Rattle.std.proofs.Common.{◌≡◌, ◌<◌, ℕ, Bool, true, false, not, if◌then◌else◌, List, length, Option, Some, None, Ok, Err, refl, ap, subst}
use Rattle.cpa_units.specs.declared.limits.TheConstants.{MAX_SCRIPT_FILE}
use Rattle.cpa_units.specs.declared.places.ResId.{ResId}
use Rattle.cpa_units.specs.declared.places.TaskId.{TaskId}
use Rattle.cpa_model.specs.SystemLists.{SystemLists, resource_at, resource_named, task_named}
use Rattle.cpa_edit.specs.declared.script.Step.{Step}
use Rattle.cpa_edit.specs.Script.{Read, script_of, AreNamed}
use Rattle.cpa_edit.proofs.NameLaws.{scripts-are_named}
use Rattle.cpa_model.specs.Kinds.{has_priorities}
use Rattle.cpa_assign.specs.Orders.{is_fed_by_sources, can_compare, IsOrderable}
use Rattle.cpa_assign.proofs.AbleLaws.{orderable-from}
use Rattle.cpa_call.specs.Plans.{Held, Plan, Do, Refuse, content_in}
use Rattle.cpa_call.proofs.PlanLaws.{done-same, then-done}
use Rattle.cpa_run.specs.Lines.{assign_refused}
use Rattle.cpa_run.specs.Plan.{script_by, script_in, orderable_by, orderable_in, task_by, task_in}
use Rattle.cpa_run.proofs.GrowthLaws.{resource-there, task-there}

read-script : (r : Read) (steps : List (ℕ × Step)) → script_by r ≡ Do steps → r ≡ Ok steps
read-script (Ok s) steps e = ap Ok (done-same s steps e)
read-script (Err fault) steps e = let no : ⊥ = cc in absurd no

-- the names that a script brings have the form of names
pub planned-script : (held : Held) (file : List ℕ) (steps : List (ℕ × Step)) → script_in held file ≡ Do steps → AreNamed steps
planned-script held file steps e =
    let h = then-done (content_in held file MAX_SCRIPT_FILE) (λ bytes. script_by (script_of bytes)) steps e in
    scripts-are_named h.0 steps (read-script (script_of h.0) steps h.2)

abbrev judged : ResId → Bool → Bool → Bool → Plan ResId
judged q p f c = if not p then Refuse 18 (assign_refused 2) else (if not f then Refuse 18 (assign_refused 3) else (if not c then Refuse 18 (assign_refused 4) else Do q))

orderable-found : (s : SystemLists) (o : Option ResId) (r : ResId) → ((q : ResId) → o ≡ Some q → q.0 < length s.resources) → orderable_by s o ≡ Do r → IsOrderable s r.0
orderable-found s None r there e = let no : ⊥ = cc in absurd no
orderable-found s (Some q) r there e = by (has_priorities (resource_at s q.0).kind) refl (is_fed_by_sources s q.0) refl (can_compare s q.0) refl e
  where
    by : (p : Bool) → has_priorities (resource_at s q.0).kind ≡ p → (f : Bool) → is_fed_by_sources s q.0 ≡ f → (c : Bool) → can_compare s q.0 ≡ c → judged q p f c ≡ Do r → IsOrderable s r.0
    by false kind f fed c off e = let no : ⊥ = cc in absurd no
    by true kind false fed c off e = let no : ⊥ = cc in absurd no
    by true kind true fed false off e = let no : ⊥ = cc in absurd no
    by true kind true fed true off e = subst (λ (x : ResId). IsOrderable s x.0) (done-same q r e) (orderable-from s q.0 (there q refl) kind fed off)

-- a resource can be given an order
pub planned-resource : (s : SystemLists) (name : List ℕ) (r : ResId) → orderable_in s name ≡ Do r → IsOrderable s r.0
planned-resource s name r e = orderable-found s (resource_named s name) r (resource-there s name) e

task-found : (o : Option TaskId) (i : TaskId) → task_by o ≡ Do i → o ≡ Some i
task-found None i e = let no : ⊥ = cc in absurd no
task-found (Some j) i e = ap Some (done-same j i e)

-- a task is there
pub planned-task : (s : SystemLists) (name : List ℕ) (i : TaskId) → task_in s name ≡ Do i → i.0 < length s.tasks
planned-task s name i e = task-there s name i (task-found (task_named s name) i e)

-- a resource where clocks meet blocking is refused
pub refused-fourth : (s : SystemLists) (name : List ℕ) (r : ResId) → resource_named s name ≡ Some r → has_priorities (resource_at s r.0).kind ≡ true → is_fed_by_sources s r.0 ≡ true → can_compare s r.0 ≡ false
    → orderable_in s name ≡ Refuse 18 (assign_refused 4)
refused-fourth s name r named kind fed apart = rw (named, kind, fed, apart) refl
