-- What an edit of a system spares: the tasks whose resources it doesn't touch are as before, and ask of each other what they
-- asked before. Incremental analysis stands on it: what reads nothing that was touched keeps its bounds.
use Rattle.std.specs.Prelude.{ℕ, ◌≡◌, ◌<◌, ◌+◌, nat_lt, Bool, false, if◌then◌else◌, List, Option, Some, None, length, filter, map}
use Rattle.std.specs.List.{AllZip}
use Rattle.cpa_units.specs.declared.bound.Bound.{Bound}
use Rattle.cpa_units.specs.Bounds.{bound_of}
use Rattle.cpa_units.specs.Sets.{holds, Members}
use Rattle.cpa_units.specs.declared.places.TaskId.{TaskId}
use Rattle.cpa_model.specs.declared.entries.Activator.{Activator}
use Rattle.cpa_model.specs.declared.entries.Activator.TheVariants.{Source as FromSource, Task as FromTask}
use Rattle.cpa_model.specs.SystemLists.{SystemLists, task_at, source_at, task_places}
use Rattle.cpa_model.specs.Streams.{model_of}
use Rattle.cpa_local.specs.OnClocks.{source_anchor}

-- the place that a task had: those behind one that was removed have moved up
abbrev pub place_before : Option TaskId → ℕ → ℕ
place_before None i = i
place_before (Some gone) i = if nat_lt i gone.0 then i else i + 1

-- a source with the same model, at the same offset of the same clock if it is on one, or the same task, by the place that it had
abbrev pub IsSameActivator : SystemLists → SystemLists → (ℕ → ℕ) → Activator → Activator → Type 0
IsSameActivator s t was (FromSource k) (FromSource m) = (model_of (source_at s k.0) ≡ model_of (source_at t m.0)) × (source_anchor s k.0 ≡ source_anchor t m.0)
IsSameActivator s t was (FromTask j) (FromTask m) = j.0 ≡ was m.0
IsSameActivator s t was (FromSource k) (FromTask m) = ⊥
IsSameActivator s t was (FromTask j) (FromSource m) = ⊥

-- task i of the new system is a task of the old one, and has its activators, one for one
pub record IsSameTask (s t : SystemLists) (was : ℕ → ℕ) (i : ℕ) : Type 0 where
  pub there : was i < length s.tasks
  pub res : (task_at s (was i)).res.0 ≡ (task_at t i).res.0
  pub after : AllZip (IsSameActivator s t was) (task_at s (was i)).after (task_at t i).after
  pub best : (task_at s (was i)).best ≡ (task_at t i).best
  pub worst : (task_at s (was i)).worst ≡ (task_at t i).worst
  pub turn : (task_at s (was i)).turn ≡ (task_at t i).turn
  pub region : (task_at s (was i)).region ≡ (task_at t i).region
  pub locks : (task_at s (was i)).locks ≡ (task_at t i).locks

-- tests of the tasks of both systems that pass none on touched resources, and agree on all others
pub record AreSameTests (s t : SystemLists) (touched : List Bool) (was : ℕ → ℕ) (old new : ℕ → Bool) : Type 0 where
  pub none_old : (k : ℕ) → k < length s.tasks → Members touched (task_at s k).res.0 → old k ≡ false
  pub none_new : (i : ℕ) → i < length t.tasks → Members touched (task_at t i).res.0 → new i ≡ false
  pub same : (i : ℕ) → i < length t.tasks → holds touched (task_at t i).res.0 ≡ false → new i ≡ old (was i)

-- The new system t has the old one's resources and as many sources, and on those resources that aren't touched its tasks, in their order
pub record IsSpared (s t : SystemLists) (touched : List Bool) (was : ℕ → ℕ) : Type 0 where
  pub resources : s.resources ≡ t.resources
  pub sources : length s.sources ≡ length t.sources
  pub apart : (i j : ℕ) → was i ≡ was j → i ≡ j
  pub same : (i : ℕ) → i < length t.tasks → holds touched (task_at t i).res.0 ≡ false → IsSameTask s t was i
  pub listed : (old new : ℕ → Bool) → AreSameTests s t touched was old new
      → filter old (task_places s) ≡ map was (filter new (task_places t))

-- the bounds of tasks that can't be reached are those that they had
abbrev pub AgreeApart : SystemLists → List Bool → (ℕ → ℕ) → List Bound → List Bound → Type 0
AgreeApart t reached was x y =
    (i : ℕ) → i < length t.tasks → holds reached (task_at t i).res.0 ≡ false → bound_of x (was i) ≡ bound_of y i
