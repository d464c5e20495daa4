-- A system as it was read.
use Rattle.std.specs.Prelude.{ℕ, List, [], None, slice_index_or}
use Rattle.cpa_units.specs.declared.limits.Size.{Size}
use Rattle.cpa_draft.specs.declared.draft.DraftResource.{DraftResource}
use Rattle.cpa_draft.specs.declared.draft.DraftSource.{DraftSource}
use Rattle.cpa_draft.specs.declared.draft.DraftTask.{DraftTask}
use Rattle.cpa_draft.specs.declared.draft.DraftPath.{DraftPath}
use Rattle.cpa_draft.specs.declared.draft.KindWord.TheVariants as word

-- the entries, in their order, and how large a system of them may be
pub record DraftLists : Type 0 where
  pub size : Size
  pub resources : List DraftResource
  pub sources : List DraftSource
  pub tasks : List DraftTask
  pub paths : List DraftPath

-- what stands outside the lists, where no rule speaks of it
abbrev pub no_resource : DraftResource
no_resource = record { name = []; kind = word.Preemptive; limit = None; gap = None; bit = None; rate = None }

abbrev pub no_task : DraftTask
no_task = record { name = []; on = []; after = []; best = None; worst = None; payload = None; extended = None; priority = None; slot = None; region = None; locks = [] }

-- the entries by place
abbrev pub resource_at : DraftLists → ℕ → DraftResource
resource_at d k = slice_index_or d.resources k no_resource

abbrev pub task_at : DraftLists → ℕ → DraftTask
task_at d i = slice_index_or d.tasks i no_task
