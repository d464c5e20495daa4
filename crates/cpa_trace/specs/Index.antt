-- The names of a system, by which rows are looked up.
use Rattle.std.specs.Prelude.{◌≡◌, map}
use Rattle.cpa_model.specs.declared.entries.Resource.{Resource}
use Rattle.cpa_model.specs.declared.entries.Source.{Source}
use Rattle.cpa_model.specs.declared.entries.Task.{Task}
use Rattle.cpa_model.specs.SystemLists.{SystemLists}
use Rattle.cpa_trace.specs.declared.index.Index.{Index}

-- an index holds the names of a system, each at its place
pub record IsIndex (s : SystemLists) (index : Index) : Type 0 where
  pub resources : index.resources ≡ map (λ (r : Resource). r.name) s.resources
  pub sources : index.sources ≡ map (λ (r : Source). r.name) s.sources
  pub tasks : index.tasks ≡ map (λ (t : Task). t.name) s.tasks
