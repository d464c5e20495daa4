-- Streams that are gathered one after the other, along all chains of a task.
use Rattle.std.specs.Prelude.{ℕ, ◌≡◌, ◌<◌, ◌≤◌, ◌+◌, ◌*◌, Bool, true, false, Option, Some, None, List, [], ◌∷◌, length}
use Rattle.cpa_units.specs.declared.bound.Bound.{Bound}
use Rattle.cpa_units.specs.declared.limits.TheConstants.{MAX_CHAIN, MAX_EXECUTION, MAX_LIMIT}
use Rattle.cpa_events.specs.Events.{Model, later}
use Rattle.cpa_events.specs.Streams.{IsStreamInRange}
use Rattle.cpa_model.specs.SystemLists.{SystemLists, depth_of, streams_of}
use Rattle.cpa_local.specs.declared.chain_walks.ChainWalk.{ChainWalk}
use Rattle.cpa_local.specs.declared.chain_walks.WalkEnd.{WalkEnd}
use Rattle.cpa_local.specs.declared.chain_walks.WalkEnd.TheVariants.{Sent, Several, Unbounded}
use Rattle.cpa_local.specs.Inputs.{input}

-- what is sent on after several tasks in a row; nothing is known where what they receive is unbounded
abbrev pub later_of : ℕ → ℕ → Option Model → Option Model
later_of late least None = None
later_of late least (Some m) = Some (later m late least)

-- the streams that were found so far, where it is told whether there are none
abbrev pub so_far : Bool → Model → Model
so_far true found = []
so_far false found = found

-- on the way from task i, with these numbers, back to task `at`: each task between has one activator
pub record IsOnWay (s : SystemLists) (x : List Bound) (i late least at more floor : ℕ) : Type 0 where
  pub there : at < length s.tasks
  pub same : later_of late least (input s x i) ≡ later_of more floor (input s x at)
  pub room : more + depth_of s at * MAX_LIMIT ≤ MAX_CHAIN * MAX_LIMIT
  pub small : floor ≤ MAX_EXECUTION
  pub long : length (streams_of s at) ≡ length (streams_of s i)
  pub deep : depth_of s at ≤ depth_of s i

-- where a way ends that came back to task i: what that task's input is where the way began
abbrev pub EndsThere : SystemLists → List Bound → ℕ → ChainWalk → WalkEnd → Type 0
EndsThere s x i way (Sent stream) = IsStreamInRange stream × (later_of way.late way.least (input s x i) ≡ Some (stream ∷ []))
EndsThere s x i way (Several at back) = IsOnWay s x i way.late way.least at.0 back.late back.least
EndsThere s x i way Unbounded = later_of way.late way.least (input s x i) ≡ None
