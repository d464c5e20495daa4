-- Where the streams of tasks are on the clocks of their sources (Tindell 1994; Palencia and González Harbour 1998). No bound bears on
-- it: what a task sends on is later on its clock by its least execution, and its jitter greater.
use Rattle.std.specs.Prelude.{ℕ, zero, suc, ◌+◌, Option, None, option_map, List, [], ◌∷◌, map, slice_index_or}
use Rattle.std.specs.List.{flat_map}
use Rattle.cpa_units.specs.declared.bound.Bound.{Bound}
use Rattle.cpa_units.specs.declared.limits.TheConstants.{MAX_CHAIN}
use Rattle.cpa_clock.specs.declared.anchor.Anchor.{Anchor}
use Rattle.cpa_clock.specs.Anchors.{Anchors}
use Rattle.cpa_clock.specs.Rivals.{ClockedRival}
use Rattle.cpa_model.specs.declared.entries.Activator.{Activator}
use Rattle.cpa_model.specs.declared.entries.Activator.TheVariants.{Source as FromSource, Task as FromTask}
use Rattle.cpa_model.specs.Clocks.{clock_of, offset_of}
use Rattle.cpa_model.specs.SystemLists.{SystemLists, task_at}
use Rattle.cpa_local.specs.Inputs.{input}

-- where the events of a source are on its clock, if it has one
abbrev pub source_anchor : SystemLists → ℕ → Option Anchor
source_anchor s k = option_map (λ c. record { clock = c; offset = offset_of s k }) (clock_of s k)

-- what comes out of a task is later on its clock by the task's least execution
abbrev pub later_anchor : ℕ → Option Anchor → Option Anchor
later_anchor best anchor = option_map (λ (a : Anchor). record { clock = a.clock; offset = a.offset + best }) anchor

-- one step to the anchors of the streams that an activator sends
abbrev pub anchors_step : SystemLists → (ℕ → List (Option Anchor)) → Activator → List (Option Anchor)
anchors_step s deeper (FromSource k) = source_anchor s k.0 ∷ []
anchors_step s deeper (FromTask j) = map (later_anchor (task_at s j.0).best) (deeper j.0)

-- the anchors of a task's streams, in their order, where activators are followed over n tasks
unfoldable pub anchors_within : SystemLists → ℕ → ℕ → List (Option Anchor)
anchors_within s zero i = []
anchors_within s (suc n) i = flat_map (anchors_step s (anchors_within s n)) (task_at s i).after

-- those of all its chains
abbrev pub anchor_list : SystemLists → ℕ → List (Option Anchor)
anchor_list s i = anchors_within s MAX_CHAIN i

-- by the streams' places
abbrev pub anchors_of : SystemLists → ℕ → Anchors
anchors_of s i q = slice_index_or (anchor_list s i) q None

-- a task as its neighbours see it, where streams are on clocks
abbrev pub clocked_rival_of : SystemLists → List Bound → ℕ → ClockedRival
clocked_rival_of s x j = record { model = input s x j; anchors = anchors_of s j; worst = (task_at s j).worst }
