-- The system that is generated from a seed and a size.
use Rattle.std.specs.Prelude.{ℕ, zero, suc, ◌+◌, ◌*◌, ◌-◌, ◌/◌, ◌%◌, nat_lt, false, if◌then◌else◌, List, [], ◌∷◌, ◌++◌, map, codes, Some, slice_index_or, None}
use Rattle.std.specs.List.{range_with_len}
use Rattle.std.specs.Fmt.{decimal}
use Rattle.cpa_units.specs.declared.limits.TheConstants.{DEFAULT_LIMIT}
use Rattle.cpa_units.specs.declared.limits.Size.TheVariants.{Small}
use Rattle.cpa_units.specs.Frames.{least_frame_bits, greatest_frame_bits}
use Rattle.cpa_model.specs.declared.entries.Resource.{Resource}
use Rattle.cpa_model.specs.declared.entries.Source.{Source}
use Rattle.cpa_model.specs.declared.entries.Task.{Task}
use Rattle.cpa_model.specs.declared.entries.Path.{Path}
use Rattle.cpa_model.specs.declared.entries.Kind.TheVariants as kind
use Rattle.cpa_model.specs.declared.entries.Activator.TheVariants as activator
use Rattle.cpa_model.specs.declared.entries.Turn.TheVariants as turn
use Rattle.cpa_model.specs.SystemLists.{SystemLists}
use Rattle.rand_pcg.specs.Lcg.{Lcg}
use Rattle.cpa_gen.specs.Draws.{after_draws, draw, generator}
use Rattle.cpa_gen.specs.declared.chains.Chain.{Chain}

-- how many processors and how many buses a system of a size has
abbrev pub processors : ℕ → ℕ
processors size = (size + 3) / 4

abbrev pub buses : ℕ → ℕ
buses size = (size + 7) / 8

abbrev pub period_of : ℕ → ℕ
period_of i = slice_index_or (10000 ∷ 20000 ∷ 50000 ∷ 100000 ∷ []) i 100000

-- the six draws of a chain, in their order
abbrev pub drawn_chain : ℕ → Lcg → Chain
drawn_chain size g = record {
  period = period_of (draw g 0 4);
  jitter = draw g 1 1000;
  first = 100 + draw g 2 400;
  payload = draw g 3 9;
  last = 100 + draw g 4 400;
  processor = draw g 5 (processors size);
}

-- chain k of the system of a number and a size
unfoldable pub chain_of : ℕ → ℕ → ℕ → Chain
chain_of number size k = drawn_chain size (after_draws (generator number 54) (6 * k))

-- a letter, a number and an ending
abbrev pub numbered : List ℕ → ℕ → List ℕ → List ℕ
numbered letter k ending = letter ++ decimal k ++ ending

abbrev pub source_name : ℕ → List ℕ
source_name k = numbered (codes "s") k []

-- the processors, and then the buses
abbrev pub made_resource : ℕ → ℕ → Resource
made_resource size r =
    if nat_lt r (processors size) then record { name = numbered (codes "p") r []; kind = kind.Preemptive; limit = DEFAULT_LIMIT }
    else record { name = numbered (codes "b") (r - processors size) []; kind = kind.Can 2; limit = DEFAULT_LIMIT }

abbrev pub made_source : ℕ → Chain → Source
made_source k c = record { name = source_name k; period = c.period; jitter = c.jitter; distance = 0; sporadic = false; on_clock = None }

-- the three tasks of chain k, which stand at the places 3k, 3k + 1 and 3k + 2
abbrev pub first_task : ℕ → ℕ → Chain → Task
first_task size k c = record {
  name = numbered (codes "t") k (codes "a");
  res = record { 0 = k % processors size };
  after = activator.Source (record { 0 = k }) ∷ [];
  best = c.first / 2;
  worst = c.first;
  turn = turn.Priority (2 * k);
  region = 1;
  locks = [];
}

abbrev pub frame_task : ℕ → ℕ → Chain → Task
frame_task size k c = record {
  name = numbered (codes "t") k (codes "f");
  res = record { 0 = processors size + k % buses size };
  after = activator.Task (record { 0 = 3 * k }) ∷ [];
  best = least_frame_bits c.payload false * 2;
  worst = greatest_frame_bits c.payload false * 2;
  turn = turn.Priority k;
  region = 1;
  locks = [];
}

abbrev pub last_task : ℕ → Chain → Task
last_task k c = record {
  name = numbered (codes "t") k (codes "b");
  res = record { 0 = c.processor };
  after = activator.Task (record { 0 = 3 * k + 1 }) ∷ [];
  best = c.last / 2;
  worst = c.last;
  turn = turn.Priority (2 * k + 1);
  region = 1;
  locks = [];
}

-- the task that stands so far after the first of its chain
abbrev pub task_of_chain : ℕ → ℕ → ℕ → Chain → Task
task_of_chain zero size k c = first_task size k c
task_of_chain (suc zero) size k c = frame_task size k c
task_of_chain _ size k c = last_task k c

abbrev pub made_path : ℕ → Chain → Path
made_path k c = record {
  name = numbered (codes "c") k [];
  tasks = record { 0 = 3 * k } ∷ record { 0 = 3 * k + 1 } ∷ record { 0 = 3 * k + 2 } ∷ [];
  deadline = Some c.period;
}

abbrev pub task_made : ℕ → ℕ → ℕ → Task
task_made number size i = task_of_chain (i % 3) size (i / 3) (chain_of number size (i / 3))

unfoldable pub made_system : ℕ → ℕ → SystemLists
made_system number size = record {
  size = Small;
  resources = map (made_resource size) (range_with_len 0 (processors size + buses size));
  sources = map (λ k. made_source k (chain_of number size k)) (range_with_len 0 size);
  tasks = map (task_made number size) (range_with_len 0 (3 * size));
  paths = map (λ k. made_path k (chain_of number size k)) (range_with_len 0 size);
}
