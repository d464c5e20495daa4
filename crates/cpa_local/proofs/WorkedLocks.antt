-- A worked system with locks under ceilings: a section keeps waiting whoever is no less urgent than its lock's ceiling.
use Rattle.std.proofs.Common.{◌≡◌, ℕ, List, [], ◌∷◌, map, false, None, refl}
use Rattle.cpa_units.specs.declared.bound.Bound.{Bound}
use Rattle.cpa_units.specs.declared.bound.Bound.TheVariants.{Within}
use Rattle.cpa_units.specs.declared.limits.Size.TheVariants.{Large}
use Rattle.cpa_units.specs.Search.{least_from, greatest_to}
use Rattle.cpa_events.specs.Streams.{stream_delta_minus, stream_eta_plus}
use Rattle.cpa_events.specs.Events.{delta_minus, eta_plus}
use Rattle.cpa_window.specs.Windows.{window}
use Rattle.cpa_window.specs.BusyWindow.{jobs_in_busy_window, busy_window_bound}
use Rattle.cpa_phase.specs.Clocks.{most_of}
use Rattle.cpa_model.specs.declared.entries.Kind.TheVariants.{Ceiling}
use Rattle.cpa_model.specs.declared.entries.Source.{Source}
use Rattle.cpa_model.specs.declared.entries.Turn.TheVariants.{Priority}
use Rattle.cpa_model.specs.declared.entries.Task.{Task}
use Rattle.cpa_model.specs.declared.locks.CriticalSection.{CriticalSection}
use Rattle.cpa_model.specs.SystemLists.{SystemLists}
use Rattle.cpa_local.specs.Blocking.{blocking_of}
use Rattle.cpa_local.specs.Inputs.{input}
use Rattle.cpa_local.specs.Local.{response, responses}
use Rattle.cpa_local.specs.OnClocks.{anchors_within}
use Rattle.cpa_local.proofs.WorkedCases.{resource, from_source}

abbrev source : ℕ → Source
source period = record { name = []; period = period; jitter = 0; distance = 0; sporadic = false; on_clock = None }

abbrev section : List ℕ → ℕ → ℕ → CriticalSection
section lock start length = record { lock = lock; start = start; length = length }

-- locks b and d
abbrev bus : ℕ → ℕ → CriticalSection
bus start length = section (98 ∷ []) start length

abbrev disk : ℕ → ℕ → CriticalSection
disk start length = section (100 ∷ []) start length

-- a task with so many ticks, by this priority
abbrev locking : ℕ → ℕ → ℕ → List CriticalSection → Task
locking k worst priority locks =
    record { name = []; res = record { 0 = 0 }; after = from_source k; best = 1; worst = worst; turn = Priority priority; region = 1; locks = locks }

abbrev on_ceilings : List Task → SystemLists
on_ceilings tasks =
    record { size = Large; resources = resource Ceiling ∷ []; sources = source 20 ∷ source 40 ∷ source 80 ∷ source 160 ∷ []; tasks = tasks; paths = [] }

-- control has the bus, a filter has no lock, a logger has the bus within the disk, and an archive has the disk, and longer than it takes
locks : SystemLists
locks =
    on_ceilings
    (locking 0 2 1 (bus 0 1 ∷ []) ∷ locking 1 3 2 [] ∷ locking 2 10 3 (disk 0 9 ∷ bus 2 5 ∷ []) ∷ locking 3 4 4 (disk 1 50 ∷ []) ∷ [])

-- the bus keeps control and the filter waiting, the disk the logger alone
locks-blocking : map (blocking_of locks Ceiling) (0 ∷ 1 ∷ 2 ∷ 3 ∷ []) ≡ 4 ∷ 4 ∷ 3 ∷ 0 ∷ []
unfolding locks
locks-blocking = refl

abbrev locks_bounds : List Bound
locks_bounds = map Within (6 ∷ 9 ∷ 18 ∷ 19 ∷ [])

locks-fixed : responses locks locks_bounds ≡ locks_bounds
unfolding locks input response anchors_within most_of busy_window_bound jobs_in_busy_window window stream_eta_plus eta_plus stream_delta_minus delta_minus least_from greatest_to
locks-fixed = refl

-- where control has no lock, nobody keeps it waiting, and the filter isn't either
apart : SystemLists
apart =
    on_ceilings
    (locking 0 2 1 [] ∷ locking 1 3 2 [] ∷ locking 2 10 3 (disk 0 9 ∷ bus 2 5 ∷ []) ∷ locking 3 4 4 (disk 1 50 ∷ []) ∷ [])

apart-blocking : map (blocking_of apart Ceiling) (0 ∷ 1 ∷ 2 ∷ 3 ∷ []) ≡ 0 ∷ 0 ∷ 3 ∷ 0 ∷ []
unfolding apart
apart-blocking = refl

-- a region keeps all waiting that are more urgent
abbrev with_region : Task → ℕ → Task
with_region t region = record t { region = region }

regions : SystemLists
regions =
    on_ceilings
    (locking 0 2 1 (bus 0 1 ∷ []) ∷ locking 1 3 2 (bus 1 2 ∷ []) ∷ with_region (locking 2 10 3 []) 4 ∷ [])

regions-blocking : map (blocking_of regions Ceiling) (0 ∷ 1 ∷ 2 ∷ []) ≡ 3 ∷ 3 ∷ 0 ∷ []
unfolding regions
regions-blocking = refl
