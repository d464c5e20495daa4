-- Regions of three tasks, and a lock of two, worked.
use Rattle.std.proofs.Common.{◌≡◌, ℕ, Bool, true, false, List, [], ◌∷◌, Some, refl, get_or}
use Rattle.cpa_units.specs.declared.limits.Size.TheVariants.{Large}
use Rattle.cpa_model.specs.declared.entries.Kind.TheVariants.{Preemptive, Ceiling}
use Rattle.cpa_model.specs.declared.locks.CriticalSection.{CriticalSection}
use Rattle.cpa_model.specs.declared.entries.Turn.TheVariants.{Priority}
use Rattle.cpa_model.specs.declared.entries.Task.{Task}
use Rattle.cpa_model.specs.SystemLists.{SystemLists}
use Rattle.cpa_sched.specs.Steps.{ReadyQueue, within_region, completed, step}
use Rattle.cpa_sched.specs.Stretches.{state_after, task_after, length_of}
use Rattle.cpa_sched.proofs.StretchLaws.{choice}
use Rattle.cpa_sched.proofs.RegionLaws.{free}

abbrev task : ℕ → ℕ → ℕ → ℕ → Task
task number best worst region = record { name = []; res = record { 0 = 0 }; after = []; best = best; worst = worst; turn = Priority number; region = region; locks = [] }

-- regions of 1, 2 and 4 ticks
three : SystemLists
three =
    record {
      size = Large;
      resources = record { name = []; kind = Preemptive; limit = 1000 } ∷ [];
      sources = [];
      tasks = task 1 1 3 1 ∷ task 2 2 4 2 ∷ task 3 6 9 4 ∷ [];
      paths = [];
    }

-- these of them wait, whose jobs have just arrived
abbrev these : List Bool → ReadyQueue
these flags = record { waits = λ i. get_or flags i false; arrival = λ i. 0; received = λ i. 0 }

abbrev last : ReadyQueue
last = these (false ∷ false ∷ true ∷ [])

abbrev last_two : ReadyQueue
last_two = these (false ∷ true ∷ true ∷ [])

abbrev all : ReadyQueue
all = these (true ∷ true ∷ true ∷ [])

-- a region begins where nobody holds the resource
begins : step three 0 free last 0 0 ≡ choice (Some 2) (record { holder = Some 2; left = 3 })
unfolding step three
begins = refl

-- it goes on while more urgent tasks wait
goes_on : step three 0 (within_region 2 3) all 1 0 ≡ choice (Some 2) (record { holder = Some 2; left = 2 })
unfolding step three
goes_on = refl

ends : state_after three 0 (within_region 2 3) all (Some 2) 1 0 3 ≡ free
unfolding step three state_after
ends = refl

gives_way : task_after three 0 (within_region 2 3) all (Some 2) 1 0 3 ≡ Some 0
unfolding step three state_after
gives_way = refl

-- how long stretches are: to the end of the region that has begun, on where each tick is a region, of one that begins
to_its_end : length_of three 0 (within_region 2 3) all 1 0 100 ≡ 3
unfolding step three length_of
to_its_end = refl

as_long_as_may_be : length_of three 0 free all 4 0 100 ≡ 100
unfolding step three length_of
as_long_as_may_be = refl

of_a_region : length_of three 0 free last_two 7 0 100 ≡ 2
unfolding step three length_of
of_a_region = refl

-- the region ends with the job
is_complete : completed Preemptive (within_region 2 3) ≡ free
is_complete = refl

-- ---- locks

abbrev user : ℕ → List CriticalSection → Task
user number locks = record { name = []; res = record { 0 = 0 }; after = []; best = 1; worst = 9; turn = Priority number; region = 1; locks = locks }

-- the first and the last have a lock in common, whose ceiling is the priority of the first
sharing : SystemLists
sharing =
    record {
      size = Large;
      resources = record { name = []; kind = Ceiling; limit = 1000 } ∷ [];
      sources = [];
      tasks = user 1 (record { lock = 98 ∷ []; start = 2; length = 3 } ∷ []) ∷ user 2 [] ∷ user 3 (record { lock = 98 ∷ []; start = 1; length = 3 } ∷ []) ∷ [];
      paths = [];
    }

-- all three wait, whose jobs have had so many ticks
abbrev had : List ℕ → ReadyQueue
had ticks = record { waits = λ i. true; arrival = λ i. 0; received = λ i. get_or ticks i 0 }

-- the last holds the lock after its second tick, so that neither of the others runs
holds_on : step sharing 0 free (had (0 ∷ 0 ∷ 2 ∷ [])) 5 0 ≡ choice (Some 2) free
unfolding step sharing
holds_on = refl

-- but not before
not_yet : step sharing 0 free (had (0 ∷ 0 ∷ 1 ∷ [])) 5 0 ≡ choice (Some 0) free
unfolding step sharing
not_yet = refl

-- nor after the fourth
released : step sharing 0 free (had (0 ∷ 0 ∷ 4 ∷ [])) 5 0 ≡ choice (Some 0) free
unfolding step sharing
released = refl

-- it runs to the end of the section
to_its_release : length_of sharing 0 free (had (0 ∷ 0 ∷ 2 ∷ [])) 5 0 100 ≡ 2
unfolding step length_of sharing
to_its_release = refl
