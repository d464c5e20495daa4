-- Worked cases of ceilings, and of the blocking by critical sections.
use Rattle.std.proofs.Common.{◌≡◌, ℕ, List, [], ◌∷◌, map, refl}
use Rattle.cpa_units.specs.declared.limits.Size.TheVariants.{Large}
use Rattle.cpa_model.specs.declared.entries.Kind.TheVariants as kind
use Rattle.cpa_model.specs.declared.entries.Resource.{Resource}
use Rattle.cpa_model.specs.declared.entries.Task.{Task}
use Rattle.cpa_model.specs.declared.entries.Turn.TheVariants as turn
use Rattle.cpa_model.specs.declared.locks.CriticalSection.{CriticalSection}
use Rattle.cpa_model.specs.SystemLists.{SystemLists}
use Rattle.cpa_model.specs.Locks.{Section, ceiling_of, ceiling_blocking, sections_of}

resource : Resource
resource = record { name = 112 ∷ []; kind = kind.Ceiling; limit = 1000 }

section : ℕ → ℕ → ℕ → CriticalSection
section lock start ticks = record { lock = lock ∷ []; start = start; length = ticks }

task : ℕ → ℕ → ℕ → ℕ → List CriticalSection → Task
task res worst priority region locks = record {
  name = 116 ∷ [];
  res = record { 0 = res };
  after = [];
  best = 1;
  worst = worst;
  turn = turn.Priority priority;
  region = region;
  locks = locks;
}

-- tasks 0, 1, 2 and 3 of the first resource have the priorities 3, 5, 8 and 9; lock a (97) is used by the first and the third, lock b (98) by the
-- second and the third; task 4, on another resource, is more urgent and uses a lock a of its own
system : SystemLists
system = record {
  size = Large;
  resources = resource ∷ resource ∷ [];
  sources = [];
  tasks = task 0 2 3 1 (section 97 0 2 ∷ [])
      ∷ task 0 5 5 1 (section 98 1 3 ∷ [])
      ∷ task 0 8 8 1 (section 97 1 4 ∷ section 98 6 9 ∷ [])
      ∷ task 0 20 9 5 []
      ∷ task 1 7 1 1 (section 97 0 7 ∷ [])
      ∷ [];
  paths = [];
}

-- the smallest number of a user on the resource; a lock that nobody uses has the greatest of all numbers
ceilings : map (λ lock. ceiling_of system 0 (lock ∷ [])) (97 ∷ 98 ∷ 99 ∷ []) ≡ 3 ∷ 5 ∷ 536870911 ∷ []
unfolding system task section resource
ceilings = refl

ceiling-elsewhere : ceiling_of system 1 (97 ∷ []) ≡ 1
unfolding system task section resource
ceiling-elsewhere = refl

-- the third task keeps the first waiting for what is left of its section with lock a, and the second for the longer one of both, which ends with the job;
-- the second keeps the first waiting for nothing, as the ceiling of lock b is less urgent; the fourth for the rest of a region
blocking-first : map (ceiling_blocking system 0) (1 ∷ 2 ∷ 3 ∷ []) ≡ 0 ∷ 3 ∷ 4 ∷ []
unfolding system task section resource
blocking-first = refl

blocking-second : map (ceiling_blocking system 1) (2 ∷ 3 ∷ []) ≡ 7 ∷ 4 ∷ []
unfolding system task section resource
blocking-second = refl

-- what a task has
third-sections : sections_of system 2 ≡ record { start = 1; ticks = 4; ceiling = 3 } ∷ record { start = 6; ticks = 9; ceiling = 5 } ∷ []
unfolding system task section resource
third-sections = refl
