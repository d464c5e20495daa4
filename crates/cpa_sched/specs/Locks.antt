-- Locks under immediate priority ceilings (Sha, Rajkumar, Lehoczky, 1990; Baker, 1991): within a critical section a job has the ceiling as priority.
use Rattle.std.specs.Prelude.{ℕ, ◌+◌, ◌-◌, ◌*◌, ◌&&◌, nat_lt, Bool, if◌then◌else◌, min, List, [], ◌∷◌}
use Rattle.std.specs.List.{list_any}
use Rattle.cpa_model.specs.SystemLists.{SystemLists, task_at, priority_of}
use Rattle.cpa_model.specs.Locks.{Section, sections_of}

-- whether a job that has had so many ticks has had at least one of a section, and not all
abbrev pub is_within : ℕ → Section → Bool
is_within received section = nat_lt section.start received && nat_lt received (section.start + section.ticks)

-- whether it is within some section
abbrev pub holds_lock : List Section → ℕ → Bool
holds_lock sections received = list_any (is_within received) sections

-- the active priority number: that of the task, or a ceiling of a section that it is within, if that is smaller
abbrev pub active_priority : ℕ → List Section → ℕ → ℕ
active_priority base [] received = base
active_priority base (section ∷ sections) received =
    if is_within received section then min section.ceiling (active_priority base sections received) else active_priority base sections received

-- by the active priority, and on equal ones a job within a section first
abbrev pub urgency : ℕ → List Section → ℕ → ℕ
urgency base sections received = 2 * active_priority base sections received + (if holds_lock sections received then 0 else 1)

-- how urgent the earliest pending job of each task is, by the ticks that it has had: the smaller the more
abbrev pub urgency_of : SystemLists → (ℕ → ℕ) → ℕ → ℕ
urgency_of s received j = urgency (priority_of (task_at s j).turn) (sections_of s j) (received j)

-- the ticks to the next end of a section that isn't over, at most so many: before that the active priority doesn't fall
abbrev pub ticks_to_release : ℕ → List Section → ℕ → ℕ
ticks_to_release most [] received = most
ticks_to_release most (section ∷ sections) received =
    if nat_lt received (section.start + section.ticks) then min (section.start + section.ticks - received) (ticks_to_release most sections received)
    else ticks_to_release most sections received
