-- Of a list of tasks the one with the least number, the first of them where several have it.
use Rattle.std.specs.Prelude.{ℕ, ◌≡◌, ◌<◌, ◌≤◌, ◌⊎◌, nat_lt, if◌then◌else◌, List, [], ◌∷◌, Option, Some, None}

-- a task, or one that stands after it, if that has a smaller number
abbrev pub lesser : (ℕ → ℕ) → ℕ → Option ℕ → ℕ
lesser number j None = j
lesser number j (Some k) = if nat_lt (number k) (number j) then k else j

abbrev pub least_by : (ℕ → ℕ) → List ℕ → Option ℕ
least_by number [] = None
least_by number (j ∷ js) = Some (lesser number j (least_by number js))

-- a task comes before another: its number is smaller, or the same, and it stands no later in the file
abbrev pub ComesBefore : (ℕ → ℕ) → ℕ → ℕ → Type 0
ComesBefore number k j = (number k < number j) ⊎ ((number k ≡ number j) × (k ≤ j))
