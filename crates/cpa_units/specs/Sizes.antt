-- How large a system may be, and its numbers, by its size.
use Rattle.std.specs.Prelude.{ℕ}
use Rattle.cpa_units.specs.declared.limits.Size.{Size}
use Rattle.cpa_units.specs.declared.limits.Size.TheVariants.{Small, Large}
use Rattle.cpa_units.specs.declared.limits.TheConstants.{MAX_RESOURCES, MAX_SOURCES, MAX_TASKS, MAX_PATHS, MAX_EXECUTION, MAX_GAP, MAX_LIMIT, MAX_SYSTEM_FILE, MAX_LARGE_FILE}

abbrev pub most_resources : Size → ℕ
most_resources Small = 64
most_resources Large = MAX_RESOURCES

abbrev pub most_sources : Size → ℕ
most_sources Small = 128
most_sources Large = MAX_SOURCES

abbrev pub most_tasks : Size → ℕ
most_tasks Small = 512
most_tasks Large = MAX_TASKS

abbrev pub most_paths : Size → ℕ
most_paths Small = 128
most_paths Large = MAX_PATHS

abbrev pub most_execution : Size → ℕ
most_execution Small = 1000000
most_execution Large = MAX_EXECUTION

-- a small system has no region of more than a tick
abbrev pub most_region : Size → ℕ
most_region Small = 1
most_region Large = MAX_EXECUTION

abbrev pub most_gap : Size → ℕ
most_gap Small = 1000000
most_gap Large = MAX_GAP

abbrev pub most_limit : Size → ℕ
most_limit Small = 10000000
most_limit Large = MAX_LIMIT

abbrev pub most_file : Size → ℕ
most_file Small = MAX_SYSTEM_FILE
most_file Large = MAX_LARGE_FILE
