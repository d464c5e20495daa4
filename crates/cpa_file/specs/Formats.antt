-- The formats of system files.
use Rattle.std.specs.Prelude.{ℤ, Bool, true, false, Option, Some, None, if◌then◌else◌}
use Rattle.cpa_units.specs.declared.limits.Size.{Size}
use Rattle.cpa_units.specs.declared.limits.Size.TheVariants.{Small, Large}
use Rattle.cpa_draft.specs.Numbers.{is_within}
use Rattle.cpa_file.specs.declared.format.Format.{Format}
use Rattle.cpa_file.specs.declared.format.Format.TheVariants.{One, Two, Four}

-- the format with a number, and 1 where none has it
abbrev pub format_with : Option ℤ → Format
format_with None = One
format_with (Some z) = if is_within 2 2 z then Two else if is_within 4 4 z then Four else One

-- from format 2 on a task may have a list of activators
abbrev pub has_lists : Format → Bool
has_lists One = false
has_lists Two = true
has_lists Four = true

-- in format 4 a task may have a region, or critical sections
abbrev pub has_more_of_tasks : Format → Bool
has_more_of_tasks One = false
has_more_of_tasks Two = false
has_more_of_tasks Four = true

-- in format 4 a source may be sporadic, and on a clock
abbrev pub has_more_of_sources : Format → Bool
has_more_of_sources One = false
has_more_of_sources Two = false
has_more_of_sources Four = true

-- in format 4 a resource may be a queue, or one whose locks have ceilings
abbrev pub has_later_kinds : Format → Bool
has_later_kinds One = false
has_later_kinds Two = false
has_later_kinds Four = true

-- in format 4 a system may be large
abbrev pub size_of : Format → Size
size_of One = Small
size_of Two = Small
size_of Four = Large
