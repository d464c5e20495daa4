use Rattle.std.proofs.Common.{◌≡◌, drop}
use Rattle.cpa_io.specs.Memory.{entries_of, held_under}
use Rattle.cpa_io.proofs.memory.find_entry.Given as goal

abbrev pub invariant-loop-entry : goal.invariant-loop-entry
invariant-loop-entry l = held_under l.name (entries_of l.entries) ≡ held_under l.name (entries_of (drop l.entry-index l.entries))
