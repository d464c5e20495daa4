-- The text of each fault.
use Rattle.std.specs.Prelude.{ℕ, List, codes}
use Rattle.cpa_call.specs.declared.errors.OutputError.{OutputError}
use Rattle.cpa_call.specs.declared.errors.OutputError.TheVariants as stopped_is

abbrev pub stopped : OutputError → List ℕ
stopped stopped_is.Sink = codes "the output could not be written"
stopped stopped_is.Memory = codes "out of memory"
