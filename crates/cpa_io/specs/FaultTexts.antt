-- The text of each fault.
use Rattle.std.specs.Prelude.{ℕ, List, codes}
use Rattle.cpa_io.specs.declared.files.LoadFault.{LoadFault}
use Rattle.cpa_io.specs.declared.files.LoadFault.TheVariants as load_fault_is
use Rattle.cpa_io.specs.declared.sink.SinkFault.{SinkFault}
use Rattle.cpa_io.specs.declared.sink.SinkFault.TheVariants as sink_fault_is

abbrev pub load_fault : LoadFault → List ℕ
load_fault load_fault_is.Failed = codes "the file could not be read"
load_fault load_fault_is.TooLong = codes "the file is too long"
load_fault load_fault_is.Memory = codes "out of memory"

abbrev pub sink_fault : SinkFault → List ℕ
sink_fault sink_fault_is.Failed = codes "the output could not be written"
sink_fault sink_fault_is.Memory = codes "out of memory"
