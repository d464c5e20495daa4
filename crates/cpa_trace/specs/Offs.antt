-- The first event that doesn't come by the clock of its source, as it is searched clock by clock.
use Rattle.std.specs.Prelude.{◌≡◌, ◌<◌, ℕ, length, Some, None}
use Rattle.cpa_model.specs.Clocks.{clock_of}
use Rattle.cpa_model.specs.SystemLists.{SystemLists}
use Rattle.cpa_trace.specs.declared.breach.Breach.TheVariants.{Clock}
use Rattle.cpa_trace.specs.declared.clocks.Off.{Off}
use Rattle.cpa_trace.specs.Trace.{TraceLists, times_of}
use Rattle.cpa_trace.specs.Breaches.{clock_breach}

-- a source is on clock c, and has events
pub record HasEvents (s : SystemLists) (tr : TraceLists) (c k : ℕ) : Type 0 where
  pub on : clock_of s k ≡ Some c
  pub some : 0 < length (times_of tr k)

-- all events of the sources on clock c that are below a place come by it
abbrev pub HasNoneOff : SystemLists → TraceLists → ℕ → ℕ → Type 0
HasNoneOff s tr c until = (k : ℕ) → k < until → clock_of s k ≡ Some c → clock_breach s tr k ≡ None

-- the first event of the first of those sources that has one that doesn't
pub record IsFirstOff (s : SystemLists) (tr : TraceLists) (c until : ℕ) (off : Off) : Type 0 where
  pub below : off.source < until
  pub breach : clock_breach s tr off.source ≡ Some (Clock (record { 0 = off.source }) off.time)
  pub before : HasNoneOff s tr c off.source
