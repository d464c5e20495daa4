-- Which text in memory is held under which name.
use Rattle.std.specs.Prelude.{ℕ, codes, List, Option, Some, None, if◌then◌else◌}
use Rattle.std.specs.Str.{bytes_eq}
use Rattle.cpa_memory.specs.declared.texts.Texts.{Texts}

abbrev pub held_of : (system script trace schedule chains : List ℕ) → List ℕ → Option (List ℕ)
held_of system script trace schedule chains name = if bytes_eq name (codes "system") then Some system
    else (if bytes_eq name (codes "script") then Some script
    else (if bytes_eq name (codes "trace") then Some trace
    else (if bytes_eq name (codes "schedule") then Some schedule
    else (if bytes_eq name (codes "chains") then Some chains else None))))

abbrev pub held_in : Texts → List ℕ → Option (List ℕ)
held_in texts = held_of texts.system.now texts.script.now texts.trace.now texts.schedule.now texts.chains.now
