use Rattle.std.proofs.Common.{rules, ◌≡◌, false}
use Rattle.cpa_io.specs.Memory.{is_failing}
use Rattle.cpa_io.proofs.Spared.{spared_put}
use Rattle.cpa_io.proofs.memory.MemorySinkSink.put.Goals as goal
use Rattle.cpa_io.proofs.memory.MemorySinkSink.put.Goals.{in-Ok, in-Err}

pub returns-clause-fails : goal.returns-clause-fails
returns-clause-fails c =
    let sink = c.args.self.now in
    let unlisted : is_failing sink.failing sink.calls ≡ false = search rules in (
      λ failed. elim c.match-extend_from_slice.branch [ in-Ok w ↦ cc | in-Err w ↦ cc ],
      λ fails. absurd (spared_put sink _ unlisted fails),
    )
