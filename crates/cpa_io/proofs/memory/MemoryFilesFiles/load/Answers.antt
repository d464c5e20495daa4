use Rattle.std.proofs.Common.{rules, ◌≡◌, false, Some}
use Rattle.cpa_io.specs.Memory.{is_failing, held_under}
use Rattle.cpa_io.proofs.Spared.{spared_load}
use Rattle.cpa_io.proofs.memory.MemoryFilesFiles.load.Goals as goal

pub returns-in-Some-clause-fails : goal.returns-in-Some-clause-fails
returns-in-Some-clause-fails c =
    let files = c.args.self.now in
    let unlisted : is_failing files.failing files.calls ≡ false = search rules in
    let held : held_under c.args.name.now files.entries ≡ Some c.in-Some.bytes.now = search rules in
    λ _. (λ failed. absurd (c.copy_within.ensures.held failed), λ fails. absurd (spared_load files _ _ unlisted held fails))
