use Rattle.toml.specs.View.{view}
use Rattle.cpa_file.proofs.EntryLaws.{draft-executions}
use Rattle.cpa_file.proofs.read.system_of.Goals as goal

pub build-requires : goal.build-requires
build-requires c = record { executions = draft-executions (view c.args.document.now) c.in_ok-draft.draft c.in_ok-draft.ensures }
