use Rattle.std.proofs.Common.{◌≡◌, map, take}
use Rattle.cpa_model.specs.Built.{built_section}
use Rattle.cpa_model.proofs.build.build_sections.Given as goal

abbrev pub invariant-loop-draft : goal.invariant-loop-draft
invariant-loop-draft l = l.built.items ≡ map built_section (take l.draft-index l.drafts)
