use Rattle.std.proofs.Common.{refl, get_or}
use Rattle.cpa_units.specs.Name.{is_name}
use Rattle.cpa_draft.specs.declared.draft.DraftLock.{DraftLock}
use Rattle.cpa_draft.proofs.ListLaws.{passes-at}
use Rattle.cpa_draft.proofs.UnrefusedLaws.{unrefused}
use Rattle.cpa_model.specs.Built.{system_of}
use Rattle.cpa_model.proofs.BuiltLaws.{system-kept, tasks-fit-types, paths-fit-types}
use Rattle.cpa_model.proofs.build.build_validated.Goals as goal

pub build_resources-requires : goal.build_resources-requires
build_resources-requires c = rw (c.resource_entries.ensures) (unrefused c.args.draft.now c.requires.refusal).resources_named

pub build_sources-requires-clause-named : goal.build_sources-requires-clause-named
build_sources-requires-clause-named c = rw (c.source_entries.ensures) (unrefused c.args.draft.now c.requires.refusal).sources_named

pub build_sources-requires-clause-clocks : goal.build_sources-requires-clause-clocks
build_sources-requires-clause-clocks c = rw (c.source_entries.ensures) (unrefused c.args.draft.now c.requires.refusal).clocks_named

pub build_tasks-requires-clause-named : goal.build_tasks-requires-clause-named
build_tasks-requires-clause-named c = rw (c.task_entries.ensures) (unrefused c.args.draft.now c.requires.refusal).tasks_named

pub build_paths-requires-clause-named : goal.build_paths-requires-clause-named
build_paths-requires-clause-named c = rw (c.path_entries.ensures) (unrefused c.args.draft.now c.requires.refusal).paths_named

pub build_tasks-requires-clause-fits : goal.build_tasks-requires-clause-fits
build_tasks-requires-clause-fits c = rw (c.task_entries.ensures) (tasks-fit-types c.args.draft.now (unrefused c.args.draft.now c.requires.refusal) c.requires.executions)

pub build_paths-requires-clause-fits : goal.build_paths-requires-clause-fits
build_paths-requires-clause-fits c =
    rw (c.path_entries.ensures) (paths-fit-types c.args.draft.now (unrefused c.args.draft.now c.requires.refusal) c.requires.executions)

pub of_lists-requires : goal.of_lists-requires
unfolding system_of
of_lists-requires c =
    rw (
      c.in_ok-resources.ensures.ok,
      c.in_ok-sources.ensures.ok,
      c.in_ok-tasks.ensures.ok,
      c.in_ok-paths.ensures.ok,
      c.resource_entries.ensures,
      c.source_entries.ensures,
      c.task_entries.ensures,
      c.path_entries.ensures,
      c.size.ensures,
    )
    (system-kept c.args.draft.now (unrefused c.args.draft.now c.requires.refusal) c.requires.executions)

pub returns-in-Ok-clause-ok : goal.returns-in-Ok-clause-ok
unfolding system_of
returns-in-Ok-clause-ok c =
    rw (
      c.in-Ok.ensures,
      c.in_ok-resources.ensures.ok,
      c.in_ok-sources.ensures.ok,
      c.in_ok-tasks.ensures.ok,
      c.in_ok-paths.ensures.ok,
      c.resource_entries.ensures,
      c.source_entries.ensures,
      c.task_entries.ensures,
      c.path_entries.ensures,
      c.size.ensures,
    )
    refl

pub build_tasks-requires-clause-locks : goal.build_tasks-requires-clause-locks
build_tasks-requires-clause-locks c =
    rw (c.task_entries.ensures)
    (λ i t less. λ k l within.
    passes-at (λ (l : DraftLock). is_name l.name) (get_or c.args.draft.now.tasks i t).locks k l ((unrefused c.args.draft.now c.requires.refusal).locks_named i t less) within)
