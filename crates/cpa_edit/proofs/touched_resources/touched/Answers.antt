use Rattle.std.proofs.Common.{refl}
use Rattle.cpa_edit.specs.Edited.{touches}
use Rattle.cpa_edit.proofs.AllowedLaws.{named-exec, named-priority, named-swap, named-slot, named-source, named-offset, named-add, named-remove}
use Rattle.cpa_edit.proofs.touched_resources.touched.Goals as goal

pub resource_of_task-requires : goal.resource_of_task-requires
resource_of_task-requires c = named-exec _ _ _ _ (rw c.in-Exec.is at c.requires)

pub resource_of_task-requires-in-Priority : goal.resource_of_task-requires-in-Priority
resource_of_task-requires-in-Priority c = named-priority _ _ _ (rw c.in-Priority.is at c.requires)

pub resource_of_task-one-requires : goal.resource_of_task-one-requires
resource_of_task-one-requires c = (named-swap _ _ _ (rw c.in-Swap.is at c.requires)).0

pub resource_of_task-requires-in-Swap : goal.resource_of_task-requires-in-Swap
resource_of_task-requires-in-Swap c = (named-swap _ _ _ (rw c.in-Swap.is at c.requires)).1

pub resource_of_task-requires-in-Slot : goal.resource_of_task-requires-in-Slot
resource_of_task-requires-in-Slot c = named-slot _ _ _ (rw c.in-Slot.is at c.requires)

pub source_named-requires : goal.source_named-requires
source_named-requires c = named-source _ _ _ _ _ (rw c.in-Source.is at c.requires)

pub source_named-requires-in-Offset : goal.source_named-requires-in-Offset
source_named-requires-in-Offset c = named-offset _ _ _ (rw c.in-Offset.is at c.requires)

pub resource_named-requires : goal.resource_named-requires
resource_named-requires c = named-add _ _ _ _ _ _ _ (rw c.in-Add.is at c.requires)

pub resource_of_task-requires-in-Remove : goal.resource_of_task-requires-in-Remove
resource_of_task-requires-in-Remove c = named-remove _ _ (rw c.in-Remove.is at c.requires)

pub returns-in-Exec : goal.returns-in-Exec
unfolding touches
returns-in-Exec c = λ r. rw (c.in-Exec.is, c.only.ensures r, c.resource_of_task.ensures.value) refl

pub returns-in-Priority : goal.returns-in-Priority
unfolding touches
returns-in-Priority c = λ r. rw (c.in-Priority.is, c.only-in-Priority.ensures r, c.resource_of_task-in-Priority.ensures.value) refl

pub returns-in-Swap : goal.returns-in-Swap
unfolding touches
returns-in-Swap c = λ r. rw (c.in-Swap.is, c.with.ensures r, c.only-in-Swap.ensures r, c.resource_of_task-one.ensures.value, c.resource_of_task-in-Swap.ensures.value) refl

pub returns-in-Slot : goal.returns-in-Slot
unfolding touches
returns-in-Slot c = λ r. rw (c.in-Slot.is, c.only-in-Slot.ensures r, c.resource_of_task-in-Slot.ensures.value) refl

pub returns-in-Source : goal.returns-in-Source
unfolding touches
returns-in-Source c = λ r. rw (c.in-Source.is, c.fed_by.ensures r, c.source_named.ensures.value) refl

pub returns-in-Offset : goal.returns-in-Offset
unfolding touches
returns-in-Offset c = λ r. rw (c.in-Offset.is, c.fed_by-in-Offset.ensures r, c.source_named-in-Offset.ensures.value) refl

pub returns-in-Add : goal.returns-in-Add
unfolding touches
returns-in-Add c = λ r. rw (c.in-Add.is, c.only-in-Add.ensures r, c.resource_named.ensures.value) refl

pub returns-in-Remove : goal.returns-in-Remove
unfolding touches
returns-in-Remove c = λ r. rw (c.in-Remove.is, c.only-in-Remove.ensures r, c.resource_of_task-in-Remove.ensures.value) refl
