-- What a size allows is within the limits of all systems, and the tests of a draft's numbers say so of its system.
use Rattle.std.proofs.Common.{◌≡◌, ℕ, ℤ, pos, negsuc, ◌*◌, ◌≤◌, Bool, true, false, ◌&&◌, List, ◌∷◌, [], length, Option, Some, None, is_some, unwrap_or, refl, ap, ◌∙◌, arith}
use Rattle.std.proofs.Math.Nat.{le_trans}
use Rattle.std.proofs.lemmas.Bool.{and_parts, and_from, false≢true, leb-true, le-leb}
use Rattle.cpa_units.specs.declared.limits.Size.{Size}
use Rattle.cpa_units.specs.declared.limits.Size.TheVariants.{Small, Large}
use Rattle.cpa_units.specs.Sizes.{most_resources, most_sources, most_tasks, most_paths, most_execution, most_region, most_gap, most_limit}
use Rattle.cpa_draft.specs.Numbers.{nat_of, nat_or, is_within, may_be_within}
use Rattle.cpa_draft.specs.Refusals.{resource_fits, is_later_kind as is_later_word, kind_fits, source_fits, lock_fits, locks_fit, task_fits, clock_fits}
use Rattle.cpa_draft.specs.declared.draft.DraftResource.{DraftResource}
use Rattle.cpa_draft.specs.declared.draft.DraftSource.{DraftSource}
use Rattle.cpa_draft.specs.declared.draft.DraftTask.{DraftTask}
use Rattle.cpa_draft.specs.declared.draft.DraftLock.{DraftLock}
use Rattle.cpa_draft.specs.declared.draft.KindWord.{KindWord}
use Rattle.cpa_draft.specs.declared.draft.KindWord.TheVariants as word
use Rattle.cpa_model.specs.SystemLists.{gap_of, slot_of}
use Rattle.cpa_model.specs.Kinds.{is_later_kind}
use Rattle.cpa_model.specs.Rules.{IsSizedResource, IsSizedSource}
use Rattle.cpa_model.specs.Built.{built_kind, built_resource, built_on_clock, built_source, built_turn, most_frame, greatest_execution}
use Rattle.cpa_model.proofs.EntryLaws.{may-range, kind_frames-kept}

pub resources-most : (z : Size) → most_resources z ≤ 128
resources-most Small = omega arith
resources-most Large = omega arith

pub sources-most : (z : Size) → most_sources z ≤ 8192
sources-most Small = omega arith
sources-most Large = omega arith

pub tasks-most : (z : Size) → most_tasks z ≤ 8192
tasks-most Small = omega arith
tasks-most Large = omega arith

pub paths-most : (z : Size) → most_paths z ≤ 2048
paths-most Small = omega arith
paths-most Large = omega arith

pub execution-most : (z : Size) → most_execution z ≤ 10000000
execution-most Small = omega arith
execution-most Large = omega arith

execution-frame : (z : Size) → 160000 ≤ most_execution z
execution-frame Small = omega arith
execution-frame Large = omega arith

limit-default : (z : Size) → 1000000 ≤ most_limit z
limit-default Small = omega arith
limit-default Large = omega arith

-- a region of a tick is allowed to any size
pub region-tick : (z : Size) → 1 ≤ most_region z
region-tick Small = omega arith
region-tick Large = omega arith

-- a number within one range is within a wider one
wider : (least most more : ℕ) (o : Option ℤ) → most ≤ more → may_be_within least most o ≡ true → may_be_within least more o ≡ true
wider least most more None le h = refl
wider least most more (Some (pos n)) le h = let a = and_parts _ _ h in and_from _ _ a.0 (le-leb n more (le_trans (leb-true _ _ a.1) le))
wider least most more (Some (negsuc n)) le h = absurd (false≢true h)

pub larger-resource : (z : Size) (r : DraftResource) → resource_fits z r ≡ true → resource_fits Large r ≡ true
larger-resource Large r h = h
larger-resource Small r h =
    let queue = and_parts _ _ h in
    let rate = and_parts _ _ queue.0 in
    let a = and_parts _ _ rate.0 in
    let b = and_parts _ _ a.0 in
    and_from _ _
    (and_from _ _ (and_from _ _ (and_from _ _ (wider 1 10000000 100000000 r.limit (omega arith) b.0) (wider 0 1000000 10000000 r.gap (omega arith) b.1)) a.1) rate.1)
    refl

-- no sections fit any size
larger-locks : (locks : List DraftLock) → locks_fit Small locks ≡ true → locks_fit Large locks ≡ true
larger-locks [] h = refl
larger-locks (l ∷ locks) h = let none : length (l ∷ locks) ≤ 0 = leb-true _ _ h in absurd (omega arith)

pub larger-task : (z : Size) (t : DraftTask) → task_fits z t ≡ true → task_fits Large t ≡ true
larger-task Large t h = h
larger-task Small t h =
    let locks = and_parts _ _ h in
    let region = and_parts _ _ locks.0 in
    let slot = and_parts _ _ region.0 in
    let priority = and_parts _ _ slot.0 in
    let payload = and_parts _ _ priority.0 in
    let run = and_parts _ _ payload.0 in
    and_from _ _
    (and_from _ _
    (and_from _ _
    (and_from _ _
    (and_from _ _ (and_from _ _ (wider 1 1000000 10000000 t.best (omega arith) run.0) (wider 1 1000000 10000000 t.worst (omega arith) run.1)) (wider 0 8 1500 t.payload (omega arith) payload.1))
    priority.1)
    (wider 1 1000000 10000000 t.slot (omega arith) slot.1))
    (wider 1 1 10000000 t.region (omega arith) region.1))
    (larger-locks t.locks locks.1)

upper : (least most : ℕ) (o : Option ℤ) → may_be_within least most o ≡ true → nat_or 0 o ≤ most
upper least most None h = omega arith
upper least most (Some (pos n)) h = let a = and_parts _ _ h in leb-true _ _ a.1
upper least most (Some (negsuc n)) h = absurd (false≢true h)

gap-sized : (z : Size) (w : KindWord) (gap bit : Option ℤ) → may_be_within 0 (most_gap z) gap ≡ true → gap_of (built_kind w gap bit) ≤ most_gap z
gap-sized z word.Preemptive gap bit h = omega arith
gap-sized z word.RoundRobin gap bit h = omega arith
gap-sized z word.Tdma gap bit h = upper 0 (most_gap z) gap h
gap-sized z word.Can gap bit h = omega arith
gap-sized z word.Fifo gap bit h = omega arith
gap-sized z word.Ceiling gap bit h = omega arith

kind-sized : (z : Size) (w : KindWord) (gap bit : Option ℤ) → kind_fits z (is_later_word w) ≡ true → kind_fits z (is_later_kind (built_kind w gap bit)) ≡ true
kind-sized z word.Preemptive gap bit h = h
kind-sized z word.RoundRobin gap bit h = h
kind-sized z word.Tdma gap bit h = h
kind-sized z word.Can gap bit h = h
kind-sized z word.Fifo gap bit h = h
kind-sized z word.Ceiling gap bit h = h

pub resource-sized : (z : Size) (r : DraftResource) → resource_fits z r ≡ true → IsSizedResource z (built_resource r)
resource-sized z r h =
    let queue = and_parts _ _ h in
    let rate = and_parts _ _ queue.0 in
    let a = and_parts _ _ rate.0 in
    let b = and_parts _ _ a.0 in (
      (may-range 1 (most_limit z) 1000000 r.limit (omega arith, limit-default z) b.0).1,
      gap-sized z r.kind r.gap r.bit b.1,
      kind-sized z r.kind r.gap r.bit queue.1,
    )

built-clocked : (clock : Option (List ℕ)) (offset : Option ℤ) → is_some (built_on_clock clock offset) ≡ is_some clock
built-clocked None offset = refl
built-clocked (Some name) offset = refl

pub source-sized : (z : Size) (r : DraftSource) → source_fits z r ≡ true → IsSizedSource z (built_source r)
source-sized z r h =
    let f = and_parts _ _ h in
    let c = and_parts _ _ f.0 in
    let s = and_parts _ _ c.0 in
    (s.1, ap (clock_fits z) (built-clocked r.clock r.offset) ∙ c.1)

pub worst-sized : (z : Size) (k : Option KindWord) (payload worst : Option ℤ) (extended : Bool) (bit rate : ℕ) → nat_or 0 payload ≤ most_frame k → may_be_within 1 (most_execution z) worst ≡ true
    → (1 ≤ bit) × (bit ≤ 1000) → (1 ≤ rate) × (rate ≤ 672) → greatest_execution k payload extended bit rate (nat_or 0 worst) ≤ most_execution z
worst-sized z k None worst extended bit rate p w b r = upper 1 (most_execution z) worst w
worst-sized z k (Some s) worst extended bit rate p w b r = le_trans (kind_frames-kept k bit rate (nat_of s) extended p b r).small (execution-frame z)

pub slot-sized : (z : Size) (k : Option KindWord) (t : DraftTask) → may_be_within 1 (most_execution z) t.slot ≡ true → slot_of (built_turn k t) ≤ most_execution z
slot-sized z None t h = upper 1 (most_execution z) t.slot h
slot-sized z (Some word.Preemptive) t h = omega arith
slot-sized z (Some word.RoundRobin) t h = upper 1 (most_execution z) t.slot h
slot-sized z (Some word.Tdma) t h = upper 1 (most_execution z) t.slot h
slot-sized z (Some word.Can) t h = omega arith
slot-sized z (Some word.Fifo) t h = omega arith
slot-sized z (Some word.Ceiling) t h = omega arith

pub region-sized : (z : Size) (region : Option ℤ) → may_be_within 1 (most_region z) region ≡ true → nat_or 1 region ≤ most_region z
region-sized z region h = (may-range 1 (most_region z) 1 region (omega arith, region-tick z) h).1
