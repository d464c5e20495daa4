-- The numbers of the redraft of a system are in their ranges, and they fit the kinds.
use Rattle.std.proofs.Common.{◌≡◌, ℕ, pos, ◌-◌, ◌<◌, ◌≤◌, true, false, not, ◌&&◌, Option, Some, None, is_some, option_map, refl, inl, inr, arith}
use Rattle.std.specs.Option.{ForSome}
use Rattle.std.proofs.lemmas.Bool.{and_from, or_from, cases_eq, eq-eqb, ne_eqb, le-leb, le-ltb}
use Rattle.std.proofs.Math.Bool.{and-false}
use Rattle.cpa_draft.specs.Numbers.{is_within, may_be_within}
use Rattle.cpa_draft.specs.Refusals.{resource_fits, is_later_kind as is_later_word, kind_fits, source_fits, clock_fits, offset_fits, task_fits, path_fits, has_regions, turn_misfits, payload_misfits, task_misfits, resource_misfits, is_crossed}
use Rattle.cpa_draft.specs.declared.draft.KindWord.{KindWord}
use Rattle.cpa_draft.specs.declared.draft.KindWord.TheVariants as word
use Rattle.cpa_model.specs.declared.entries.Resource.{Resource}
use Rattle.cpa_model.specs.declared.entries.Source.{Source}
use Rattle.cpa_model.specs.declared.entries.OnClock.{OnClock}
use Rattle.cpa_model.specs.Clocks.{clock_name, offset_on}
use Rattle.cpa_model.specs.declared.entries.Task.{Task}
use Rattle.cpa_model.specs.declared.entries.Path.{Path}
use Rattle.cpa_model.specs.declared.entries.Kind.{Kind}
use Rattle.cpa_model.specs.declared.entries.Kind.TheVariants as kind
use Rattle.cpa_model.specs.declared.entries.Turn.{Turn}
use Rattle.cpa_model.specs.declared.entries.Turn.TheVariants as turn
use Rattle.std.proofs.Math.Nat.{le_trans}
use Rattle.cpa_units.specs.declared.limits.Size.{Size}
use Rattle.cpa_units.specs.Sizes.{most_execution, most_region, most_gap, most_limit}
use Rattle.cpa_model.specs.SystemLists.{SystemLists, resource_at, gap_of, slot_of}
use Rattle.cpa_model.specs.Kinds.{is_later_kind}
use Rattle.cpa_model.specs.Rules.{IsSizedResource, IsSizedSource, IsSizedTask, IsResource, IsSource, IsTask, IsPath, KindFits, TurnFits, RegionFits}
use Rattle.cpa_model.proofs.SystemLaws.{region-range}
use Rattle.cpa_model.proofs.RedraftLocks.{locks-within, locks-suit}
use Rattle.cpa_model.specs.Redraft.{word_of, gap_at, bit_at, priority_at, slot_at, region_at, offset_at, redraft_resource, redraft_source, redraft_task, redraft_path}

-- a number in its range
number-within : (least most n : ℕ) → least ≤ n → n ≤ most → is_within least most (pos n) ≡ true
number-within least most n some few = and_from _ _ (le-leb least n some) (le-leb n most few)

-- the gap of a kind
gap-within : (z : Size) (k : Kind) → gap_of k ≤ most_gap z → may_be_within 0 (most_gap z) (gap_at k) ≡ true
gap-within z kind.Preemptive fits = refl
gap-within z kind.RoundRobin fits = refl
gap-within z (kind.Tdma gap) fits = number-within 0 (most_gap z) gap (omega arith) fits
gap-within z (kind.Can bit) fits = refl
gap-within z kind.Fifo fits = refl
gap-within z kind.Ceiling fits = refl

-- the bit time of a kind
bit-within : (k : Kind) → KindFits k → may_be_within 1 1000 (bit_at k) ≡ true
bit-within kind.Preemptive fits = refl
bit-within kind.RoundRobin fits = refl
bit-within (kind.Tdma gap) fits = refl
bit-within (kind.Can bit) fits = number-within 1 1000 bit fits.0 fits.1
bit-within kind.Fifo fits = refl
bit-within kind.Ceiling fits = refl

-- the word of a kind of large systems alone is one
kind-within : (z : Size) (k : Kind) → kind_fits z (is_later_kind k) ≡ true → kind_fits z (is_later_word (word_of k)) ≡ true
kind-within z kind.Preemptive fits = fits
kind-within z kind.RoundRobin fits = fits
kind-within z (kind.Tdma gap) fits = fits
kind-within z (kind.Can bit) fits = fits
kind-within z kind.Fifo fits = fits
kind-within z kind.Ceiling fits = fits

-- the numbers of a resource
pub resource-fits : (z : Size) (r : Resource) → IsResource r → IsSizedResource z r → resource_fits z (redraft_resource r) ≡ true
resource-fits z r fits small =
    and_from _ _
    (and_from _ _
    (and_from _ _
    (and_from _ _ (number-within 1 (most_limit z) r.limit fits.some_limit small.0) (gap-within z r.kind small.1))
    (bit-within r.kind fits.kind_fits))
    refl)
    (kind-within z r.kind small.2)

-- the offset that a source has
offset-written : (most ticks : ℕ) → ticks ≤ most → may_be_within 0 most (offset_at ticks) ≡ true
offset-written most ticks few = elim (cases_eq ticks 0) [
  | inl is ↦ rw (eq-eqb ticks 0 is) refl
  | inr isn't ↦ rw (ne_eqb ticks 0 isn't) (number-within 0 most ticks (omega arith) few)
]

offset-within : (on : Option OnClock) (period : ℕ) → ForSome on (λ o. o.offset < period) → offset_fits (is_some (clock_name on)) (pos period) (offset_at (offset_on on)) ≡ true
offset-within None period less = refl
offset-within (Some o) period less = let below : o.offset < period = less o refl in offset-written (period - 1) o.offset (omega arith)

clocked-within : (z : Size) (on : Option OnClock) → clock_fits z (is_some on) ≡ true → clock_fits z (is_some (clock_name on)) ≡ true
clocked-within z None fits = fits
clocked-within z (Some o) fits = fits

-- the numbers of a source
pub source-fits : (z : Size) (r : Source) → IsSource r → IsSizedSource z r → source_fits z (redraft_source r) ≡ true
source-fits z r fits sized =
    and_from _ _
    (and_from _ _
    (and_from _ _
    (and_from _ _
    (and_from _ _ (number-within 1 1000000000 r.period fits.some_period fits.period) (number-within 0 1000000000 r.jitter (omega arith) fits.jitter))
    (number-within 0 r.period r.distance (omega arith) fits.distance))
    sized.0)
    (clocked-within z r.on_clock sized.1))
    (offset-within r.on_clock r.period fits.offset)

-- the priority that a turn may have
priority-within : (k : Kind) (u : Turn) → TurnFits k u → may_be_within 0 536870911 (priority_at u) ≡ true
priority-within kind.Preemptive (turn.Priority number) fits = number-within 0 536870911 number (omega arith) fits
priority-within kind.RoundRobin (turn.Priority number) fits = absurd fits
priority-within (kind.Tdma gap) (turn.Priority number) fits = absurd fits
priority-within (kind.Can bit) (turn.Priority number) fits = number-within 0 536870911 number (omega arith) fits
priority-within kind.Fifo (turn.Priority number) fits = absurd fits
priority-within kind.Ceiling (turn.Priority number) fits = number-within 0 536870911 number (omega arith) fits
priority-within k (turn.Slot ticks) fits = refl
priority-within k turn.Queued fits = refl

-- the slot that a turn may have
slot-within : (z : Size) (k : Kind) (u : Turn) → TurnFits k u → slot_of u ≤ most_execution z → may_be_within 1 (most_execution z) (slot_at u) ≡ true
slot-within z k (turn.Priority number) fits small = refl
slot-within z kind.Preemptive (turn.Slot ticks) fits small = absurd fits
slot-within z kind.RoundRobin (turn.Slot ticks) fits small = number-within 1 (most_execution z) ticks fits.0 small
slot-within z (kind.Tdma gap) (turn.Slot ticks) fits small = number-within 1 (most_execution z) ticks fits.0 small
slot-within z (kind.Can bit) (turn.Slot ticks) fits small = absurd fits
slot-within z kind.Fifo (turn.Slot ticks) fits small = absurd fits
slot-within z kind.Ceiling (turn.Slot ticks) fits small = absurd fits
slot-within z k turn.Queued fits small = refl

-- the region that is written
region-within : (z : Size) (ticks : ℕ) → 1 ≤ ticks → ticks ≤ most_region z → may_be_within 1 (most_region z) (region_at ticks) ≡ true
region-within z ticks some most = elim (cases_eq ticks 1) [
  | inl is ↦ rw (eq-eqb ticks 1 is) refl
  | inr isn't ↦ rw (ne_eqb ticks 1 isn't) (number-within 1 (most_region z) ticks some most)
]

-- the numbers of a task
pub task-fits : (z : Size) (s : SystemLists) (t : Task) → IsTask s t → IsSizedTask z t → kind_fits z (is_later_kind (resource_at s t.res.0).kind) ≡ true → task_fits z (redraft_task s t) ≡ true
task-fits z s t fits small later =
    let k = (resource_at s t.res.0).kind in
    let best : is_within 1 (most_execution z) (pos t.best) ≡ true = number-within 1 (most_execution z) t.best fits.some_best (le_trans fits.ordered small.worst) in
    let worst : is_within 1 (most_execution z) (pos t.worst) ≡ true = number-within 1 (most_execution z) t.worst (omega (arith, fits.some_best, fits.ordered)) small.worst in
    let range = region-range k t.region fits.region_fits in
    and_from _ _
    (and_from _ _
    (and_from _ _
    (and_from _ _ (and_from _ _ (and_from _ _ best worst) refl) (priority-within k t.turn fits.turn_fits))
    (slot-within z k t.turn fits.turn_fits small.slot))
    (region-within z t.region range.0 small.region))
    (locks-within z k t.region t.locks fits.locks_fit later)

-- a deadline
deadline-within : (o : Option ℕ) → ForSome o (λ d. (1 ≤ d) × (d ≤ 1000000000)) → may_be_within 1 1000000000 (option_map pos o) ≡ true
deadline-within None each = refl
deadline-within (Some d) each = let fits = each d refl in number-within 1 1000000000 d fits.0 fits.1

-- the numbers of a path
pub path-fits : (z : Size) (s : SystemLists) (p : Path) → IsPath s p → path_fits z (redraft_path s p) ≡ true
path-fits z s p path = deadline-within p.deadline path.deadline

-- a kind has the number that it wants alone
kind-suits : (r : Resource) (k : Kind) → r.kind ≡ k → resource_misfits (redraft_resource r) ≡ false
kind-suits r kind.Preemptive is = rw is refl
kind-suits r kind.RoundRobin is = rw is refl
kind-suits r (kind.Tdma gap) is = rw is refl
kind-suits r (kind.Can bit) is = rw is refl
kind-suits r kind.Fifo is = rw is refl
kind-suits r kind.Ceiling is = rw is refl

-- so a resource has what its kind wants
pub resource-suits : (r : Resource) → resource_misfits (redraft_resource r) ≡ false
resource-suits r = kind-suits r r.kind refl

-- a task has the turn that the kind of its resource wants
turn-suits : (s : SystemLists) (t : Task) (k : Kind) (u : Turn) → t.turn ≡ u → TurnFits k u → turn_misfits (Some (word_of k)) (redraft_task s t) ≡ false
turn-suits s t kind.Preemptive (turn.Priority number) is fits = rw is refl
turn-suits s t kind.Preemptive (turn.Slot ticks) is fits = absurd fits
turn-suits s t kind.RoundRobin (turn.Priority number) is fits = absurd fits
turn-suits s t kind.RoundRobin (turn.Slot ticks) is fits = rw is refl
turn-suits s t (kind.Tdma gap) (turn.Priority number) is fits = absurd fits
turn-suits s t (kind.Tdma gap) (turn.Slot ticks) is fits = rw is refl
turn-suits s t (kind.Can bit) (turn.Priority number) is fits = rw is refl
turn-suits s t (kind.Can bit) (turn.Slot ticks) is fits = absurd fits
turn-suits s t kind.Preemptive turn.Queued is fits = absurd fits
turn-suits s t kind.RoundRobin turn.Queued is fits = absurd fits
turn-suits s t (kind.Tdma gap) turn.Queued is fits = absurd fits
turn-suits s t (kind.Can bit) turn.Queued is fits = absurd fits
turn-suits s t kind.Fifo (turn.Priority number) is fits = absurd fits
turn-suits s t kind.Fifo (turn.Slot ticks) is fits = absurd fits
turn-suits s t kind.Fifo turn.Queued is fits = rw is refl
turn-suits s t kind.Ceiling (turn.Priority number) is fits = rw is refl
turn-suits s t kind.Ceiling (turn.Slot ticks) is fits = absurd fits
turn-suits s t kind.Ceiling turn.Queued is fits = absurd fits

-- a region is written where a job may be preempted
region-suits : (k : Kind) (ticks : ℕ) → RegionFits k ticks → (is_some (region_at ticks) && not (has_regions (word_of k))) ≡ false
region-suits kind.Preemptive ticks fits = and-false (is_some (region_at ticks))
region-suits kind.Ceiling ticks fits = and-false (is_some (region_at ticks))
region-suits kind.RoundRobin ticks fits = rw fits refl
region-suits (kind.Tdma gap) ticks fits = rw fits refl
region-suits (kind.Can bit) ticks fits = rw fits refl
region-suits kind.Fifo ticks fits = rw fits refl

-- where there is no payload, none misfits
no-payload : (w : KindWord) → payload_misfits w None ≡ false
no-payload word.Preemptive = refl
no-payload word.RoundRobin = refl
no-payload word.Tdma = refl
no-payload word.Can = refl
no-payload word.Fifo = refl
no-payload word.Ceiling = refl

-- so a task has what the kind of its resource wants, and no payload
pub task-suits : (s : SystemLists) (t : Task) → IsTask s t → task_misfits (Some (word_of (resource_at s t.res.0).kind)) (redraft_task s t) ≡ false
task-suits s t fits =
    let k = (resource_at s t.res.0).kind in
    or_from _ _
    (or_from _ _
    (or_from _ _ (or_from _ _ (turn-suits s t k t.turn refl fits.turn_fits) (no-payload (word_of k))) refl)
    (region-suits k t.region fits.region_fits))
    (locks-suit k t.region t.locks fits.locks_fit)

-- the least execution isn't above the greatest
pub task-ordered : (s : SystemLists) (t : Task) → IsTask s t → is_crossed (redraft_task s t) ≡ false
task-ordered s t fits = le-ltb t.worst t.best fits.ordered
