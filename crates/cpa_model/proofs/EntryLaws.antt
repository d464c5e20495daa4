-- The rules of an entry, from what a draft has to which no reason applies.
use Rattle.std.proofs.Common.{◌≡◌, ℕ, ℤ, pos, negsuc, ◌+◌, ◌-◌, ◌*◌, ◌/◌, max, ◌<◌, ◌≤◌, Bool, true, false, not, ◌&&◌, ◌||◌, nat_lt, List, length, Option, Some, None, is_some, is_none, unwrap_or, refl, arith, inl, inr, lit≤, ap}
use Rattle.std.specs.Option.{ForSome}
use Rattle.std.proofs.lemmas.Option.{none-some, same_Some}
use Rattle.std.specs.Int.{div_ceil}
use Rattle.std.proofs.Math.Nat.{mul-le-mul_right, le_trans}
use Rattle.std.proofs.lemmas.Nat.{le-div}
use Rattle.std.proofs.lemmas.Bool.{and_parts, or_parts, false≢true, true≢false, leb-true, ltb-false, cases_Bool}
use Rattle.cpa_units.specs.declared.limits.Size.{Size}
use Rattle.cpa_units.specs.declared.limits.Size.TheVariants.{Large}
use Rattle.cpa_units.specs.Frames.{least_frame_bits, greatest_frame_bits}
use Rattle.cpa_units.proofs.NumberLaws.{div_ceil-le_self}
use Rattle.cpa_draft.specs.Ports.{port_frame_bits, least_port_ticks, greatest_port_ticks}
use Rattle.cpa_draft.specs.Numbers.{nat_of, nat_or, is_within, may_be_within}
use Rattle.cpa_draft.specs.Names.{place_of, link_at, is_nothing, is_task}
use Rattle.cpa_draft.specs.Refusals.{resource_fits, source_fits, offset_fits, has_regions, turn_misfits, payload_misfits}
use Rattle.cpa_draft.specs.declared.draft.DraftResource.{DraftResource}
use Rattle.cpa_draft.specs.declared.draft.DraftSource.{DraftSource}
use Rattle.cpa_draft.specs.declared.draft.DraftTask.{DraftTask}
use Rattle.cpa_draft.specs.declared.draft.KindWord.{KindWord}
use Rattle.cpa_draft.specs.declared.draft.KindWord.TheVariants as word
use Rattle.cpa_draft.specs.declared.links.Link.TheVariants as link
use Rattle.cpa_draft.proofs.ListLaws.{not-false}
use Rattle.cpa_draft.proofs.NameLaws.{place_below}
use Rattle.cpa_model.specs.declared.entries.OnClock.{OnClock}
use Rattle.cpa_model.specs.Rules.{IsResource, IsSource, KindFits, TurnFits, RegionFits}
use Rattle.cpa_model.specs.Built.{built_kind, built_resource, built_on_clock, built_source, built_turn, least_frame, greatest_frame, most_frame, least_execution, greatest_execution}

-- numbers in their ranges

pub may-range : (least most default : ℕ) (o : Option ℤ) → (least ≤ default) × (default ≤ most) → may_be_within least most o ≡ true → (least ≤ nat_or default o) × (nat_or default o ≤ most)
may-range least most default None d h = d
may-range least most default (Some (pos n)) d h = let a = and_parts _ _ h in (leb-true _ _ a.0, leb-true _ _ a.1)
may-range least most default (Some (negsuc n)) d h = absurd (false≢true h)

pub there-range : (least most : ℕ) (o : Option ℤ) → is_none o ≡ false → may_be_within least most o ≡ true → (least ≤ nat_or 0 o) × (nat_or 0 o ≤ most)
there-range least most None some h = absurd (true≢false some)
there-range least most (Some (pos n)) some h = let a = and_parts _ _ h in (leb-true _ _ a.0, leb-true _ _ a.1)
there-range least most (Some (negsuc n)) some h = absurd (false≢true h)

pub range : (least most : ℕ) (z : ℤ) → is_within least most z ≡ true → (least ≤ nat_of z) × (nat_of z ≤ most)
range least most (pos n) h = let a = and_parts _ _ h in (leb-true _ _ a.0, leb-true _ _ a.1)
range least most (negsuc n) h = absurd (false≢true h)

-- resources and sources

kind-kept : (w : KindWord) (gap bit : Option ℤ) → may_be_within 0 10000000 gap ≡ true → may_be_within 1 1000 bit ≡ true → KindFits (built_kind w gap bit)
kind-kept word.Preemptive gap bit g b = tt
kind-kept word.RoundRobin gap bit g b = tt
kind-kept word.Tdma gap bit g b = (may-range 0 10000000 0 gap (lit≤ tt, lit≤ tt) g).1
kind-kept word.Can gap bit g b = may-range 1 1000 1 bit (lit≤ tt, lit≤ tt) b
kind-kept word.Fifo gap bit g b = tt
kind-kept word.Ceiling gap bit g b = tt

pub resource-kept : (r : DraftResource) → resource_fits Large r ≡ true → IsResource (built_resource r)
resource-kept r h =
    let queue = and_parts _ _ h in
    let rate = and_parts _ _ queue.0 in
    let a = and_parts _ _ rate.0 in
    let b = and_parts _ _ a.0 in
    let limit = may-range 1 100000000 1000000 r.limit (lit≤ tt, lit≤ tt) b.0 in
    record { some_limit = limit.0; limit = limit.1; kind_fits = kind-kept r.kind r.gap r.bit b.1 a.1 }

-- an offset is below the period
offset-kept : (clock : Option (List ℕ)) (period : ℤ) (offset : Option ℤ) → 1 ≤ nat_of period → offset_fits (is_some clock) period offset ≡ true → ForSome (built_on_clock clock offset) (λ o. o.offset < nat_of period)
offset-kept None period offset some h = λ o e. absurd (none-some o e)
offset-kept (Some name) period offset some h =
    λ o e.
    let least : nat_or 0 offset ≤ nat_of period - 1 = (may-range 0 (nat_of period - 1) 0 offset (omega arith, omega arith) h).1 in
    let same : nat_or 0 offset ≡ o.offset = ap (λ (on : OnClock). on.offset) (same_Some _ o e) in
    omega arith

pub source-kept : (z : Size) (r : DraftSource) → source_fits z r ≡ true → IsSource (built_source r)
source-kept z r h =
    let f = and_parts _ _ h in
    let c = and_parts _ _ f.0 in
    let s = and_parts _ _ c.0 in
    let a = and_parts _ _ s.0 in
    let b = and_parts _ _ a.0 in
    let period = range 1 1000000000 r.period b.0 in
    let jitter = may-range 0 1000000000 0 r.jitter (lit≤ tt, lit≤ tt) b.1 in
    let distance = may-range 0 (nat_of r.period) 0 r.distance (omega arith, omega arith) a.1 in
    record { some_period = period.0; period = period.1; jitter = jitter.1; distance = distance.1; offset = offset-kept r.clock r.period r.offset period.0 f.1 }

-- names that name something

pub place-kept : (names : List (List ℕ)) (name : List ℕ) → is_none (place_of names name) ≡ false → unwrap_or (place_of names name) 0 < length names
place-kept names name h = by (place_of names name) refl h
  where
    by : (o : Option ℕ) → place_of names name ≡ o → is_none o ≡ false → unwrap_or o 0 < length names
    by None e some = absurd (true≢false some)
    by (Some k) e some = place_below names name k e

pub nothing-none : (sources : ℕ) (o : Option ℕ) → is_nothing (link_at sources o) ≡ false → is_none o ≡ false
nothing-none sources None h = absurd (true≢false h)
nothing-none sources (Some k) h = refl

pub link-kept : (sources : ℕ) (names : List (List ℕ)) (name : List ℕ) → is_nothing (link_at sources (place_of names name)) ≡ false → unwrap_or (place_of names name) 0 < length names
link-kept sources names name h = place-kept names name (nothing-none sources (place_of names name) h)

-- a name that names a task
pub record IsTaskPlace (sources k : ℕ) (o : Option ℕ) : Type 0 where
  pub past : sources ≤ k
  pub link : link_at sources o ≡ link.Task (k - sources)
  pub there : is_none o ≡ false

task-place : (sources : ℕ) (o : Option ℕ) → is_task (link_at sources o) ≡ true → IsTaskPlace sources (unwrap_or o 0) o
task-place sources None h = absurd (false≢true h)
task-place sources (Some k) h = elim (cases_Bool (nat_lt k sources)) [
  | inl less ↦ absurd (false≢true (rw less at h))
  | inr past ↦ record { past = ltb-false _ _ past; link = rw past refl; there = refl }
]

pub task-kept : (sources : ℕ) (names : List (List ℕ)) (name : List ℕ) → is_task (link_at sources (place_of names name)) ≡ true → IsTaskPlace sources (unwrap_or (place_of names name) 0) (place_of names name)
task-kept sources names name h = task-place sources (place_of names name) h

-- turns

pub turn-kept : (w : KindWord) (gap bit : Option ℤ) (t : DraftTask) → turn_misfits (Some w) t ≡ false
    → may_be_within 0 536870911 t.priority ≡ true → may_be_within 1 10000000 t.slot ≡ true → TurnFits (built_kind w gap bit) (built_turn (Some w) t)
turn-kept word.Preemptive gap bit t h p s = (may-range 0 536870911 0 t.priority (lit≤ tt, lit≤ tt) p).1
turn-kept word.Can gap bit t h p s = (may-range 0 536870911 0 t.priority (lit≤ tt, lit≤ tt) p).1
turn-kept word.RoundRobin gap bit t h p s = there-range 1 10000000 t.slot (or_parts _ _ h).1 s
turn-kept word.Tdma gap bit t h p s = there-range 1 10000000 t.slot (or_parts _ _ h).1 s
turn-kept word.Ceiling gap bit t h p s = (may-range 0 536870911 0 t.priority (lit≤ tt, lit≤ tt) p).1
turn-kept word.Fifo gap bit t h p s = tt

-- regions

pub region-kept : (w : KindWord) (gap bit region : Option ℤ) → (is_some region && not (has_regions w)) ≡ false → may_be_within 1 10000000 region ≡ true → RegionFits (built_kind w gap bit) (nat_or 1 region)
region-kept word.Preemptive gap bit region h r = may-range 1 10000000 1 region (lit≤ tt, lit≤ tt) r
region-kept word.Ceiling gap bit region h r = may-range 1 10000000 1 region (lit≤ tt, lit≤ tt) r
region-kept word.RoundRobin gap bit None h r = refl
region-kept word.RoundRobin gap bit (Some z) h r = absurd (true≢false h)
region-kept word.Tdma gap bit None h r = refl
region-kept word.Tdma gap bit (Some z) h r = absurd (true≢false h)
region-kept word.Fifo gap bit None h r = refl
region-kept word.Fifo gap bit (Some z) h r = absurd (true≢false h)
region-kept word.Can gap bit None h r = refl
region-kept word.Can gap bit (Some z) h r = absurd (true≢false h)

-- executions

pub record AreExecutions (best worst most : ℕ) : Type 0 where
  pub some : 1 ≤ best
  pub ordered : best ≤ worst
  pub small : worst ≤ most

least-greatest : (s : ℕ) (extended : Bool) → least_frame_bits s extended ≤ greatest_frame_bits s extended
least-greatest s true = omega arith
least-greatest s false = omega arith

greatest-most : (s : ℕ) (extended : Bool) → s ≤ 8 → greatest_frame_bits s extended ≤ 160
greatest-most s true h = omega arith
greatest-most s false h = omega arith

least-some : (s : ℕ) (extended : Bool) → 1 ≤ least_frame_bits s extended
least-some s true = omega arith
least-some s false = omega arith

frames-kept : (s bit : ℕ) (extended : Bool) → s ≤ 8 → (1 ≤ bit) × (bit ≤ 1000) → AreExecutions (least_frame_bits s extended * bit) (greatest_frame_bits s extended * bit) 160000
frames-kept s bit extended h b =
    let least : 1 * bit ≤ least_frame_bits s extended * bit = mul-le-mul_right bit (least-some s extended) in
    let ordered : least_frame_bits s extended * bit ≤ greatest_frame_bits s extended * bit = mul-le-mul_right bit (least-greatest s extended) in
    let most : greatest_frame_bits s extended * bit ≤ 160 * bit = mul-le-mul_right bit (greatest-most s extended h) in
    record { some = omega arith; ordered = ordered; small = omega arith }

-- a frame on a port takes from a tick to its bits
ports-kept : (s rate : ℕ) → s ≤ 1500 → (1 ≤ rate) × (rate ≤ 672) → AreExecutions (least_port_ticks s rate) (greatest_port_ticks s rate) 160000
ports-kept s rate h r =
    let bits : 672 ≤ port_frame_bits s = omega arith in
    let most : port_frame_bits s ≤ 12304 = omega arith in
    let few : div_ceil (port_frame_bits s) rate ≤ port_frame_bits s = div_ceil-le_self (port_frame_bits s) rate r.0 in
    record { some = le-div 1 (port_frame_bits s) rate r.0 (omega arith); ordered = omega arith; small = le_trans few (omega arith) }

-- the frames of a kind
pub kind_frames-kept : (k : Option KindWord) (bit rate s : ℕ) (extended : Bool) → s ≤ most_frame k → (1 ≤ bit) × (bit ≤ 1000) → (1 ≤ rate) × (rate ≤ 672)
    → AreExecutions (least_frame k bit rate s extended) (greatest_frame k bit rate s extended) 160000
kind_frames-kept None bit rate s extended h b r = frames-kept s bit extended h b
kind_frames-kept (Some word.Preemptive) bit rate s extended h b r = frames-kept s bit extended h b
kind_frames-kept (Some word.RoundRobin) bit rate s extended h b r = frames-kept s bit extended h b
kind_frames-kept (Some word.Tdma) bit rate s extended h b r = frames-kept s bit extended h b
kind_frames-kept (Some word.Can) bit rate s extended h b r = frames-kept s bit extended h b
kind_frames-kept (Some word.Fifo) bit rate s extended h b r = ports-kept s rate h r
kind_frames-kept (Some word.Ceiling) bit rate s extended h b r = frames-kept s bit extended h b

none-zero : (payload : Option ℤ) → is_some payload ≡ false → nat_or 0 payload ≤ 8
none-zero None h = omega arith
none-zero (Some z) h = absurd (true≢false h)

-- a payload for which the frame of the kind has room
pub payload-kept : (k : Option KindWord) (payload : Option ℤ) → payload_misfits (unwrap_or k word.Preemptive) payload ≡ false → may_be_within 0 1500 payload ≡ true → nat_or 0 payload ≤ most_frame k
payload-kept None payload h p = none-zero payload h
payload-kept (Some word.Preemptive) payload h p = none-zero payload h
payload-kept (Some word.RoundRobin) payload h p = none-zero payload h
payload-kept (Some word.Tdma) payload h p = none-zero payload h
payload-kept (Some word.Ceiling) payload h p = none-zero payload h
payload-kept (Some word.Can) payload h p = (may-range 0 8 0 payload (lit≤ tt, lit≤ tt) (not-false _ h)).1
payload-kept (Some word.Fifo) payload h p = (may-range 0 1500 0 payload (lit≤ tt, lit≤ tt) p).1

pub executions-kept : (k : Option KindWord) (best worst payload : Option ℤ) (extended : Option Bool) (bit rate : ℕ)
    → ((is_some best && is_some worst && is_none payload && is_none extended) || (is_some payload && is_none best && is_none worst)) ≡ true
    → may_be_within 1 10000000 best ≡ true → may_be_within 1 10000000 worst ≡ true → nat_or 0 payload ≤ most_frame k
    → ((is_some best && is_some worst) && nat_lt (nat_or 0 worst) (nat_or 0 best)) ≡ false → (1 ≤ bit) × (bit ≤ 1000) → (1 ≤ rate) × (rate ≤ 672)
    → AreExecutions (least_execution k payload (unwrap_or extended false) bit rate (nat_or 0 best)) (greatest_execution k payload (unwrap_or extended false) bit rate (nat_or 0 worst)) 10000000
executions-kept k None worst None extended bit rate h b w p c i r = absurd (false≢true h)
executions-kept k (Some x) None None extended bit rate h b w p c i r = absurd (false≢true h)
executions-kept k (Some x) (Some y) None extended bit rate h b w p c i r =
    let best = range 1 10000000 x b in
    let worst = range 1 10000000 y w in
    record { some = best.0; ordered = ltb-false _ _ c; small = worst.1 }
executions-kept k best worst (Some s) extended bit rate h b w p c i r =
    let frame = kind_frames-kept k bit rate (nat_of s) (unwrap_or extended false) p i r in
    record { some = frame.some; ordered = frame.ordered; small = le_trans frame.small (lit≤ tt) }
