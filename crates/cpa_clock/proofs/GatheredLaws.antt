-- What the bounds over gathered rivals are.
use Rattle.std.proofs.Common.{◌≡◌, ℕ, zero, suc, ◌+◌, ◌*◌, ◌<◌, ◌≤◌, ◌==◌, List, [], ◌∷◌, ◌++◌, Option, Some, None, length, All, refl, sym, ◌∙◌, inl, inr, arith}
use Rattle.std.specs.Prelude.{slice_index_or}
use Rattle.std.proofs.Math.Path.{fun_ext}
use Rattle.std.proofs.lemmas.Bool.{cases_Bool}
use Rattle.std.proofs.lemmas.List.{append-nil, length-append}
use Rattle.std.proofs.lemmas.List.Elements.{All-append}
use Rattle.std.proofs.lemmas.Slice.Zip.{AllZip-long}
use Rattle.cpa_units.specs.declared.limits.TheConstants.{MAX_EXECUTION, MAX_TASKS}
use Rattle.cpa_units.specs.Numbers.{IsExecution}
use Rattle.cpa_events.specs.declared.stream.Stream.{Stream}
use Rattle.cpa_events.specs.Streams.{IsStreamInRange}
use Rattle.cpa_events.specs.Events.{Model}
use Rattle.cpa_window.specs.Rivals.{IsRival, AreRivals}
use Rattle.cpa_phase.specs.declared.placed.Placed.{Placed}
use Rattle.cpa_phase.specs.Streams.{IsPlacedOn, ArePlaced}
use Rattle.cpa_phase.specs.Clocks.{AreClocks}
use Rattle.cpa_offset.specs.Offsets.{elsewhere, offset_bound, apart_bound}
use Rattle.cpa_offset_can.specs.CanOffsets.{can_offset_bound, can_apart_bound}
use Rattle.cpa_clock.specs.declared.anchor.Anchor.{Anchor}
use Rattle.cpa_clock.specs.declared.gathered.Gathered.{Gathered}
use Rattle.cpa_clock.specs.Anchors.{Anchors, placed_at}
use Rattle.cpa_clock.specs.Rivals.{ClockedRival, free_rival, streams_on, rest_of}
use Rattle.cpa_clock.specs.Clocked.{only_anchor, preemptive_at, can_at, clocked_preemptive_bound, clocked_can_bound}
use Rattle.cpa_clock.specs.Gathered.{AreCycles, AreLists, IsInputOn, IsAnchored, IsAnchoredAt, IsGathered, AreGathered, HasStreams, added_rival, anchors_at, as_one, clocks_in, cycles_at, free_streams, joint_among, model_of, own_clock, unless_own}
use Rattle.cpa_clock.proofs.AddedLaws.{zip-at, streams_on-append, with_streams, streams-in_range}
use Rattle.cpa_clock.proofs.FreeLaws.{as_one-few, as_one-in_range, free-added, free-in_range, free-unbounded, free_streams-each, free_streams-few, model_of-in_range}
use Rattle.cpa_clock.proofs.OtherClocks.{clocks-in_range, unless_own-on, other-clocks}

-- ---- at first nothing is gathered

pub nothing_gathered : (own : Option ℕ) (cycles : List ℕ) (g : Gathered) → g.own ≡ own → g.added ≡ 0 → g.joint.items ≡ [] → AreLists cycles (λ c. []) g.others → g.free.items ≡ [] → IsGathered own cycles [] g
nothing_gathered own cycles g clock count joint others free = record {
  count = count;
  few = omega arith;
  streams = record { clock = clock; joint = joint ∙ sym (none own); others = rw (fun_ext (no_others own)) others };
  in_range = record { few = λ c. omega arith; each = λ c k d less. absurd (omega arith) };
  free = λ w. rw free refl;
  free_in_range = rw free (λ k d less. absurd (omega arith));
  free_few = rw free (omega arith);
}
  where
    none : (own : Option ℕ) → joint_among own (λ c. streams_on c []) ≡ []
    none None = refl
    none (Some k) = refl

    no_others : (own : Option ℕ) (c : ℕ) → unless_own own (λ c. streams_on c []) c ≡ []
    no_others None c = refl
    no_others (Some k) c =
        elim (cases_Bool (k == c)) [ inl here ↦ rw here refl | inr other ↦ rw other refl ]

-- ---- a rival more

pub added-bounded : (own : Option ℕ) (cycles : List ℕ) (rivals : List ClockedRival) (anchors : List (Option Anchor)) (model : Model) (worst : ℕ) (g new : Gathered)
    → IsInputOn cycles anchors (Some model) → worst ≤ MAX_EXECUTION → g.added + 1 < MAX_TASKS → new.added ≡ g.added + 1 → HasStreams own cycles (with_streams rivals anchors worst model) new
    → new.free.items ≡ g.free.items ++ as_one worst (model_of (free_streams (anchors_at anchors) 0 model)) → IsGathered own cycles rivals g
    → IsGathered own cycles (rivals ++ added_rival (Some model) anchors worst ∷ []) new
added-bounded own cycles rivals anchors model worst g new on small room count streams free h =
    let all = on model refl in
    let more : length (rivals ++ added_rival (Some model) anchors worst ∷ []) ≡ length rivals + 1 = length-append rivals (added_rival (Some model) anchors worst ∷ []) in
    let lists = streams-in_range rivals anchors worst cycles (32 * length rivals) model all small h.in_range in
    let streams_few = free_streams-few (anchors_at anchors) 0 model in
    let streams_each = free_streams-each IsStreamInRange (anchors_at anchors) 0 model all.0.each in
    let rival = as_one-in_range worst (model_of (free_streams (anchors_at anchors) 0 model)) small (model_of-in_range (free_streams (anchors_at anchors) 0 model) (omega (arith, streams_few, all.0.few)) streams_each) in
    record {
      count = omega (arith, count, more, h.count);
      few = omega (arith, more, room, h.count);
      streams = streams;
      in_range = record { few = λ c. omega (arith, lists.few c, more, all.0.few); each = lists.each };
      free = λ w. rw free (free-added worst (anchors_at anchors) model rivals g.free.items w (h.free w));
      free_in_range = rw free (All-append IsRival g.free.items (as_one worst (model_of (free_streams (anchors_at anchors) 0 model))) h.free_in_range rival);
      free_few = rw free (omega (arith, more, h.free_few, length-append g.free.items (as_one worst (model_of (free_streams (anchors_at anchors) 0 model))), as_one-few worst (model_of (free_streams (anchors_at anchors) 0 model))));
    }

pub added-unbounded : (own : Option ℕ) (cycles : List ℕ) (rivals : List ClockedRival) (anchors : List (Option Anchor)) (worst : ℕ) (g new : Gathered) → worst ≤ MAX_EXECUTION → g.added + 1 < MAX_TASKS
    → new.added ≡ g.added + 1 → new.own ≡ g.own → new.joint.items ≡ g.joint.items → new.others ≡ g.others → new.free.items ≡ g.free.items ++ free_rival worst None ∷ [] → IsGathered own cycles rivals g
    → IsGathered own cycles (rivals ++ added_rival None anchors worst ∷ []) new
added-unbounded own cycles rivals anchors worst g new small room count clock joint others free h =
    let more : length (rivals ++ added_rival None anchors worst ∷ []) ≡ length rivals + 1 = length-append rivals (added_rival None anchors worst ∷ []) in
    let same : unbounded ≡ before = fun_ext (λ c. streams_on-append c rivals (added_rival None anchors worst) ∙ append-nil (streams_on c rivals)) in
    let rival : All IsRival (free_rival worst None ∷ []) = as_rival (free-in_range worst None small (λ x e. absurd cc)) in
    record {
      count = omega (arith, count, more, h.count);
      few = omega (arith, more, room, h.count);
      streams = rw same (record { clock = clock ∙ h.streams.clock; joint = joint ∙ h.streams.joint; others = rw others h.streams.others });
      in_range = rw same (record { few = λ c. omega (arith, h.in_range.few c, more); each = h.in_range.each });
      free = λ w. rw free (free-unbounded worst (anchors_at anchors) rivals g.free.items w (h.free w));
      free_in_range = rw free (All-append IsRival g.free.items (free_rival worst None ∷ []) h.free_in_range rival);
      free_few = rw free (omega (arith, more, h.free_few, length-append g.free.items (free_rival worst None ∷ [])));
    }
  where
    before : ℕ → List Placed
    before c = streams_on c rivals

    unbounded : ℕ → List Placed
    unbounded c = streams_on c (rivals ++ added_rival None anchors worst ∷ [])

    as_rival : IsRival (free_rival worst None) → All IsRival (free_rival worst None ∷ [])
    as_rival is zero d less = is
    as_rival is (suc k) d less = absurd (omega arith)

-- ---- what is gathered can be computed with

module _ (own : Option ℕ) (cycles : List ℕ) (g : Gathered) (can : AreCycles cycles) (h : AreGathered own cycles g) where
  pub gathered-clocks : AreClocks (clocks_in g.others)
  gathered-clocks =
      clocks-in_range cycles (unless_own own (λ c. streams_on c h.0)) g.others h.1.streams.others (32 * length h.0) can
      (unless_own-on own cycles (32 * length h.0) (λ c. streams_on c h.0) h.1.in_range) (omega (arith, h.1.few))

  pub gathered-free : AreRivals g.free.items
  gathered-free = record { few = omega (arith, h.1.few, h.1.free_few); each = h.1.free_in_range }

module _ (own : ℕ) (cycles : List ℕ) (g : Gathered) (h : AreGathered (Some own) cycles g) where
  pub gathered-joint_on : All (IsPlacedOn (cycles_at cycles own)) g.joint.items
  gathered-joint_on = rw h.1.streams.joint (h.1.in_range.each own)

  pub gathered-joint : ArePlaced g.joint.items
  gathered-joint = record {
    few = rw h.1.streams.joint (omega (arith, h.1.in_range.few own, h.1.few));
    each = λ k d less. (gathered-joint_on k d less).placed;
  }

-- ---- the own stream

-- the cycle of a clock that there is
pub cycle_of_clock : (cycles : List ℕ) (c : ℕ) → c < length cycles → slice_index_or cycles c 0 ≡ cycles_at cycles c
cycle_of_clock [] c there = absurd (omega arith)
cycle_of_clock (n ∷ cycles) zero there = refl
cycle_of_clock (n ∷ cycles) (suc c) there = cycle_of_clock cycles c (omega arith)

only-model : (m : Model) (anchors : Anchors) (a : Anchor) (d : Stream) → only_anchor m anchors ≡ Some a → (m ≡ slice_index_or m 0 d ∷ []) × (anchors 0 ≡ Some a)
only-model [] anchors a d e = absurd cc
only-model (m ∷ []) anchors a d e = (refl, e)
only-model (m ∷ n ∷ ms) anchors a d e = absurd cc

module _ (m : Model) (anchors : List (Option Anchor)) (cycles : List ℕ) (a : Anchor) (on : IsInputOn cycles anchors (Some m)) (only : only_anchor m (anchors_at anchors) ≡ Some a) where
  pub own-anchored : (d : Stream) → IsAnchoredAt cycles a (slice_index_or m 0 d)
  own-anchored d =
      let all = on m refl in
      let long : length m ≡ length anchors = AllZip-long (IsAnchored cycles) anchors m all.1 in
      let at : IsAnchored cycles (slice_index_or anchors 0 None) (slice_index_or m 0 d) = zip-at (IsAnchored cycles) anchors m 0 None d all.1 (omega (arith, long, all.0.some)) in
      at a (only-model m (anchors_at anchors) a d only).1

  pub own-placed : (d : Stream) (worst : ℕ) → IsExecution worst → IsPlacedOn (cycles_at cycles a.clock) (placed_at (slice_index_or m 0 d) a worst)
  own-placed d worst execution =
      let all = on m refl in
      let at = own-anchored d in
      record { placed = record { stream = all.0.each 0 d all.0.some; offset = at.offset; worst = execution.small }; whole = at.whole }

-- ---- the bounds

module _ (own : Option ℕ) (cycles : List ℕ) (rivals : List ClockedRival) (g : Gathered) (h : IsGathered own cycles rivals g) where
  pub gathered-rest : elsewhere (clocks_in g.others) g.free.items ≡ rest_of own rivals (cycles_at cycles) (length cycles)
  gathered-rest = fun_ext (λ w. rw (other-clocks own cycles rivals g.others w h.streams.others, h.free w) refl)

module _ (m : Model) (anchors : List (Option Anchor)) (cycles : List ℕ) (worst blocking limit : ℕ) (rivals : List ClockedRival) (g : Gathered) (h : IsGathered (own_clock m (anchors_at anchors)) cycles rivals g) where
  preemptive-one : (m : Model) (s : Stream) (a : Anchor) → m ≡ s ∷ []
      → preemptive_at (Some a) m worst blocking rivals (cycles_at cycles) (length cycles) limit
      ≡ offset_bound (placed_at s a worst) blocking (streams_on a.clock rivals) (rest_of (Some a.clock) rivals (cycles_at cycles) (length cycles)) limit (cycles_at cycles a.clock)
  preemptive-one m s a e = rw e refl

  can-one : (bit : ℕ) (m : Model) (s : Stream) (a : Anchor) → m ≡ s ∷ []
      → can_at (Some a) m worst blocking rivals (cycles_at cycles) (length cycles) bit limit
      ≡ can_offset_bound (placed_at s a worst) blocking (streams_on a.clock rivals) (rest_of (Some a.clock) rivals (cycles_at cycles) (length cycles)) bit limit (cycles_at cycles a.clock)
  can-one bit m s a e = rw e refl

  pub preemptive-apart : only_anchor m (anchors_at anchors) ≡ None
      → apart_bound m worst blocking (elsewhere (clocks_in g.others) g.free.items) limit ≡ clocked_preemptive_bound m (anchors_at anchors) worst blocking rivals (cycles_at cycles) (length cycles) limit
  preemptive-apart none =
      let rest = gathered-rest (own_clock m (anchors_at anchors)) cycles rivals g h in
      let rest' = rw none at rest in
      rw (none, rest') refl

  pub can-apart : (bit : ℕ) → only_anchor m (anchors_at anchors) ≡ None
      → can_apart_bound m worst blocking (elsewhere (clocks_in g.others) g.free.items) bit limit ≡ clocked_can_bound m (anchors_at anchors) worst blocking rivals (cycles_at cycles) (length cycles) bit limit
  can-apart bit none =
      let rest = gathered-rest (own_clock m (anchors_at anchors)) cycles rivals g h in
      let rest' = rw none at rest in
      rw (none, rest') refl

  pub preemptive-on : (a : Anchor) (d : Stream) → only_anchor m (anchors_at anchors) ≡ Some a
      → offset_bound (placed_at (slice_index_or m 0 d) a worst) blocking g.joint.items (elsewhere (clocks_in g.others) g.free.items) limit (cycles_at cycles a.clock)
      ≡ clocked_preemptive_bound m (anchors_at anchors) worst blocking rivals (cycles_at cycles) (length cycles) limit
  preemptive-on a d only =
      let rest = gathered-rest (own_clock m (anchors_at anchors)) cycles rivals g h in
      let rest' = rw only at rest in
      let joint = rw only at h.streams.joint in
      let model = (only-model m (anchors_at anchors) a d only).0 in
      rw (only, rest', joint) (sym (preemptive-one m (slice_index_or m 0 d) a model))

  pub can-on : (bit : ℕ) (a : Anchor) (d : Stream) → only_anchor m (anchors_at anchors) ≡ Some a
      → can_offset_bound (placed_at (slice_index_or m 0 d) a worst) blocking g.joint.items (elsewhere (clocks_in g.others) g.free.items) bit limit (cycles_at cycles a.clock)
      ≡ clocked_can_bound m (anchors_at anchors) worst blocking rivals (cycles_at cycles) (length cycles) bit limit
  can-on bit a d only =
      let rest = gathered-rest (own_clock m (anchors_at anchors)) cycles rivals g h in
      let rest' = rw only at rest in
      let joint = rw only at h.streams.joint in
      let model = (only-model m (anchors_at anchors) a d only).0 in
      rw (only, rest', joint) (sym (can-one bit m (slice_index_or m 0 d) a model))
