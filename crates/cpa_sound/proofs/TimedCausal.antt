-- The second invariant of the induction over time: each stream keeps to its clock.
use Rattle.std.proofs.Common.{◌≡◌, ℕ, zero, suc, ◌+◌, ◌*◌, ◌%◌, ◌<◌, ◌≤◌, length, List, Bool, Option, Some, None, refl, sym, ap, subst, arith}
use Rattle.cpa_units.specs.declared.bound.Bound.{Bound}
use Rattle.cpa_units.specs.declared.bound.Bound.TheVariants.{Within}
use Rattle.cpa_units.specs.declared.limits.TheConstants.{MAX_CHAIN}
use Rattle.cpa_units.specs.Bounds.{bound_of}
use Rattle.cpa_events.specs.declared.stream.Stream.{Stream}
use Rattle.cpa_events.specs.Streams.{stream_after_response}
use Rattle.cpa_events.specs.Events.{Model}
use Rattle.cpa_model.specs.declared.entries.Activator.{Activator}
use Rattle.cpa_model.specs.declared.entries.Activator.TheVariants.{Source, Task}
use Rattle.cpa_model.specs.Chains.{activators, streams_within}
use Rattle.cpa_model.specs.Rules.{IsSystem}
use Rattle.cpa_model.specs.Streams.{source_stream, source_model}
use Rattle.cpa_model.specs.SystemLists.{SystemLists, task_at}
use Rattle.cpa_local.specs.Inputs.{sent_by, input_along, input}
use Rattle.cpa_local.proofs.ResponseLaws.{input_along-is_input}
use Rattle.cpa_clock.specs.declared.anchor.Anchor.{Anchor}
use Rattle.cpa_clock.specs.Anchors.{Anchors}
use Rattle.cpa_model.specs.Clocks.{clock_cycle}
use Rattle.cpa_model.proofs.ClockLaws.{clock-whole}
use Rattle.cpa_local.specs.OnClocks.{source_anchor, later_anchor, anchors_of}
use Rattle.cpa_sound.specs.Course.{Course, KeepsBound}
use Rattle.cpa_sound.specs.JobStreams.{Causes, stream_within}
use Rattle.cpa_sound.proofs.Serving.{IsInOrder}
use Rattle.cpa_sound.proofs.KeepsLaws.{KeepsSteps}
use Rattle.cpa_sound.proofs.KeepsCauses.{Starts, started_by, KeepsCauses}
use Rattle.cpa_sound.proofs.CourseLaws.{arrived-mono}
use Rattle.cpa_sound.proofs.Parts.{jobs_in, of_stream, EachStream, IsFed}
use Rattle.cpa_sound.proofs.PartLaws.{in_other}
use Rattle.cpa_sound.proofs.CauseStreams.{activator-there, Reaches, reaches-next, before, stream-fed}
use Rattle.cpa_sound.proofs.SentLaws.{output-parts, get-less, get-out, input-width}
use Rattle.cpa_sound.proofs.Timed.{PartKeepsTime, PartKeepsAnchor}
use Rattle.cpa_sound.proofs.TimedLaws.{output-in_time}
use Rattle.cpa_sound.proofs.MomentLaws.{StreamsKeepTime, InputIsKnown}
use Rattle.cpa_sound.proofs.AnchorLaws.{anchors_along, source_anchor-is, anchor-of_source, anchor-of_task}
use Rattle.cpa_sound.proofs.CausalLaws.{Known, of_one, same-model, some-input, reaches-all, each-sent, own-stream, source-part}

-- the streams of an input keep to their clocks
abbrev pub InputKeepsTime : (ℕ → ℕ) → (ℕ → ℕ) → Course → (ℕ → ℕ) → Anchors → Option Model → ℕ → Type 0
InputKeepsTime lead cycle c stream anchors (Some m) t = StreamsKeepTime lead cycle c stream anchors m t
InputKeepsTime lead cycle c stream anchors None t = Unit {0}

-- what is so of the streams of one activator, where it is so of each
module _ (lead cycle : ℕ → ℕ) where
  -- two parts of the same jobs
  same-time : (c : Course) (best worst : ℕ) (o : IsInOrder c best worst) (part other : ℕ → Bool) (until : ℕ) (same : (k : ℕ) → k ≤ c.arrived until → jobs_in part k ≡ jobs_in other k) (lead' first : ℕ) (st : Stream) (t : ℕ) → t ≤ until → PartKeepsTime c other lead' first st t → PartKeepsTime c part lead' first st t
  same-time c best worst o part other until same lead' first st t le timed k a own arrival before =
      let within = arrived-mono c best worst o (a + 1) until (omega arith) in
      let here : k < c.arrived until = omega (arith, within, arrival.1) in
      let is = timed k a (in_other c best worst o part other until same k here own) arrival before in
      let e : jobs_in other k ≡ jobs_in part k = sym (same k (omega (arith, here))) in
      rw e at is

  -- on whatever clock, if on any
  same-anchor : (c : Course) (best worst : ℕ) (o : IsInOrder c best worst) (part other : ℕ → Bool) (until : ℕ) (same : (k : ℕ) → k ≤ c.arrived until → jobs_in part k ≡ jobs_in other k) (anchor : Option Anchor) (st : Stream) (t : ℕ) → t ≤ until → PartKeepsAnchor lead cycle c other anchor st t → PartKeepsAnchor lead cycle c part anchor st t
  same-anchor c best worst o part other until same None st t le timed = tt
  same-anchor c best worst o part other until same (Some a) st t le timed = (timed.0, (timed.1.0, same-time c best worst o part other until same (lead a.clock) (a.offset + timed.1.0 * st.period) st t le timed.1.1))

  -- before time 0 the cycle is all
  first-anchor : (c : Course) (part : ℕ → Bool) (anchor : Option Anchor) (st : Stream) → ((a : Anchor) → anchor ≡ Some a → cycle a.clock % st.period ≡ 0) → PartKeepsAnchor lead cycle c part anchor st 0
  first-anchor c part None st whole = tt
  first-anchor c part (Some a) st whole = (whole a refl, (0, λ k b own arrival before. absurd (omega arith)))

  -- what comes out of a task keeps to its clock, later by the least execution
  output-anchor : (c d : Course) (best worst best' worst' : ℕ) (o : IsInOrder d best worst) (o' : IsInOrder c best' worst') (part sent : ℕ → Bool) (until : ℕ) (fed : IsFed c d part sent until) (anchor : Option Anchor) (st : Stream) (bound t : ℕ) → t < until → PartKeepsAnchor lead cycle d sent anchor st t → KeepsBound d (Within bound) t → PartKeepsAnchor lead cycle c part (later_anchor best anchor) (stream_after_response best bound st) (t + 1)
  output-anchor c d best worst best' worst' o o' part sent until fed None st bound t now timed kept = tt
  output-anchor c d best worst best' worst' o o' part sent until fed (Some a) st bound t now timed kept =
      let first : ℕ = timed.1.0 in
      let e : a.offset + first * st.period + best ≡ a.offset + best + first * st.period = omega arith in
      (timed.0, (first, rw e at (output-in_time c d best worst best' worst' o o' part sent until fed st (lead a.clock) (a.offset + first * st.period) bound t now timed.1.1 kept)))

  later-whole : (best : ℕ) (c : Course) (part : ℕ → Bool) (anchor : Option Anchor) (st : Stream) (t : ℕ) → PartKeepsAnchor lead cycle c part anchor st t → (a : Anchor) → later_anchor best anchor ≡ Some a → cycle a.clock % st.period ≡ 0
  later-whole best c part None st t timed a e = absurd cc
  later-whole best c part (Some b) st t timed a e = let same : b.clock ≡ a.clock = ap clock-of e in subst (λ k. cycle k % st.period ≡ 0) same timed.0
    where
      clock-of : Option Anchor → ℕ
      clock-of None = 0
      clock-of (Some c) = c.clock

module _ (s : SystemLists) (x : List Bound) (course : ℕ → Course) (causes : Causes) (last : ℕ) (steps : KeepsSteps s course) (laws : KeepsCauses s course causes last) (rules : IsSystem s) (lead : ℕ → ℕ) (first : ℕ → ℕ → ℕ)
    (sourced : (i k : ℕ) (a : Anchor) → i < length s.tasks → Starts s i (Source (record { 0 = k })) → source_anchor s k ≡ Some a → PartKeepsTime (course i) (started_by causes i (Source (record { 0 = k }))) (lead a.clock) (a.offset + first a.clock k * (source_stream s k).period) (source_stream s k) (last + 1)) where
  -- each stream keeps to its clock before a time, where activators are followed over any number of tasks
  pub record Timed (t : ℕ) : Type 0 where
    pub timed : (n i : ℕ) → i < length s.tasks → Reaches s n i → InputKeepsTime lead (clock_cycle s) (course i) (stream_within s causes n i) (anchors_along s n i) (input_along s x n i) t

  KeepsTimeAt : ℕ → ℕ → ℕ → ℕ → Stream → Type 0
  KeepsTimeAt t n i q st = PartKeepsAnchor lead (clock_cycle s) (course i) (of_stream (stream_within s causes n i) q) (anchors_along s n i q) st t

  -- ---- what a source starts

  source-keeps : (i k : ℕ) (o : Option Anchor) → source_anchor s k ≡ o → i < length s.tasks → Starts s i (Source (record { 0 = k })) → (t : ℕ) → t ≤ last + 1 → PartKeepsAnchor lead (clock_cycle s) (course i) (started_by causes i (Source (record { 0 = k }))) o (source_stream s k) t
  source-keeps i k None e h starts t le = tt
  source-keeps i k (Some a) e h starts t le = (clock-whole s rules k a.clock (source_anchor-is s k a e).0, (first a.clock k, λ l b own arrival before. sourced i k a h starts e l b own arrival (omega arith)))

  source-time : (t n i : ℕ) (k : ℕ) → t ≤ last + 1 → i < length s.tasks → Reaches s (suc n) i → Starts s i (Source (record { 0 = k })) → KeepsTimeAt t (suc n) i (before s n i (Source (record { 0 = k }))) (source_stream s k)
  unfolding KeepsTimeAt
  source-time t n i k le h reaches starts =
      let at = anchor-of_source s n i (record { 0 = k }) starts in
      rw at
      (same-anchor lead (clock_cycle s) (course i) (task_at s i).best (task_at s i).worst (steps.order i h) (of_stream (stream_within s causes (suc n) i) (before s n i (Source (record { 0 = k })))) (started_by causes i (Source (record { 0 = k }))) (last + 1)
      (source-part s x course causes last steps laws rules n i k h reaches starts) (source_anchor s k) (source_stream s k) t le (source-keeps i k (source_anchor s k) refl h starts t le))

  -- ---- from before a time to the next, where it is told how a task hands on

  module _ (t t' : ℕ) (le : t' ≤ last + 1)
      (hands_on : (n i j q : ℕ) → i < length s.tasks → Reaches s (suc n) i → (hj : j < length s.tasks) → (starts : Starts s i (Task (record { 0 = j }))) → q < length (streams_within (activators s.tasks) n j) → (st : Stream) (number : ℕ) → bound_of x j ≡ Within number
      → KeepsTimeAt t n j q st → PartKeepsAnchor lead (clock_cycle s) (course i) (of_stream (stream_within s causes (suc n) i) (before s n i (Task (record { 0 = j })) + q)) (later_anchor (task_at s j).best (anchors_along s n j q)) (stream_after_response (task_at s j).best number st) t') where
    sent-timed : (n i : ℕ) → i < length s.tasks → Reaches s (suc n) i → ((j : ℕ) → j < length s.tasks → Reaches s n j → InputKeepsTime lead (clock_cycle s) (course j) (stream_within s causes n j) (anchors_along s n j) (input_along s x n j) t)
        → (a : Activator) → Starts s i a → (p : Model) → sent_by s x (input_along s x n) a ≡ Some p → EachStream (KeepsTimeAt t' (suc n) i) (before s n i a) p
    unfolding KeepsTimeAt
    sent-timed n i h reaches deeper (Source k) starts p e =
        let P : ℕ → Stream → Type 0 = λ q st. PartKeepsAnchor lead (clock_cycle s) (course i) (of_stream (stream_within s causes (suc n) i) q) (anchors_along s (suc n) i q) st t' in
        subst (EachStream P (before s n i (Source k))) (same-model (source_model s k.0) p e) (of_one P (before s n i (Source k)) (source_stream s k.0) (source-time t' n i k.0 le h reaches starts))
    sent-timed n i h reaches deeper (Task j) starts p e = λ q st is.
        let hj = activator-there s rules i (Task j) h starts in
        let out = output-parts (task_at s j.0).best (bound_of x j.0) (input_along s x n j.0) p e in
        let got = get-out (stream_after_response (task_at s j.0).best out.number) out.input q st (rw out.is at is) in
        let few : q < length (streams_within (activators s.tasks) n j.0) = omega (arith, get-less out.input q got.0 got.1, input-width s x n j.0 out.input out.bounded) in
        let timed = rw out.bounded at (deeper j.0 hj (reaches-next s n i j.0 reaches starts)) in
        let z : 0 + q ≡ q = omega arith in
        let before_it = rw z at (timed q got.0 got.1) in
        let on = hands_on n i j.0 q h reaches hj starts few got.0 out.number out.within before_it in
        rw (got.2, anchor-of_task s n i j.0 q starts few) on

    along_at : (n i : ℕ) → i < length s.tasks → Reaches s (suc n) i → ((j : ℕ) → j < length s.tasks → Reaches s n j → InputKeepsTime lead (clock_cycle s) (course j) (stream_within s causes n j) (anchors_along s n j) (input_along s x n j) t)
        → (o : Option Model) → input_along s x (suc n) i ≡ o → InputKeepsTime lead (clock_cycle s) (course i) (stream_within s causes (suc n) i) (anchors_along s (suc n) i) o t'
    unfolding KeepsTimeAt
    along_at n i h reaches deeper None e = tt
    along_at n i h reaches deeper (Some m) e =
        each-sent s x course causes last steps laws rules n i (λ q st. PartKeepsAnchor lead (clock_cycle s) (course i) (of_stream (stream_within s causes (suc n) i) q) (anchors_along s (suc n) i q) st t') h (sent-timed n i h reaches deeper) m e

  -- ---- before time 0

  first-along : (n i : ℕ) → i < length s.tasks → Reaches s n i → InputKeepsTime lead (clock_cycle s) (course i) (stream_within s causes n i) (anchors_along s n i) (input_along s x n i) 0
  unfolding KeepsTimeAt
  first-along zero i h reaches = tt
  first-along (suc n) i h reaches =
      along_at 0 0 (omega arith)
      (λ n i j q hi reaches hj starts few st number is timed.
      first-anchor lead (clock_cycle s) (course i) (of_stream (stream_within s causes (suc n) i) (before s n i (Task (record { 0 = j })) + q)) (later_anchor (task_at s j).best (anchors_along s n j q)) (stream_after_response (task_at s j).best number st)
      (λ a e. later-whole lead (clock_cycle s) (task_at s j).best (course j) (of_stream (stream_within s causes n j) q) (anchors_along s n j q) st 0 timed a e))
      n i h reaches (first-along n) (input_along s x (suc n) i) refl

  pub timed_first : Timed 0
  timed_first = record { timed = first-along }

  -- ---- and at each next time

  next-along : (t n i : ℕ) → t ≤ last → i < length s.tasks → Reaches s n i → Known s x course causes last steps laws rules t → Timed t → InputKeepsTime lead (clock_cycle s) (course i) (stream_within s causes n i) (anchors_along s n i) (input_along s x n i) (t + 1)
  unfolding KeepsTimeAt
  next-along t zero i now h reaches known before_t = tt
  next-along t (suc n) i now h reaches known before_t =
      along_at t (t + 1) (omega arith)
      (λ n i j q hi reaches hj starts few st number is timed.
      let fed = stream-fed s rules course steps.order causes last laws n i j q hi reaches starts few in
      let kept = rw is at (known.bound j hj) in
      output-anchor lead (clock_cycle s) (course i) (course j) (task_at s j).best (task_at s j).worst (task_at s i).best (task_at s i).worst (steps.order j hj) (steps.order i hi)
      (of_stream (stream_within s causes (suc n) i) (before s n i (Task (record { 0 = j })) + q)) (of_stream (stream_within s causes n j) q) (last + 1) fed (anchors_along s n j q) st number t (omega arith) timed kept)
      n i h reaches (before_t.timed n) (input_along s x (suc n) i) refl

  pub timed_next : (t : ℕ) → t ≤ last → Known s x course causes last steps laws rules t → Timed t → Timed (t + 1)
  timed_next t now known before_t = record { timed = λ n i h reaches. next-along t n i now h reaches known before_t }

  -- ---- what a local bound needs of inputs

  input_known_at : (t i : ℕ) → t ≤ last + 1 → (h : i < length s.tasks) → Known s x course causes last steps laws rules t → Timed t → (o : Option Model) → input_along s x MAX_CHAIN i ≡ o → InputIsKnown lead (clock_cycle s) (course i) (stream_within s causes MAX_CHAIN i) (anchors_of s i) o t
  input_known_at t i le h known also None e = tt
  input_known_at t i le h known also (Some m) e =
      let reaches = reaches-all s x course causes last steps laws rules i h in
      let regular = some-input (input_along s x MAX_CHAIN i) m (input_along-is_input s x rules MAX_CHAIN i h) e in
      let apart = rw e at (known.apart MAX_CHAIN i h reaches) in
      let timed = rw e at (also.timed MAX_CHAIN i h reaches) in
      record {
        regular = regular;
        belongs = λ k here. own-stream s x course causes last steps laws rules MAX_CHAIN i t m h reaches le e k here;
        apart = apart;
        timed = timed;
      }

  pub inputs_known : (t : ℕ) → t ≤ last + 1 → Known s x course causes last steps laws rules t → Timed t → (j : ℕ) → j < length s.tasks → InputIsKnown lead (clock_cycle s) (course j) (stream_within s causes MAX_CHAIN j) (anchors_of s j) (input s x j) t
  unfolding input
  inputs_known t le known also j h = input_known_at t j le h known also (input_along s x MAX_CHAIN j) refl
