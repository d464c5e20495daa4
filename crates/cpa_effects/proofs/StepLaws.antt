-- One step of a chain: how much later a job of the next task arrives than the one before.
use Rattle.std.proofs.Common.{◌≡◌, ℕ, zero, suc, ◌+◌, ◌-◌, ◌<◌, ◌≤◌, Bool, true, false, cond, eqb, length, List, [], ◌∷◌, Option, Some, None, refl, sym, ◌∙◌, ap, subst, inl, inr, arith}
use Rattle.std.specs.List.{list_any}
use Rattle.std.proofs.lemmas.Bool.{cases_lt, cases_Bool, false≢true, eqb-true}
use Rattle.std.proofs.lemmas.List.{length-map}
use Rattle.cpa_units.specs.declared.bound.Bound.{Bound}
use Rattle.cpa_units.specs.declared.bound.Bound.TheVariants.{Within, Overload}
use Rattle.cpa_units.specs.declared.places.SourceId.{SourceId}
use Rattle.cpa_units.specs.declared.places.TaskId.{TaskId}
use Rattle.cpa_units.specs.Bounds.{bound_of, bound_plus}
use Rattle.cpa_events.specs.declared.stream.Stream.{Stream}
use Rattle.cpa_events.specs.Events.{Model, IsModel}
use Rattle.cpa_window.specs.Rivals.{IsInput}
use Rattle.cpa_model.specs.declared.entries.Activator.{Activator}
use Rattle.cpa_model.specs.declared.entries.Activator.TheVariants.{Task}
use Rattle.cpa_model.proofs.SystemLaws.{streams_of-some}
use Rattle.cpa_model.specs.Rules.{IsSystem}
use Rattle.cpa_model.specs.SystemLists.{SystemLists, task_at, source_at, streams_of, is_activated_by, may_fall_silent}
use Rattle.cpa_local.specs.Inputs.{input}
use Rattle.cpa_local.proofs.ResponseLaws.{input-is_input}
use Rattle.cpa_local.proofs.StreamLaws.{input-follows}
use Rattle.cpa_trace.specs.Trace.{TraceLists, Obeys}
use Rattle.cpa_sched.proofs.OptionLaws.{some-injective}
use Rattle.cpa_sound.specs.JobStreams.{is_same}
use Rattle.cpa_sound.specs.BoundsHold.{HasJob, arrival_of, causes_at, IsStartedBy, SourcesStayNear, HoldIn}
use Rattle.cpa_sound.proofs.CauseStreams.{same-is}
use Rattle.cpa_sound.proofs.KeepsCauses.{Starts}
use Rattle.cpa_effects.specs.declared.steps.Step.{Step}
use Rattle.cpa_effects.specs.declared.steps.Step.TheVariants.{Register, Merge, Activation}
use Rattle.cpa_effects.specs.declared.steps.Reading.{Reading}
use Rattle.cpa_effects.specs.ChainText.{passage_word, place_word}
use Rattle.cpa_effects.specs.Bounds.{step_between, passage_between, task_in, next_event, wait_in, wait_of, reading_wait, read_from}
use Rattle.cpa_effects.specs.Effects.{Reads, ReadWithin, IsAmidst, FollowsOn, IsFirstToRead, IsLastToEnd, ReadsFirst, IsFirstToKnow, ReadsLast, HasDataOf}
use Rattle.cpa_effects.proofs.SumLaws.{within-injective, overload-no_number, add-up, HasNext, next-has}
use Rattle.cpa_effects.proofs.GroupLaws.{Renewed, renewed-of}
use Rattle.cpa_effects.proofs.JobTimes.{end-by, arrivals-order, starter-there, started-at, starts-one, causes-activated, ends-soon, arrived-late, next-arrives}

-- ---- kinds of steps

is_activation : Step → Bool
is_activation Register = false
is_activation Merge = false
is_activation Activation = true

pub only-then : (starts alone : Bool) → cond starts (cond alone Activation Merge) Register ≡ Activation → (starts ≡ true) × (alone ≡ true)
unfolding is_activation
only-then true true e = (refl, refl)
only-then true false e = absurd (false≢true (ap is_activation e))
only-then false alone e = absurd (false≢true (ap is_activation e))

abbrev pub is_start : Step → Bool
is_start Register = false
is_start Merge = true
is_start Activation = true

pub starts-then : (starts alone : Bool) → is_start (cond starts (cond alone Activation Merge) Register) ≡ true → starts ≡ true
starts-then true alone e = refl
starts-then false alone e = absurd (false≢true e)

or-nothing : (b : Bool) → list_any (λ (c : Bool). c) (b ∷ []) ≡ true → b ≡ true
or-nothing true e = refl
or-nothing false e = e

member : (a x : Activator) → list_any (is_same a) (x ∷ []) ≡ true → a ≡ x
member a x h =
    elim (cases_Bool (is_same a x)) [
      | inl e ↦ same-is a x e
      | inr e ↦ absurd (false≢true (rw e at h))
    ]

-- the one member of a list is each that is in it
alone : (list : List Activator) (a b : Activator) → length list ≡ 1 → list_any (is_same a) list ≡ true → list_any (is_same b) list ≡ true → a ≡ b
alone [] a b one h g = absurd (omega (arith, one))
alone (x ∷ []) a b one h g = member a x h ∙ sym (member b x g)
alone (x ∷ y ∷ list) a b one h g = absurd (omega (arith, one))

module _ (s : SystemLists) (tr : TraceLists) (rules : IsSystem s) (obeys : Obeys s tr) (t : ℕ) where
  -- where a task is the only activator of another, it started each of its jobs
  pub sole-starter : (p c : TaskId) (n : ℕ) → c.0 < length s.tasks → step_between s p.0 c.0 ≡ Activation → HasJob s tr t c.0 n → (k : ℕ) × IsStartedBy s tr t p k c n
  sole-starter p c n h sole has =
      let two = only-then (is_activated_by s p.0 c.0) (eqb (length (task_at s c.0).after) 1) sole in
      let one : length (task_at s c.0).after ≡ 1 = eqb-true (length (task_at s c.0).after) 1 two.1 in
      let starts : Starts s c.0 (Task p) = two.0 in
      let by : (causes_at s tr t c.0 n).by ≡ Task p = alone (task_at s c.0).after (causes_at s tr t c.0 n).by (Task p) one (causes-activated s tr rules obeys t c.0 n h has) starts in
      ((causes_at s tr t c.0 n).number, (has, λ j. record { by = by j; number = (causes_at s tr t c.0 n).number }))

  -- after a job that is amidst there is another
  pub next-there : (i k : ℕ) → i < length s.tasks → IsAmidst s tr t i k → HasJob s tr t i (k + 1)
  next-there i k h amidst = let goes = amidst 0 (omega (arith, streams_of-some s rules i h)) in omega (arith, goes.is_after, goes.there)

  module _ (x : List Bound) (hold : HoldIn s x tr) (near : SourcesStayNear s tr) where
    -- a wait that is a number is that of some stream of a task
    pub record Waits (i w : ℕ) : Type 0 where
      pub model : Model
      pub steady : may_fall_silent s i ≡ false
      pub bounded : input s x i ≡ Some model
      pub next : HasNext model (next_event model)
      pub wait : w ≡ next_event model - 1
      pub inside : next.place < length (streams_of s i)

    pub waits : (i w : ℕ) → i < length s.tasks → wait_of s x i ≡ Within w → Waits i w
    unfolding wait_of
    waits i w h is = by_silence (may_fall_silent s i) refl
      where
        where_steady : may_fall_silent s i ≡ false → wait_in (input s x i) ≡ Within w
        where_steady steady = sym (ap (λ silent. cond silent Overload (wait_in (input s x i))) steady) ∙ is

        by_input : may_fall_silent s i ≡ false → (m : Option Model) → input s x i ≡ m → Waits i w
        by_input steady None e = absurd (overload-no_number w (sym (ap wait_in e) ∙ where_steady steady))
        by_input steady (Some m) e =
            let regular : IsModel m = subst IsInput e (input-is_input s x rules i h) in
            let next = next-has m regular.some in
            let long : length m ≡ length (streams_of s i) =
            sym (length-map m (λ (st : Stream). st.period)) ∙ (ap length (input-follows s x rules i m h e) ∙ length-map (streams_of s i) (λ (k : SourceId). (source_at s k.0).period)) in
            record {
              model = m;
              steady = steady;
              bounded = e;
              next = next;
              wait = sym (within-injective (next_event m - 1) w (sym (ap wait_in e) ∙ where_steady steady));
              inside = omega (arith, next.within, long);
            }

        by_silence : (silent : Bool) → may_fall_silent s i ≡ silent → Waits i w
        by_silence true e = absurd (overload-no_number w (sym (ap (λ silent. cond silent Overload (wait_in (input s x i))) e) ∙ is))
        by_silence false e = by_input e (input s x i) refl

    -- the next job of a task comes no later than its wait and a tick, where its streams go on
    pub next-soon : (i k w : ℕ) → i < length s.tasks → wait_of s x i ≡ Within w → IsAmidst s tr t i k → HasJob s tr t i (k + 1) × (arrival_of s tr t i (k + 1) ≤ arrival_of s tr t i k + w + 1)
    next-soon i k w h is amidst =
        let v = waits i w h is in
        let goes = amidst v.next.place v.inside in
        let close = next-arrives s tr rules obeys t x hold near i k v.next.place v.model v.next.stream h v.steady v.bounded v.next.is goes in
        (omega (arith, goes.is_after, goes.there), omega (arith, close, v.next.next_is, v.wait))

    -- what overwrites what a job wrote isn't done by a time at which that is read
    pub overwritten-late : (i k r u : ℕ) → i < length s.tasks → bound_of x i ≡ Within r → u ≤ t → IsLastToEnd s tr t i k u → IsAmidst s tr t i k → u < arrival_of s tr t i (k + 1) + r
    overwritten-late i k r u h number seen last amidst =
        arrived-late s tr rules obeys t x hold i r (k + 1) u h number (next-there i k h amidst) seen (λ later has. last.last (k + 1) later (omega arith) has)

    -- the first job that reads at a time or later comes no later than the task's wait after it
    pub reads-soon : (reads : Reads) (i k time w : ℕ) → i < length s.tasks → wait_of s x i ≡ Within w → ReadWithin s tr t reads → IsFirstToRead s tr t reads i k time → FollowsOn s tr t i k
        → arrival_of s tr t i k ≤ time + w
    reads-soon reads i k time w h is within first follows =
        let before : ℕ = follows.0 in
        let soon = next-soon i before w h is follows.2 in
        let there : HasJob s tr t i before = omega (arith, first.there, follows.1) in
        let read = within.arrived i before there in
        let missed = first.first before (omega (arith, follows.1)) in
        let e : before + 1 ≡ k = sym follows.1 in
        let close = rw e at soon.1 in
        omega (arith, close, read, missed)

    -- a job that another started arrives within that one's bound
    pub started-soon : (p c : TaskId) (k n r : ℕ) → c.0 < length s.tasks → bound_of x p.0 ≡ Within r → IsStartedBy s tr t p k c n → arrival_of s tr t c.0 n ≤ arrival_of s tr t p.0 k + r
    started-soon p c k n r h number is =
        let known = starter-there s tr rules obeys t p c k n h is in
        ends-soon s tr rules obeys t x hold p.0 r k (arrival_of s tr t c.0 n) known.1 number (started-at s tr rules obeys t p c k n h is)

    -- forward
    pub knows-soon : (reads : Reads) (p c : TaskId) (k n cost : ℕ) → p.0 < length s.tasks → c.0 < length s.tasks → ReadWithin s tr t reads
        → bound_plus (bound_of x p.0) (reading_wait (step_between s p.0 c.0) (wait_of s x c.0)) ≡ Within cost → IsFirstToKnow s tr t reads p k c n
        → arrival_of s tr t c.0 n ≤ arrival_of s tr t p.0 k + cost
    knows-soon reads p c k n cost hp hc within is knows =
        let both = add-up (bound_of x p.0) (reading_wait (step_between s p.0 c.0) (wait_of s x c.0)) cost is in
        elim knows [
          | inl started ↦ omega (arith, started-soon p c k n both.left hc both.left_is started, both.sum)
          | inr reader ↦
              let soon = ends-soon s tr rules obeys t x hold p.0 both.left k reader.written hp both.left_is reader.has in
              elim (cases_Bool (is_activated_by s p.0 c.0)) [
                | inl activates ↦ omega (arith, activated reader activates, soon, both.sum)
                | inr not_so ↦
                    elim reader.goes_on [
                      | inl activates ↦ omega (arith, activated reader activates, soon, both.sum)
                      | inr follows ↦
                          let register : step_between s p.0 c.0 ≡ Register = rw not_so refl in
                          let wait : wait_of s x c.0 ≡ Within both.right = ap (λ step. reading_wait step (wait_of s x c.0)) (sym register) ∙ both.right_is in
                          omega (arith, reads-soon reads c.0 n reader.written both.right hc wait within reader.first follows, soon, both.sum)
                    ]
              ]
        ]
      where
        -- it reads no later than the job that the end starts
        activated : (reader : ReadsFirst s tr t reads p k c n) → is_activated_by s p.0 c.0 ≡ true → arrival_of s tr t c.0 n ≤ reader.written
        activated reader activates =
            let own = starts-one s tr rules obeys t p c k reader.written hc activates reader.has in
            let at = started-at s tr rules obeys t p c k own.0 hc own.1 in
            let same : reader.written ≡ arrival_of s tr t c.0 own.0 = some-injective reader.written (arrival_of s tr t c.0 own.0) (sym reader.has.1 ∙ at.1) in
            let read = within.arrived c.0 own.0 own.1.0 in
            let not_after : n ≤ own.0 =
            elim (cases_lt own.0 n) [
              | inl less ↦ absurd (omega (arith, reader.first.first own.0 less, read, same))
              | inr more ↦ more
            ] in
            omega (arith, arrivals-order s tr rules obeys t c.0 n own.0 hc own.1.0 not_after, same)

    -- ---- backward

    -- when what a job reads was written
    seen-read : (reads : Reads) (p c : TaskId) (k n : ℕ) → c.0 < length s.tasks → ReadWithin s tr t reads → ReadsLast s tr t reads p k c n → reads c.0 n ≤ t
    seen-read reads p c k n hc within reader =
        let ended = within.ended c.0 n reader.ended reader.is in
        omega (arith, ended, end-by s tr rules obeys t c.0 n reader.ended hc reader.is)

    -- the job that started it had ended, where a task is the only activator
    pub has-activated : (reads : Reads) (p c : TaskId) (k n r : ℕ) → p.0 < length s.tasks → c.0 < length s.tasks → ReadWithin s tr t reads → bound_of x p.0 ≡ Within r → ReadsLast s tr t reads p k c n
        → step_between s p.0 c.0 ≡ Activation → arrival_of s tr t c.0 n ≤ arrival_of s tr t p.0 k + r
    has-activated reads p c k n r hp hc within number reader sole =
        let own = sole-starter p c n hc sole reader.there in
        let at = started-at s tr rules obeys t p c own.0 n hc own.1 in
        let read = within.arrived c.0 n reader.there in
        let not_after : own.0 ≤ k =
        elim (cases_lt k own.0) [
          | inl less ↦ absurd (omega (arith, reader.last.last own.0 (arrival_of s tr t c.0 n) less at, read))
          | inr more ↦ more
        ] in
        omega (arith, started-soon p c own.0 n r hc number own.1, arrivals-order s tr rules obeys t p.0 own.0 k hp reader.last.has.0 not_after)

    -- so what a job has, whether it was started or reads
    pub has-sole : (reads : Reads) (p c : TaskId) (k n r : ℕ) → p.0 < length s.tasks → c.0 < length s.tasks → ReadWithin s tr t reads → bound_of x p.0 ≡ Within r → HasDataOf s tr t reads p k c n
        → step_between s p.0 c.0 ≡ Activation → arrival_of s tr t c.0 n ≤ arrival_of s tr t p.0 k + r
    has-sole reads p c k n r hp hc within number (inl started) sole = started-soon p c k n r hc number started
    has-sole reads p c k n r hp hc within number (inr reader) sole = has-activated reads p c k n r hp hc within number reader sole

    -- where a task activates the next, a job of the next that is amidst was started no later than what it reads is written; and the job after
    -- it comes within the task's bound after one that comes anew
    pub started-before : (reads : Reads) (p c : TaskId) (k n b : ℕ) (hc : c.0 < length s.tasks) (activates : is_activated_by s p.0 c.0 ≡ true) → ReadWithin s tr t reads → HasDataOf s tr t reads p k c n
        → b ≤ n → (v : Renewed s tr rules obeys t p c hc activates b) → v.before ≤ k
    started-before reads p c k n b hc activates within (inl started) le v = v.order n k started (omega (arith, v.not_after, le))
    started-before reads p c k n b hc activates within (inr reader) le v =
        let at = started-at s tr rules obeys t p c v.before v.started hc v.started_is in
        let order = arrivals-order s tr rules obeys t c.0 v.started n hc reader.there (omega (arith, v.not_after, le)) in
        let read = within.arrived c.0 n reader.there in
        elim (cases_lt k v.before) [
          | inl less ↦ absurd (omega (arith, reader.last.last v.before (arrival_of s tr t c.0 v.started) less at, order, read))
          | inr more ↦ more
        ]

    pub renewed-soon : (p c : TaskId) (b r : ℕ) (hc : c.0 < length s.tasks) (activates : is_activated_by s p.0 c.0 ≡ true) → bound_of x p.0 ≡ Within r → (v : Renewed s tr rules obeys t p c hc activates b)
        → arrival_of s tr t c.0 (b + 1) ≤ arrival_of s tr t p.0 (v.before + 1) + r
    renewed-soon p c b r hc activates number v =
        omega (arith, started-soon p c (v.before + 1) v.next r hc number v.next_is, arrivals-order s tr rules obeys t c.0 (b + 1) v.next hc v.next_is.0 (omega (arith, v.later)))

    -- at a time from which on bounds are counted, of a job: when it comes, and when what comes anew after one that is amidst does
    pub record Stands (i j origin : ℕ) (old renewed : Bound) : Type 0 where
      pub there : HasJob s tr t i j
      pub old_by : (a : ℕ) → old ≡ Within a → arrival_of s tr t i j ≤ origin + a
      pub renewed_by : (r b : ℕ) → renewed ≡ Within r → b ≤ j → IsAmidst s tr t i b → arrival_of s tr t i (b + 1) ≤ origin + r + 1
      pub order : (r : ℕ) → renewed ≡ Within r → (a : ℕ) × (old ≡ Within a) × (a ≤ r)

    module _ (reads : Reads) (p c : TaskId) (k n : ℕ) (hp : p.0 < length s.tasks) (hc : c.0 < length s.tasks) (within : ReadWithin s tr t reads) (data_of : HasDataOf s tr t reads p k c n)
        (origin : ℕ) (old renewed : Bound) (stands : Stands p.0 k origin old renewed) where
      pub there-too : HasJob s tr t c.0 n
      there-too = elim data_of [ inl started ↦ started.0 | inr reader ↦ reader.there ]

      -- what is read isn't overwritten yet
      late : (r q : ℕ) → renewed ≡ Within r → bound_of x p.0 ≡ Within q → arrival_of s tr t c.0 n ≤ origin + r + q
      late r q is number =
          let o = stands.order r is in
          let come = stands.old_by o.0 o.1 in
          elim data_of [
            | inl started ↦ omega (arith, started-soon p c k n q hc number started, come, o.2)
            | inr reader ↦
                elim reader.goes_on [
                  | inl sole ↦ omega (arith, has-activated reads p c k n q hp hc within number reader sole, come, o.2)
                  | inr amidst ↦
                      let seen = seen-read reads p c k n hc within reader in
                      let later = overwritten-late p.0 k q (reads c.0 n) hp number seen reader.last amidst in
                      omega (arith, later, stands.renewed_by r k is (omega arith) amidst, within.arrived c.0 n reader.there)
                ]
          ]

      renews : (r q b : ℕ) → renewed ≡ Within r → bound_of x p.0 ≡ Within q → is_activated_by s p.0 c.0 ≡ true → b ≤ n → IsAmidst s tr t c.0 b → arrival_of s tr t c.0 (b + 1) ≤ origin + r + 1 + q
      renews r q b is number activates le amidst =
          let has : HasJob s tr t c.0 b = omega (arith, le, there-too) in
          let v = renewed-of s tr rules obeys t p c hc activates b has amidst in
          let before = started-before reads p c k n b hc activates within data_of le v in
          omega (arith, renewed-soon p c b q hc activates number v, stands.renewed_by r v.before is before v.amidst)

      by_step : (step : Step) → step_between s p.0 c.0 ≡ step
          → Stands c.0 n origin (bound_plus (read_from step old renewed) (bound_of x p.0)) (bound_plus renewed (bound_plus (bound_of x p.0) (reading_wait step (wait_of s x c.0))))
      by_step Activation same =
          record {
            there = there-too;
            old_by = λ a is.
                let both = add-up old (bound_of x p.0) a is in
                omega (arith, has-sole reads p c k n both.right hp hc within both.right_is data_of same, stands.old_by both.left both.left_is, both.sum);
            renewed_by = λ r b is le amidst.
                let both = add-up renewed (bound_plus (bound_of x p.0) (Within 0)) r is in
                let inner = add-up (bound_of x p.0) (Within 0) both.right both.right_is in
                omega (arith, renews both.left inner.left b both.left_is inner.left_is (starts-then (is_activated_by s p.0 c.0) (eqb (length (task_at s c.0).after) 1) (ap is_start same)) le amidst, both.sum, inner.sum);
            order = λ r is.
                let both = add-up renewed (bound_plus (bound_of x p.0) (Within 0)) r is in
                let inner = add-up (bound_of x p.0) (Within 0) both.right both.right_is in
                let o = stands.order both.left both.left_is in
                (o.0 + inner.left, (λ i. bound_plus (o.1 i) (inner.left_is i)), omega (arith, o.2, both.sum, inner.sum));
          }
      by_step Merge same =
          record {
            there = there-too;
            old_by = λ a is. let both = add-up renewed (bound_of x p.0) a is in omega (arith, late both.left both.right both.left_is both.right_is, both.sum);
            renewed_by = λ r b is le amidst.
                let both = add-up renewed (bound_plus (bound_of x p.0) (Within 0)) r is in
                let inner = add-up (bound_of x p.0) (Within 0) both.right both.right_is in
                omega (arith, renews both.left inner.left b both.left_is inner.left_is (starts-then (is_activated_by s p.0 c.0) (eqb (length (task_at s c.0).after) 1) (ap is_start same)) le amidst, both.sum, inner.sum);
            order = λ r is.
                let both = add-up renewed (bound_plus (bound_of x p.0) (Within 0)) r is in
                let inner = add-up (bound_of x p.0) (Within 0) both.right both.right_is in
                (both.left + inner.left, (λ i. bound_plus (both.left_is i) (inner.left_is i)), omega (arith, both.sum, inner.sum));
          }
      by_step Register same =
          record {
            there = there-too;
            old_by = λ a is. let both = add-up renewed (bound_of x p.0) a is in omega (arith, late both.left both.right both.left_is both.right_is, both.sum);
            renewed_by = λ r b is le amidst.
                let both = add-up renewed (bound_plus (bound_of x p.0) (wait_of s x c.0)) r is in
                let inner = add-up (bound_of x p.0) (wait_of s x c.0) both.right both.right_is in
                let soon = next-soon c.0 b inner.right hc inner.right_is amidst in
                omega (arith, soon.1, arrivals-order s tr rules obeys t c.0 b n hc there-too le, late both.left inner.left both.left_is inner.left_is, both.sum, inner.sum);
            order = λ r is.
                let both = add-up renewed (bound_plus (bound_of x p.0) (wait_of s x c.0)) r is in
                let inner = add-up (bound_of x p.0) (wait_of s x c.0) both.right both.right_is in
                (both.left + inner.left, (λ i. bound_plus (both.left_is i) (inner.left_is i)), omega (arith, both.sum, inner.sum));
          }

      pub has-plain : Stands c.0 n origin (bound_plus (read_from (step_between s p.0 c.0) old renewed) (bound_of x p.0)) (bound_plus renewed (bound_plus (bound_of x p.0) (reading_wait (step_between s p.0 c.0) (wait_of s x c.0))))
      has-plain = by_step (step_between s p.0 c.0) refl

-- ---- words

pub word-later : (reading : Reading) (s : SystemLists) (tasks : List TaskId) (k : ℕ) → (k ≡ 0 → ⊥)
    → passage_word (passage_between reading s (task_in tasks (k - 1)).0 (task_in tasks k).0) ≡ place_word reading s tasks k
word-later reading s tasks zero later = absurd (later refl)
word-later reading s tasks (suc k) later =
    let e : suc k - 1 ≡ k = omega arith in
    let f : k + 1 ≡ suc k = omega arith in
    (λ i. passage_word (passage_between reading s (task_in tasks (e i)).0 (task_in tasks (sym f i)).0))
