-- The streams of an input: those of a task's activators one after the other, each as that sends it.
use Rattle.std.proofs.Common.{◌≡◌, ℕ, zero, suc, ◌+◌, ◌<◌, ◌++◌, List, [], ◌∷◌, length, map, true, false, Option, Some, None, refl, sym, ◌∙◌, ap, subst, inl, inr, arith, length-append}
use Rattle.std.specs.Prelude.{◌≢◌, All, AllPairs, slice_get}
use Rattle.std.specs.List.{list_any, flat_map}
use Rattle.std.proofs.lemmas.List.{length-map}
use Rattle.std.proofs.lemmas.Bool.{cases_Bool, or_right}
use Rattle.cpa_units.specs.declared.bound.Bound.{Bound}
use Rattle.cpa_units.specs.declared.bound.Bound.TheVariants.{Within, Overload}
use Rattle.cpa_units.specs.Bounds.{bound_of}
use Rattle.cpa_events.specs.declared.stream.Stream.{Stream}
use Rattle.cpa_events.specs.Streams.{IsStream, stream_after_response}
use Rattle.cpa_events.specs.Events.{Model, after_response}
use Rattle.cpa_model.specs.declared.entries.Activator.{Activator}
use Rattle.cpa_model.specs.declared.entries.Activator.TheVariants.{Source, Task}
use Rattle.cpa_model.specs.Chains.{activators, streams_step, streams_within}
use Rattle.cpa_model.specs.Streams.{source_model}
use Rattle.cpa_model.specs.SystemLists.{SystemLists, task_at}
use Rattle.cpa_model.proofs.SystemLaws.{activators_at}
use Rattle.cpa_local.specs.Inputs.{output_of, sent_by, joined, sent_by_all, input_along}
use Rattle.cpa_sound.specs.JobStreams.{is_same, streams_before}
use Rattle.cpa_sound.proofs.Parts.{EachStream}
use Rattle.cpa_sound.proofs.StreamLaws.{streams-append}
use Rattle.cpa_sound.proofs.CauseStreams.{same-is, is-same, member-has, before-here, before-there}

-- ---- options of models

same-model : (a b : Model) → Some a ≡ Some b → a ≡ b
same-model a b e = cc

-- two inputs that are joined
pub record Joined (o p : Option Model) (ms : Model) : Type 0 where
  pub first : Model
  pub second : Model
  pub left : o ≡ Some first
  pub right : p ≡ Some second
  pub is : ms ≡ first ++ second

pub joined-parts : (o p : Option Model) (ms : Model) → joined o p ≡ Some ms → Joined o p ms
joined-parts (Some m) (Some n) ms e = record { first = m; second = n; left = refl; right = refl; is = same-model ms (m ++ n) (sym e) }
joined-parts (Some m) None ms e = absurd cc
joined-parts None p ms e = absurd cc

-- what comes out of a task
pub record Output (best : ℕ) (b : Bound) (o : Option Model) (ms : Model) : Type 0 where
  pub number : ℕ
  pub input : Model
  pub within : b ≡ Within number
  pub bounded : o ≡ Some input
  pub is : ms ≡ after_response input best number

pub output-parts : (best : ℕ) (b : Bound) (o : Option Model) (ms : Model) → output_of best b o ≡ Some ms → Output best b o ms
output-parts best (Within r) (Some m) ms e = record { number = r; input = m; within = refl; bounded = refl; is = same-model ms (after_response m best r) (sym e) }
output-parts best (Within r) None ms e = absurd cc
output-parts best Overload o ms e = absurd cc

-- ---- members of models by place

pub get-less : (m : Model) (q : ℕ) (st : Stream) → slice_get m q ≡ Some st → q < length m
get-less [] q st e = absurd cc
get-less (u ∷ m) zero st e = omega arith
get-less (u ∷ m) (suc q) st e = omega (arith, get-less m q st e)

pub get-out : (f : Stream → Stream) (m : Model) (q : ℕ) (st : Stream) → slice_get (map f m) q ≡ Some st → (u : Stream) × (slice_get m q ≡ Some u) × (st ≡ f u)
get-out f [] q st e = absurd cc
get-out f (u ∷ m) zero st e = (u, refl, same (f u) st e)
  where
    same : (a b : Stream) → Some a ≡ Some b → b ≡ a
    same a b h = cc
get-out f (u ∷ m) (suc q) st e = get-out f m q st e

pub get-stream : (m : Model) (q : ℕ) (st : Stream) → All IsStream m → slice_get m q ≡ Some st → IsStream st
get-stream [] q st all e = absurd cc
get-stream (u ∷ m) zero st all e = subst IsStream (same u st e) (all 0 u (omega arith))
  where
    same : (a b : Stream) → Some a ≡ Some b → a ≡ b
    same a b h = cc
get-stream (u ∷ m) (suc q) st all e = get-stream m q st (λ k d less. all (suc k) d (omega arith)) e

module _ (s : SystemLists) (x : List Bound) where
  -- ---- how many streams are sent

  sent-width : (n : ℕ) → ((j : ℕ) (m : Model) → input_along s x n j ≡ Some m → length m ≡ length (streams_within (activators s.tasks) n j))
      → (a : Activator) (p : Model) → sent_by s x (input_along s x n) a ≡ Some p → length p ≡ length (streams_step a (streams_within (activators s.tasks) n))
  sent-width n deeper (Source k) p e = ap length (sym (same-model (source_model s k.0) p e))
  sent-width n deeper (Task j) p e =
      let out = output-parts (task_at s j.0).best (bound_of x j.0) (input_along s x n j.0) p e in
      ap length out.is ∙ (length-map out.input (stream_after_response (task_at s j.0).best out.number) ∙ deeper j.0 out.input out.bounded)

  all-width : (n : ℕ) → ((j : ℕ) (m : Model) → input_along s x n j ≡ Some m → length m ≡ length (streams_within (activators s.tasks) n j))
      → (list : List Activator) (m : Model) → sent_by_all s x (input_along s x n) list ≡ Some m → length m ≡ length (flat_map (λ a. streams_step a (streams_within (activators s.tasks) n)) list)
  all-width n deeper [] m e = ap length (sym (same-model [] m e))
  all-width n deeper (a ∷ others) m e =
      let parts = joined-parts (sent_by s x (input_along s x n) a) (sent_by_all s x (input_along s x n) others) m e in
      omega (
        arith,
        ap length parts.is,
        length-append parts.first parts.second,
        sent-width n deeper a parts.first parts.left,
        all-width n deeper others parts.second parts.right,
        length-append (streams_step a (streams_within (activators s.tasks) n)) (flat_map (λ a. streams_step a (streams_within (activators s.tasks) n)) others),
      )

  -- an input has the streams of its task
  pub input-width : (n i : ℕ) (m : Model) → input_along s x n i ≡ Some m → length m ≡ length (streams_within (activators s.tasks) n i)
  unfolding streams_within
  input-width zero i m e = absurd cc
  input-width (suc n) i m e = rw (activators_at s.tasks i) (all-width n (input-width n) (task_at s i).after m e)

  -- ---- what holds of each stream that is sent

  tail-differs : (a : Activator) (others : List Activator) → AllPairs (λ a b. a ≢ b) (a ∷ others) → (b : Activator) → list_any (is_same b) others ≡ true → is_same b a ≡ false
  tail-differs a others differ b member =
      elim (cases_Bool (is_same b a)) [
        | inr e ↦ e
        | inl e ↦ absurd (member-has (λ c. a ≢ c) others b (λ k d less. differ 0 (suc k) d (omega arith) (omega arith)) member (sym (same-is b a e)))
      ]

  module _ (n : ℕ) (P : ℕ → Stream → Type 0) where
    -- so it is for each stream of some activators, numbered from `first` on
    pub all-sent : (list : List Activator) (first : ℕ) → AllPairs (λ a b. a ≢ b) list
        → ((a : Activator) → list_any (is_same a) list ≡ true → (p : Model) → sent_by s x (input_along s x n) a ≡ Some p → EachStream P (first + streams_before (streams_within (activators s.tasks) n) a list) p)
        → (m : Model) → sent_by_all s x (input_along s x n) list ≡ Some m → EachStream P first m
    all-sent [] first differ each m e = λ q st is. absurd (let none = rw (← same-model [] m e) at is in cc)
    all-sent (a ∷ others) first differ each m e =
        let deeper = streams_within (activators s.tasks) n in
        let parts = joined-parts (sent_by s x (input_along s x n) a) (sent_by_all s x (input_along s x n) others) m e in
        let own : list_any (is_same a) (a ∷ others) ≡ true = rw (is-same a a refl) refl in
        let none = before-here deeper a a others (is-same a a refl) in
        let z : first + 0 ≡ first = omega arith in
        let here = rw (none, z) at (each a own parts.first parts.left) in
        let long = sent-width n (input-width n) a parts.first parts.left in
        let rest = all-sent others (first + length parts.first) (λ i j d less last. differ (suc i) (suc j) d (omega arith) (omega arith))
        (λ b member p is.
        let there = before-there deeper b a others (tail-differs a others differ b member) in
        let place : first + streams_before deeper b (a ∷ others) ≡ first + length parts.first + streams_before deeper b others = omega (arith, there, long) in
        rw place at (each b (or_right (is_same b a) (list_any (is_same b) others) member) p is))
        parts.second parts.right in
        rw parts.is (streams-append P first parts.first parts.second here rest)
