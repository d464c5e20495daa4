-- Sums of bounds that are numbers, and the next event of several streams.
use Rattle.std.proofs.Common.{◌≡◌, ◌⊎◌, ℕ, zero, suc, ◌+◌, ◌*◌, ◌<◌, ◌≤◌, ◌++◌, List, [], ◌∷◌, length, min, Some, refl, sym, ◌∙◌, ap, subst, inl, inr, arith}
use Rattle.std.specs.Prelude.{fold, slice_get, slice_index_or}
use Rattle.std.specs.List.{range_with_len}
use Rattle.std.proofs.lemmas.Bool.{cases_lt}
use Rattle.cpa_units.proofs.PlaceLaws.{places-more}
use Rattle.cpa_units.specs.declared.limits.TheConstants.{MAX_LIMIT}
use Rattle.cpa_units.specs.declared.bound.Bound.{Bound}
use Rattle.cpa_units.specs.declared.bound.Bound.TheVariants.{Within, Overload}
use Rattle.cpa_units.specs.Bounds.{RespectsLimit, bound_plus, sum_bounds}
use Rattle.cpa_local.proofs.VectorLaws.{weaker_limit}
use Rattle.cpa_local.proofs.PathLaws.{plus-limit}
use Rattle.cpa_events.specs.declared.stream.Stream.{Stream}
use Rattle.cpa_events.specs.Streams.{stream_delta_plus, IsStreamInRange}
use Rattle.cpa_events.specs.Events.{Model, IsModelInRange}
use Rattle.cpa_units.specs.declared.places.TaskId.{TaskId}
use Rattle.cpa_units.specs.Bounds.{bound_of}
use Rattle.cpa_model.specs.SystemLists.{SystemLists}
use Rattle.cpa_local.specs.Solution.{IsVector}
use Rattle.cpa_effects.specs.declared.steps.Step.{Step}
use Rattle.cpa_effects.specs.declared.steps.Step.TheVariants.{Register, Merge, Activation}
use Rattle.cpa_effects.specs.declared.steps.Reading.{Reading}
use Rattle.cpa_effects.specs.declared.steps.Passage.{Passage}
use Rattle.cpa_effects.specs.declared.steps.Passage.TheVariants.{By, FromAbove, OfOneSource}
use Rattle.cpa_effects.specs.Bounds.{next_of, sooner, next_event, task_in, passage_in, wait_of, forward, read_from, backward_cost, renewed_after, arrives_after}

-- ---- sums

ticks_of : Bound → ℕ
ticks_of (Within n) = n
ticks_of Overload = 0

number_is : Bound → Type 0
number_is (Within n) = Unit {0}
number_is Overload = ⊥

pub within-injective : (a b : ℕ) → Within a ≡ Within b → a ≡ b
unfolding ticks_of
within-injective a b e = ap ticks_of e

pub overload-no_number : (n : ℕ) → Overload ≡ Within n → ⊥
unfolding number_is
overload-no_number n e = subst number_is (sym e) tt

-- two bounds whose sum is a number
pub record AddUp (a b : Bound) (n : ℕ) : Type 0 where
  pub left : ℕ
  pub right : ℕ
  pub left_is : a ≡ Within left
  pub right_is : b ≡ Within right
  pub sum : left + right ≡ n

pub add-up : (a b : Bound) (n : ℕ) → bound_plus a b ≡ Within n → AddUp a b n
add-up (Within a) (Within b) n e = record { left = a; right = b; left_is = refl; right_is = refl; sum = within-injective (a + b) n e }
add-up (Within a) Overload n e = absurd (overload-no_number n e)
add-up Overload b n e = absurd (overload-no_number n e)

plus-none : (b : Bound) → bound_plus b (Within 0) ≡ bound_plus (Within 0) b
plus-none (Within n) = ap Within (omega arith)
plus-none Overload = refl

pub no-more : (b : Bound) → bound_plus (Within 0) b ≡ b
no-more (Within n) = ap Within (omega arith)
no-more Overload = refl

pub plus-joins : (a b c : Bound) → bound_plus (bound_plus a b) c ≡ bound_plus a (bound_plus b c)
plus-joins (Within a) (Within b) (Within c) = ap Within (omega arith)
plus-joins (Within a) (Within b) Overload = refl
plus-joins (Within a) Overload c = refl
plus-joins Overload b c = refl

pub sum-last : (f : ℕ → Bound) (xs : List ℕ) (y : ℕ) → sum_bounds f (xs ++ y ∷ []) ≡ bound_plus (sum_bounds f xs) (f y)
sum-last f [] y = plus-none (f y)
sum-last f (x ∷ xs) y = ap (bound_plus (f x)) (sum-last f xs y) ∙ sym (plus-joins (f x) (sum_bounds f xs) (f y))

-- what rises from place to place by no more than a number has risen by no more than their sum
pub climb : (a : ℕ → ℕ) (cost : ℕ → Bound) (n r : ℕ) → sum_bounds cost (range_with_len 0 n) ≡ Within r
    → ((k c : ℕ) → k < n → cost k ≡ Within c → a (k + 1) ≤ a k + c) → a n ≤ a 0 + r
climb a cost zero r sum step = omega arith
climb a cost (suc n) r sum step =
    let e : suc n ≡ n + 1 = omega arith in
    let all = subst (λ m. sum_bounds cost (range_with_len 0 m) ≡ Within r) e sum in
    let h = add-up (sum_bounds cost (range_with_len 0 n)) (cost n) r (sym (ap (sum_bounds cost) (places-more n) ∙ sum-last cost (range_with_len 0 n) n) ∙ all) in
    let before = climb a cost n h.left h.left_is (λ k c less is. step k c (omega (arith, less)) is) in
    let here = step n h.right (omega arith) h.right_is in
    rw e (omega (arith, before, here, h.sum))

-- ---- the next event

-- a stream of a model has it
pub record HasNext (m : Model) (next : ℕ) : Type 0 where
  pub place : ℕ
  pub stream : Stream
  pub is : slice_get m place ≡ Some stream
  pub within : place < length m
  pub next_is : next_of stream ≡ next

has-next_more : (st : Stream) (m : Model) (next : ℕ) → HasNext m next → HasNext (st ∷ m) next
has-next_more st m next h = record { place = suc h.place; stream = h.stream; is = h.is; within = omega (arith, h.within); next_is = h.next_is }

least-min : (a b : ℕ) → (min a b ≡ a) ⊎ (min a b ≡ b)
least-min a b = elim (cases_lt a b) [ inl less ↦ inl (omega (arith, less)) | inr more ↦ inr (omega (arith, more)) ]

least-has : (m : Model) (start : ℕ) → (fold sooner start m ≡ start) ⊎ HasNext m (fold sooner start m)
least-has [] start = inl refl
least-has (st ∷ m) start =
    elim (least-has m (sooner start st)) [
      | inr h ↦ inr (has-next_more st m (fold sooner (sooner start st) m) h)
      | inl e ↦
          elim (least-min start (next_of st)) [
            | inl old ↦ inl (e ∙ old)
            | inr own ↦ inr (record { place = 0; stream = st; is = refl; within = omega arith; next_is = sym (e ∙ own) })
          ]
    ]

pub next-has : (m : Model) → 0 < length m → HasNext m (next_event m)
next-has [] some = absurd (omega arith)
next-has (st ∷ m) some =
    elim (least-has m (next_of st)) [
      | inl e ↦ record { place = 0; stream = st; is = refl; within = omega arith; next_is = sym e }
      | inr h ↦ has-next_more st m (next_event (st ∷ m)) h
    ]

-- ---- what loops know

-- a list's first stream counts once more
pub all-streams : (m : Model) (d : Stream) → 0 < length m → fold sooner (next_of (slice_index_or m 0 d)) m ≡ next_event m
all-streams [] d some = absurd (omega arith)
all-streams (st ∷ m) d some = let e : min (next_of st) (next_of st) ≡ next_of st = omega arith in ap (λ a. fold sooner a m) e

-- one step more, in a sum that is known to be small
pub one-more : (f : ℕ → Bound) (k : ℕ) (sum part more : Bound) → sum ≡ sum_bounds f (range_with_len 0 k) → part ≡ f k → more ≡ bound_plus sum part → more ≡ sum_bounds f (range_with_len 0 (k + 1))
one-more f k sum part more before here is =
    is ∙ ap (λ b. bound_plus b part) before ∙ ap (bound_plus (sum_bounds f (range_with_len 0 k))) here
    ∙ sym (ap (sum_bounds f) (places-more k) ∙ sum-last f (range_with_len 0 k) k)

pub limit-more : (k : ℕ) (sum part more : Bound) → RespectsLimit (k * 5300000000) sum → RespectsLimit 5300000000 part → more ≡ bound_plus sum part → RespectsLimit ((k + 1) * 5300000000) more
limit-more k sum part more before here is =
    subst (RespectsLimit ((k + 1) * 5300000000)) (sym is)
    (weaker_limit (k * 5300000000 + 5300000000) ((k + 1) * 5300000000) (bound_plus sum part) (omega arith) (plus-limit (k * 5300000000) 5300000000 sum part before here))

pub next-small : (st : Stream) → IsStreamInRange st → next_of st ≤ 5200000000
unfolding stream_delta_plus
next-small st h = omega (arith, h.period, h.jitter)

pub next-small_at : (m : Model) (k : ℕ) (st : Stream) → IsModelInRange m → k < length m → st ≡ slice_index_or m k st → next_of st ≤ 5200000000
next-small_at m k st h less is = next-small st (subst IsStreamInRange (sym is) (h.each k st less))

-- ---- what loops of a chain's bounds know

plus-zero : (b : Bound) → bound_plus b (Within 0) ≡ b
plus-zero b = plus-none b ∙ no-more b

base-limit : (step : Step) (n : ℕ) (old renewed : Bound) → RespectsLimit n old → RespectsLimit n renewed → RespectsLimit n (read_from step old renewed)
base-limit Register n old renewed h g = g
base-limit Merge n old renewed h g = g
base-limit Activation n old renewed h g = h

cost-limit : (g : Passage) (n : ℕ) (response old renewed : Bound) → RespectsLimit n old → RespectsLimit n renewed → RespectsLimit 1000000000 response → RespectsLimit (n + 5300000000) (backward_cost g response old renewed)
cost-limit (By step) n response old renewed h g r =
    weaker_limit (n + 1000000000) (n + 5300000000) (bound_plus (read_from step old renewed) response) (omega arith) (plus-limit n 1000000000 (read_from step old renewed) response (base-limit step n old renewed h g) r)
cost-limit FromAbove n response old renewed h g r = weaker_limit n (n + 5300000000) renewed (omega arith) g
cost-limit OfOneSource n response old renewed h g r = weaker_limit n (n + 5300000000) old (omega arith) h

pub renewed-small : (w : Bound) → RespectsLimit 5200000000 w → RespectsLimit ((0 + 1) * 5300000000) w
renewed-small w h = weaker_limit 5200000000 ((0 + 1) * 5300000000) w (omega arith) h

module _ (reading : Reading) (s : SystemLists) (x : List Bound) (tasks : List TaskId) where
  pub renewed-next : (k : ℕ) → renewed_after reading s x tasks (k + 1) ≡ bound_plus (renewed_after reading s x tasks k) (forward reading s x tasks k)
  renewed-next k =
      let f : ℕ → Bound = forward reading s x tasks in
      let w : Bound = wait_of s x (task_in tasks 0).0 in
      ap (bound_plus w) (ap (sum_bounds f) (places-more k) ∙ sum-last f (range_with_len 0 k) k) ∙ sym (plus-joins w (sum_bounds f (range_with_len 0 k)) (f k))

  pub arrives-first : Within 0 ≡ arrives_after reading s x tasks 0
  unfolding arrives_after
  arrives-first = refl

  arrives-suc : (k : ℕ) → arrives_after reading s x tasks (suc k) ≡ backward_cost (passage_in reading s tasks k) (bound_of x (task_in tasks k).0) (arrives_after reading s x tasks k) (renewed_after reading s x tasks k)
  unfolding arrives_after
  arrives-suc k = refl

  pub arrives-next : (k : ℕ) → arrives_after reading s x tasks (k + 1) ≡ backward_cost (passage_in reading s tasks k) (bound_of x (task_in tasks k).0) (arrives_after reading s x tasks k) (renewed_after reading s x tasks k)
  arrives-next k = let e : k + 1 ≡ suc k = omega arith in ap (arrives_after reading s x tasks) e ∙ arrives-suc k

  pub renewed-first : (w : Bound) → w ≡ wait_of s x (task_in tasks 0).0 → w ≡ renewed_after reading s x tasks 0
  renewed-first w is = is ∙ sym (plus-zero (wait_of s x (task_in tasks 0).0))

  pub renewed-more : (k : ℕ) (renewed part more : Bound) → renewed ≡ renewed_after reading s x tasks k → part ≡ forward reading s x tasks k → more ≡ bound_plus renewed part → more ≡ renewed_after reading s x tasks (k + 1)
  renewed-more k renewed part more before here is = is ∙ ((λ i. bound_plus (before i) (here i)) ∙ sym (renewed-next k))

  pub arrives-more : (k : ℕ) (old renewed next : Bound) → old ≡ arrives_after reading s x tasks k → renewed ≡ renewed_after reading s x tasks k
      → next ≡ backward_cost (passage_in reading s tasks k) (bound_of x (task_in tasks k).0) old renewed → next ≡ arrives_after reading s x tasks (k + 1)
  arrives-more k old renewed next one two is =
      is ∙ ((λ i. backward_cost (passage_in reading s tasks k) (bound_of x (task_in tasks k).0) (one i) (two i)) ∙ sym (arrives-next k))

  pub arrives-small : (k : ℕ) (old renewed next : Bound) → IsVector s x → (task_in tasks k).0 < length s.tasks → RespectsLimit ((k + 1) * 5300000000) old → RespectsLimit ((k + 1) * 5300000000) renewed
      → next ≡ backward_cost (passage_in reading s tasks k) (bound_of x (task_in tasks k).0) old renewed → RespectsLimit (((k + 1) + 1) * 5300000000) next
  arrives-small k old renewed next vector there h g is =
      let e : (k + 1) * 5300000000 + 5300000000 ≡ ((k + 1) + 1) * 5300000000 = omega arith in
      subst (λ n. RespectsLimit n next) e
      (subst (RespectsLimit ((k + 1) * 5300000000 + 5300000000)) (sym is)
      (cost-limit (passage_in reading s tasks k) ((k + 1) * 5300000000) (bound_of x (task_in tasks k).0) old renewed h g (weaker_limit MAX_LIMIT 1000000000 (bound_of x (task_in tasks k).0) (omega arith) (vector.high (task_in tasks k).0 there))))
