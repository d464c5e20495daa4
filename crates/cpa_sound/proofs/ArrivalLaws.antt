-- What jobs need, how many end in a tick, and how many events of a source come before a time.
use Rattle.std.proofs.Common.{◌≡◌, ℕ, zero, suc, ◌+◌, ◌-◌, ◌<◌, ◌≤◌, length, List, [], ◌∷◌, inl, inr, arith, get_or}
use Rattle.std.proofs.lemmas.Bool.{cases_lt}
use Rattle.std.proofs.lemmas.List.{get_or_past}
use Rattle.cpa_model.specs.SystemLists.{SystemLists, task_at}
use Rattle.cpa_trace.specs.Trace.{TraceLists, times_of, executions_of, need, Obeys}
use Rattle.cpa_sim.specs.Run.{ended_count, served, ends_in, run}
use Rattle.cpa_sim.proofs.EventCounts.{events_before, before-lt, before-ge, before-le}
use Rattle.cpa_sim.proofs.JobCount.{ended-served}

-- ---- what a job needs

need-listed : (s : SystemLists) (tr : TraceLists) (i k : ℕ) (P : ℕ → Type 0) → ((k : ℕ) → k < length (executions_of tr i) → P (need s tr i k)) → P (task_at s i).worst → P (need s tr i k)
need-listed s tr i k P listed past =
    elim (cases_lt k (length (executions_of tr i))) [
      | inl h ↦ listed k h
      | inr h ↦ rw (get_or_past (executions_of tr i) k (task_at s i).worst h) past
    ]

pub need-least : (s : SystemLists) (tr : TraceLists) (i k : ℕ) → Obeys s tr → i < length s.tasks → (task_at s i).best ≤ (task_at s i).worst → (task_at s i).best ≤ need s tr i k
need-least s tr i k obeys h range = need-listed s tr i k (λ n. (task_at s i).best ≤ n) (λ l in_list. obeys.least i l h in_list) range

pub need-greatest : (s : SystemLists) (tr : TraceLists) (i k : ℕ) → Obeys s tr → i < length s.tasks → need s tr i k ≤ (task_at s i).worst
need-greatest s tr i k obeys h = need-listed s tr i k (λ n. n ≤ (task_at s i).worst) (λ l in_list. obeys.greatest i l h in_list) (omega arith)

-- ---- how many end in a tick

module _ (s : SystemLists) (tr : TraceLists) where
  pub ends_in-is : (t i : ℕ) → ended_count ((run s tr t).jobs i) + ends_in s tr t (run s tr t) i ≡ ended_count (served s tr t (run s tr t) i)
  unfolding ends_in
  ends_in-is t i = omega (arith, ended-served s tr t i)

-- ---- counting the events before a time

-- no event is before an earlier one
pub IsInTimeOrder : List ℕ → Type 0
IsInTimeOrder times = (k l : ℕ) → k ≤ l → l < length times → get_or times k 0 ≤ get_or times l 0

pub in_order-from : (s : SystemLists) (tr : TraceLists) (k : ℕ) → Obeys s tr → IsInTimeOrder (times_of tr k)
unfolding IsInTimeOrder
in_order-from s tr k obeys n l le last =
    let e : n + (l - n) ≡ l = omega arith in
    let far = obeys.apart k n (l - n) (rw e last) in
    let far' = rw e at far in
    omega arith

in_order-tail : (x : ℕ) (xs : List ℕ) → IsInTimeOrder (x ∷ xs) → IsInTimeOrder xs
unfolding IsInTimeOrder
in_order-tail x xs h k l le last = h (suc k) (suc l) (omega arith) (omega arith)

in_order-head : (x : ℕ) (xs : List ℕ) (l : ℕ) → IsInTimeOrder (x ∷ xs) → l < length xs → x ≤ get_or xs l 0
unfolding IsInTimeOrder
in_order-head x xs l h last = h zero (suc l) (omega arith) (omega arith)

none_before : (x : ℕ) (xs : List ℕ) (t : ℕ) → ((l : ℕ) → l < length xs → x ≤ get_or xs l 0) → t ≤ x → events_before xs t ≡ 0
none_before x [] t h le = omega (arith, before-le [] t)
none_before x (y ∷ xs) t h le =
    let first : x ≤ y = h zero (omega arith) in
    omega (arith, before-ge y xs t (omega arith), none_before x xs t (λ l in_list. h (suc l) (omega arith)) le)

-- event k is before a time where more than k events are
pub is_before : (xs : List ℕ) (k t : ℕ) → IsInTimeOrder xs → k < events_before xs t → get_or xs k 0 < t
is_before [] k t order h = absurd (omega (arith, before-le [] t))
is_before (x ∷ xs) zero t order h =
    elim (cases_lt x t) [
      | inl less ↦ less
      | inr more ↦ absurd (omega (arith, before-ge x xs t more, none_before x xs t (λ l in_list. in_order-head x xs l order in_list) more))
    ]
is_before (x ∷ xs) (suc k) t order h =
    elim (cases_lt x t) [
      | inl less ↦ is_before xs k t (in_order-tail x xs order) (omega (arith, before-lt x xs t less))
      | inr more ↦ absurd (omega (arith, before-ge x xs t more, none_before x xs t (λ l in_list. in_order-head x xs l order in_list) more))
    ]

-- and no sooner where no more than k are
pub is_from : (xs : List ℕ) (k t : ℕ) → IsInTimeOrder xs → k < length xs → events_before xs t ≤ k → t ≤ get_or xs k 0
is_from [] k t order last h = absurd (omega arith)
is_from (x ∷ xs) zero t order last h =
    elim (cases_lt x t) [ inl less ↦ absurd (omega (arith, before-lt x xs t less)) | inr more ↦ more ]
is_from (x ∷ xs) (suc k) t order last h =
    elim (cases_lt x t) [
      | inl less ↦ is_from xs k t (in_order-tail x xs order) (omega arith) (omega (arith, before-lt x xs t less))
      | inr more ↦ let first = in_order-head x xs k order (omega arith) in omega arith
    ]
