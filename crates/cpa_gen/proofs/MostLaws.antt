-- The most events of a source in generated traces.
use Rattle.std.proofs.Common.{◌≡◌, ◌<◌, ◌≤◌, ℕ, ◌+◌, ◌*◌, ◌/◌, max, min, List, [], ◌∷◌, All, length, sum_by, slice_index_or, ap, arith, subst}
use Rattle.std.proofs.Math.Nat.{le_trans, div-mul-le_self}
use Rattle.std.proofs.lemmas.Nat.{le-div, mul-le}
use Rattle.std.proofs.lemmas.List.FromFn.{get_or-range_with_len, length-range_with_len}
use Rattle.std.proofs.lemmas.List.Sums.{sum_by-cons, sum_by-le}
use Rattle.cpa_units.specs.declared.limits.TheConstants.{MAX_TRACE_JOBS}
use Rattle.cpa_units.specs.declared.limits.Size.TheVariants.{Small}
use Rattle.cpa_units.specs.Sizes.{most_tasks}
use Rattle.cpa_model.proofs.SystemLaws.{streams_of-few}
use Rattle.cpa_model.specs.SystemLists.{SystemLists, streams_of, task_places}
use Rattle.cpa_model.specs.Rules.{IsSystem}
use Rattle.cpa_gen.specs.Laws.{EventsAreAHundred, EventsAreFew}
use Rattle.cpa_gen.specs.MadeTraces.{most_made, streams_in}

-- sums of which each part is at most so many times that of another
pub sums-scaled : (c : ℕ) (f g : ℕ → ℕ) → ((i : ℕ) → f i ≤ c * g i) → (xs : List ℕ) → sum_by f xs ≤ c * sum_by g xs
sums-scaled c f g each [] = omega arith
sums-scaled c f g each (x ∷ xs) =
    let spread : c * (g x + sum_by g xs) ≡ c * g x + c * sum_by g xs = omega arith in
    let whole : c * sum_by g (x ∷ xs) ≡ c * (g x + sum_by g xs) = ap (λ n. c * n) (sum_by-cons g x xs) in
    omega (arith, whole, spread, each x, sums-scaled c f g each xs, sum_by-cons f x xs)

pub most_made-few : (s : SystemLists) → most_made s ≤ 100
unfolding most_made
most_made-few s = omega arith

pub most_made-jobs : (s : SystemLists) → most_made s * streams_in s ≤ MAX_TRACE_JOBS
unfolding most_made
most_made-jobs s =
    let some = max (streams_in s) 1 in
    let most = min 100 (2000000 / some) in
    le_trans (mul-le most (streams_in s) (2000000 / some) some (omega arith) (omega arith)) (div-mul-le_self 2000000 some)

pub events_are_few : EventsAreFew
events_are_few s = (most_made-few s, most_made-jobs s)

-- a small system has at most 16384 streams
small-streams : (s : SystemLists) → IsSystem s → s.size ≡ Small → streams_in s ≤ 16384
small-streams s rules small =
    let few : length s.tasks ≤ 512 = subst (λ z. length s.tasks ≤ most_tasks z) small rules.sized.tasks in
    let long = length-range_with_len 0 (length s.tasks) in
    let each : All (λ i. length (streams_of s i) ≤ 32) (task_places s) = λ k d l.
    let less : k < length s.tasks = omega (arith, l, long) in
    let here : slice_index_or (task_places s) k d ≡ 0 + k = get_or-range_with_len 0 (length s.tasks) k d less in
    streams_of-few s rules (slice_index_or (task_places s) k d) (omega arith) in
    omega (arith, sum_by-le (λ i. length (streams_of s i)) 32 (task_places s) each, long, few)

pub events_are_a_hundred : EventsAreAHundred
unfolding most_made
events_are_a_hundred s rules small =
    let some = max (streams_in s) 1 in
    let few = small-streams s rules small in
    let enough : 100 ≤ 2000000 / some = le-div 100 2000000 some (omega arith) (omega (arith, few)) in
    omega (arith, enough)
