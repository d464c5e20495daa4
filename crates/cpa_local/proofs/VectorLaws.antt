-- Vectors by place, and that there is one least solution at most.
use Rattle.std.proofs.Common.{◌≡◌, ℕ, ◌<◌, ◌≤◌, length, List, map, sym, ◌∙◌, arith}
use Rattle.std.proofs.lemmas.List.{ext_get_or}
use Rattle.std.proofs.lemmas.List.FromFn.{get_or-map-range_with_len, length-map-range_with_len}
use Rattle.cpa_units.specs.declared.bound.Bound.{Bound}
use Rattle.cpa_units.specs.declared.bound.Bound.TheVariants.{Within, Overload}
use Rattle.cpa_units.specs.declared.limits.TheConstants.{MAX_LIMIT}
use Rattle.cpa_units.specs.Bounds.{IsAtMost, RespectsLimit, IsNowhereAbove, bound_of}
use Rattle.cpa_units.proofs.BoundLaws.{IsAtMost_antisymm}
use Rattle.cpa_model.specs.SystemLists.{SystemLists, task_at, task_places, no_task}
use Rattle.cpa_model.specs.Rules.{IsSystem, IsTask}
use Rattle.cpa_local.specs.Solution.{IsVector, IsLeast, floor_of}

-- vectors by place

pub bound_of-places : (s : SystemLists) (f : ℕ → Bound) (i : ℕ) → i < length s.tasks → bound_of (map f (task_places s)) i ≡ f i
bound_of-places s f i less = get_or-map-range_with_len f 0 (length s.tasks) i i (Within 0) less (omega arith)

-- what is within a limit is within a greater one
pub weaker_limit : (m n : ℕ) (b : Bound) → m ≤ n → RespectsLimit m b → RespectsLimit n b
weaker_limit m n (Within a) h k = omega arith
weaker_limit m n Overload h k = tt

-- bounds by place are a vector where each lies from the least execution to the greatest number
pub vector-from : (s : SystemLists) (f : ℕ → Bound) → ((i : ℕ) → i < length s.tasks → IsAtMost (Within (task_at s i).best) (f i))
    → ((i : ℕ) → i < length s.tasks → RespectsLimit MAX_LIMIT (f i)) → IsVector s (map f (task_places s))
vector-from s f low high =
    record {
      long = length-map-range_with_len f 0 (length s.tasks);
      low = λ i less. rw (bound_of-places s f i less) (low i less);
      high = λ i less. rw (bound_of-places s f i less) (high i less);
    }

pub floor-vector : (s : SystemLists) → IsSystem s → IsVector s (floor_of s)
floor-vector s rules =
    vector-from s (λ i. Within (task_at s i).best) (λ i less. omega arith)
    (λ i less. let t : IsTask s (task_at s i) = rules.tasks i no_task less in omega (arith, t.ordered, t.worst))

-- there is no other

-- vectors that are nowhere above each other are one
pub same_bounds : (x y : List Bound) → length x ≡ length y → IsNowhereAbove x y → IsNowhereAbove y x → x ≡ y
same_bounds x y long h k = ext_get_or (Within 0) x y long (λ i less. IsAtMost_antisymm (bound_of x i) (bound_of y i) (h i) (k i))

pub least-one : (s : SystemLists) (x y : List Bound) → IsLeast s x → IsLeast s y → x ≡ y
least-one s x y h k = same_bounds x y (h.vector.long ∙ sym k.vector.long) (h.least y k.vector k.closed) (k.least x h.vector h.closed)
