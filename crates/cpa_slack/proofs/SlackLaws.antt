-- What holds with more holds with less, since a longer execution lets no bound fall.
use Rattle.std.proofs.Common.{◌≡◌, ℕ, ◌+◌, ◌<◌, ◌≤◌, ◌==◌, Bool, IsTrue, List, length, Some, refl, ap, sym, ◌∙◌, subst, arith, get_or-set_same, get_or-set_other, length-set, set, slice_index_or, inl, inr, [], ◌∷◌}
use Rattle.std.proofs.lemmas.List.{set-get_or, set-set}
use Rattle.std.proofs.lemmas.Option.{same_Some}
use Rattle.std.proofs.lemmas.Bool.{cases_eq, eq-eqb, eqb-true}
use Rattle.cpa_units.specs.declared.bound.Bound.{Bound}
use Rattle.cpa_units.specs.declared.bound.Bound.TheVariants.{Within}
use Rattle.cpa_units.specs.Sizes.{most_execution}
use Rattle.cpa_units.specs.declared.places.TaskId.{TaskId}
use Rattle.cpa_units.specs.Bounds.{IsAtMost, fits, IsNowhereAbove, bound_of, sum_bounds}
use Rattle.cpa_units.proofs.BoundLaws.{IsAtMost_trans, IsAtMost_refl, fits-true, fits-from, bound_plus-mono}
use Rattle.cpa_model.proofs.KeptRules.{exec-kept}
use Rattle.cpa_model.specs.declared.entries.Path.{Path}
use Rattle.cpa_model.specs.declared.entries.Task.{Task}
use Rattle.cpa_model.specs.SystemLists.{SystemLists, task_at, path_at, no_task, no_path}
use Rattle.cpa_model.specs.Rules.{IsSystem, IsTask}
use Rattle.cpa_model.specs.Changes.{with_task_at, with_exec}
use Rattle.cpa_local.specs.Solution.{IsVector, least_of}
use Rattle.cpa_local.specs.Trails.{Marks, NewMarksAre}
use Rattle.cpa_local.proofs.TrailLaws.{NewMarks_trans, NewMarks-weaker}
use Rattle.cpa_local.proofs.SolutionLaws.{least_of-is_least}
use Rattle.cpa_local.proofs.RaisedLaws.{least_up}
use Rattle.cpa_local.proofs.RaisingChanges.{raising-exec}
use Rattle.cpa_local.specs.Paths.{path_worst}
use Rattle.cpa_slack.specs.Slack.{longer, IsLonger, HoldsPath, HoldsAt, Holds, IsMostUpTo, IsMost}

sum-up : (x y : List Bound) (ts : List TaskId) → IsNowhereAbove x y → IsAtMost (sum_bounds (λ (i : TaskId). bound_of x i.0) ts) (sum_bounds (λ (i : TaskId). bound_of y i.0) ts)
sum-up x y [] up = IsAtMost_refl (Within 0)
sum-up x y (t ∷ ts) up = bound_plus-mono (bound_of x t.0) (bound_of y t.0) _ _ (up t.0) (sum-up x y ts up)

-- lower bounds meet the deadlines that higher ones meet
pub lower-holds : (x y : List Bound) (p : Path) → IsNowhereAbove x y → HoldsPath y p → HoldsPath x p
lower-holds x y p up h = λ d is. IsAtMost_trans (path_worst x p) (path_worst y p) (Within d) (sum-up x y p.tasks up) (h d is)

pub longer-rules : (s : SystemLists) (i k : ℕ) → IsSystem s → i < length s.tasks → (task_at s i).worst + k ≤ most_execution s.size → IsSystem (longer s i k)
longer-rules s i k rules less in_range =
    let it : IsTask s (task_at s i) = rules.tasks i no_task less in
    exec-kept s rules i (task_at s i).best ((task_at s i).worst + k) less it.some_best (omega (arith, it.ordered)) in_range

pub longer-paths : (s : SystemLists) (i k : ℕ) → (longer s i k).paths ≡ s.paths
unfolding with_exec
longer-paths s i k = refl

pub longer-long : (s : SystemLists) (i k : ℕ) → length (longer s i k).tasks ≡ length s.tasks
unfolding with_exec
longer-long s i k = length-set s.tasks i (record (task_at s i) { best = (task_at s i).best; worst = (task_at s i).worst + k })

longer-task : (s : SystemLists) (i k : ℕ) → i < length s.tasks → ((task_at (longer s i k) i).best ≡ (task_at s i).best) × ((task_at (longer s i k) i).worst ≡ (task_at s i).worst + k)
unfolding with_exec
longer-task s i k less =
    let e = get_or-set_same s.tasks i (record (task_at s i) { best = (task_at s i).best; worst = (task_at s i).worst + k }) no_task less in
    (ap (λ (t : Task). t.best) e, ap (λ (t : Task). t.worst) e)

-- executions that are changed again
exec-again : (s : SystemLists) (p best worst best' worst' : ℕ) → p < length s.tasks → with_exec (with_exec s p best worst) p best' worst' ≡ with_exec s p best' worst'
unfolding with_exec
exec-again s p best worst best' worst' less =
    let given : Task = record (task_at s p) { best = best; worst = worst } in
    let it : task_at (with_task_at s p given) p ≡ given = get_or-set_same s.tasks p given no_task less in
    ap (λ (v : Task). with_task_at (with_task_at s p given) p (record v { best = best'; worst = worst' })) it
    ∙ ap (λ (ts : List Task). record s { tasks = ts }) (set-set s.tasks p given (record (task_at s p) { best = best'; worst = worst' }))

-- longer by another number
pub longer-again : (s : SystemLists) (i k m : ℕ) → i < length s.tasks → with_exec (longer s i k) i (task_at s i).best ((task_at s i).worst + m) ≡ longer s i m
longer-again s i k m less = exec-again s i (task_at s i).best ((task_at s i).worst + k) (task_at s i).best ((task_at s i).worst + m) less

-- more time lets no bound fall
pub longer-up : (s : SystemLists) (i k more : ℕ) → IsSystem s → i < length s.tasks → k ≤ more → (task_at s i).worst + more ≤ most_execution s.size → IsNowhereAbove (least_of (longer s i k)) (least_of (longer s i more))
longer-up s i k more rules less le in_range =
    let it = longer-task s i k less in
    subst (λ (t : SystemLists). IsNowhereAbove (least_of (longer s i k)) (least_of t)) (longer-again s i k more less)
    (least_up (longer s i k) (with_exec (longer s i k) i (task_at s i).best ((task_at s i).worst + more)) (longer-rules s i k rules less (omega (arith, le, in_range)))
    (raising-exec (longer s i k) i (task_at s i).best ((task_at s i).worst + more) (omega (arith, it.0)) (omega (arith, it.1, le))))

pub less-holds : (s : SystemLists) (i k more : ℕ) → IsSystem s → i < length s.tasks → k ≤ more → (task_at s i).worst + more ≤ most_execution s.size → Holds (longer s i more) → Holds (longer s i k)
less-holds s i k more rules less le in_range holds = λ n there.
    let same : (longer s i k).paths ≡ (longer s i more).paths = longer-paths s i k ∙ sym (longer-paths s i more) in
    let it : HoldsPath (least_of (longer s i more)) (path_at (longer s i k) n) =
    subst (λ (ps : List Path). n < length ps → HoldsPath (least_of (longer s i more)) (slice_index_or ps n no_path)) (sym same) (holds n) there in
    lower-holds (least_of (longer s i k)) (least_of (longer s i more)) (path_at (longer s i k) n) (longer-up s i k more rules less le in_range) it

-- longer by nothing
pub longer-none : (s : SystemLists) (i : ℕ) → i < length s.tasks → longer s i 0 ≡ s
unfolding with_exec
longer-none s i less =
    let e : (task_at s i).worst + 0 ≡ (task_at s i).worst = omega arith in
    ap (λ (w : ℕ). record s { tasks = set s.tasks i (record (task_at s i) { best = (task_at s i).best; worst = w }) }) e
    ∙ ap (λ (ts : List Task). record s { tasks = ts }) (set-get_or s.tasks i no_task)

-- the test of a path says
pub path-told : (x : List Bound) (p : Path) (d : ℕ) (verdict : Bool) → p.deadline ≡ Some d → verdict ≡ fits (path_worst x p) d
    → (IsTrue verdict → HoldsPath x p) × (HoldsPath x p → IsTrue verdict)
path-told x p d verdict is told = (
  λ passes e also. subst (λ (n : ℕ). IsAtMost (path_worst x p) (Within n)) (same_Some d e (sym is ∙ also)) (fits-true (path_worst x p) d (sym told ∙ passes)),
  λ h. told ∙ fits-from (path_worst x p) d (h d is),
)

-- where the halving ends
pub most-found : (s : SystemLists) (i most holding past : ℕ) → IsSystem s → i < length s.tasks → (task_at s i).worst + most ≤ most_execution s.size
    → holding < past → past ≤ holding + 1 → past ≤ most + 1 → Holds (longer s i holding) → (past ≤ most → ¬ Holds (longer s i past)) → IsMostUpTo s i most holding
most-found s i most holding past rules less in_range below next top holds fails =
    record {
      some = omega arith;
      holds = λ k le. less-holds s i k holding rules less le (omega (arith, in_range, below, top)) holds;
      most = λ k more up_to it. fails (omega (arith, more, up_to, next)) (less-holds s i past k rules less (omega (arith, more, next)) (omega (arith, in_range, up_to)) it);
    }

-- up to the greatest execution
pub most-of_all : (s : SystemLists) (i most ticks : ℕ) (limit : Bool) → (task_at s i).worst + most ≡ most_execution s.size → limit ≡ (ticks == most) → IsMostUpTo s i most ticks → IsMost s i ticks limit
most-of_all s i most ticks limit full told it =
    record {
      in_range = omega (arith, full, it.some);
      holds = it.holds;
      most = λ k more in_range. it.most k more (omega (arith, full, in_range));
      at_limit = (λ yes. let e = eqb-true ticks most (sym told ∙ yes) in omega (arith, full, e), λ e. told ∙ eq-eqb ticks most (omega (arith, full, e)));
    }

-- what may have been lengthened by another number is lengthened again
pub lengthened : (s t : SystemLists) (i m : ℕ) → i < length s.tasks → IsLonger s i t → with_exec t i (task_at s i).best ((task_at s i).worst + m) ≡ longer s i m
lengthened s t i m less known = rw known.1 (longer-again s i known.0 m less)

-- ---- where a search begins

longer-best : (s : SystemLists) (i k j : ℕ) → j < length s.tasks → (task_at (longer s i k) j).best ≡ (task_at s j).best
unfolding with_exec
longer-best s i k j less =
    elim (cases_eq j i) [
      | inl same ↦ rw same (longer-task s i k (omega (arith, same, less))).0
      | inr other ↦ ap (λ (t : Task). t.best) (get_or-set_other s.tasks i j (record (task_at s i) { best = (task_at s i).best; worst = (task_at s i).worst + k }) no_task other)
    ]

vector-longer : (s : SystemLists) (i k m : ℕ) (x : List Bound) → IsVector (longer s i k) x → IsVector (longer s i m) x
vector-longer s i k m x vector =
    let long_k = longer-long s i k in
    let long_m = longer-long s i m in
    record {
      long = vector.long ∙ long_k ∙ sym long_m;
      low = λ j less.
          rw (longer-best s i m j (omega (arith, less, long_m)) ∙ sym (longer-best s i k j (omega (arith, less, long_m))))
          (vector.low j (omega (arith, less, long_k, long_m)));
      high = λ j less. vector.high j (omega (arith, less, long_k, long_m));
    }

-- the least solution with fewer ticks is a vector nowhere above that with more
pub starts : (s : SystemLists) (i k more : ℕ) → IsSystem s → i < length s.tasks → k ≤ more → (task_at s i).worst + more ≤ most_execution s.size
    → IsVector (longer s i more) (least_of (longer s i k)) × IsNowhereAbove (least_of (longer s i k)) (least_of (longer s i more))
starts s i k more rules less le in_range = (
  vector-longer s i k more (least_of (longer s i k)) (least_of-is_least (longer s i k) (longer-rules s i k rules less (omega (arith, le, in_range)))).vector,
  longer-up s i k more rules less le in_range,
)

-- what is judged of a system by its least solution
pub judged : (s t : SystemLists) (x : List Bound) → s ≡ t → x ≡ least_of s → HoldsAt s x → Holds t
judged s t x same is holds = subst Holds same (subst (HoldsAt s) is holds)

-- the marks of a search over a longer system are of the same tasks
pub fresh_longer : (s t : SystemLists) (i m : ℕ) → t ≡ longer s i m → (a b c : Marks)
    → NewMarksAre a b (λ j. j < length s.tasks) → NewMarksAre b c (λ j. j < length t.tasks) → NewMarksAre a c (λ j. j < length s.tasks)
fresh_longer s t i m same a b c first second =
    let long : length t.tasks ≡ length s.tasks = ap (λ (u : SystemLists). length u.tasks) same ∙ longer-long s i m in
    NewMarks_trans a b c (λ j. j < length s.tasks) first (NewMarks-weaker b c (λ j. j < length t.tasks) (λ j. j < length s.tasks) (λ j less. omega (arith, less, long)) second)
