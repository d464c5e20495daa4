use Rattle.std.proofs.Common.{◌≡◌, ◌<◌, ◌∙◌, ℕ, Bool, List, length, slice_set, false, refl, ap, subst, arith}
use Rattle.std.specs.Prelude.{filter}
use Rattle.std.proofs.lemmas.List.{length-set}
use Rattle.cpa_units.specs.Sets.{holds}
use Rattle.cpa_model.specs.SystemLists.{SystemLists, task_places, places_of}
use Rattle.cpa_assign.specs.Placing.{IsLowestOf, NoneIsLowest}
use Rattle.cpa_assign.proofs.MeetLaws.{begun, next, best, none_meets}
use Rattle.cpa_assign.proofs.CountLaws.{count-without, some-passes, none-passes}
use Rattle.cpa_assign.proofs.PlacingLaws.{task_list-long, task_list-few, marks-tell, marks-long, marks-count, set-tells}
use Rattle.cpa_assign.proofs.order.assign.Goals as goal

pub loop-placed-init : goal.loop-placed-init
loop-placed-init c =
    let s : SystemLists = c.args.system.now in
    let r : ℕ = c.args.res.0 in
    let marks : List Bool = c.in_ok-free.free.items in
    let told = c.in_ok-free.ensures in
    let nobody : length c.new-tasks.result.items ≡ 0 = ap length c.new-tasks.ensures.items in
    record {
      part = λ rules able. rw c.new-tasks.ensures.items (begun s r rules able (holds marks) (marks-tell s r marks told));
      placed = rw c.new-tasks.ensures.items refl;
      left = omega (arith, marks-count s r marks told, nobody);
      marks = marks-long s r marks told;
      room = record { off = c.is_off_clocks-off.ensures; cycles = c.in_ok-cycles.ensures; rivals = omega (arith, c.tasks.ensures.count, c.in_ok-rivals.ensures.capacity) };
    }

pub returns-in_default : goal.returns-in_default
returns-in_default c =
    let s : SystemLists = c.args.system.now in
    let free : ℕ → Bool = holds c.loop-placed.free.items in
    let some = some-passes free 0 (length s.tasks) (omega (arith, c.loop-placed.invariant.placed, c.loop-placed.invariant.left, c.loop-placed-test.true, c.loop-placed.auto.placed-end, task_list-long s c.args.res.0 c.tasks_on-count.result.now c.tasks_on-count.ensures.places)) in
    λ o order meets.
    none_meets s c.args.res.0 c.tasks.ensures.rules c.requires free (places_of c.loop-placed.tasks.items) some.0 (c.loop-placed.invariant.part c.tasks.ensures.rules c.requires) some.1
    (subst (λ (marks : List Bool). NoneIsLowest s c.args.res.0 (holds marks)) c.as_slice.ensures.value (rw c.in_default.is at c.in_ok-found.ensures.none)) o order meets

pub loop-placed-preserved : goal.loop-placed-preserved
loop-placed-preserved c =
    let s : SystemLists = c.args.system.now in
    let free : List Bool = c.loop-placed.free.items in
    let i : ℕ = c.in-Some.task.0 in
    let within : i < length s.tasks = rw c.in-Some.is at c.in_ok-found.ensures.there in
    let there : i < length free = omega (arith, c.loop-placed.invariant.marks, within) in
    let fewer = set-tells free i there in
    let lowest : IsLowestOf s c.args.res.0 (holds free) i = subst (λ (marks : List Bool). IsLowestOf s c.args.res.0 (holds marks) i) c.as_slice.ensures.value (rw c.in-Some.is at c.in_ok-found.ensures.found) in
    let one = count-without (holds free) (holds (slice_set free i false)) i 0 (length s.tasks) fewer lowest.unplaced (omega arith) (omega (arith, within)) in
    record {
      part = λ rules able. rw c.in_ok-insert.ensures.items (next s c.args.res.0 rules able (holds free) (holds (slice_set free i false)) (places_of c.loop-placed.tasks.items) i (c.loop-placed.invariant.part rules able) lowest fewer);
      placed = omega (arith, c.in_ok-insert.ensures.len, c.loop-placed.invariant.placed);
      left = omega (arith, c.in_ok-insert.ensures.len, c.loop-placed.invariant.left, one);
      marks = length-set free i false ∙ c.loop-placed.invariant.marks;
      room = c.in_ok-found.ensures.room;
    }

pub returns : goal.returns
returns c =
    let s : SystemLists = c.args.system.now in
    let free : ℕ → Bool = holds c.loop-placed.free.items in
    let inv = c.loop-placed.invariant in
    let none : length (filter free (task_places s)) ≡ 0 = omega (arith, inv.placed, inv.left, c.loop-placed-test.false, c.loop-placed.auto.placed-end, task_list-long s c.args.res.0 c.tasks_on-count.result.now c.tasks_on-count.ensures.places) in
    best s c.args.res.0 c.tasks.ensures.rules c.requires free (places_of c.loop-placed.tasks.items) (inv.part c.tasks.ensures.rules c.requires)
    (λ j less. none-passes free 0 (length s.tasks) none j (omega arith) (omega (arith, less)))

pub invariant_of-result : goal.invariant_of-result
invariant_of-result c =
    let inv = c.loop-placed.invariant in
    let rules = c.tasks.ensures.rules in
    omega (arith, inv.left, task_list-few c.args.system.now c.args.res.0, rules.few_tasks)
