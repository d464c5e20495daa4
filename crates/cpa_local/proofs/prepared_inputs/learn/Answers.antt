use Rattle.std.proofs.Common.{◌≡◌, ◌<◌, ◌+◌, ◌∙◌, Bool, set, true, false, length, get_or, refl, sym, subst, inl, inr, arith, get_or-set_same, length-set, ℕ, None}
use Rattle.std.proofs.lemmas.Bool.{true≢false, cases_eq}
use Rattle.cpa_model.proofs.SystemLaws.{no_id}
use Rattle.cpa_model.proofs.ResourceTaskLaws.{on-found}
use Rattle.cpa_local.specs.Inputs.{input, found_if}
use Rattle.cpa_local.proofs.TrailLaws.{unmarked, still-known, known-set}
use Rattle.cpa_local.proofs.prepared_inputs.learn.Goals as goal
use Rattle.cpa_local.proofs.prepared_inputs.learn.Goals.{then-find_by_known, else-find_by_known}

pub loop-task-init : goal.loop-task-init
loop-task-init c =
    record {
      long = refl;
      flags = refl;
      right = λ i e. absurd (true≢false (sym e ∙ unmarked 8192 i));
      done = λ k less. absurd (let none : ⊥ = omega (arith, less) in none);
    }

pub loop-task-preserved : goal.loop-task-preserved
loop-task-preserved c =
    let s = c.args.system.now in
    let place = (get_or c.tasks_on-task-items.result.now c.loop-task.task-index no_id).0 in
    let there : place < length s.tasks = c.tasks_on-task-items.ensures.there c.loop-task.task-index no_id c.loop-task-test.true in
    let listed : place < length c.loop-task.inputs.items = omega (arith, c.loop-task.invariant.long, c.requires.long) in
    let flagged : place < length c.loop-task.known = omega (arith, c.loop-task.invariant.flags, c.tasks_on-task-items.ensures.rules.few_tasks) in
    let flags = length-set c.loop-task.known place true ∙ c.loop-task.invariant.flags in
    let done : (k : ℕ) → k < c.loop-task.task-index + 1 → get_or (set c.loop-task.known place true) (get_or c.tasks_on-task-items.result.now k no_id).0 false ≡ true =
    λ k less. elim (cases_eq k c.loop-task.task-index) [
      | inl last ↦ rw last (get_or-set_same c.loop-task.known place true false flagged)
      | inr before ↦ still-known c.loop-task.known (get_or c.tasks_on-task-items.result.now k no_id).0 place (c.loop-task.invariant.done k (omega arith))
    ] in
    elim c.if-find_by_known.branch [
      | then-find_by_known w ↦
          let is = w.keep.ensures ∙ subst (λ (b : Bool). found_if b c.find_by_known.new.found ≡ input s c.args.x.now place) w.if-find_by_known.true c.find_by_known.ensures in
          record {
            long = rw w.inputs-is (length-set c.loop-task.inputs.items place w.keep.new.place ∙ c.loop-task.invariant.long);
            flags = flags;
            right = rw w.inputs-is (known-set s c.args.x.now c.loop-task.inputs.items c.loop-task.known place w.keep.new.place listed is c.loop-task.invariant.right);
            done = done;
          }
      | else-find_by_known w ↦
          let is = subst (λ (b : Bool). found_if b c.find_by_known.new.found ≡ input s c.args.x.now place) w.if-find_by_known.false c.find_by_known.ensures in
          record {
            long = rw w.inputs-is (length-set c.loop-task.inputs.items place None ∙ c.loop-task.invariant.long);
            flags = flags;
            right = rw w.inputs-is (known-set s c.args.x.now c.loop-task.inputs.items c.loop-task.known place None listed is c.loop-task.invariant.right);
            done = done;
          }
    ]

pub returns-clause-known : goal.returns-clause-known
returns-clause-known c i less on =
    let at = on-found c.args.system.now c.args.res.0 c.tasks_on-task-items.result.now c.tasks_on-task-items.ensures.places i no_id less on in
    let known = c.loop-task.invariant.right i (subst (λ (j : ℕ). get_or c.loop-task.known j false ≡ true) at.2 (c.loop-task.invariant.done at.0 (omega (arith, at.1)))) in
    known.1
