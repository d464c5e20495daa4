-- What is dispatched on resources as their tasks run, and as jobs arrive there.
use Rattle.std.proofs.Common.{◌≡◌, ◌≢◌, ℕ, ◌<◌, length, List, Bool, true, false, cond, eqb, ◌&&◌, ◌||◌, Some, option_map, refl, sym, ◌∙◌, ap, subst, inl, inr, arith}
use Rattle.std.proofs.lemmas.Bool.{cases_Bool, eqb-true, eq-eqb, ne_eqb}
use Rattle.cpa_model.specs.declared.entries.Kind.{Kind}
use Rattle.cpa_model.specs.SystemLists.{SystemLists, task_at, place_of}
use Rattle.cpa_sched.specs.Steps.{kind_of}
use Rattle.cpa_sched.specs.States.{IsWaiting}
use Rattle.cpa_sim.specs.declared.dispatches.Dispatch.{Dispatch}
use Rattle.cpa_sim.specs.Run.{is_chosen}
use Rattle.cpa_sim.specs.Simulation.{dispatch_at, runner, runs_at, ends_of, IsUnchanged, AreEnding}
use Rattle.cpa_sim.proofs.SameTaskLaws.{chosen-is}

pub unchanged-same : (k : Kind) (a b : Dispatch) → b ≡ a → IsUnchanged k a b
unchanged-same k a b e = subst (λ x. IsUnchanged k a x) (sym e) (record { running = refl; ends = refl; state = refl; same = λ more. refl; first = omega arith; last = omega arith; since = omega arith })

pub unchanged-then : (k : Kind) (a b c : Dispatch) → IsUnchanged k a b → IsUnchanged k b c → IsUnchanged k a c
unchanged-then k a b c first then =
    record {
      running = then.running ∙ first.running;
      ends = then.ends ∙ first.ends;
      state = then.state ∙ first.state;
      same = λ more. let e = then.same more in e ∙ first.same (subst (λ (x : Dispatch). x.gone < x.ticks) e more);
      first = omega (arith, then.first, first.first);
      last = omega (arith, then.last, first.last);
      since = omega (arith, then.since, first.since);
    }

-- a member more, if it is to be one
pub with-this : (k : ℕ) (member before : Bool) → before ≡ false → (eqb k k && member || before) ≡ member
with-this k member before none = rw (eq-eqb k k refl, none) (either member)
  where
    either : (b : Bool) → (b || false) ≡ b
    either true = refl
    either false = refl

pub with-other : (k r : ℕ) (member before : Bool) → r ≢ k → (eqb r k && member || before) ≡ before
with-other k r member before differs = rw (ne_eqb r k differs) refl

-- a task that runs on another resource doesn't run on this one
pub runs-elsewhere : (s : SystemLists) (r i : ℕ) (w : ℕ → Bool) (dispatch : Dispatch) → ((j : ℕ) → runner dispatch ≡ Some j → IsWaiting s r w j) → (task_at s i).res.0 ≢ r → runs_at dispatch i ≡ false
runs-elsewhere s r i w dispatch waits differs =
    elim (cases_Bool (runs_at dispatch i)) [
      | inl runs ↦ absurd (differs (eqb-true (task_at s i).res.0 r (waits i (chosen-is (runner dispatch) i runs)).on.here))
      | inr rests ↦ rests
    ]

-- whose jobs end now is the same on dispatches that are unchanged
pub ends-unchanged : (s : SystemLists) (olds news : List Dispatch) → ((r : ℕ) → r < length s.resources → IsUnchanged (kind_of s r) (dispatch_at olds r) (dispatch_at news r)) → (j : ℕ) → (task_at s j).res.0 < length s.resources → ends_of s news j ≡ ends_of s olds j
ends-unchanged s olds news same j placed =
    let k = same (task_at s j).res.0 placed in
    ap (λ o. cond (is_chosen (option_map place_of o) j && (dispatch_at news (task_at s j).res.0).ends) 1 0) k.running
    ∙ ap (λ b. cond (is_chosen (runner (dispatch_at olds (task_at s j).res.0)) j && b) 1 0) k.ends

pub ending-unchanged : (s : SystemLists) (olds news : List Dispatch) (ended : List Bool) → length olds ≡ length s.resources → length news ≡ length s.resources
    → ((r : ℕ) → r < length s.resources → (dispatch_at news r).ends ≡ (dispatch_at olds r).ends) → AreEnding olds ended → AreEnding news ended
ending-unchanged s olds news ended count_old count_new same are =
    record {
      there = λ r less. are.there r (omega (arith, less, count_old, count_new)) ∙ sym (same r (omega (arith, less, count_new)));
      past = λ r after. are.past r (omega (arith, after, count_old, count_new));
    }
