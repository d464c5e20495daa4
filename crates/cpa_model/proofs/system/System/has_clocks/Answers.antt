use Rattle.std.proofs.Common.{◌≡◌, ◌==◌, Bool, true, false, not, length, ap, ◌∙◌, sym, refl, arith, inl, inr}
use Rattle.std.proofs.lemmas.Bool.{cases_Bool, eqb-true, eqb-false}
use Rattle.std.specs.Vec.{vec_len}
use Rattle.cpa_model.specs.Clocks.{has_clocks, of_sources, kept_clocks}
use Rattle.cpa_model.proofs.KeptClocks.{kept-empty, kept-full}
use Rattle.cpa_model.proofs.system.System.has_clocks.Goals as goal

pub returns-clause-value : goal.returns-clause-value
returns-clause-value c =
    let are : length c.self.inside.clocks.items ≡ length (kept_clocks (of_sources c.self.inside.sources.items)) = ap length c.self.invariant.2 in
    rw (← c.self.view_is, c.is_empty.ensures)
    (elim (cases_Bool (vec_len c.self.inside.clocks == 0)) [
      | inl empty ↦
          let none : vec_len c.self.inside.clocks ≡ 0 = eqb-true (vec_len c.self.inside.clocks) 0 empty in
          ap not empty ∙ sym (kept-empty (of_sources c.self.inside.sources.items) (omega arith))
      | inr full ↦
          let some : vec_len c.self.inside.clocks ≡ 0 → ⊥ = eqb-false (vec_len c.self.inside.clocks) 0 full in
          ap not full ∙ sym (kept-full (of_sources c.self.inside.sources.items) (omega arith))
    ])
