use Rattle.std.proofs.Common.{◌≡◌, ◌∙◌, get_or, sym, ap, inl, inr, arith}
use Rattle.std.proofs.lemmas.Bool.{cases_lt}
use Rattle.std.proofs.lemmas.List.{get_or-map}
use Rattle.cpa_model.specs.SystemLists.{place_of, places_of}
use Rattle.cpa_sim.proofs.orders.place_in.Goals as goal

pub loop-k-preserved : goal.loop-k-preserved
loop-k-preserved c = λ p less e.
    let order = c.args.order.now in
    let k = c.loop-k.k in
    elim (cases_lt p k) [
      | inl before ↦ c.loop-k.invariant p before e
      | inr after ↦
          let same : k ≡ p = omega arith in
          c.if-order-k.false (sym (get_or-map place_of order k (record { 0 = 0 }) 0 c.loop-k-test.true) ∙ (ap (λ q. get_or (places_of order) q 0) same ∙ e))
    ]
