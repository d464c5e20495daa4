use Rattle.std.proofs.Common.{◌≡◌, Option, length, map, ap, ◌∙◌, refl, sym, arith, Vec, Global}
use Rattle.std.specs.List.{range_with_len}
use Rattle.cpa_model.specs.declared.clocks.Ticking.{Ticking}
use Rattle.std.proofs.lemmas.List.FromFn.{map-range_with_len_more}
use Rattle.cpa_model.specs.Clocks.{ticking_of, of_sources}
use Rattle.cpa_model.proofs.KeptClocks.{kept-some, kept-none}
use Rattle.cpa_model.proofs.clocks.gather_clocks.Goals as goal
use Rattle.cpa_model.proofs.clocks.gather_clocks.Goals.{then-have_clocks+else-loop-k-test, else-have_clocks}

pub loop-k-preserved : goal.loop-k-preserved
loop-k-preserved c =
    let more = map-range_with_len_more (ticking_of (of_sources c.args.sources.now)) 0 c.loop-k.k c.loop-k.k (omega arith) in
    rw (c.in_ok-push.ensures.items, more, c.find_ticking.ensures, c.loop-k.invariant) refl

pub returns : goal.returns
returns c =
    elim c.if-have_clocks.branch [
      | then-have_clocks+else-loop-k-test w ↦
          let end : w.loop-k.k ≡ length c.args.sources.now = omega (arith, w.loop-k-test.false, w.loop-k.auto.k-end) in
          ap (λ (v : Vec (Option Ticking) Global). v.items) w.kept-is ∙ w.loop-k.invariant
          ∙ ap (λ n. map (ticking_of (of_sources c.args.sources.now)) (range_with_len 0 n)) end
          ∙ sym (kept-some (of_sources c.args.sources.now) (sym c.have_clocks.ensures ∙ w.if-have_clocks.true))
      | else-have_clocks w ↦
          ap (λ (v : Vec (Option Ticking) Global). v.items) w.kept-is ∙ c.new-kept.ensures.items
          ∙ sym (kept-none (of_sources c.args.sources.now) (sym c.have_clocks.ensures ∙ w.if-have_clocks.false))
    ]
