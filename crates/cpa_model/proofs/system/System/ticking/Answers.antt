use Rattle.std.proofs.Common.{◌≡◌, ◌<◌, ℕ, true, None, length, get_or, ap, ◌∙◌, sym, arith}
use Rattle.std.proofs.lemmas.Bool.{eqb-true, eqb-false}
use Rattle.std.specs.Vec.{vec_len}
use Rattle.cpa_draft.proofs.ListLaws.{get_or-any}
use Rattle.cpa_model.specs.Clocks.{has_clocks, of_sources, kept_clocks}
use Rattle.cpa_model.proofs.KeptClocks.{kept-known, kept-empty, kept-full, kept-long, ticking-none}
use Rattle.cpa_model.proofs.ClockLaws.{no_clocks}
use Rattle.cpa_model.proofs.system.System.ticking.Goals as goal

pub index-requires : goal.index-requires
index-requires c =
    let full : vec_len c.self.inside.clocks ≡ 0 → ⊥ = eqb-false (vec_len c.self.inside.clocks) 0 (sym c.is_empty.ensures ∙ c.if-is_empty.false) in
    let are : length c.self.inside.clocks.items ≡ length (kept_clocks (of_sources c.self.inside.sources.items)) = ap length c.self.invariant.2 in
    let some : has_clocks (of_sources c.self.inside.sources.items) ≡ true = kept-full (of_sources c.self.inside.sources.items) (omega arith) in
    let long = kept-long (of_sources c.self.inside.sources.items) some in
    let there : c.args.source.0 < length c.self.inside.sources.items = rw (← c.self.view_is) at c.requires in
    omega arith

pub returns-then-is_empty : goal.returns-then-is_empty
returns-then-is_empty c =
    let empty : vec_len c.self.inside.clocks ≡ 0 = eqb-true (vec_len c.self.inside.clocks) 0 (sym c.is_empty.ensures ∙ c.if-is_empty.true) in
    let are : length c.self.inside.clocks.items ≡ length (kept_clocks (of_sources c.self.inside.sources.items)) = ap length c.self.invariant.2 in
    let none = kept-empty (of_sources c.self.inside.sources.items) (omega arith) in
    rw (← c.self.view_is) (sym (ticking-none (of_sources c.self.inside.sources.items) c.args.source.0 (no_clocks (of_sources c.self.inside.sources.items) none c.args.source.0)))

pub returns-else-is_empty : goal.returns-else-is_empty
returns-else-is_empty c =
    let full : vec_len c.self.inside.clocks ≡ 0 → ⊥ = eqb-false (vec_len c.self.inside.clocks) 0 (sym c.is_empty.ensures ∙ c.if-is_empty.false) in
    let are : length c.self.inside.clocks.items ≡ length (kept_clocks (of_sources c.self.inside.sources.items)) = ap length c.self.invariant.2 in
    let some : has_clocks (of_sources c.self.inside.sources.items) ≡ true = kept-full (of_sources c.self.inside.sources.items) (omega arith) in
    let long = kept-long (of_sources c.self.inside.sources.items) some in
    let there : c.args.source.0 < length c.self.inside.sources.items = rw (← c.self.view_is) at c.requires in
    rw (← c.self.view_is)
    (c.index.ensures ∙ get_or-any c.self.inside.clocks.items c.args.source.0 c.index.result.now None (omega arith)
    ∙ ap (λ ts. get_or ts c.args.source.0 None) c.self.invariant.2
    ∙ kept-known (of_sources c.self.inside.sources.items) c.args.source.0)
