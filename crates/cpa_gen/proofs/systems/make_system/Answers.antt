use Rattle.std.proofs.Common.{◌≡◌, ◌∙◌, sym, subst, arith, map}
use Rattle.std.proofs.lemmas.Result.{IfOk-weaker}
use Rattle.std.specs.List.{range_with_len}
use Rattle.cpa_model.specs.Rules.{IsSystem}
use Rattle.cpa_gen.specs.MadeSystems.{chain_of}
use Rattle.cpa_gen.proofs.MadeRules.{assembled, chains_counted, chains_fit, made_systems_keep_rules}
use Rattle.cpa_gen.proofs.systems.make_system.Goals as goal

pub make_sources-requires : goal.make_sources-requires
make_sources-requires c =
    let drawn : c.as_slice-chains.result.now ≡ map (chain_of c.args.number c.args.size) (range_with_len 0 c.args.size) = c.as_slice-chains.ensures.value ∙ c.in_ok-drawn.ensures in
    omega (arith, chains_counted c.args.number c.args.size _ drawn, c.requires)

pub make_tasks-requires-clause-few : goal.make_tasks-requires-clause-few
make_tasks-requires-clause-few c =
    let drawn : c.as_slice-chains.result.now ≡ map (chain_of c.args.number c.args.size) (range_with_len 0 c.args.size) = c.as_slice-chains.ensures.value ∙ c.in_ok-drawn.ensures in
    omega (arith, chains_counted c.args.number c.args.size _ drawn, c.requires)

pub make_tasks-requires-clause-chains : goal.make_tasks-requires-clause-chains
make_tasks-requires-clause-chains c =
    let drawn : c.as_slice-chains.result.now ≡ map (chain_of c.args.number c.args.size) (range_with_len 0 c.args.size) = c.as_slice-chains.ensures.value ∙ c.in_ok-drawn.ensures in
    chains_fit c.args.number c.args.size _ c.requires drawn

pub make_paths-requires : goal.make_paths-requires
make_paths-requires c =
    let drawn : c.as_slice-chains.result.now ≡ map (chain_of c.args.number c.args.size) (range_with_len 0 c.args.size) = c.as_slice-chains.ensures.value ∙ c.in_ok-drawn.ensures in
    omega (arith, chains_counted c.args.number c.args.size _ drawn, c.requires)

pub of_lists-requires : goal.of_lists-requires
of_lists-requires c =
    let drawn : c.as_slice-chains.result.now ≡ map (chain_of c.args.number c.args.size) (range_with_len 0 c.args.size) = c.as_slice-chains.ensures.value ∙ c.in_ok-drawn.ensures in
    let made = assembled c.args.number c.args.size _ _ _ _ _ drawn c.in_ok-resources.ensures c.in_ok-sources.ensures c.in_ok-tasks.ensures c.in_ok-paths.ensures in
    subst IsSystem (sym made) (made_systems_keep_rules c.args.number c.args.size c.requires)

pub returns : goal.returns
returns c =
    let drawn : c.as_slice-chains.result.now ≡ map (chain_of c.args.number c.args.size) (range_with_len 0 c.args.size) = c.as_slice-chains.ensures.value ∙ c.in_ok-drawn.ensures in
    let made = assembled c.args.number c.args.size _ _ _ _ _ drawn c.in_ok-resources.ensures c.in_ok-sources.ensures c.in_ok-tasks.ensures c.in_ok-paths.ensures in
    IfOk-weaker c.of_lists.result _ _ (λ s e. e ∙ made) c.of_lists.ensures
