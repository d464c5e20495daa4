use Rattle.std.proofs.Common.{◌∙◌, ◌+◌, length, Option, None, option_map, ap, subst, arith}
use Rattle.std.proofs.lemmas.List.{get_or_default}
use Rattle.cpa_units.specs.declared.places.ResId.{ResId}
use Rattle.cpa_model.specs.SystemLists.{place_of}
use Rattle.cpa_sim.specs.Simulation.{no_dispatch, ends_at}
use Rattle.cpa_sim.specs.Arrivals.{first_of}
use Rattle.cpa_sim.proofs.SuccessorLaws.{placed}
use Rattle.cpa_sim.proofs.ArrivalLaws.{IsFirstEnd, upto_resource, upto-all, first-start, first-more, first-upto, first-all, next-there}
use Rattle.cpa_sim.proofs.arrivals.next_end.Goals as goal

pub resources-init : goal.resources-init
resources-init c = record {
  there = next-there c.args.dispatches.now c.args.from c.args.ended 0 c.next-place.result c.requires.ended c.next-place.ensures;
  found = first-upto c.args.dispatches.now c.args.from c.args.ended 0 c.next-place.result None c.requires.ended (omega arith) c.next-place.ensures (first-start c.args.dispatches.now c.args.from);
}

pub resources-preserved : goal.resources-preserved
resources-preserved c =
    let dispatches = c.args.dispatches.now in
    let res = c.in-Some.res in
    let there = c.resources.invariant.there res c.in-Some.is in
    let here : IsFirstEnd dispatches c.args.from res.0 (option_map place_of c.resources.next) =
    subst (λ (o : Option ResId). IsFirstEnd dispatches c.args.from (upto_resource (length dispatches) o) (option_map place_of c.resources.next)) c.in-Some.is c.resources.invariant.found in
    let more =
    first-more dispatches c.args.from res.0 (option_map place_of c.ended_on.result) (option_map place_of c.resources.next)
    (λ j. ap (λ d. ends_at d j) (get_or_default dispatches res.0 no_dispatch _ there) ∙ c.ended_on.ensures.ends j) here in
    record {
      there = next-there dispatches c.args.from c.args.ended (res.0 + 1) c.next-place-in-Some.result c.requires.ended c.next-place-in-Some.ensures;
      found = rw c.first_of-next.ensures
          (first-upto dispatches c.args.from c.args.ended (res.0 + 1) c.next-place-in-Some.result (first_of (option_map place_of c.resources.next) c.args.from (option_map place_of c.ended_on.result)) c.requires.ended (omega (arith, there)) c.next-place-in-Some.ensures more);
    }

pub returns : goal.returns
returns c =
    let dispatches = c.args.dispatches.now in
    let all = upto-all (length dispatches) c.resources.place c.in_default.not-Some in
    first-all c.args.system.now dispatches c.args.from (option_map place_of c.resources.next) c.requires.dispatches (placed c.args.system.now c.has_rules.ensures) c.requires.runs
    (subst (λ m. IsFirstEnd dispatches c.args.from m (option_map place_of c.resources.next)) all c.resources.invariant.found)
