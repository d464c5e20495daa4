use Rattle.std.proofs.Common.{sym, arith}
use Rattle.std.proofs.lemmas.Bool.{and_left}
use Rattle.cpa_trace.proofs.LeftLaws.{leaves-kept, leaves-none}
use Rattle.cpa_trace.proofs.leads.leaves_with.Goals as goal

pub returns-in-Some : goal.returns-in-Some
returns-in-Some c =
    leaves-kept c.args.source.now c.args.times.now c.args.others.now c.args.cycle c.in-Some.own c.args.count c.least_lead.result c.in-Some.ensures.these
    c.least_lead.ensures.one (λ lead h. c.least_lead.ensures.first lead (omega arith) h) c.least_lead.ensures.within

pub returns-in-None : goal.returns-in-None
returns-in-None c =
    sym (leaves-none c.args.source.now c.args.times.now c.args.others.now c.args.cycle c.args.count (λ lead h. and_left _ _ (c.in-None.ensures.none lead)))
