use Rattle.std.proofs.Common.{◌≡◌, ◌∙◌, ◌+◌, ◌%◌, ap, arith}
use Rattle.std.proofs.lemmas.Bool.{lt-leb}
use Rattle.cpa_trace.proofs.LeadLaws.{mod-shift}
use Rattle.cpa_trace.proofs.leads.Leads.wait.Goals as goal

pub returns-else-past-self-clause-first : goal.returns-else-past-self-clause-first
returns-else-past-self-clause-first c w less =
    let p = c.args.self.period in
    let past = (c.args.self.rest + c.args.lead) % p in
    let e : c.args.self.rest + (c.args.lead + w) ≡ c.args.self.rest + c.args.lead + w = omega arith in
    let later : (c.args.self.rest + (c.args.lead + w)) % p ≡ past + w =
    ap (λ x. x % p) e ∙ mod-shift (c.args.self.rest + c.args.lead) w p (omega arith) in
    lt-leb _ _ (omega (arith, later, c.if-past-self.false))
