use Rattle.std.proofs.Common.{◌≡◌, ◌∙◌, ◌<◌, ◌≤◌, ℕ, inl, inr, arith}
use Rattle.std.proofs.lemmas.Bool.{cases_lt}
use Rattle.cpa_trace.specs.Trace.{time_of}
use Rattle.cpa_sim.proofs.CursorLaws.{events-are, rises, later-than}
use Rattle.cpa_sim.proofs.source_cursors.pass.Goals as goal

-- the next event comes later, so all of them do
pub returns-else-time-now-clause-fresh : goal.returns-else-time-now-clause-fresh
returns-else-time-now-clause-fresh c =
    let tr = c.args.trace.now in
    let k = c.args.source.0 in
    let inv = c.events.invariant in
    let first = inv.from c.events.at (omega arith) (omega (arith, c.events-test.true, c.events-events.ensures.count)) in
    let differs : time_of tr k c.events.at ≡ c.args.now → ⊥ = λ e. c.if-time-now.false (c.time.ensures ∙ e) in
    events-are tr k c.args.now c.args.next c.events.at inv.later inv.within c.requires.ahead.before inv.here
    (λ n low h. later-than c.args.now _ _ first differs (rises tr c.events-events.ensures.rules k c.events.at n low h))

pub returns-else-time-now-clause-passed : goal.returns-else-time-now-clause-passed
returns-else-time-now-clause-passed c =
    let inv = c.events.invariant in
    let first = inv.from c.events.at (omega arith) (omega (arith, c.events-test.true, c.events-events.ensures.count)) in
    let differs : time_of c.args.trace.now c.args.source.0 c.events.at ≡ c.args.now → ⊥ = λ e. c.if-time-now.false (c.time.ensures ∙ e) in
    let upto : (n : ℕ) → n < c.events.at → time_of c.args.trace.now c.args.source.0 n ≤ c.args.now =
    λ n less.
    elim (cases_lt n c.args.next) [
      | inl early ↦ omega (arith, c.requires.ahead.before n early)
      | inr late ↦ omega (arith, inv.here n late less)
    ] in
    record {
      within = inv.within;
      before = λ n less. upto n less;
      from = λ n low h. later-than c.args.now _ _ first differs (rises c.args.trace.now c.events-events.ensures.rules c.args.source.0 c.events.at n low h);
    }

pub returns-after-events-clause-fresh : goal.returns-after-events-clause-fresh
returns-after-events-clause-fresh c =
    let inv = c.events.invariant in
    events-are c.args.trace.now c.args.source.0 c.args.now c.args.next c.events.at inv.later inv.within c.requires.ahead.before inv.here (λ n low h. absurd (omega (arith, c.events-test.false, c.events-events.ensures.count)))
