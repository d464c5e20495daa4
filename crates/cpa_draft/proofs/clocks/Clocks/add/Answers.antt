use Rattle.std.proofs.Common.{◌≡◌, Bool, true, false, not, Result, Ok, sym, rules}
use Rattle.std.specs.Prelude.{IfOk}
use Rattle.std.specs.declared.alloc.AllocError.{AllocError}
use Rattle.cpa_draft.specs.Numbers.{nat_of}
use Rattle.cpa_draft.proofs.ListLaws.{not-true}
use Rattle.cpa_draft.proofs.ClockSources.{measured-on, long-known}
use Rattle.cpa_draft.proofs.clocks.Clocks.add.Goals as goal

fits-told : (r : Result Bool AllocError) (b : Bool) → IfOk r (λ fits. fits ≡ not b) → r ≡ Ok true → b ≡ false
fits-told r b told ok = not-true b (sym (rw ok at told))

pub returns-in-Some-clause-told : goal.returns-in-Some-clause-told
returns-in-Some-clause-told c sources are =
    let period : c.natural.result ≡ nat_of c.args.source.now.period = search rules in
    let known = long-known sources c.args.self.now c.args.source.now are c.requires.period c.in-Some.name c.in-Some.is in
    rw (c.bytes.ensures, period, known) at c.join.ensures.told

pub returns-in-Some-clause-added : goal.returns-in-Some-clause-added
returns-in-Some-clause-added c sources are ok =
    let period : c.natural.result ≡ nat_of c.args.source.now.period = search rules in
    let told = rw (c.bytes.ensures, period) at c.join.ensures.told in
    measured-on sources c.args.self.now c.args.source.now are c.requires.period c.in-Some.name c.in-Some.is c.join.new.self (fits-told c.join.result _ told ok)
    (λ other. rw (c.bytes.ensures, period) at (c.join.ensures.joined ok other))
