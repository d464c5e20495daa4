use Rattle.std.proofs.Common.{◌≡◌, ◌+◌, ◌<◌, ℕ, length, option_map, arith}
use Rattle.cpa_model.specs.declared.entries.Kind.TheVariants.{Tdma}
use Rattle.cpa_model.specs.SystemLists.{place_of, tasks_on}
use Rattle.cpa_trace.specs.Trace.{phase_of}
use Rattle.cpa_sched.specs.Steps.{kind_of}
use Rattle.cpa_sched.specs.States.{seen}
use Rattle.cpa_sched.specs.Stretches.{state_later}
use Rattle.cpa_sim.specs.Simulation.{ready}
use Rattle.cpa_sim.proofs.StretchLaws.{stretch-phase}
use Rattle.cpa_sim.proofs.dispatches.begin_now.Goals as goal

pub returns-clause-stretch : goal.returns-clause-stretch
returns-clause-stretch c = λ n less.
    let s = c.args.system.now in
    let r = c.args.ranking.now.res.0 in
    let counts : (gap : ℕ) → kind_of s r ≡ Tdma gap → 0 < length (tasks_on s r) → c.min-phase.result ≡ phase_of c.args.trace.now r = λ gap kind some. omega (arith, c.requires.can.phases r gap kind some, c.phase.ensures, c.min-phase.ensures) in
    let o = option_map place_of c.begin_within.result.task in
    stretch-phase s r c.min-phase.result (phase_of c.args.trace.now r) counts (ready s c.args.trace.now c.args.queues.now) (seen c.args.state.now) c.args.now o (n + 1) (state_later (kind_of s r) o (seen c.begin_within.new.state) n) (c.begin_within.ensures.stretch n less)
