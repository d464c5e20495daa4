use Rattle.std.proofs.Common.{◌≡◌, ◌∙◌, ◌+◌, ℕ, false, None, option_map, ap, sym, subst, arith}
use Rattle.std.specs.List.{list_any}
use Rattle.cpa_model.specs.SystemLists.{place_of}
use Rattle.cpa_trace.specs.Trace.{phase_of}
use Rattle.cpa_sched.specs.Steps.{kind_of}
use Rattle.cpa_sched.specs.States.{seen}
use Rattle.cpa_sched.specs.Stretches.{IsStretch, state_later}
use Rattle.cpa_sched.proofs.StretchLaws.{later-none}
use Rattle.cpa_sim.specs.Simulation.{ready, is_busy, state_now}
use Rattle.cpa_sim.proofs.StretchLaws.{idle-none, idle-stretch}
use Rattle.cpa_sim.proofs.dispatches.foresee.Goals as goal

pub returns-then-not-is_busy-clause-foresees : goal.returns-then-not-is_busy-clause-foresees
returns-then-not-is_busy-clause-foresees c = λ n less.
    let s = c.args.system.now in
    let r = c.args.ranking.now.res.0 in
    let q = ready s c.args.trace.now c.args.queues.now in
    let phase = phase_of c.args.trace.now r in
    let st = state_now (kind_of s r) c.args.dispatch.now in
    let o = option_map place_of c.begin_now-stretch.result.task in
    let end = seen c.begin_now-stretch.new.state in
    let idle : is_busy s r q.waits ≡ false = ap (list_any q.waits) (sym c.tasks_on.ensures.places) ∙ (sym c.is_busy.ensures ∙ c.if-not-is_busy.true) in
    let rests : (m : ℕ) → IsStretch s r st q c.args.now phase m None st = idle-stretch s r q (idle-none s r q.waits idle) st c.args.now phase c.requires.belongs.holder c.requires.frame in
    let first = c.begin_now-stretch.ensures.stretch 0 (omega (arith, c.begin_now-stretch.ensures.some)) in
    let first' = subst (λ x. IsStretch s r x q c.args.now phase 1 o (state_later (kind_of s r) o end 0)) c.refresh.ensures.state first in
    let none : o ≡ None = grind arith in
    let first'' : IsStretch s r st q c.args.now phase 1 None end = subst (λ x. IsStretch s r st q c.args.now phase 1 x (state_later (kind_of s r) x end 0)) none first' in
    let same : st ≡ end = sym (rests 1).leaves ∙ first''.leaves in
    subst (IsStretch s r st q c.args.now phase (n + 1) None) (same ∙ sym (later-none (kind_of s r) end (c.refresh.new.dispatch.gone + n))) (rests (n + 1))

pub returns-clause-foresees : goal.returns-clause-foresees
returns-clause-foresees c = λ n less.
    let s = c.args.system.now in
    let r = c.args.ranking.now.res.0 in
    let q = ready s c.args.trace.now c.args.queues.now in
    let phase = phase_of c.args.trace.now r in
    let o = option_map place_of c.begin_now-stretch.result.task in
    let m = c.refresh.new.dispatch.gone + n in
    let e : m ≡ n = omega (arith, c.refresh.ensures.gone) in
    let end = state_later (kind_of s r) o (seen c.begin_now-stretch.new.state) m in
    let h = c.begin_now-stretch.ensures.stretch m (omega (arith, less, c.ticks_within-dispatch.ensures.most)) in
    let h' = subst (λ v. IsStretch s r (seen c.refresh.new.dispatch.state) q c.args.now phase (v + 1) o end) e h in
    subst (λ st. IsStretch s r st q c.args.now phase (n + 1) o end) c.refresh.ensures.state h'
