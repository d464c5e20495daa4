use Rattle.std.proofs.Common.{◌≡◌, ℕ, ◌∙◌, sym, map, arith}
use Rattle.cpa_window.proofs.WalkLaws.{numbers}
use Rattle.cpa_phase.specs.Phases.{earliest_arrival}
use Rattle.cpa_phase.specs.Streams.{phase_at, phased_from}
use Rattle.cpa_phase.proofs.RangeLaws.{phased_in_range}
use Rattle.cpa_offset.specs.Jobs.{jobs_work}
use Rattle.cpa_offset.specs.Offsets.{demand, elsewhere, others}
use Rattle.cpa_offset.proofs.WindowBoundLaws.{late-same}
use Rattle.cpa_offset.proofs.WalkLaws.{late-done}
use Rattle.cpa_offset.proofs.BoundLaws.{demand-bounded}
use Rattle.cpa_offset.proofs.bound.AskedFromMoment.bound_from.Goals as goal

pub invariant_of-jobs : goal.invariant_of-jobs
invariant_of-jobs c =
    let a = c.args.self.now in
    let same : c.as_slice.result.now ≡ map (phased_from c.args.x) a.joint.now = c.as_slice.ensures.value ∙ c.in_ok-put_phased.ensures in
    record {
      execution = a.execution;
      blocking_in_range = a.blocking_in_range;
      phased_in_range = rw same (phased_in_range a.joint.now c.args.x a.joint_in_range);
      clocks_in_range = a.clocks_in_range;
      free_in_range = a.free_in_range;
    }

pub returns-clause-value : goal.returns-clause-value
returns-clause-value c =
    let a = c.args.self.now in
    let same : c.as_slice.result.now ≡ map (phased_from c.args.x) a.joint.now = c.as_slice.ensures.value ∙ c.in_ok-put_phased.ensures in
    let found = rw (same, c.phased_from-own.ensures.value) at c.window_bound.ensures.value in
    found
    ∙ late-same (numbers (jobs_work a.own.now.worst a.blocking (map (phased_from c.args.x) a.joint.now) a.clocks.now a.free.now)) (demand a.own.now.worst a.blocking (others a.joint.now (elsewhere a.clocks.now a.free.now) c.args.x)) (earliest_arrival a.own.now.stream (phase_at a.own.now c.args.x)) a.limit
    (λ q w. demand-bounded a.own.now.worst a.blocking a.joint.now a.clocks.now a.free.now c.args.x q w a.bounded)

pub returns-then-is_over-clause-value : goal.returns-then-is_over-clause-value
returns-then-is_over-clause-value c =
    let a = c.args.self.now in
    let over = c.is_over.ensures c.if-is_over.true in
    let idle = a.others_done over.0 over.1 in
    let x = c.args.x in
    let asked : ℕ → ℕ → ℕ = jobs_work a.own.now.worst a.blocking (map (phased_from x) a.joint.now) a.clocks.now a.free.now in
    let own : ℕ → ℕ = earliest_arrival a.own.now.stream (phase_at a.own.now x) in
    let first = rw c.phased_from-own.ensures.value at c.earliest_arrival.ensures in
    sym (late-done asked own a.limit over.0 idle.some idle.within (omega (arith, idle.room x)) (omega (arith, over.2, first)))
    ∙ late-same (numbers asked) (demand a.own.now.worst a.blocking (others a.joint.now (elsewhere a.clocks.now a.free.now) x)) own a.limit (λ q w. demand-bounded a.own.now.worst a.blocking a.joint.now a.clocks.now a.free.now x q w a.bounded)
