use Rattle.std.proofs.Common.{◌≡◌, ◌∙◌, map}
use Rattle.cpa_phase.specs.Streams.{phased_from}
use Rattle.cpa_phase.proofs.RangeLaws.{phased_in_range}
use Rattle.cpa_offset_can.proofs.CanLaws.{can_bound_from-bounded}
use Rattle.cpa_offset_can.proofs.bound.AskedFromMoment.bound_from.Goals as goal

pub invariant_of-starts : goal.invariant_of-starts
invariant_of-starts c =
    let a = c.args.self.now in
    let same : c.as_slice.result.now ≡ map (phased_from c.args.x) a.joint.now = c.as_slice.ensures.value ∙ c.in_ok-put_phased.ensures in
    record {
      execution = a.execution;
      blocking_in_range = a.blocking_in_range;
      bit_in_range = a.bit_in_range;
      phased_in_range = rw same (phased_in_range a.joint.now c.args.x a.joint_in_range);
      clocks_in_range = a.clocks_in_range;
      free_in_range = a.free_in_range;
    }

pub returns-clause-value : goal.returns-clause-value
returns-clause-value c =
    let a = c.args.self.now in
    let same : c.as_slice.result.now ≡ map (phased_from c.args.x) a.joint.now = c.as_slice.ensures.value ∙ c.in_ok-put_phased.ensures in
    let found = rw (same, c.phased_from.ensures.value) at c.frames_bound.ensures.value in
    found ∙ can_bound_from-bounded a.own.now a.blocking a.joint.now a.clocks.now a.free.now a.bit a.limit c.args.x a.bounded
