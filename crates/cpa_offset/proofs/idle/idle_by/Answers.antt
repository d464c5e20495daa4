use Rattle.std.proofs.Common.{◌≡◌, ◌∙◌, map}
use Rattle.cpa_offset.specs.Idle.{at_once}
use Rattle.cpa_offset.proofs.IdleLaws.{at_once-in_range, idle-anywhere}
use Rattle.cpa_offset.proofs.idle.idle_by.Goals as goal

pub invariant_of-jobs : goal.invariant_of-jobs
invariant_of-jobs c =
    let same : c.as_slice.result.now ≡ map at_once c.args.joint.now = c.as_slice.ensures.value ∙ c.in_ok-put_at_once.ensures in
    record {
      execution = c.requires.worst;
      blocking_in_range = c.requires.blocking;
      phased_in_range = rw same (at_once-in_range c.args.joint.now c.requires.joint);
      clocks_in_range = c.requires.clocks;
      free_in_range = c.requires.free;
    }

pub window_of-requires-clause-known : goal.window_of-requires-clause-known
window_of-requires-clause-known c = c.new-known.ensures c.args.clocks.now

pub returns : goal.returns
returns c end e =
    let same : c.as_slice.result.now ≡ map at_once c.args.joint.now = c.as_slice.ensures.value ∙ c.in_ok-put_at_once.ensures in
    let found = rw (e, same) at c.window_of.ensures.found in
    idle-anywhere c.args.worst c.args.blocking c.args.joint.now c.args.clocks.now c.args.free.now c.args.limit end found.0 found.1 found.2
