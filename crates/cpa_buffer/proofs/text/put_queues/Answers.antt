use Rattle.std.proofs.Common.{append_assoc}
use Rattle.cpa_units.proofs.PlaceLaws.{flat_map-places_more}
use Rattle.cpa_buffer.specs.BufferText.{queue_line}
use Rattle.cpa_buffer.proofs.text.put_queues.Goals as goal

pub loop-k-preserved : goal.loop-k-preserved
loop-k-preserved c =
    rw (c.in_ok-put_queue.ensures, c.loop-k.invariant, flat_map-places_more (queue_line c.args.system.now c.args.x.now) c.loop-k.k) (simp append_assoc)
