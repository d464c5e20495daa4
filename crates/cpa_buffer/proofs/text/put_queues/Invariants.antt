use Rattle.std.proofs.Common.{◌≡◌, ◌++◌}
use Rattle.std.specs.List.{range_with_len, flat_map}
use Rattle.cpa_buffer.specs.BufferText.{queue_line}
use Rattle.cpa_buffer.proofs.text.put_queues.Given as goal

abbrev pub invariant-loop-k : goal.invariant-loop-k
invariant-loop-k l = l.text ≡ l.initial.text ++ flat_map (queue_line l.system l.x) (range_with_len 0 l.k)
