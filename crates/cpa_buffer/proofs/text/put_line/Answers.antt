use Rattle.std.proofs.lemmas.Result.{on_ok_weaker}
use Rattle.cpa_buffer.specs.BufferText.{line}
use Rattle.cpa_buffer.proofs.LoopLaws.{grows, grows-twice}
use Rattle.cpa_buffer.proofs.text.put_line.Goals as goal

pub returns : goal.returns
unfolding line
returns c =
    let named = grows _ _ _ _ _ c.in_ok-put.ensures c.in_ok-put-2.ensures in
    let label = grows _ _ _ _ _ named c.in_ok-put-3.ensures in
    let bound = grows _ _ _ _ _ label c.in_ok-put_bound.ensures in
    let peak = grows-twice _ _ _ _ _ _ bound c.in_ok-put_count.ensures in
    on_ok_weaker c.put-4.result (grows _ _ _ _ _ peak) c.put-4.ensures
