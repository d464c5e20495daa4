use Rattle.std.proofs.Common.{ap, ◌+◌, ◌∙◌, length}
use Rattle.std.proofs.lemmas.List.{length_push}
use Rattle.cpa_buffer.specs.Buffers.{peak_on}
use Rattle.cpa_buffer.proofs.LoopLaws.{peaks-more}
use Rattle.cpa_buffer.proofs.peaks.resource_peaks.Goals as goal

pub loop-k-preserved : goal.loop-k-preserved
loop-k-preserved c =
    let e = c.in_ok-push.ensures.items in
    record {
      peaks = λ tr is. peaks-more (peak_on c.args.system.now tr) c.loop-k.k c.in_ok-peak.peak c.loop-k.peaks.items c.push.new.self.items (c.loop-k.invariant.peaks tr is) (c.in_ok-peak.ensures tr is) e;
      count = ap length e ∙ (length_push c.loop-k.peaks.items c.in_ok-peak.peak ∙ ap (λ n. n + 1) c.loop-k.invariant.count);
    }
