use Rattle.std.proofs.Common.{◌≡◌, ◌<◌, [], ◌∷◌, length, slice_index_or, sym, ap, arith}
use Rattle.cpa_events.specs.declared.stream.Stream.{Stream}
use Rattle.cpa_events.specs.Events.{Model}
use Rattle.cpa_report.specs.Report.{stream_text, model_text}
use Rattle.cpa_report.proofs.report.put_model.Goals as goal

text_of_first : (m : Model) (s : Stream) → 0 < length m → s ≡ slice_index_or m 0 s → model_text m ≡ stream_text s
text_of_first [] s some e = absurd (omega arith)
text_of_first (t ∷ m) s some e = ap stream_text (sym e)

pub get-requires : goal.get-requires
get-requires c = c.requires.some

pub returns : goal.returns
returns c = rw (text_of_first c.args.model.now c.get.result c.requires.some c.get.ensures) c.put_stream.ensures
