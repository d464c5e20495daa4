use Rattle.cpa_call.proofs.calls.send_whole.Goals as goal

pub returns : goal.returns
returns g c = record {
  sent = rw (← c.as_slice.ensures.value) c.send.ensures.sent;
  told = c.send.ensures.status;
  part = rw (← c.as_slice.ensures.value) c.send.ensures.part;
  rises = c.send.ensures.rises;
  failed = c.send.ensures.failed;
}
