use Rattle.std.proofs.Common.{Option, Some, None}
use mir.Raw.{raw}
use base.Shift.{Keyless}
use denote.Memory.{lone}
use denote.RawPtr.{Ptr}
use denote.Struct.Struct.{exits_of}
use denote.Struct.Owning.{shape, fields, to}
use denote.Param.Send.{IsSend, AllSend, owning_send, struct_send, sendable}
use Rattle.std.proofs.Crossing as crossing
use Rattle.std_alloc.proofs.SendSync.{quiet, lies}
use Rattle.cpa_session.specs.contracts.session.Session as Session
use Rattle.cpa_session.proofs.session.Session.TheSendSync.{the_send as session}
use Rattle.cpa_kept.specs.HiddenBox.{heap, sealed_owns}
use Rattle.cpa_kept.specs.contracts.hidden_box.Sealed.{the_row, the_type}

-- what is owned names no thread
owned : (p : Ptr) (kept : Option (Session.the_row.Denot)) → Keyless (sealed_owns p kept)
owned p None = tt
owned p (Some x) = (lies Session.the_row session p x, crossing.frees.frees heap (raw (lone (Session.the_row).mir)) p)

pub send : IsSend the_row
send =
    let all : AllSend (fields the_type) = (search sendable, tt) in
    owning_send the_type all (λ d. owned d.ptr d.kept) (λ k. quiet (to the_type) (exits_of k (fields the_type)) ((struct_send (shape the_type) all).leaving k))
