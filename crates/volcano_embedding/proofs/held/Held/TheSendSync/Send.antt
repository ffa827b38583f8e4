-- What a session that is held owns names no thread.
use Rattle.std.specs.Prelude.{Option, Some, None}
use Rattle.std.specs.Global.{Global}
use base.Shift.{Keyless}
use mir.Raw.{raw}
use denote.Memory.{lone}
use denote.RawPtr.{Ptr}
use denote.Struct.Struct.{exits_of}
use denote.Struct.Owning.{shape, fields, to}
use denote.Param.Send.{IsSend, AllSend, owning_send, struct_send, sendable}
use Rattle.std.proofs.Crossing as heap
use Rattle.std_alloc.proofs.SendSync.{quiet, lies}
use Rattle.std_heap.proofs.Global.TheSendSync as handle
use Rattle.volcano_embedding.specs.Held.{held_owns}
use Rattle.volcano_embedding.specs.contracts.shared.SharedSession as Session
use Rattle.volcano_embedding.proofs.shared.SharedSession.TheSendSync.{the_send as session}
use Rattle.volcano_embedding.specs.contracts.held.Held.{the_row, the_type}

owned : (alloc : Global) (at : Ptr) (o : Option Session.the_row.Denot) → Keyless (held_owns alloc at o)
owned alloc at (Some s) = (lies Session.the_row session at s, heap.frees.frees alloc (raw (lone Session.the_row.mir)) at)
owned alloc at None = tt

pub send : IsSend the_row
send =
    let all : AllSend (fields the_type) = (search sendable, (handle.the_field_send, tt)) in
    owning_send the_type all (λ d. owned d.alloc d.at d.session)
    (λ k. quiet (to the_type) (exits_of k (fields the_type)) ((struct_send (shape the_type) all).leaving k))
