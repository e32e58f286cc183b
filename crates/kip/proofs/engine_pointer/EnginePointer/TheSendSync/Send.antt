-- A handle may move to another thread: its pointer and its allocator are plain values, and the engine's box is memory of the
-- heap, which no thread owns.
use base.Shift.{Keyless}
use mir.Raw.{raw}
use Rattle.kip.proofs.Words.{lone, Ptr, exits_of, shape, fields, to, Option, Some, None}
use denote.Param.Send.{IsSend, AllSend, owning_send, struct_send, sendable}
use Rattle.std.specs.Global.{Global}
use Rattle.std.proofs.Crossing as crossing
use Rattle.std_alloc.proofs.SendSync.{quiet, lies}
use Rattle.std_heap.proofs.Global.TheSendSync as allocator
use Rattle.tb_embed.specs.contracts.recorded.RecordedEngine as Engine
use Rattle.tb_embed.proofs.recorded.RecordedEngine.TheSendSync.{the_send as engine_send}
use Rattle.kip.specs.clauses.EnginePointer.{pointer_owns}
use Rattle.kip.specs.contracts.engine_pointer.EnginePointer.{the_row, the_type}

-- what is owned at the pointer needs no key of a thread
owned_keyless : (alloc : Global) (at : Ptr) (engine : Option Engine.the_row.Denot)
    → Keyless (pointer_owns Engine.the_row alloc at engine)
owned_keyless alloc at None = tt
owned_keyless alloc at (Some engine) =
    (lies Engine.the_row engine_send at engine, crossing.frees.frees alloc (raw (lone Engine.the_row.mir)) at)

pub send : IsSend the_row
send =
    let all : AllSend (fields the_type) = (search sendable, (allocator.the_field_send, tt)) in
    owning_send the_type all (λ pointer. owned_keyless pointer.alloc pointer.at pointer.engine)
    (λ key. quiet (to the_type) (exits_of key (fields the_type)) ((struct_send (shape the_type) all).leaving key))
