-- The answer to one of many packets.
use Rattle.std.specs.Prelude.{ℕ, List, take, slice_get, Option, Some, None}
use Rattle.tb_layout.specs.declared.answer.Answer.{Answer}
use Rattle.tb_layout.specs.claim.Events.{Input, Packet, Pulse}
use Rattle.tb_machine.specs.claim.Replay.{State, replay, answer_of}

abbrev pub answer_to : State → Option Input → Option Answer
answer_to state None = None
answer_to state (Some (Pulse moment)) = None
answer_to state (Some (Packet submitter number events)) = Some (answer_of state events)

-- the answer to the packet at a place, in the state that those before it left
abbrev pub answer_at : ℕ → List Input → ℕ → Option Answer
answer_at clock inputs place = answer_to (replay clock (take place inputs)) (slice_get inputs place)
