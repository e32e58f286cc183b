-- What the drivers of a script note.
use Rattle.std.specs.Prelude.{◌≡◌, ℕ, true, List, [], ◌∷◌, ◌++◌, Some, Err, IsOk, length, map, slice_get, ⊤}
use Rattle.tb_submit.specs.clauses.Ends.{SubmitterState}
use Rattle.tb_submit.specs.clauses.Refusals.{TakesMemory, first_refusal_in}
use Rattle.tb_work.specs.claim.Admission.{admission_of}
use Rattle.tb_work.specs.claim.Packet.{Numbered, ReplyValue}
use Rattle.tb_work.specs.declared.packet.Packet.{Packet}
use Rattle.tb_work.specs.declared.refusal.Refusal.{Refusal}
use Rattle.tb_work.specs.declared.refusal.Refusal.TheVariants.{NoMemory, Shutdown, Stopped}
use Rattle.tb_program.specs.declared.run.notes.Notes.{Notes}
use Rattle.tb_program.specs.declared.run.notes.PacketResult.{PacketResult}
use Rattle.tb_program.specs.declared.run.notes.PacketResult.TheVariants.{Queued, Refused}

-- the packets that a driver knows to be queued
abbrev pub kept : List Packet → List PacketResult → List Packet
kept [] results = []
kept (packet ∷ packets) [] = []
kept (packet ∷ packets) (Queued ∷ results) = packet ∷ kept packets results
kept (packet ∷ packets) (Refused refusal ∷ results) = kept packets results

abbrev pub packets_in : List Numbered → List Packet
packets_in jobs = map (λ (job : Numbered). job.packet) jobs

-- why a packet is refused, with these replies to its submitter: Shutdown or Stopped as the first such reply; an
-- admitted packet's failures found no memory; or the packet isn't admitted
abbrev pub IsRefusedFor : ℕ → List ReplyValue → Packet → Refusal → Type 0
IsRefusedFor limit replies packet Shutdown = first_refusal_in replies ≡ Some Shutdown
IsRefusedFor limit replies packet Stopped = first_refusal_in replies ≡ Some Stopped
IsRefusedFor limit replies packet NoMemory = IsOk (admission_of limit packet) × TakesMemory packet
IsRefusedFor limit replies packet other = admission_of limit packet ≡ Err other

-- only an admitted packet is queued
abbrev pub IsResultOfPacket : ℕ → List ReplyValue → Packet → PacketResult → Type 0
IsResultOfPacket limit replies packet Queued = IsOk (admission_of limit packet)
IsResultOfPacket limit replies packet (Refused refusal) = IsRefusedFor limit replies packet refusal

abbrev pub AreResultsOfPackets : ℕ → List ReplyValue → List Packet → List PacketResult → Type 0
AreResultsOfPackets limit replies [] results = ⊤
AreResultsOfPackets limit replies (packet ∷ packets) [] = ⊤
AreResultsOfPackets limit replies (packet ∷ packets) (one ∷ others) =
    IsResultOfPacket limit replies packet one × AreResultsOfPackets limit replies packets others

-- The first packets of a share were handed in under a limit, and the driver noted the right result of each with these
-- replies. Exactly those are queued that it noted as queued.
pub record IsHandedIn (limit : ℕ) (replies : List ReplyValue) (share rest : List Packet) (results : List PacketResult)
    (queued : List Numbered) : Type 0 where
  pub handed : List Packet
  pub parts : share ≡ handed ++ rest
  pub number : length results ≡ length handed
  pub agrees : packets_in queued ≡ kept handed results
  pub right : AreResultsOfPackets limit replies handed results

-- notes that found room have all of this, and the replies that were read
abbrev pub HasNoted : List Packet → List Packet → Notes → ℕ → List Numbered → List ReplyValue → Type 0
HasNoted share rest notes limit queued read =
    notes.complete ≡ true → IsHandedIn limit read share rest notes.results.items queued × (notes.replies.items ≡ read)

-- submitters with this credit
abbrev pub HaveCredit : ℕ → List SubmitterState → Type 0
HaveCredit credit submitters =
    (k : ℕ) (submitter : SubmitterState) → slice_get submitters k ≡ Some submitter → submitter.credit ≡ credit

-- submitters that have neither queued nor read anything
abbrev pub AreFresh : List SubmitterState → Type 0
AreFresh submitters =
    (k : ℕ) (submitter : SubmitterState) → slice_get submitters k ≡ Some submitter
    → (submitter.queued ≡ []) × (submitter.read ≡ [])
