-- Drivers whose submitters have ended, and the replies to what they queued.
use Rattle.std.specs.Prelude.{◌≡◌, ℕ, suc, List, [], ◌∷◌, ◌++◌, Some, length, slice_get}
use Rattle.tb_submit.specs.clauses.Ends.{EndedState}
use Rattle.tb_work.specs.claim.Packet.{Numbered, ReplyValue}
use Rattle.tb_program.specs.inside.Drivers.{HasSeenOf, IsDone}
use Rattle.tb_program.specs.declared.run.driver.ScriptDriver.{ScriptDriver}
use Rattle.tb_program.specs.declared.run.notes.PacketResult.{PacketResult}
use Rattle.tb_program.specs.declared.run.notes.PacketResult.TheVariants.{Queued, Refused}

-- the number of packets that a driver knows to be queued
abbrev pub queued_among : List PacketResult → ℕ
queued_among [] = 0
queued_among (Queued ∷ results) = suc (queued_among results)
queued_among (Refused refusal ∷ results) = queued_among results

-- there are as many replies as such packets
abbrev pub IsAnswered : List PacketResult → List ReplyValue → Type 0
IsAnswered results replies = queued_among results ≡ length replies

-- a driver has seen what its end queued and read, and there are as many replies as packets
pub record IsAnsweredBy (driver : ScriptDriver) (ended : EndedState) : Type 0 where
  pub limit : ℕ
  pub queued : List Numbered
  pub seen : HasSeenOf driver limit queued ended.read
  pub number : length queued ≡ length (ended.read ++ ended.lying)

abbrev pub AreAllAnswered : List ScriptDriver → List EndedState → Type 0
AreAllAnswered drivers ends =
    (k : ℕ) (driver : ScriptDriver) (ended : EndedState) → slice_get drivers k ≡ Some driver
    → slice_get ends k ≡ Some ended → IsAnsweredBy driver ended

abbrev pub AreAllDone : List ScriptDriver → Type 0
AreAllDone drivers = (k : ℕ) (driver : ScriptDriver) → slice_get drivers k ≡ Some driver → IsDone driver
