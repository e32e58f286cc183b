-- What waits in an engine.
use Rattle.std.specs.Prelude.{◌≡◌, ◌||◌, false, List, [], ◌∷◌, Option, Some, None}
use Rattle.tb_work.specs.claim.Packet.{Numbered}
use Rattle.tb_core.specs.claim.Front.{FrontState, IsFront, with_group}
use Rattle.tb_embed.specs.declared.waiting.Held.{Held}
use Rattle.tb_embed.specs.declared.waiting.Held.TheVariants.{Alone, Group}

-- the packets of what is held
abbrev pub jobs_in : Held → List Numbered
jobs_in (Alone job) = job ∷ []
jobs_in (Group jobs) = jobs

-- a front as if it held the packet that is alone
abbrev pub with_alone : FrontState → Option Numbered → FrontState
with_alone front None = front
with_alone front (Some job) = with_group front (job ∷ [])

-- a packet would begin a group
pub record BeginsGroup (front : FrontState) : Type 0 where
  pub sound : IsFront front
  pub empty : front.held ≡ []
  pub goes : (front.closed || front.stopped) ≡ false

-- a packet that is alone would
abbrev pub IsWaiting : FrontState → Option Numbered → Type 0
IsWaiting front None = Unit {0}
IsWaiting front (Some job) = BeginsGroup front
