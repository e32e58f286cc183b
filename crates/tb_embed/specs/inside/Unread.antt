-- The replies that are not read.
use Rattle.std.specs.Prelude.{ℕ, List, [], Option, Some, None}
use Rattle.tb_work.specs.claim.Packet.{ReplyValue}

-- the replies, oldest first, and for how many outcomes more there is capacity
pub record UnreadState : Type 0 where
  pub replies : List ReplyValue
  pub room : ℕ

-- the replies that a cutter still has, if there is one
abbrev pub replies_of : Option (List ReplyValue) → List ReplyValue
replies_of None = []
replies_of (Some replies) = replies
