-- What the demultiplexer has left to push.
use Rattle.std.specs.Prelude.{◌≡◌, Bool, true, false, List, [], ◌∷◌, Option, Some, None}
use Rattle.tb_work.specs.claim.Packet.{ReplyValue}
use Rattle.tb_world.specs.clauses.Mailbox.{Mailbox, mailboxes_with}

abbrev pub replies_of : Option (List ReplyValue) → List ReplyValue
replies_of None = []
replies_of (Some replies) = replies

abbrev pub is_none : List ReplyValue → Bool
is_none [] = true
is_none (reply ∷ replies) = false

-- the first reply was given to its submitter, or there was none
abbrev pub IsGiven : Bool → List ReplyValue → List ReplyValue → List Mailbox → List Mailbox → Type 0
IsGiven true old new mailboxes next = (reply : ReplyValue) × (old ≡ reply ∷ new) × (next ≡ mailboxes_with mailboxes reply)
IsGiven false old new mailboxes next = (old ≡ []) × (new ≡ []) × (next ≡ mailboxes)
