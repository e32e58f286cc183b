-- A submitter's reply ring, and what it received.
use Rattle.std.specs.Prelude.{ℕ, List, [], ◌∷◌, ◌++◌, Option, Some, None, slice_index_or, slice_set}
use Rattle.tb_work.specs.claim.Packet.{ReplyValue}

-- the ring, and what was taken from it
pub record Mailbox : Type 0 where
  pub ring : List ReplyValue
  pub received : List ReplyValue

abbrev pub empty_mailbox : Mailbox
empty_mailbox = record { ring = []; received = [] }

abbrev pub with_reply : Mailbox → ReplyValue → Mailbox
with_reply mailbox reply = record { ring = mailbox.ring ++ reply ∷ []; received = mailbox.received }

abbrev pub after_pop_of : Mailbox → List ReplyValue → Option Mailbox
after_pop_of mailbox [] = None
after_pop_of mailbox (reply ∷ ring) = Some (record { ring = ring; received = mailbox.received ++ reply ∷ [] })

-- the mailbox after the first reply of its ring was received, if there is one
abbrev pub after_pop : Mailbox → Option Mailbox
after_pop mailbox = after_pop_of mailbox mailbox.ring

abbrev pub mailbox_at : List Mailbox → ℕ → Mailbox
mailbox_at mailboxes submitter = slice_index_or mailboxes submitter empty_mailbox

-- a reply goes to its submitter's ring
abbrev pub mailboxes_with : List Mailbox → ReplyValue → List Mailbox
mailboxes_with mailboxes reply =
    slice_set mailboxes reply.packet.submitter (with_reply (mailbox_at mailboxes reply.packet.submitter) reply)
