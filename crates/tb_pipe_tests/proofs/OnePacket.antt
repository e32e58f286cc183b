-- The replies that are due in a run with one packet.
use Rattle.std.proofs.Common.{◌≡◌, ◌<◌, ◌⊎◌, inl, inr, ℕ, zero, suc, ◌+◌, Bool, true, false, List, [], ◌∷◌, ◌++◌, map, length, get_or, length-append, sym, refl, ap, ◌∙◌, subst, arith}
use Rattle.std.specs.Prelude.{◌==◌, slice_index_or, filter, if◌then◌else◌}
use Rattle.std.specs.List.{AllByRecursion}
use Rattle.std.proofs.lemmas.Bool.{eq-eqb, ne_eqb}
use Rattle.tb_layout.specs.claim.Events.{Input}
use Rattle.tb_layout.specs.claim.Events as input
use Rattle.tb_work.specs.claim.Job.{numbered_packet}
use Rattle.tb_work.specs.claim.Ahead.{items_in, ahead, items_from}
use Rattle.tb_work.specs.claim.Packet.{ReplyValue, input_of}
use Rattle.tb_work.specs.claim.Answer.{reply_with}
use Rattle.tb_work.specs.declared.item.Item.{Item}
use Rattle.tb_work.specs.declared.item.Item.TheVariants as item
use Rattle.tb_work.specs.declared.item.Ticket.{Ticket}
use Rattle.tb_work.specs.declared.packet.Packet.{Packet}
use Rattle.tb_core.specs.claim.Due.{all_due_from, outcome_at, reply_due, replies_to, Place, Ahead, Behind, next_place}
use Rattle.tb_core.specs.claim.Journal.{LedgerState, inputs}
use Rattle.tb_submit.specs.clauses.Ends.{EndedState, IntakeState, Origin, Seat, SubmitterState, ended_with, new_submitter, replies_of, seat_at, with_item}
use Rattle.tb_pipe_tests.specs.inside.OnePacket.{IsReplyToOne, IsRunOfOne, one_and_end}

-- ---- a queue in which all but one sender only end

abbrev part_if : Bool → Ticket → ℕ → List Ticket → List Item
part_if b ticket sender queue =
    map (λ (t : Ticket). t.item) (if b then ticket ∷ filter (λ (t : Ticket). t.sender == sender) queue
    else filter (λ (t : Ticket). t.sender == sender) queue)

abbrev AreEnds : List Item → Type 0
AreEnds items = AllByRecursion (λ x. x ≡ item.End) items

abbrev OthersEnd : List Ticket → Type 0
OthersEnd queue = (sender : ℕ) → 0 < sender → AreEnds (items_from sender queue)

behind_one : (b : Bool) (ticket : Ticket) (sender : ℕ) (queue : List Ticket)
    → AreEnds (part_if b ticket sender queue) → AreEnds (items_from sender queue)
behind_one true ticket sender queue all = all.1
behind_one false ticket sender queue all = all

others_behind : (ticket : Ticket) (queue : List Ticket) → OthersEnd (ticket ∷ queue) → OthersEnd queue
others_behind ticket queue others =
    λ sender above. behind_one (ticket.sender == sender) ticket sender queue (others sender above)

is_end_of : (ticket : Ticket) (queue : List Ticket) → OthersEnd (ticket ∷ queue) → 0 < ticket.sender
    → ticket.item ≡ item.End
is_end_of ticket queue others above =
    (subst AreEnds (ap (λ b. part_if b ticket ticket.sender queue) (eq-eqb ticket.sender ticket.sender refl))
    (others ticket.sender above)).0

past_end : (place : Place) → next_place place item.End ≡ place
past_end (Ahead k) = refl
past_end Behind = refl

-- what one ticket more adds to the part of sender 0
abbrev Adds : Ticket → List Ticket → Type 0
Adds ticket queue =
    ((ticket.sender ≡ 0) × (items_from 0 (ticket ∷ queue) ≡ ticket.item ∷ items_from 0 queue))
    ⊎ ((0 < ticket.sender) × (items_from 0 (ticket ∷ queue) ≡ items_from 0 queue))

adds : (ticket : Ticket) (queue : List Ticket) (k : ℕ) → ticket.sender ≡ k → Adds ticket queue
adds ticket queue zero is = inl (is, ap (λ b. part_if b ticket 0 queue) (eq-eqb ticket.sender 0 is))
adds ticket queue (suc k) is =
    inr (
      omega (arith, is),
      ap (λ b. part_if b ticket 0 queue) (ne_eqb ticket.sender 0 (λ e. absurd (omega (arith, is, e)))),
    )

pub due_to_first : (clock : ℕ) (done : List Input) (place : Place) (queue : List Ticket) → OthersEnd queue
    → all_due_from clock done place (items_in queue) ≡ all_due_from clock done place (items_from 0 queue)
due_to_first clock done place [] others = refl
due_to_first clock done place (ticket ∷ queue) others =
    let rest : (p : Place) → all_due_from clock done p (items_in queue) ≡ all_due_from clock done p (items_from 0 queue)
    = λ p. due_to_first clock done p queue (others_behind ticket queue others) in
    elim (adds ticket queue ticket.sender refl) [
      | inl mine ↦ ap (λ more. reply_due (outcome_at clock done place) ticket.item ++ more)
          (rest (next_place place ticket.item)) ∙ ap (all_due_from clock done place) (sym mine.1)
      | inr other ↦ ap (λ x. all_due_from clock done place (x ∷ items_in queue))
          (is_end_of ticket queue others other.0) ∙ ap (λ p. all_due_from clock done p (items_in queue))
          (past_end place) ∙ rest place
          ∙ ap (all_due_from clock done place) (sym other.1)
    ]

ahead_after : (x : Item) (items others : List Item) → ahead items ≡ ahead others → ahead (x ∷ items) ≡ ahead (x ∷ others)
ahead_after (item.Packet job) items others same = ap (λ inputs. input_of job ∷ inputs) same
ahead_after (item.Pulse moment) items others same = ap (λ inputs. input.Pulse moment ∷ inputs) same
ahead_after item.End items others same = same
ahead_after item.Close items others same = refl

pub ahead_of_first : (queue : List Ticket) → OthersEnd queue → ahead (items_in queue) ≡ ahead (items_from 0 queue)
ahead_of_first [] others = refl
ahead_of_first (ticket ∷ queue) others =
    let rest = ahead_of_first queue (others_behind ticket queue others) in
    elim (adds ticket queue ticket.sender refl) [
      | inl mine ↦ ahead_after ticket.item (items_in queue) (items_from 0 queue) rest ∙ ap ahead (sym mine.1)
      | inr other ↦ ap (λ x. ahead (x ∷ items_in queue)) (is_end_of ticket queue others other.0) ∙ rest
          ∙ ap ahead (sym other.1)
    ]

-- ---- one packet

front_of_one : (done remainder : List Input) (input : Input) → done ++ remainder ≡ input ∷ [] → (done ≡ []) ⊎ (done ≡ input ∷ [])
front_of_one [] remainder input e = inl refl
front_of_one (x ∷ []) remainder input e = inr cc
front_of_one (x ∷ y ∷ done) remainder input e = cc

abbrev one_reply : ℕ → List Input → Packet → ReplyValue
one_reply clock done packet = reply_with (outcome_at clock done (Ahead 0)) (numbered_packet 0 0 packet)

reply_where : (clock : ℕ) (packet : Packet) (done : List Input)
    → (done ≡ []) ⊎ (done ≡ input_of (numbered_packet 0 0 packet) ∷ [])
    → IsReplyToOne clock packet (one_reply clock done packet)
reply_where clock packet done (inl none) = inl (ap (λ d. one_reply clock d packet) none)
reply_where clock packet done (inr all) = inr (ap (λ d. one_reply clock d packet) all)

module _ {clock : ℕ} {packet : Packet} {ledger : LedgerState} {ends : List EndedState} (run : IsRunOfOne clock packet ledger ends) where
  others_end : OthersEnd run.queue
  others_end zero above = absurd (omega (arith, above))
  others_end (suc zero) above =
      subst AreEnds (sym (run.lawful.filled.parts 1 (omega arith) ∙ run.controlled)) (refl, tt)
  others_end (suc (suc k)) above =
      subst AreEnds (sym (run.lawful.filled.no_other_sender (suc (suc k)) (omega arith))) tt

  first : items_from 0 run.queue ≡ one_and_end packet
  first = run.lawful.filled.parts 0 (omega arith) ∙ run.submitted

  abbrev reply_due_to_one : ReplyValue
  reply_due_to_one = one_reply ledger.opening (inputs ledger) packet

  replies_to_one : replies_of ends 0 ≡ reply_due_to_one ∷ []
  replies_to_one =
      run.lawful.replied 0 (omega arith)
      ∙ ap (λ replies. replies_to replies 0) (due_to_first ledger.opening (inputs ledger) (Ahead 0) run.queue others_end
      ∙ ap (all_due_from ledger.opening (inputs ledger) (Ahead 0)) first)

  is_reply : IsReplyToOne ledger.opening packet reply_due_to_one
  is_reply =
      reply_where ledger.opening packet (inputs ledger) (front_of_one (inputs ledger) run.lawful.committed.0
      (input_of (numbered_packet 0 0 packet))
      (run.lawful.committed.1 ∙ ahead_of_first run.queue others_end ∙ ap ahead first))

  -- the one end has the reply still to read
  pub lies_for_one : (front : List EndedState) (ended : EndedState) → ends ≡ front ++ ended ∷ [] → ended.lying ≡ reply_due_to_one ∷ []
  lies_for_one [] ended is =
      let unread : ended.read ≡ [] = ap (λ (l : List EndedState). (get_or l 0 ended).read) (sym is) ∙ run.unread ended in
      ap (λ read. read ++ ended.lying) (sym unread) ∙ ap (λ l. replies_of l 0) (sym is) ∙ replies_to_one
  lies_for_one (other ∷ front) ended is =
      let long : length ends ≡ suc (length front + 1) = ap length is ∙ ap suc (length-append front (ended ∷ [])) in
      absurd (omega (arith, long, run.long))

  pub is_reply_read : (front : List EndedState) (ended : EndedState) (reply : ReplyValue) (rest : List ReplyValue)
      → ends ≡ front ++ ended ∷ [] → ended.lying ≡ reply ∷ rest → IsReplyToOne clock packet reply
  is_reply_read front ended reply rest is lies =
      let known = lies_for_one front ended is in
      let same : reply_due_to_one ≡ reply = cc in
      subst (λ opening. IsReplyToOne opening packet reply) run.opening (subst (IsReplyToOne ledger.opening packet) same is_reply)

-- the one submitter of a pipeline that was just opened
pub record IsFirst (first : SubmitterState) : Type 0 where
  pub queued : first.queued ≡ []
  pub read : first.read ≡ []
  pub number : first.origin.seat.number ≡ 0

pub new_one : (credit : ℕ) (intake : IntakeState) (origins : List Origin) (first : SubmitterState)
    → first ∷ [] ≡ map (new_submitter credit) origins
    → ((d : Origin) → (slice_index_or origins 0 d).seat ≡ seat_at intake 0) → IsFirst first
new_one credit intake [] first is seats = cc
new_one credit intake (origin ∷ others) first is seats =
    let fresh : first ≡ new_submitter credit origin = cc in
    record {
      queued = ap (λ (s : SubmitterState). s.queued) fresh;
      read = ap (λ (s : SubmitterState). s.read) fresh;
      number = ap (λ (s : SubmitterState). s.origin.seat.number) fresh ∙ ap (λ (s : Seat). s.number) (seats origin);
    }

-- what it has queued and read once it has ended
pub queued_one : (packet : Packet) (first : SubmitterState) (ended : EndedState) → IsFirst first
    → ended ≡ ended_with (with_item first (item.Packet (numbered_packet first.origin.seat.number 0 packet)))
    item.End →
    (ended.queued ≡ one_and_end packet) × (ended.read ≡ [])
queued_one packet first ended is at = (
  ap (λ (e : EndedState). e.queued) at ∙ ap (λ (before : List Item).
      (before ++ item.Packet (numbered_packet first.origin.seat.number 0 packet) ∷ []) ++ item.End ∷ []) is.queued
      ∙ ap (λ n. item.Packet (numbered_packet n 0 packet) ∷ item.End ∷ []) is.number,
  ap (λ (e : EndedState). e.read) at ∙ is.read,
)
