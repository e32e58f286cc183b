-- An engine stops only if places are used up.
use Rattle.std.proofs.Common.{◌≡◌, ◌≤◌, ◌+◌, refl, sym, ap, ◌∙◌, arith, ℕ, Bool, false, List, [], ◌∷◌, ◌++◌, map, length, length-append, Option, Some, None}
use Rattle.tb_embed.proofs.Words.{is_some, nat_tests, places_max, ahead, Numbered, ReplyValue, input_of, Item, Ticket, Parcel, Batch, Pulse, Return, Last, Ahead, Behind, FrontState, IsFront, all_decisions_in, held_by, take_step, Decision, Admitted, AreDecisions, decisions_from, decisions_of, inputs_in, BareLedgerState, HasSent, halts, with_journal, LedgerState, inputs, ahead-first, inputs_in-append, has_taken, HasPlaces, HasTaken, places_in, places_of}
use Rattle.tb_layout.specs.claim.Events as input
use Rattle.tb_work.specs.declared.item.Item.TheVariants as item

-- ---- decisions without a stop

none_behind : (items : List Item) → inputs_in (decisions_from None Behind items) ≡ []
none_behind [] = refl
none_behind (item.Packet job ∷ items) = none_behind items
none_behind (item.Pulse moment ∷ items) = none_behind items
none_behind (item.End ∷ items) = none_behind items
none_behind (item.Close ∷ items) = none_behind items

all_from : (k : ℕ) (items : List Item) → inputs_in (decisions_from None (Ahead k) items) ≡ ahead items
all_from k [] = refl
all_from k (item.Packet job ∷ items) = ap (λ ws. input_of job ∷ ws) (all_from (k + 1) items)
all_from k (item.Pulse moment ∷ items) = ap (λ ws. input.Pulse moment ∷ ws) (all_from (k + 1) items)
all_from k (item.End ∷ items) = all_from k items
all_from k (item.Close ∷ items) = none_behind items

all_ahead : (items : List Item) (closed stopped : Bool) (decisions : List Decision) → AreDecisions items closed stopped decisions
    → stopped ≡ false → inputs_in decisions ≡ ahead items
all_ahead items closed stopped decisions are on = by are.stop (sym on ∙ are.stops) are.all
  where
    by : (stop : Option ℕ) → false ≡ is_some stop → decisions ≡ decisions_of stop items → inputs_in decisions ≡ ahead items
    by None none all = ap inputs_in all ∙ all_from 0 items
    by (Some k) none all = cc

-- ---- how many there are

inputs-append : (first others : List Decision)
    → length (inputs_in (first ++ others)) ≡ length (inputs_in first) + length (inputs_in others)
inputs-append first others = ap length (inputs_in-append first others) ∙ length-append (inputs_in first) (inputs_in others)

inputs_held : (jobs : List Numbered) → length (inputs_in (map Admitted jobs)) ≡ length jobs
inputs_held [] = refl
inputs_held (job ∷ jobs) = omega (arith, inputs_held jobs)

inputs_sent : (parcels : List Parcel) → length (inputs_in (all_decisions_in parcels)) ≡ places_in parcels
inputs_sent [] = refl
inputs_sent (Batch jobs ∷ parcels) = inputs-append (map Admitted jobs) (all_decisions_in parcels)
    ∙ omega (arith, inputs_held jobs, inputs_sent parcels)
inputs_sent (Pulse moment ∷ parcels) = omega (arith, inputs_sent parcels)
inputs_sent (Return job cause ∷ parcels) = inputs_sent parcels
inputs_sent (Last ∷ parcels) = inputs_sent parcels

-- a ledger that was sent these has at most as many places more
places_sent : {start : LedgerState} {limit : ℕ} {sent : List Decision} {ledger : BareLedgerState} {replies : List ReplyValue}
    → HasSent start limit sent ledger replies → ledger.places ≤ length (inputs start) + length (inputs_in sent)
places_sent {start} {sent} {ledger} has =
    omega (
      arith,
      has.committed.counted,
      ap length has.commits.committed,
      length-append (inputs (with_journal ledger has.groups)) has.commits.remainder,
      length-append (inputs start) (inputs_in sent),
    )

-- ---- nothing stops

goes_with : (ledger : BareLedgerState) (count : ℕ) → ledger.stopped ≡ false → ledger.places + count ≤ places_max
    → halts ledger count ≡ false
goes_with ledger count goes few = grind (arith, nat_tests, goes, few)

pub places_before : (start : LedgerState) (items others : List Item) → HasPlaces start (items ++ others) → HasPlaces start items
places_before start items others places =
    let first = ahead-first items others in
    omega (arith, places, ap length first.1, length-append (ahead items) first.0)

-- as the group held is committed
pub group_goes : {start : LedgerState} {items : List Item} {replies : List ReplyValue} {front : FrontState}
    {ledger : BareLedgerState} → HasTaken start items replies front ledger → front.stopped ≡ false → ledger.stopped ≡ false
    → HasPlaces start items → halts ledger (length front.held) ≡ false
group_goes {items} {front} {ledger} has on goes places =
    goes_with ledger (length front.held) goes (omega (
      arith,
      ap length (all_ahead items front.closed front.stopped (has.sent ++ held_by front) has.passed on),
      inputs-append has.sent (held_by front),
      inputs_held front.held,
      places_sent has.has_sent,
      places,
    ))

-- as the front takes a ticket
pub ticket_goes : {start : LedgerState} {items : List Item} {replies : List ReplyValue} {front : FrontState}
    {ledger : BareLedgerState} (ticket : Ticket) → IsFront front → ticket.sender ≤ front.submitters
    → HasTaken start items replies front ledger → front.stopped ≡ false → ledger.stopped ≡ false
    → HasPlaces start (items ++ ticket.item ∷ []) → halts ledger (places_of front ticket) ≡ false
ticket_goes {items} {front} {ledger} ticket is among has on goes places =
    let step = take_step false front ticket.sender ticket.item in
    let taken = has_taken false front ticket step is among refl in
    let sent = has.sent ++ all_decisions_in step.parcels in
    goes_with ledger (places_of front ticket) goes (omega (
      arith,
      ap length (all_ahead (items ++ ticket.item ∷ []) step.front.closed step.front.stopped (sent ++ held_by step.front)
          (taken.passes items has.sent has.passed) (taken.goes_on refl on)),
      inputs-append sent (held_by step.front),
      inputs-append has.sent (all_decisions_in step.parcels),
      inputs_sent step.parcels,
      places_sent has.has_sent,
      places,
    ))
