-- Worked examples of what is due, computed from the definition.
use Rattle.std.proofs.Common.{refl, ◌≡◌, ℕ, List, [], ◌∷◌, ◌++◌}
use Rattle.tb_core.proofs.Words.{map, replicate, Failures, Outcome, Committed, Shutdown, Stopped, Item, Ticket, Numbered, ReplyValue, input_of, numbered_packet, ahead, replay, due, Run, committed_in, inputs}
use Rattle.tb_work.specs.declared.item.Item.TheVariants as item

-- an account's event with this id, in ledger 1 with code 1
abbrev event : ℕ → List ℕ
event id = id ∷ replicate 111 0 ++ 1 ∷ 0 ∷ 0 ∷ 0 ∷ 1 ∷ replicate 11 0

abbrev job : ℕ → ℕ → List ℕ → Numbered
job submitter number bytes = numbered_packet submitter number (record { operation = 129; bytes = bytes; user = 7 })

abbrev packet : Numbered → Ticket
packet job = record { sender = job.submitter; item = item.Packet job }

abbrev of_control : Item → Ticket
of_control x = record { sender = 1; item = x }

abbrev outcomes : List ReplyValue → List Outcome
outcomes replies = map (λ (reply : ReplyValue). reply.outcome) replies

abbrev items : List Ticket → List Item
items queue = map (λ (ticket : Ticket). ticket.item) queue

abbrev first : Numbered
first = job 0 0 (event 1)

abbrev second : Numbered
second = job 0 1 (event 2)

-- a packet, the Close, and a packet behind it
abbrev shut : List Ticket
shut = packet first ∷ of_control item.Close ∷ packet second ∷ []

packet_behind_shut : outcomes (due 0 0 shut (ahead (items shut)) 0) ≡ Committed 0 (Failures []) ∷ Shutdown ∷ []
packet_behind_shut = refl

packet_behind_shut-clock : (replay 0 (ahead (items shut))).clock ≡ 1
packet_behind_shut-clock = refl

-- the allocation of the second commit fails: neither the pulse nor the packet after it is committed
abbrev pulsed : List Ticket
pulsed = packet first ∷ of_control (item.Pulse 5) ∷ packet second ∷ of_control item.End ∷ []

refused_second_commit : outcomes (due 0 0 pulsed (input_of first ∷ []) 0) ≡ Committed 0 (Failures []) ∷ Stopped ∷ []
refused_second_commit = refl

-- if nothing is refused, a pulse takes a place
all_committed : outcomes (due 0 0 pulsed (ahead (items pulsed)) 0)
    ≡ Committed 0 (Failures []) ∷ Committed 2 (Failures []) ∷ []
all_committed = refl

all_committed-clock : (replay 0 (ahead (items pulsed))).clock ≡ 6
all_committed-clock = refl

-- the same account twice: each reply belongs to its packet
abbrev doubled : List Ticket
doubled = packet first ∷ packet (job 1 0 (event 1)) ∷ []

own_replies : outcomes (due 0 0 doubled (ahead (items doubled)) 0) ≡ Committed 0 (Failures []) ∷ []
own_replies = refl

other_replies : outcomes (due 0 0 doubled (ahead (items doubled)) 1)
    ≡ Committed 1 (Failures (record { index = 0; code = 21 } ∷ [])) ∷ []
other_replies = refl

-- ---- runs that go on

-- what a first run committed is the whole journal
first_run : (run : Run) → committed_in (record run { before = [] }) ≡ inputs run.ledger
first_run run = refl

-- a second run over a ledger that committed the first packet: places count on, and that account exists
abbrev next_day : List Ticket
next_day = packet first ∷ packet (job 0 1 (event 2)) ∷ []

goes_on : outcomes (due 0 1 next_day (input_of first ∷ ahead (items next_day)) 0)
    ≡ Committed 1 (Failures (record { index = 0; code = 21 } ∷ [])) ∷ Committed 2 (Failures []) ∷ []
goes_on = refl
