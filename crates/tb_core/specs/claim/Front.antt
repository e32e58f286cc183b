-- What a front makes of one ticket.
use Rattle.std.specs.Prelude.{◌≡◌, ℕ, ◌+◌, ◌≤◌, Bool, true, false, not, ◌||◌, if◌then◌else◌, List, [], ◌∷◌, ◌++◌, length, map, take, slice_set, get_or, nat_lt, Option, Some, None}
use Rattle.std.specs.List.{list_all, list_any, flat_map}
use Rattle.tb_layout.specs.claim.Bounds.{batch_max, senders_max, submitters_max}
use Rattle.tb_work.specs.claim.Packet.{Numbered}
use Rattle.tb_work.specs.claim.Ahead.{items_from}
use Rattle.tb_work.specs.claim.Queue.{is_end}
use Rattle.tb_work.specs.declared.item.Ticket.{Ticket}
use Rattle.tb_work.specs.declared.item.Item.{Item}
use Rattle.tb_work.specs.declared.item.Item.TheVariants as item
use Rattle.tb_work.specs.declared.refusal.Refusal.{Refusal}
use Rattle.tb_work.specs.declared.refusal.Refusal.TheVariants.{BadLimit, BadSubmitters}
use Rattle.tb_batch.specs.claim.Grouping.{is_taken, IsGroup}
use Rattle.tb_core.specs.declared.parcel.Cause.TheVariants.{Shutdown, Stopped}
use Rattle.tb_core.specs.declared.parcel.Parcel.{Parcel}
use Rattle.tb_core.specs.declared.parcel.Parcel.TheVariants.{Batch, Pulse, Return, Last}
use Rattle.tb_core.specs.claim.Decision.{Decision, Admitted, Pulsed, Returned}

-- its limit and number of submitters, the group held, whether a Close was taken, whether an allocation failed, and for
-- each sender whether its End or Close was taken
pub record FrontState : Type 0 where
  pub limit : ℕ
  pub submitters : ℕ
  pub held : List Numbered
  pub closed : Bool
  pub stopped : Bool
  pub ended : List Bool

-- why a front can't be opened, if it can't: the limit is 1 to 8190 events, and there are 1 to 16 submitters
abbrev pub opening_refusal : ℕ → ℕ → Option Refusal
opening_refusal limit submitters =
    if nat_lt limit 1 || nat_lt batch_max limit then Some BadLimit
    else if nat_lt submitters 1 || nat_lt submitters_max submitters then Some BadSubmitters
    else None

-- a front, and the parcels that it yields
pub record Taken : Type 0 where
  pub front : FrontState
  pub parcels : List Parcel

abbrev pub take_result : FrontState → List Parcel → Taken
take_result front parcels = record { front = front; parcels = parcels }

abbrev pub with_group : FrontState → List Numbered → FrontState
with_group front jobs = record front { held = jobs }

-- the group held as a batch, if there is one
abbrev pub group_as_batch : List Numbered → List Parcel
group_as_batch [] = []
group_as_batch (job ∷ jobs) = Batch (job ∷ jobs) ∷ []

-- whether an End or Close of each sender was taken; the control is the sender after the last submitter
abbrev pub all_ended : FrontState → Bool
all_ended front = list_all (λ ended. ended) (take (front.submitters + 1) front.ended)

abbrev pub with_end : FrontState → ℕ → FrontState
with_end front sender = record front { ended = slice_set front.ended sender true }

-- A packet behind a Close, or after a stop, is returned. One whose allocation fails stops the front. Any other joins
-- the group held, or the group is sealed and the packet begins the next one.
abbrev pub step_of_packet : Bool → FrontState → Numbered → Taken
step_of_packet refused front job =
    if front.closed then take_result front (Return job Shutdown ∷ [])
    else if front.stopped then take_result front (Return job Stopped ∷ [])
    else if refused then take_result (record front { held = []; stopped = true })
    (group_as_batch front.held ++ Return job Stopped ∷ [])
    else if is_taken front.limit front.held job then take_result (with_group front (front.held ++ job ∷ [])) []
    else take_result (with_group front (job ∷ [])) (group_as_batch front.held)

abbrev pub step_of_pulse : FrontState → ℕ → Taken
step_of_pulse front moment =
    if front.closed || front.stopped then take_result front []
    else take_result (with_group front []) (group_as_batch front.held ++ Pulse moment ∷ [])

-- the last End seals the group
abbrev pub step_of_end : FrontState → ℕ → Taken
step_of_end front sender =
    let next = with_end front sender in
    if all_ended next then take_result (with_group next []) (group_as_batch front.held) else take_result next []

abbrev pub step_of_close : FrontState → ℕ → Taken
step_of_close front sender =
    take_result (record (with_end front sender) { held = []; closed = true }) (group_as_batch front.held)

-- one ticket taken; `refused` says whether the allocation that it needs fails
abbrev pub take_step : Bool → FrontState → ℕ → Item → Taken
take_step refused front sender (item.Packet job) = step_of_packet refused front job
take_step refused front sender (item.Pulse moment) = step_of_pulse front moment
take_step refused front sender item.End = step_of_end front sender
take_step refused front sender item.Close = step_of_close front sender

-- whether a ticket takes memory: a packet that is returned takes none
abbrev pub takes_memory : FrontState → Item → Bool
takes_memory front (item.Packet job) = not (front.closed || front.stopped)
takes_memory front other = false

-- ---- without batches

abbrev pub decisions_in : Parcel → List Decision
decisions_in (Batch jobs) = map Admitted jobs
decisions_in (Pulse moment) = Pulsed moment ∷ []
decisions_in (Return job cause) = Returned job cause ∷ []
decisions_in Last = []

-- parcels as packets, pulses and returned packets
abbrev pub all_decisions_in : List Parcel → List Decision
all_decisions_in parcels = flat_map decisions_in parcels

-- the group held
abbrev pub held_by : FrontState → List Decision
held_by front = map Admitted front.held

-- the group that a batcher gives back, if it gives one
abbrev pub decisions_in_batch : Option (List Numbered) → List Decision
decisions_in_batch None = []
decisions_in_batch (Some jobs) = map Admitted jobs

-- what is held is one group, and after a Close or a stop nothing is held
pub record IsFront (front : FrontState) : Type 0 where
  pub few : front.submitters ≤ submitters_max
  pub places : length front.ended ≡ senders_max
  pub clear : (front.closed || front.stopped) ≡ true → front.held ≡ []
  pub group : IsGroup front.limit front.held

-- ---- who has ended

-- of each sender, whether its End or Close was taken, after one ticket more
abbrev pub ends_after : List Bool → ℕ → Item → List Bool
ends_after ended sender item = if is_end item then slice_set ended sender true else ended

-- the front knows of each sender whether its End or Close is in this queue
abbrev pub KnowsEnds : List Ticket → FrontState → Type 0
KnowsEnds queue front =
    (sender : ℕ) → sender ≤ front.submitters → get_or front.ended sender false ≡ list_any is_end (items_from sender queue)

-- an End or Close of each sender is in it
abbrev pub HaveAllEnded : ℕ → List Ticket → Type 0
HaveAllEnded submitters queue = (sender : ℕ) → sender ≤ submitters → list_any is_end (items_from sender queue) ≡ true
