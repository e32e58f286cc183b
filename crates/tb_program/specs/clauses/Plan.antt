-- The plan of a script: what its items queue, and the lines that are printed of them.
use Rattle.std.specs.Prelude.{ℕ, ◌==◌, nat_lt, Bool, false, List, [], ◌∷◌, ◌++◌, count_by, Result, Ok, Err, if◌then◌else◌}
use Rattle.std.specs.List.{fold}
use Rattle.tb_core.specs.claim.Decision.{place_after}
use Rattle.tb_core.specs.claim.Due.{Place, Ahead, Behind}
use Rattle.tb_layout.specs.claim.Bounds.{moment_max}
use Rattle.tb_work.specs.claim.Admission.{admission_of}
use Rattle.tb_work.specs.claim.Job.{numbered_packet}
use Rattle.tb_work.specs.declared.item.Item.{Item}
use Rattle.tb_work.specs.declared.item.Item.TheVariants as queue
use Rattle.tb_work.specs.declared.packet.Packet as packets
use Rattle.tb_work.specs.declared.refusal.Refusal.{Refusal}
use Rattle.tb_program.specs.declared.list.listing.Line.{Line}
use Rattle.tb_program.specs.declared.list.listing.Line.TheVariants as line
use Rattle.tb_program_text.specs.declared.item.ScriptItem.{ScriptItem}
use Rattle.tb_program_text.specs.declared.item.ScriptItem.TheVariants as script

pub record PlanState : Type 0 where
  pub queue : List Item
  pub lines : List Line

abbrev pub with_planned : PlanState → List Item → List Line → PlanState
with_planned plan items lines = record { queue = plan.queue ++ items; lines = plan.lines ++ lines }

-- a submitter's queued packets are numbered from 0
abbrev pub is_of : ℕ → Item → Bool
is_of submitter (queue.Packet job) = job.submitter == submitter
is_of submitter other = false

abbrev pub number_in : ℕ → List Item → ℕ
number_in submitter items = count_by (is_of submitter) items

-- a packet is queued if it is admitted
abbrev pub with_packet : PlanState → ℕ → packets.Packet → Result ℕ Refusal → PlanState
with_packet plan submitter packet (Ok count) =
    let job = numbered_packet submitter (number_in submitter plan.queue) packet in
    with_planned plan (queue.Packet job ∷ []) (line.Packet ∷ [])
with_packet plan submitter packet (Err refusal) = with_planned plan [] (line.RefusedPacket submitter refusal ∷ [])

-- a pulse has its place; behind the Close it would have none
abbrev pub pulse_lines : Place → List Line
pulse_lines (Ahead place) = line.Pulse place ∷ []
pulse_lines Behind = []

-- a moment above 2^62 is refused
abbrev pub with_pulse : PlanState → ℕ → PlanState
with_pulse plan moment =
    if nat_lt moment_max moment then with_planned plan [] (line.RefusedPulse ∷ [])
    else with_planned plan (queue.Pulse moment ∷ []) (pulse_lines (place_after (Ahead 0) plan.queue))

abbrev pub with_item : ℕ → PlanState → ScriptItem → PlanState
with_item limit plan (script.Packet submitter packet) = with_packet plan submitter packet (admission_of limit packet)
with_item limit plan (script.Pulse moment) = with_pulse plan moment
with_item limit plan script.Shut = with_planned plan (queue.Close ∷ []) (line.Shut ∷ [])

-- the plan of a script's items, with packets of at most `limit` events
abbrev pub plan_of : ℕ → List ScriptItem → PlanState
plan_of limit items = fold (with_item limit) (record { queue = []; lines = [] }) items
