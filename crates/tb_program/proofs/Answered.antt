-- A run's report: a reply for each packet that a driver's submitter queued, and all of the drivers' shares handed in.
use Rattle.std.proofs.Common.{◌≡◌, ◌∙◌, ◌<◌, ℕ, zero, suc, Bool, true, false, List, [], ◌∷◌, ◌++◌, length, map, Some, refl, ap, sym, subst, arith}
use Rattle.tb_program.proofs.Words.{◌==◌, drop, if◌then◌else◌, slice_get_within, outcome_at, reply_due, all_due_from, replies_to, Place, Ahead, next_place, Run, committed_in, LedgerState, inputs, inputs_since, Input, EndedState, replies_of, items_in, items_from, Item, jobs_in, AreAllAnswered, AreAllDone, HasEndedOf, HasSeenOf, share_of, results_of, IsHandedIn, AreHandedIn, ScriptDriver, PacketResult}
use Rattle.std.specs.Prelude.{slice_get}
use Rattle.tb_work.specs.claim.Queue.{AreSubmitted, IsSubmitted}
use Rattle.tb_work.specs.declared.item.Item.TheVariants as item
use Rattle.tb_work.specs.declared.item.Ticket.{Ticket}
use Rattle.tb_work.specs.declared.packet.Packet as packets
use Rattle.tb_pipe.specs.clauses.Reported.{HasReported}
use Rattle.tb_pipe.specs.declared.driving.Finished.{Finished}
use Rattle.tb_pipe.specs.declared.opening.Opened.{Opened}
use Rattle.tb_program.proofs.HandedPackets.{handed_longer}

pub first_part : (submitter : ℕ) (ticket : Ticket) (queue : List Ticket) (own : Bool) → (ticket.sender == submitter) ≡ own
    → items_from submitter (ticket ∷ queue) ≡ (if own then ticket.item ∷ items_from submitter queue else items_from submitter queue)
first_part submitter ticket queue true is = rw is refl
first_part submitter ticket queue false is = rw is refl

-- a packet of a submitter has one reply due to it, and nothing else has
as_many_due : (clock submitters submitter : ℕ) (committed : List Input) (place : Place) (queue : List Ticket)
    → AreSubmitted submitters queue
    → length (jobs_in (items_from submitter queue)) ≡ length
    (replies_to (all_due_from clock committed place (items_in queue)) submitter)
as_many_due clock submitters submitter committed place [] all = refl
as_many_due clock submitters submitter committed place (ticket ∷ queue) all =
    ap (λ items. length (jobs_in items)) (first_part submitter ticket queue (ticket.sender == submitter) refl)
    ∙ one ticket.item (ticket.sender == submitter) refl all.0
    (as_many_due clock submitters submitter committed (next_place place ticket.item) queue all.1)
  where
    one : (x : Item) (own : Bool) → (ticket.sender == submitter) ≡ own → IsSubmitted submitters ticket.sender x
        → length (jobs_in (items_from submitter queue)) ≡ length
        (replies_to (all_due_from clock committed (next_place place x) (items_in queue)) submitter)
        → length (jobs_in (if own then x ∷ items_from submitter queue else items_from submitter queue))
        ≡ length (replies_to (reply_due (outcome_at clock committed place) x
        ++ all_due_from clock committed (next_place place x) (items_in queue)) submitter)
    one (item.Packet job) true own is others = rw (ap (λ n. n == submitter) is.0 ∙ own) (ap suc others)
    one (item.Packet job) false own is others = rw (ap (λ n. n == submitter) is.0 ∙ own) others
    one x true own is others = others
    one x false own is others = others

replies_at : (ends : List EndedState) (k : ℕ) (ended : EndedState) → slice_get ends k ≡ Some ended
    → replies_of ends k ≡ ended.read ++ ended.lying
replies_at [] k ended is = cc
replies_at (first ∷ ends) zero ended is = cc
replies_at (first ∷ ends) (suc k) ended is = replies_at ends k ended is

some_at : {X : Type 0} (xs : List X) (k : ℕ) → k < length xs → (x : X) × (slice_get xs k ≡ Some x)
some_at [] k below = absurd (omega (arith, below))
some_at (x ∷ xs) zero below = (x, refl)
some_at (x ∷ xs) (suc k) below = some_at xs k (omega (arith, below))

module _ {C L : Type 0} {ended_with : C → List Item → Type 0} {opened : Opened L} {finished : Finished ScriptDriver C L}
    {start ledger : LedgerState} (reported : HasReported HasSeenOf HasEndedOf ended_with opened finished start ledger) where
  abbrev run : Run
  run = reported.run

  abbrev limit : ℕ
  limit = opened.pipeline.intake.limit

  abbrev drivers : List ScriptDriver
  drivers = finished.drivers.items

  abbrev ends : List EndedState
  ends = finished.report.ends.items

  replies_are : (k : ℕ) (ended : EndedState) → slice_get ends k ≡ Some ended → run.replies k ≡ ended.read ++ ended.lying
  replies_are k ended is = ap (λ by_submitter. by_submitter k) reported.replies_are ∙ replies_at ends k ended is

  pub committed_is : committed_in run ≡ inputs_since start ledger
  committed_is = ap (λ before. drop (length before) (inputs run.ledger)) reported.began
      ∙ ap (inputs_since start) reported.ledger_is

  pub all_answered : AreAllAnswered drivers ends
  all_answered k driver ended driver_is ended_is =
      let below : k < run.submitters = subst (λ n. k < n) reported.number (slice_get_within ends k ended ended_is) in
      let filled = reported.report.lawful.filled in
      let parts : items_from k run.queue ≡ run.queued k = filled.parts k (omega (arith, below)) in
      record {
        limit = limit;
        queued = jobs_in (run.queued k);
        seen = reported.seen k driver ended driver_is ended_is;
        number = ap (λ items. length (jobs_in items)) (sym parts)
            ∙ as_many_due run.ledger.opening run.submitters k (inputs run.ledger) (Ahead (length run.before)) run.queue
            filled.submitted
            ∙ ap length (sym (reported.report.lawful.replied k below) ∙ replies_are k ended ended_is);
      }

  -- the driver whose share and notes these are
  driver_at : (all : List ScriptDriver) (k : ℕ) (share : List packets.Packet) (results : List PacketResult)
      → slice_get (map share_of all) k ≡ Some share → slice_get (map results_of all) k ≡ Some results
      → (driver : ScriptDriver) × (slice_get all k ≡ Some driver) × (share_of driver ≡ share) × (results_of driver ≡ results)
  driver_at [] k share results share_is results_are = cc
  driver_at (first ∷ all) zero share results share_is results_are = (first, refl, cc, cc)
  driver_at (first ∷ all) (suc k) share results share_is results_are = driver_at all k share results share_is results_are

  pub all_handed_in : AreAllDone drivers
      → AreHandedIn limit run.replies (map share_of drivers) (map results_of drivers) run.queued
  all_handed_in done k share results share_is results_are =
      let its = driver_at drivers k share results share_is results_are in
      let driver = its.0 in
      let within : k < length ends = omega (
        arith,
        slice_get_within drivers k driver its.1,
        reported.driven,
        reported.number,
      ) in
      let end = some_at ends k within in
      let is_done = done k driver its.1 in
      let jobs = jobs_in (run.queued k) in
      let seen = reported.seen k driver end.0 its.1 end.1 is_done.0 in
      let longer = handed_longer end.0.lying seen.0 in
      subst (λ replies. IsHandedIn limit replies share [] results jobs) (sym (replies_are k end.0 end.1))
      (subst (λ packets. IsHandedIn limit (end.0.read ++ end.0.lying) packets [] results jobs) its.2
      (subst (λ all. IsHandedIn limit (end.0.read ++ end.0.lying) (share_of driver) [] all jobs) its.3
      (subst (λ rest. IsHandedIn limit (end.0.read ++ end.0.lying) (share_of driver) rest (results_of driver) jobs)
      is_done.1 longer)))
