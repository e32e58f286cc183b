-- Kinds of runs that nobody wants. No run with a headline is of one of the first seventeen; each says at its name which fields
-- exclude it. Of the last two there are runs with a headline.
use Rattle.std.specs.Prelude.{◌≡◌, ◌≢◌, ◌<◌, ◌≤◌, ℕ, true, false, List, [], ◌∷◌, length, map, take, slice_get, Some, if◌then◌else◌, ◌==◌}
use Rattle.tb_layout.specs.declared.answer.Answer.{Answer}
use Rattle.tb_layout.specs.claim.Events.{Events, Input, Packet, Pulse}
use Rattle.tb_machine.specs.claim.Replay.{replay, answer_of, opening}
use Rattle.tb_work.specs.claim.Ahead.{items_from}
use Rattle.tb_work.specs.claim.Answer.{reply_with}
use Rattle.tb_work.specs.claim.Packet.{Numbered, ReplyValue, events_in, input_of}
use Rattle.tb_work.specs.declared.item.Item.{Item}
use Rattle.tb_work.specs.declared.item.Item.TheVariants as item
use Rattle.tb_work.specs.declared.outcome.Outcome.{Outcome}
use Rattle.tb_work.specs.declared.outcome.Outcome.TheVariants.{Committed, Shutdown, Stopped}
use Rattle.tb_work.specs.declared.packet.Packet as packet
use Rattle.tb_core.specs.claim.EachSubmitter.{moments_in, moments_queued}
use Rattle.tb_core.specs.claim.Journal.{inputs}
use Rattle.tb_core.specs.claim.EndedRun.{Run, committed_in, ahead_in, IsPrefix, NothingStopped}
use Rattle.tb_core.specs.claim.Due.{due}
use Rattle.tb_core.specs.claim.Headline.{Headline, IsIn, packets_queued}

abbrev pub IsNotIn : {X : Type 0} → X → List X → Type 0
IsNotIn {X} x xs = IsIn x xs → ⊥

-- a submitter has this reply
abbrev pub IsReplyTo : Run → ℕ → ReplyValue → Type 0
IsReplyTo run submitter reply = (submitter < run.submitters) × IsIn reply (run.replies submitter)

-- excluded by `queued` and `committed`: a packet of a submitter that doesn't exist is committed
abbrev pub CommitsAStranger : Run → Type 0
CommitsAStranger run =
    (submitter : ℕ) × (number : ℕ) × (events : Events) × (run.submitters ≤ submitter)
    × IsIn (Packet submitter number events) (committed_in run)

-- a submitter has a reply that says this of a committed packet
abbrev pub SaysOfCommitted : Outcome → Run → Type 0
SaysOfCommitted outcome run =
    (submitter : ℕ) × (reply : ReplyValue) × IsReplyTo run submitter reply × (reply.outcome ≡ outcome)
    × IsIn (input_of reply.packet) (committed_in run)

-- excluded by `answered` and `committed`: a committed packet is answered Shutdown, so its caller pays again
abbrev pub ShutsDownACommitted : Run → Type 0
ShutsDownACommitted run = SaysOfCommitted Shutdown run

-- excluded by `answered`: a committed packet is answered Stopped
abbrev pub StopsACommitted : Run → Type 0
StopsACommitted run = SaysOfCommitted Stopped run

-- excluded by `answered`: a packet behind the Close is answered Stopped, so that a pipeline that goes on seems to have stopped
abbrev pub StopsBehindTheClose : Run → Type 0
StopsBehindTheClose run =
    (submitter : ℕ) × (reply : ReplyValue) × IsReplyTo run submitter reply × (reply.outcome ≡ Stopped)
    × IsNotIn (input_of reply.packet) (ahead_in run)

-- excluded by `all`: pulses are dropped though nothing stopped
abbrev pub DropsPulses : Run → Type 0
DropsPulses run = NothingStopped run × (moments_in (committed_in run) ≢ moments_in (ahead_in run))

-- excluded by `committed`: two packets, or a packet and a pulse, change places against the queue
abbrev pub ChangesPlaces : Run → Type 0
ChangesPlaces run =
    (place : ℕ) × (one : Input) × (other : Input) × (slice_get (committed_in run) place ≡ Some one)
    × (slice_get (ahead_in run) place ≡ Some other) × (one ≢ other)

-- excluded by `state`: the machine's state isn't that of the journal
abbrev pub ForgetsTheState : Run → Type 0
ForgetsTheState run = run.ledger.state ≢ replay run.ledger.opening (inputs run.ledger)

-- excluded by `continues`: what was committed before the run isn't the journal's head any more
abbrev pub LosesTheJournal : Run → Type 0
LosesTheJournal run = IsPrefix run.before (inputs run.ledger) → ⊥

-- excluded by `answered`: a packet is said to be committed at a place of an earlier run
abbrev pub CountsPlacesAnew : Run → Type 0
CountsPlacesAnew run =
    (submitter : ℕ) × (place : ℕ) × (reply : ReplyValue) × (answer : Answer) × IsReplyTo run submitter reply
    × (reply.outcome ≡ Committed place answer) × (place < length run.before)

abbrev pub AllSay : Outcome → Run → Type 0
AllSay outcome run = (submitter : ℕ) (reply : ReplyValue) → IsReplyTo run submitter reply → reply.outcome ≡ outcome

-- nothing is committed, though a packet is ahead of the Close, and each packet is answered Shutdown
pub record CommitsNothing (run : Run) : Type 0 where
  pub submitter : ℕ
  pub number : ℕ
  pub events : Events
  pub ahead : IsIn (Packet submitter number events) (ahead_in run)
  pub nothing : committed_in run ≡ []
  pub shut : AllSay Shutdown run

-- excluded by `queued`, `replied` and `answered`: the ledger says that it goes on
abbrev pub CommitsNothingRunning : Run → Type 0
CommitsNothingRunning run = CommitsNothing run × (run.ledger.stopped ≡ false)

-- excluded by `queued`, `replied` and `answered`: the ledger says that it stopped
abbrev pub CommitsNothingStopped : Run → Type 0
CommitsNothingStopped run = CommitsNothing run × (run.ledger.stopped ≡ true)

-- excluded by `committed` and `queued`: a packet is committed that its submitter didn't queue
abbrev pub InventsAPacket : Run → Type 0
InventsAPacket run =
    (submitter : ℕ) × (number : ℕ) × (events : Events) × (submitter < run.submitters)
    × IsIn (Packet submitter number events) (committed_in run)
    × IsNotIn (Packet submitter number events) (map input_of (packets_queued (run.queued submitter)))

-- excluded by `committed` and `queued`: a pulse is committed that the control didn't queue
abbrev pub InventsAPulse : Run → Type 0
InventsAPulse run =
    (moment : ℕ) × IsIn (Pulse moment) (committed_in run) × IsNotIn moment (moments_queued (run.queued run.submitters))

-- excluded by `committed` and `queued`: a packet is committed after a later one of its submitter, or twice
pub record Overtakes (run : Run) : Type 0 where
  pub submitter : ℕ
  pub place : ℕ
  pub later : ℕ
  pub number : ℕ
  pub number_later : ℕ
  pub events : Events
  pub events_later : Events
  pub known : submitter < run.submitters
  pub before : place < later
  pub one : slice_get (committed_in run) place ≡ Some (Packet submitter number events)
  pub other : slice_get (committed_in run) later ≡ Some (Packet submitter number_later events_later)
  pub overtaken : number_later ≤ number

-- excluded by `replied` and `queued`: a submitter has another's reply
abbrev pub GivesAnothersReply : Run → Type 0
GivesAnothersReply run =
    (submitter : ℕ) × (reply : ReplyValue) × IsReplyTo run submitter reply × (reply.packet.submitter ≢ submitter)

-- excluded by `answered`: the answer isn't the state machine's to the packet alone at its place
abbrev pub AnswersAnotherwise : Run → Type 0
AnswersAnotherwise run =
    (submitter : ℕ) × (place : ℕ) × (reply : ReplyValue) × (answer : Answer) × IsReplyTo run submitter reply
    × (reply.outcome ≡ Committed place answer)
    × (answer ≢ answer_of (replay run.ledger.opening (take place (inputs run.ledger))) (events_in reply.packet.packet))

-- excluded by `queued`: what a sender queued is never popped
abbrev pub LosesAnItem : Run → Type 0
LosesAnItem run =
    (sender : ℕ) × (one : Item) × (sender ≤ run.submitters) × IsIn one (run.queued sender)
    × IsNotIn one (items_from sender run.queue)

abbrev pub Excludes : (Run → Type 0) → Type 0
Excludes IsBad = (run : Run) → Headline run → IsBad run → ⊥

-- ---- what nothing excludes

-- the same queue, if the pipeline stopped before it committed anything, and answered so
abbrev pub stopped_at_once : Run → Run
stopped_at_once run =
    record run {
      ledger = record {
        opening = run.ledger.opening;
        groups = run.before ∷ [];
        state = replay run.ledger.opening run.before;
        stopped = true;
      };
      replies = due run.ledger.opening (length run.before) run.queue run.before;
    }

-- A headline doesn't say that a pipeline stops only if it must.
abbrev pub MayStopAtOnce : Type 0
MayStopAtOnce = (run : Run) → Headline run → Headline (stopped_at_once run)

-- a packet of the only submitter, and the Close, which was popped first
abbrev pub closed_first : packet.Packet → Run
closed_first packet =
    let job : Numbered = record { submitter = 0; number = 0; packet = packet } in
    record {
      submitters = 1;
      queue = record { sender = 1; item = item.Close } ∷ record { sender = 0; item = item.Packet job }
          ∷ record { sender = 0; item = item.End } ∷ [];
      queued = λ sender. if sender == 0 then item.Packet job ∷ item.End ∷ [] else item.Close ∷ [];
      before = [];
      ledger = record { opening = 0; groups = []; state = opening 0; stopped = false };
      replies = λ submitter. if submitter == 0 then reply_with Shutdown job ∷ [] else [];
    }

-- Nor that the batcher pops what was queued before the Close before it.
abbrev pub MayPopTheCloseFirst : Type 0
MayPopTheCloseFirst = (packet : packet.Packet) → Headline (closed_first packet)
