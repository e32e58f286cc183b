-- An engine over any ledger: what was queued in it, which replies were read, and what follows. Its ledger's journal may be in a
-- file. So definitions speak of each ledger that it may be, by `is`.
use Rattle.std.specs.Prelude.{◌≡◌, ℕ, Bool, false, List, [], ◌∷◌, ◌++◌, replicate}
use Rattle.tb_layout.specs.claim.Bounds.{submitters_max}
use Rattle.tb_machine.specs.claim.Replay.{replay}
use Rattle.tb_work.specs.claim.Ahead.{ahead, items_in}
use Rattle.tb_work.specs.claim.Packet.{ReplyValue}
use Rattle.tb_work.specs.declared.item.Item.{Item}
use Rattle.tb_work.specs.declared.item.Ticket.{Ticket}
use Rattle.tb_core.specs.claim.EndedRun.{IsPrefix}
use Rattle.tb_core.specs.claim.Front.{FrontState, held_by, with_group}
use Rattle.tb_core.specs.claim.Grouping.{AreJoined}
use Rattle.tb_core.specs.claim.Journal.{LedgerState, inputs, groups_since, inputs_since}
use Rattle.tb_core.specs.claim.Report.{LawfulReport}
use Rattle.tb_core.specs.claim.Run.{Commits}
use Rattle.tb_core.specs.claim.Decision.{Decision, inputs_in}
use Rattle.tb_embed.specs.clauses.Engine.{HasPassed, Steps, due_since, ended_run}
use Rattle.tb_embed.specs.clauses.Queued.{AreQueued}

-- the front, the ledger, the replies that are not read, of each submitter the number of its next packet, and whether the Close
-- was queued
pub record AnyEngineState (L : Type 0) : Type 0 where
  pub front : FrontState
  pub ledger : L
  pub unread : List ReplyValue
  pub numbers : List ℕ
  pub shut : Bool

-- since it was `start` a ledger, one of these, took these decisions, in groups lawful under a limit; these are the replies
pub record HasSentBy (is : LedgerState → Type 0) (start : LedgerState) (limit : ℕ) (decisions : List Decision)
    (replies : List ReplyValue) : Type 0 where
  pub ledger : LedgerState
  pub now : is ledger
  pub commits : Commits start decisions ledger replies
  pub joined : AreJoined limit (groups_since start ledger)

-- a front took these items and a ledger, since it was `start`, all that the front passed on; these are the replies
abbrev pub HasTakenBy : (LedgerState → Type 0) → LedgerState → List Item → List ReplyValue → FrontState → Type 0
HasTakenBy is start items replies front = HasPassed (λ sent. HasSentBy is start front.limit sent replies) items front

-- Since its ledger was `start` this is what was queued in the engine, and these replies were read. The front hasn't stopped.
pub record ServesBy {L : Type 0} (is : L → LedgerState → Type 0) (start : LedgerState) (queue : List Ticket)
    (read : List ReplyValue) (engine : AnyEngineState L) : Type 0 where
  pub taken : HasTakenBy (is engine.ledger) start (items_in queue) (read ++ engine.unread) engine.front
  pub queued : AreQueued engine.front.submitters queue engine.numbers engine.shut
  pub unstopped : engine.front.stopped ≡ false

-- nothing is held, and all replies were read
abbrev pub HoldsNothingBy : {L : Type 0} → AnyEngineState L → Type 0
HoldsNothingBy engine = (engine.front.held ≡ []) × (engine.unread ≡ [])

-- An engine that was opened over a ledger, in which nothing was queued. It serves only if the ledger hasn't stopped.
pub record IsOpenedBy {L : Type 0} (is : L → LedgerState → Type 0) (ledger : L) (limit submitters : ℕ)
    (engine : AnyEngineState L) : Type 0 where
  pub serves : (start : LedgerState) → is ledger start → start.stopped ≡ false → ServesBy is start [] [] engine
  pub own : engine.ledger ≡ ledger
  pub limited : engine.front.limit ≡ limit
  pub counted : engine.front.submitters ≡ submitters
  pub nothing : HoldsNothingBy engine
  pub numbers : engine.numbers ≡ replicate submitters_max 0
  pub unclosed : engine.front.closed ≡ false
  pub goes : engine.front.stopped ≡ false
  pub unshut : engine.shut ≡ false

-- the call added this ticket to what was queued, and the front took it
pub record QueuesBy {L : Type 0} (is : L → LedgerState → Type 0) (old : AnyEngineState L) (ticket : Ticket)
    (new : AnyEngineState L) : Type 0 where
  pub adds : (start : LedgerState) (queue : List Ticket) (read : List ReplyValue) → ServesBy is start queue read old
      → ServesBy is start (queue ++ ticket ∷ []) read new
  pub steps : Steps old.front ticket new.front

-- the call added this reply to those that were read, and committed nothing
pub record ReadsBy {L : Type 0} (is : L → LedgerState → Type 0) (old : AnyEngineState L) (reply : ReplyValue)
    (new : AnyEngineState L) : Type 0 where
  pub adds : (start : LedgerState) (queue : List Ticket) (read : List ReplyValue) → ServesBy is start queue read old
      → ServesBy is start queue (read ++ reply ∷ []) new
  pub stays : new.front ≡ old.front
  pub same : new.ledger ≡ old.ledger

-- the call added nothing, and the group held was sealed
pub record ContinuesBy {L : Type 0} (is : L → LedgerState → Type 0) (old new : AnyEngineState L) : Type 0 where
  pub adds : (start : LedgerState) (queue : List Ticket) (read : List ReplyValue) → ServesBy is start queue read old
      → ServesBy is start queue read new
  pub seals : new.front ≡ with_group old.front []

-- ---- what follows

-- There is a ledger that the engine's may be. It continues the journal of `start`, in groups lawful under the limit. What it adds is a
-- prefix of what was queued ahead of the Close. The replies, read and unread, are a prefix of those due by it: all of them if nothing
-- is held. Unless it has stopped, all that is ahead is committed or held. When nothing is held and all replies are read, the report
-- on the run that ends here is lawful.
pub record IsServedBy {L : Type 0} (is : L → LedgerState → Type 0) (start : LedgerState) (queue : List Ticket)
    (read : List ReplyValue) (engine : AnyEngineState L) : Type 0 where
  pub ledger : LedgerState
  pub own : is engine.ledger ledger
  pub opening : ledger.opening ≡ start.opening
  pub continues : IsPrefix start.groups ledger.groups
  pub replayed : ledger.state ≡ replay start.opening (inputs ledger)
  pub joined : AreJoined engine.front.limit (groups_since start ledger)
  pub committed : IsPrefix (inputs_since start ledger) (ahead (items_in queue))
  pub due : IsPrefix (read ++ engine.unread) (due_since start queue ledger)
  pub replied : engine.front.held ≡ [] → read ++ engine.unread ≡ due_since start queue ledger
  pub whole : ledger.stopped ≡ false
      → inputs_since start ledger ++ inputs_in (held_by engine.front) ≡ ahead (items_in queue)
  pub report : engine.front.held ≡ [] → engine.unread ≡ []
      → LawfulReport (ended_run start queue read engine.front engine.shut ledger)

-- Whatever was queued and read, in any order of calls.
abbrev pub AnyServingIsLawful : {L : Type 0} → (L → LedgerState → Type 0) → Type 0
AnyServingIsLawful {L} is =
    (start : LedgerState) (queue : List Ticket) (read : List ReplyValue) (engine : AnyEngineState L)
    → ServesBy is start queue read engine → IsServedBy is start queue read engine
