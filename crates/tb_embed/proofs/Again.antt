-- Engines in which the same was queued.
use Rattle.std.proofs.Common.{◌≡◌, sym, ap, ◌∙◌, List, [], ◌++◌, append-nil, map, length}
use Rattle.tb_machine.specs.claim.Replay.{replay}
use Rattle.tb_embed.proofs.Words.{inputs-parts, all_due, LedgerState, inputs, inputs_since, Admitted, inputs_in, ahead, items_in, ReplyValue, Ticket, EngineState, HasPlaces, Serves, IsServed, ServingIsLawful, AreAlike, JournalRestores, QueueDecides}

-- all that is ahead of the Close is committed, behind what was there
all_committed : {start : LedgerState} {queue : List Ticket} {read : List ReplyValue} {engine : EngineState}
    (is : IsServed start queue read engine) → HasPlaces start (items_in queue) → engine.front.held ≡ []
    → inputs is.ledger ≡ inputs start ++ ahead (items_in queue)
all_committed {start} is places none =
    sym (inputs-parts start is.ledger is.continues)
    ∙ ap (λ since. inputs start ++ since) (sym (append-nil (inputs_since start is.ledger))
    ∙ (sym (ap (λ jobs. inputs_since start is.ledger ++ inputs_in (map Admitted jobs)) none) ∙ (is.goes places).1))

module _ (lawful : ServingIsLawful) (start : LedgerState) (queue : List Ticket) (read other_read : List ReplyValue)
    (engine other : EngineState) where
  are_alike : Serves start queue read engine → Serves start queue other_read other → HasPlaces start (items_in queue)
      → engine.front.held ≡ [] → other.front.held ≡ [] → AreAlike read other_read engine other
  are_alike serves other_serves places none other_none =
      let one = lawful start queue read engine serves in
      let two = lawful start queue other_read other other_serves in
      let same = all_committed one places none ∙ sym (all_committed two places other_none) in
      record {
        state = one.replayed ∙ (ap (replay start.opening) same ∙ sym two.replayed);
        places = one.counted ∙ (ap length same ∙ sym two.counted);
        replies = one.replied none ∙ (ap (all_due start.opening (length (inputs start)) (items_in queue)) same
            ∙ sym (two.replied other_none));
      }

pub queue_decides : ServingIsLawful → QueueDecides
queue_decides = are_alike

pub journal_restores : ServingIsLawful → JournalRestores
journal_restores lawful start queue read engine serves places none =
    let is = lawful start queue read engine serves in
    let all = all_committed is places none in
    (is.replayed ∙ ap (replay start.opening) all, is.counted ∙ ap length all)
