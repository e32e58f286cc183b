-- Reading an engine to the end.
use Rattle.std.proofs.Common.{◌≡◌, refl, sym, ap, ◌∙◌, subst, arith, ℕ, ◌+◌, List, [], ◌∷◌, ◌++◌, map, length, length-append, append-nil, append_assoc, Option, Some, None, IfSome, IfNone}
use Rattle.tb_embed.specs.clauses.Engine.{Reads}
use Rattle.tb_embed.proofs.Words.{nil_from_length, option_to_list, Input, ReplyValue, items_in, Item, Ticket, all_due_from, Place, Ahead, next_place, FrontState, LedgerState, inputs, EngineState, Serves, IsReply, AreReplies, HaveAllCome, RepliesCome, ServingIsLawful, packets_in}
use Rattle.tb_work.specs.declared.item.Item.TheVariants as item

-- a reply is due to each packet
pub due_counted : (clock : ℕ) (journal : List Input) (place : Place) (items : List Item)
    → length (all_due_from clock journal place items) ≡ packets_in items
due_counted clock journal place [] = refl
due_counted clock journal place (item.Packet job ∷ items) =
    omega (arith, due_counted clock journal (next_place place (item.Packet job)) items)
due_counted clock journal place (item.Pulse moment ∷ items) =
    due_counted clock journal (next_place place (item.Pulse moment)) items
due_counted clock journal place (item.End ∷ items) = due_counted clock journal (next_place place item.End) items
due_counted clock journal place (item.Close ∷ items) = due_counted clock journal (next_place place item.Close) items

-- what a call of `reply` returned, by its clauses
pub is_reply : (old new : EngineState) (result : Option ReplyValue) → IfSome result (λ reply. Reads old reply new)
    → old.unread ≡ option_to_list result ++ new.unread → IfNone result ((old.unread ≡ []) × (new ≡ old)) → IsReply old result new
is_reply old new None some unread none = none
is_reply old new (Some reply) some unread none = (some, unread)

record AllCome (start : LedgerState) (queue : List Ticket) (read : List ReplyValue) (engine : EngineState)
    (results : List (Option ReplyValue)) (last : EngineState) : Type 0 where
  replies : results ≡ map Some engine.unread
  empty : last.unread ≡ []
  serves : Serves start queue (read ++ engine.unread) last
  same : last.front ≡ engine.front

module _ (start : LedgerState) (queue : List Ticket) (last : EngineState) where
  all_come : {read : List ReplyValue} {engine : EngineState} (results : List (Option ReplyValue)) → Serves start queue read engine
      → length results ≡ length engine.unread → AreReplies engine results last → AllCome start queue read engine results last
  all_come {read} {engine} [] serves as_many are =
      let empty : engine.unread ≡ [] = nil_from_length engine.unread (sym as_many) in
      record {
        replies = ap (map Some) (sym empty);
        empty = ap (λ (engine : EngineState). engine.unread) are ∙ empty;
        serves = subst (λ (read : List ReplyValue). Serves start queue read last)
            (sym (ap (λ (unread : List ReplyValue). read ++ unread) empty ∙ append-nil read))
            (subst (Serves start queue read) (sym are) serves);
        same = ap (λ (engine : EngineState). engine.front) are;
      }
  all_come (None ∷ results) serves as_many (middle, (empty, same), are) = absurd (omega (arith, as_many, ap length empty))
  all_come {read} (Some reply ∷ results) serves as_many (middle, (reads, unread), are) =
      let others = all_come results (reads.adds start queue read serves) (omega (arith, as_many, ap length unread)) are in
      record {
        replies = ap (λ (results : List (Option ReplyValue)). Some reply ∷ results) others.replies ∙ ap (map Some) (sym unread);
        empty = others.empty;
        serves = subst (λ (read : List ReplyValue). Serves start queue read last)
            (append_assoc read (reply ∷ []) middle.unread
            ∙ ap (λ (unread : List ReplyValue). read ++ unread) (sym unread)) others.serves;
        same = others.same ∙ reads.stays;
      }

module _ (lawful : ServingIsLawful) (start : LedgerState) (queue : List Ticket) (read : List ReplyValue) (engine : EngineState)
    (results : List (Option ReplyValue)) (last : EngineState) where
  have_all_come : Serves start queue read engine → engine.front.held ≡ []
      → length read + length results ≡ packets_in (items_in queue) → AreReplies engine results last
      → HaveAllCome start queue read engine results last
  have_all_come serves flushed as_many are =
      let now = lawful start queue read engine serves in
      let come = all_come start queue last results serves
      (omega (
        arith,
        as_many,
        length-append read engine.unread,
        ap length (now.replied flushed),
        due_counted start.opening (inputs now.ledger) (Ahead (length (inputs start))) (items_in queue),
      )) are in
      let after = lawful start queue (read ++ engine.unread) last come.serves in
      let held : last.front.held ≡ [] = ap (λ (front : FrontState). front.held) come.same ∙ flushed in
      record {
        ledger = after.ledger;
        replies = come.replies;
        due = sym (append-nil (read ++ engine.unread))
            ∙ ap (λ (unread : List ReplyValue). (read ++ engine.unread) ++ unread) (sym come.empty) ∙ after.replied held;
        report = after.report held come.empty;
        none = no_more come.empty;
      }
    where
      no_more : last.unread ≡ [] → (result : Option ReplyValue) (next : EngineState) → IsReply last result next → result ≡ None
      no_more empty None next is = refl
      no_more empty (Some reply) next is = absurd (omega (arith, ap length empty, ap length is.1))

pub replies_come : ServingIsLawful → RepliesCome
replies_come = have_all_come
