-- What a host that keeps the journal is handed, and what it may read.
use Rattle.std.proofs.Common.{◌≡◌, refl, sym, ap, ◌∙◌, subst, Bool, true, false, if◌then◌else◌, List, [], ◌∷◌, ◌++◌, slice_get, arith, length, append-nil, append_assoc, option_to_list, IfSome, Bor, Option, Some, None}
use Rattle.std.specs.Option.{is_some, option_copied}
use Rattle.tb_embed.specs.clauses.Engine.{Reads}
use Rattle.tb_embed.specs.clauses.Recorded.{IsRecorded, is_stored, HandsPacket, ReadsRecorded, RecordedState, if_committed, is_committed, next_packet, readable}
use Rattle.tb_embed.proofs.Words.{EngineState, ReplyValue, Serves}

injective : {X : Type 0} {x y : X} → Some x ≡ Some y → x ≡ y
injective {X} {x} {y} same = ap (λ found. value found) same
  where
    value : Option X → X
    value (Some z) = z
    value None = x

-- of a condition's two sides one is none
chosen : {X : Type 0} (test : Bool) (x y : X) → (if test then Some x else None) ≡ Some y → x ≡ y
chosen true x y is = injective is
chosen false x y is = cc

-- the packet that is next is that of the engine's next reply
next_is : (host : RecordedState) (first reply : ReplyValue) (rest : List ReplyValue) → host.engine.unread ≡ first ∷ rest
    → next_packet host ≡ Some reply → first ≡ reply
next_is host first reply rest unread is =
    by host.records (subst (λ unread. (if host.records then if_committed (slice_get unread 0) else None) ≡ Some reply) unread is)
  where
    by : (records : Bool) → (if records then (if is_committed first.outcome then Some first else None) else None) ≡ Some reply → first ≡ reply
    by true is = chosen (is_committed first.outcome) first reply is
    by false is = cc

module _ (old : RecordedState) (engine : EngineState) (handed : List ReplyValue) where
  -- the engine's next reply is handed out
  pub hands : (first reply : ReplyValue) → old.engine.unread ≡ first ∷ engine.unread → next_packet old ≡ Some reply → Reads old.engine first engine
      → handed ≡ old.handed ++ first ∷ [] → HandsPacket old reply (record old { engine = engine; handed = handed })
  hands first reply unread is reads appended =
      subst (λ reply. HandsPacket old reply (record old { engine = engine; handed = handed })) (next_is old first reply engine.unread unread is)
      (record {
        handed = ap (λ handed. record old { engine = engine; handed = handed }) appended;
        left = ap (λ handed. handed ++ engine.unread) appended ∙ append_assoc old.handed (first ∷ []) engine.unread
            ∙ ap (λ unread. old.handed ++ unread) (sym unread);
        adds = λ start queue read serves. subst (λ all. Serves start queue all engine)
            (append_assoc read old.handed (first ∷ []) ∙ ap (λ handed. read ++ handed) (sym appended))
            (reads.adds start queue (read ++ old.handed) serves);
        ledger = reads.same;
        front = reads.stays;
      })

  -- a reply that the engine has is read, while none is handed out
  reads_engine : (reply : ReplyValue) → old.handed ≡ [] → handed ≡ [] → old.engine.unread ≡ reply ∷ engine.unread
      → readable old ≡ slice_get old.engine.unread 0
      → Reads old.engine reply engine → ReadsRecorded old reply (record old { engine = engine; handed = handed })
  reads_engine reply none still unread is_next reads = record {
    was = is_next ∙ ap (λ unread. slice_get unread 0) unread;
    left = rw (none, still) unread;
    adds = λ start queue read serves. subst (λ all. Serves start queue all engine)
        (sym (ap (λ handed. (read ++ reply ∷ []) ++ handed) still ∙ append-nil (read ++ reply ∷ [])))
        (reads.adds start queue read (subst (λ all. Serves start queue all old.engine) (ap (λ handed. read ++ handed) none ∙ append-nil read) serves));
    same = refl;
    ledger = reads.same;
    front = reads.stays;
  }

  pub reads_found : (result : Option ReplyValue) → old.handed ≡ [] → handed ≡ [] → old.engine.unread ≡ option_to_list result ++ engine.unread → readable old ≡ slice_get old.engine.unread 0
      → IfSome result (λ reply. Reads old.engine reply engine)
      → IfSome result (λ reply. ReadsRecorded old reply (record old { engine = engine; handed = handed }))
  reads_found None none still unread is_next reads = tt
  reads_found (Some reply) none still unread is_next reads = reads_engine reply none still unread is_next reads

-- a reply that was handed out is read
pub reads_handed : (old : RecordedState) (handed : List ReplyValue) (result : Option ReplyValue) → IsRecorded old.records old.handed
    → old.handed ≡ option_to_list result ++ handed → is_some (readable old) ≡ true
    → IfSome result (λ reply. ReadsRecorded old reply (record old { handed = handed }))
reads_handed old handed None recorded popped some = tt
reads_handed old handed (Some reply) recorded popped some = by old.records refl
  where
    stored : (is : Bool) → is_some (if is then Some reply else None) ≡ true → (if is then Some reply else None) ≡ Some reply
    stored true some = refl
    stored false some = cc

    nothing : reply ∷ handed ≡ [] → ⊥
    nothing is = grind (arith, ap length is)

    by : (records : Bool) → old.records ≡ records → ReadsRecorded old reply (record old { handed = handed })
    by false plain = absurd (nothing (sym popped ∙ recorded plain))
    by true keeps = record {
      was = rw (keeps, popped) (stored (is_stored old.durable reply.outcome) (subst (λ found. is_some found ≡ true) (rw (keeps, popped) refl) some));
      left = ap (λ replies. replies ++ old.engine.unread) popped;
      adds = λ start queue read serves. subst (λ all. Serves start queue all old.engine)
          (ap (λ replies. read ++ replies) popped ∙ sym (append_assoc read (reply ∷ []) handed)) serves;
      same = refl;
      ledger = refl;
      front = refl;
    }

pub is_there : (found : Option (Bor ReplyValue)) (copied : Option ReplyValue) → is_some found ≡ true → option_copied found ≡ copied
    → is_some copied ≡ true
is_there None copied is same = cc
is_there (Some reply) copied is same = ap is_some (sym same)
