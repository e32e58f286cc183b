-- Engines in which nothing was queued.
use Rattle.std.proofs.Common.{◌≡◌, refl, sym, subst, false, ℕ, zero, suc, List, [], get_or, replicate}
use Rattle.tb_embed.proofs.Words.{submitters_max, Input, BareLedgerState, HasCommitted, HasSent, new_bare_ledger, with_journal, FrontState, held_by, AreJoined, AreDecisions, begun, drop-whole, EngineState, IsOpened, IsOpenedOver, AreQueued}

-- a ledger that hasn't stopped has sent nothing since
nothing_sent : (ledger : BareLedgerState) (groups : List (List Input)) (limit : ℕ) → HasCommitted ledger groups
    → ledger.stopped ≡ false → HasSent (with_journal ledger groups) limit [] ledger []
nothing_sent ledger groups limit committed goes =
    record {
      groups = groups;
      committed = committed;
      commits = begun (with_journal ledger groups) goes committed.machine;
      joined = subst (AreJoined limit) (sym (drop-whole groups)) tt;
    }

-- no submitter has a number yet
all_zero : (n k : ℕ) → ◌≡◌ {A = ℕ} (get_or (replicate n 0) k 0) 0
all_zero zero k = refl
all_zero (suc n) zero = refl
all_zero (suc n) (suc k) = all_zero n k

pub none_queued : (submitters : ℕ) → AreQueued submitters [] (replicate submitters_max 0) false
none_queued submitters =
    record {
      submitted = tt;
      no_other_sender = λ sender above. refl;
      each = λ sender below. record { numbered = tt; counted = sym (all_zero submitters_max sender); ends = refl };
      control = record { numbered = tt; counted = refl; ends = refl };
    }

pub opened_over : {ledger : BareLedgerState} {limit submitters : ℕ} {engine : EngineState} (front : FrontState)
    → engine ≡ record { front = front; ledger = ledger; unread = []; numbers = replicate submitters_max 0; shut = false }
    → front.limit ≡ limit → front.submitters ≡ submitters → AreDecisions [] front.closed front.stopped (held_by front)
    → front.stopped ≡ false → ledger.stopped ≡ false → IsOpenedOver ledger limit submitters engine
opened_over {ledger} front is limited counted passes on goes =
    rw is (record {
      serves = λ groups committed. record {
        taken = record {
          sent = [];
          passed = passes;
          has_sent = nothing_sent ledger groups front.limit committed goes;
        };
        queued = none_queued front.submitters;
        unstopped = on;
        goes = λ places. goes;
      };
      own = refl;
      limited = limited;
      counted = counted;
    })

-- a new ledger has committed nothing
pub opened_new : (clock limit submitters : ℕ) (engine : EngineState) (ledger : BareLedgerState)
    → ledger ≡ new_bare_ledger clock → IsOpenedOver ledger limit submitters engine → IsOpened clock limit submitters engine
opened_new clock limit submitters engine ledger is opened =
    let over : IsOpenedOver (new_bare_ledger clock) limit submitters engine =
    subst (λ l. IsOpenedOver l limit submitters engine) is opened in
    record {
      serves = over.serves [] (record { machine = refl; counted = refl });
      limited = opened.limited;
      counted = opened.counted;
    }
