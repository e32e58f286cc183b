-- In a run in which memory didn't run out, all that is ahead of the Close is committed.
use Rattle.std.proofs.Common.{add-one, true≢false, ◌≡◌, ◌∙◌, ◌+◌, ◌<◌, ◌≤◌, ◌==◌, ℕ, zero, suc, Bool, true, false, List, [], ◌∷◌, ◌++◌, None, length, drop, refl, ap, sym, subst, arith}
use Rattle.std.specs.Prelude.{slice_get, if◌then◌else◌}
use Rattle.std.specs.List.{list_any}
use Rattle.std.proofs.lemmas.Bool.{eq-eqb, ltb-false, or_parts}
use Rattle.tb_program.proofs.Answered.{first_part}
use Rattle.tb_program.proofs.Words.{LedgerState, outcome_at, reply_due, all_due_from, replies_to, Ahead, next_place, committed_in, inputs, Input, Pulse, Item, ReplyValue, items_in, items_from, moments_in, moments_queued, PacketResult}
use Rattle.tb_core.specs.claim.EndedRun.{any_stopped, is_stopped}
use Rattle.tb_work.specs.claim.Ahead.{ahead}
use Rattle.tb_work.specs.claim.Answer.{reply_with}
use Rattle.tb_work.specs.claim.Packet.{input_of}
use Rattle.tb_work.specs.claim.Queue.{AreSubmitted, IsSubmitted}
use Rattle.tb_work.specs.declared.item.Item.TheVariants as item
use Rattle.tb_work.specs.declared.item.Ticket.{Ticket}
use Rattle.tb_program.specs.clauses.RunText.{WithoutLackAllIsCommitted, WithoutLackOrStopAllIsCommitted, is_refused_memory, lacks_packet, lacks_packets, lacks_pulse}

-- ---- what is left at a place

none_at : (all : List Input) (place : ℕ) → drop place all ≡ [] → slice_get all place ≡ None
none_at [] place is = refl
none_at (first ∷ all) zero is = cc
none_at (first ∷ all) (suc place) is = none_at all place is

next_at : (all : List Input) (place : ℕ) (next : Input) (left : List Input) → drop place all ≡ next ∷ left
    → drop (suc place) all ≡ left
next_at [] zero next left is = cc
next_at [] (suc place) next left is = cc
next_at (first ∷ all) zero next left is = cc
next_at (first ∷ all) (suc place) next left is = next_at all place next left is

rest_of : {X : Type 0} {x y : X} {xs ys : List X} → x ∷ xs ≡ y ∷ ys → xs ≡ ys
rest_of is = cc

none_before : {X : Type 0} (xs ys : List X) → xs ++ ys ≡ [] → xs ≡ []
none_before [] ys is = refl
none_before (x ∷ xs) ys is = cc

-- ---- pulses

fewer_ahead : (items : List Item) → length (moments_in (ahead items)) ≤ length (moments_queued items)
fewer_ahead [] = omega arith
fewer_ahead (item.Packet job ∷ items) = fewer_ahead items
fewer_ahead (item.Pulse moment ∷ items) = omega (arith, fewer_ahead items)
fewer_ahead (item.End ∷ items) = fewer_ahead items
fewer_ahead (item.Close ∷ items) = omega arith

-- all pulses are the control's
are_controls : (control : ℕ) (queue : List Ticket) → AreSubmitted control queue
    → moments_queued (items_in queue) ≡ moments_queued (items_from control queue)
are_controls control [] all = refl
are_controls control (ticket ∷ queue) all =
    one (ticket.sender == control) ticket.item refl all.0 (are_controls control queue all.1)
    ∙ ap moments_queued (sym (first_part control ticket queue (ticket.sender == control) refl))
  where
    one : (own : Bool) (x : Item) → (ticket.sender == control) ≡ own → IsSubmitted control ticket.sender x
        → moments_queued (items_in queue) ≡ moments_queued (items_from control queue)
        → moments_queued (x ∷ items_in queue)
        ≡ moments_queued (if own then x ∷ items_from control queue else items_from control queue)
    one true (item.Packet job) is own others = others
    one false (item.Packet job) is own others = others
    one true (item.Pulse moment) is own others = ap (λ moments. moment ∷ moments) others
    one false (item.Pulse moment) is own others =
        absurd (true≢false (sym (eq-eqb ticket.sender control own) ∙ is))
    one true item.End is own others = others
    one false item.End is own others = others
    one true item.Close is own others = others
    one false item.Close is own others = others

-- ---- replies

abbrev AreUnstopped : ℕ → List ReplyValue → Type 0
AreUnstopped submitters replies = (k : ℕ) → k < submitters → any_stopped (replies_to replies k) ≡ false

others_unstopped : (submitters : ℕ) (reply : ReplyValue) (others : List ReplyValue)
    → AreUnstopped submitters (reply ∷ others) → AreUnstopped submitters others
others_unstopped submitters reply others all k below = one (reply.packet.submitter == k) refl (all k below)
  where
    one : (own : Bool) → (reply.packet.submitter == k) ≡ own → any_stopped (replies_to (reply ∷ others) k) ≡ false
        → any_stopped (replies_to others k) ≡ false
    one true is none = (or_parts (is_stopped reply.outcome) (any_stopped (replies_to others k)) (rw is at none)).1
    one false is none = rw is at none

first_unstopped : (submitters : ℕ) (reply : ReplyValue) (others : List ReplyValue)
    → AreUnstopped submitters (reply ∷ others) → reply.packet.submitter < submitters → is_stopped reply.outcome ≡ false
first_unstopped submitters reply others all below =
    let its = reply.packet.submitter in
    let own : (its == its) ≡ true = eq-eqb its its refl in
    let none = all its below in
    (or_parts (is_stopped reply.outcome) (any_stopped (replies_to others its)) (rw own at none)).0

-- the packet at a place where nothing is committed is answered Stopped
stopped_at : (clock : ℕ) (all : List Input) (place : ℕ) → drop place all ≡ []
    → is_stopped (outcome_at clock all (Ahead place)) ≡ true
stopped_at clock all place is = rw (none_at all place is) refl

no_reply_stopped : (results : List (List PacketResult)) (replies : ℕ → List ReplyValue) (k : ℕ) → k < length results
    → lacks_packets results replies ≡ false → any_stopped (replies k) ≡ false
no_reply_stopped [] replies k below none = absurd (omega (arith, below))
no_reply_stopped (own ∷ others) replies zero below none =
    (or_parts (list_any is_refused_memory own) (any_stopped (replies zero))
    (or_parts (lacks_packet own (replies zero)) (lacks_packets others (λ k. replies (suc k))) none).0).1
no_reply_stopped (own ∷ others) replies (suc k) below none =
    no_reply_stopped others (λ k. replies (suc k)) k (omega (arith, below))
    (or_parts (lacks_packet own (replies zero)) (lacks_packets others (λ k. replies (suc k))) none).1

-- ---- the queue

module _ (clock submitters : ℕ) (all rest : List Input) where
  abbrev IsWholeFrom : List Ticket → ℕ → Type 0
  IsWholeFrom queue place =
      AreUnstopped submitters (all_due_from clock all (Ahead place) (items_in queue))
      → length (moments_in (ahead (items_in queue))) ≤ length (moments_in (drop place all))
      → drop place all ++ rest ≡ ahead (items_in queue) → drop place all ≡ ahead (items_in queue)

  whole_from : (queue : List Ticket) → AreSubmitted submitters queue → (place : ℕ) → IsWholeFrom queue place
  whole_from [] submitted place none few parts = none_before (drop place all) rest parts
  whole_from (ticket ∷ queue) submitted place none few parts =
      one ticket.item (drop place all) (whole_from queue submitted.1) refl submitted.0 none few parts
    where
      -- the first item, and the others
      one : (x : Item) (left : List Input) → ((next : ℕ) → IsWholeFrom queue next) → drop place all ≡ left
          → IsSubmitted submitters ticket.sender x
          → AreUnstopped submitters (reply_due (outcome_at clock all (Ahead place)) x
          ++ all_due_from clock all (next_place (Ahead place) x) (items_in queue))
          → length (moments_in (ahead (x ∷ items_in queue))) ≤ length (moments_in left)
          → left ++ rest ≡ ahead (x ∷ items_in queue) → left ≡ ahead (x ∷ items_in queue)
      one (item.Packet job) [] others is own none few parts =
          let below : job.submitter < submitters = omega (arith, own.0, own.1) in
          let stays = first_unstopped submitters (reply_with (outcome_at clock all (Ahead place)) job)
          (all_due_from clock all (Ahead (place + 1)) (items_in queue)) none below in
          absurd (true≢false (sym (stopped_at clock all place is) ∙ stays))
      one (item.Packet job) (first ∷ left) others is own none few parts =
          let same : first ≡ input_of job = cc in
          let next : drop (place + 1) all ≡ left = rw add-one (next_at all place first left is) in
          let few : length (moments_in (ahead (items_in queue))) ≤ length (moments_in left) =
          subst (λ x. length (moments_in (ahead (items_in queue))) ≤ length (moments_in (x ∷ left))) same few in
          let none = others_unstopped submitters (reply_with (outcome_at clock all (Ahead place)) job)
          (all_due_from clock all (Ahead (place + 1)) (items_in queue)) none in
          let others = others (place + 1) none
          (subst (λ xs. length (moments_in (ahead (items_in queue))) ≤ length (moments_in xs)) (sym next) few)
          (ap (λ xs. xs ++ rest) next ∙ rest_of parts) in
          cc
      one (item.Pulse moment) [] others is own none few parts = absurd (omega (arith, few))
      one (item.Pulse moment) (first ∷ left) others is own none few parts =
          let same : first ≡ Pulse moment = cc in
          let next : drop (place + 1) all ≡ left = rw add-one (next_at all place first left is) in
          let more : suc (length (moments_in (ahead (items_in queue)))) ≤ suc (length (moments_in left)) =
          subst (λ x. suc (length (moments_in (ahead (items_in queue)))) ≤ length (moments_in (x ∷ left))) same few in
          let few : length (moments_in (ahead (items_in queue))) ≤ length (moments_in left) = omega (arith, more) in
          let others = others (place + 1) none
          (subst (λ xs. length (moments_in (ahead (items_in queue))) ≤ length (moments_in xs)) (sym next) few)
          (ap (λ xs. xs ++ rest) next ∙ rest_of parts) in
          cc
      one item.End left others is own none few parts =
          sym is ∙ others place none
          (subst (λ xs. length (moments_in (ahead (items_in queue))) ≤ length (moments_in xs)) (sym is) few)
          (ap (λ xs. xs ++ rest) is ∙ parts)
      one item.Close left others is own none few parts = none_before left rest parts

-- ---- the run

pub without_lack_all_is_committed : WithoutLackAllIsCommitted
without_lack_all_is_committed clock limit shares controlled refused_pulses text output =
    let ran = output.ran in
    let run = ran.run in
    let filled = ran.report.filled in
    let queued = length (moments_queued controlled) in
    let nothing = or_parts (lacks_packets ran.results run.replies) (lacks_pulse (committed_in run) queued) (sym output.lacking) in
    let all : queued ≤ length (moments_in (committed_in run)) =
    ltb-false (length (moments_in (committed_in run))) queued nothing.1 in
    let own : moments_queued (items_in run.queue) ≡ moments_queued controlled =
    are_controls run.submitters run.queue filled.submitted
    ∙ ap moments_queued (filled.parts run.submitters (omega arith) ∙ ran.control) in
    let few : length (moments_in (ahead (items_in run.queue))) ≤ length (moments_in (committed_in run)) =
    omega (arith, fewer_ahead (items_in run.queue), ap length own, all) in
    whole_from run.ledger.opening run.submitters (inputs run.ledger) ran.report.committed.0 run.queue filled.submitted
    (length run.before)
    (λ k below. subst (λ replies. any_stopped replies ≡ false) (ran.report.replied k below)
    (no_reply_stopped ran.results run.replies k (omega (arith, below, ran.number, ran.submitters_are)) nothing.0))
    few ran.report.committed.1

pub without_lack_or_stop_all_is_committed : WithoutLackOrStopAllIsCommitted
without_lack_or_stop_all_is_committed limit shares controlled text start ledger output goes =
    let ran = output.ran in
    ran.report.complete.0 (record {
      ledger = ap (λ (ledger : LedgerState). ledger.stopped) ran.ledger_is ∙ goes;
      replies = λ k below.
          no_reply_stopped ran.results ran.run.replies k (omega (arith, below, ran.number, ran.submitters_are))
          (sym output.lacking);
    })
