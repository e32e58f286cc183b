use Rattle.std.proofs.Common.{◌≡◌, ◌<◌, ◌+◌, ℕ, zero, suc, List, [], ◌∷◌, ◌++◌, map, length, get_or, ap, ◌∙◌, subst, arith, true, All}
use Rattle.tb_submit.proofs.Words.{ReplyValue, All-nil, All-from_get_or, given, PassEntry, EndedState, IntakeState, SenderState, replies_of, seat_at, AreUnended, ReaderState, entry_of, IsCompleteQueue, IsWhole, entry}
use Rattle.tb_submit.proofs.DrainedQueue.{AreSettled, settled_ahead, settled_queue, settled_within}
use Rattle.tb_submit.proofs.OpenedSubmitters.{ends_long, origin_at}
use Rattle.tb_submit.proofs.settling.settle_queue.Goals as goal

replies_all : (F : ℕ → List ReplyValue → Type 0) (ends : List EndedState)
    → ((k : ℕ) (d : EndedState) → k < length ends → F k ((get_or ends k d).read ++ (get_or ends k d).lying)) →
    (sender : ℕ) → sender < length ends → F sender (replies_of ends sender)
replies_all F [] each sender below = absurd (omega (arith, below))
replies_all F (ended ∷ ends) each zero below = each 0 ended (omega arith)
replies_all F (ended ∷ ends) each (suc sender) below =
    replies_all (λ k. F (suc k)) ends (λ k d within. each (suc k) d (omega (arith, within)))
    sender (omega (arith, below))

all_settled : (ends : List EndedState) → ((k : ℕ) (d : EndedState) → k < length ends
    → (get_or ends k d).settled ≡ true) → All (λ (ended : EndedState). ended.settled ≡ true) ends
all_settled [] each = All-nil (λ (ended : EndedState). ended.settled ≡ true)
all_settled (ended ∷ ends) each =
    All-from_get_or (λ (e : EndedState). e.settled ≡ true) (ended ∷ ends) ended (λ k within. each k ended within)

settled : (c : goal.After-drop-reader) → AreSettled c.args.intake c.args.ends.items c.args.control
settled c =
    let intake = c.args.intake in
    let xs = c.args.ends.items in
    let os = c.args.outlets.items in
    let before = c.intake.inside in
    let last = c.control.inside.sender in
    let items = c.learn.ensures.whole.0 in
    let both = λ (es : List PassEntry). es ++ entry last.seat.number last.queued ∷ [] in
    let same : c.learn.new.self ≡ record before.reader { entries = both (map entry_of xs); learned = last.learned }
    =
    c.learn.ensures.same ∙ c.gather.ensures.entries
    ∙ ap (λ (r : ReaderState). record r { entries = both r.entries; learned = last.learned })
    c.settle_all-ends.ensures.reader
    ∙ ap (λ es. record before.reader { entries = both (es ++ map entry_of xs); learned = last.learned })
    c.intake.invariant.0 in
    let whole = subst (λ n. IsWhole (both (map entry_of xs)) before.reader.taken n last.learned items)
    c.intake.invariant.1 (subst (λ (r : ReaderState). IsWhole r.entries r.taken r.count r.learned items) same
    c.learn.ensures.whole.1) in
    record {
      long = ends_long (seat_at intake) 0 xs os c.requires.ends ∙ c.requires.number;
      seats = λ k d below. (origin_at (seat_at intake) xs os c.requires.ends k d below).0;
      filed = c.settle_all-ends.ensures.filed;
      control_seat_is = c.requires.control;
      control_filed = subst (λ (s : SenderState). IsCompleteQueue s.seat.limit s.seat.submitters s.seat.number s.queued)
          c.control.view_is c.gather.ensures.filed;
      items = items;
      whole = subst (λ (i : IntakeState). IsWhole (map entry_of xs
          ++ entry c.args.control.seat.number c.args.control.queued ∷ []) i.taken
          (i.submitters + 1) c.args.control.learned items) c.intake.view_is
          (subst (λ (s : SenderState). IsWhole (map entry_of xs ++ entry s.seat.number s.queued ∷ [])
          before.reader.taken (before.submitters + 1) s.learned items) c.control.view_is whole);
      unended = subst (λ (s : SenderState). AreUnended s.seat.number s.learned) c.control.view_is
          c.gather.ensures.unended;
      finished = c.requires.finished;
    }

pub returns-clause-queue : goal.returns-clause-queue
returns-clause-queue c = settled_queue (settled c)

pub returns-clause-within : goal.returns-clause-within
returns-clause-within c = settled_within (settled c)

pub returns-clause-ahead : goal.returns-clause-ahead
returns-clause-ahead c = settled_ahead (settled c)

pub returns-clause-long : goal.returns-clause-long
returns-clause-long c = c.settle_all-ends.ensures.long ∙ (settled c).long

pub returns-clause-replies : goal.returns-clause-replies
returns-clause-replies c =
    let all = c.settle_all-ends.ensures.long in
    λ sender d below. replies_all (λ k replies. replies ≡ given (get_or c.args.outlets.items k d))
    c.settle_all-ends.result.items
    (λ k e within. c.settle_all-ends.ensures.replies k e d (omega (arith, within, all))) sender
    (omega (arith, below, all, (settled c).long))

pub returns-clause-settled : goal.returns-clause-settled
returns-clause-settled c =
    all_settled c.settle_all-ends.result.items
    (λ k d within. c.settle_all-ends.ensures.settled k d (omega (arith, within, c.settle_all-ends.ensures.long)))

pub returns-clause-seats : goal.returns-clause-seats
returns-clause-seats c = (settled c).seats
