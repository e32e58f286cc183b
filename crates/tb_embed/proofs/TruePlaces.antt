-- What a reply says of its packet's place.
use Rattle.std.proofs.Common.{◌≡◌, refl, sym, ap, ◌∙◌, subst, arith, ℕ, zero, suc, ◌+◌, ◌<◌, List, [], ◌∷◌, ◌++◌, length, length-append, append_assoc, Option, Some, None}
use Rattle.tb_embed.proofs.Words.{slice_get, slice_get-append, AllByRecursion, Answer, Input, Numbered, ReplyValue, input_of, reply_with, ahead, items_in, Item, Ticket, all_due, all_due_from, outcome_at, outcome_with, outcome_past, Ahead, Behind, LedgerState, inputs, EngineState, Serves, ServingIsLawful, PlacesAreTrue}
use Rattle.tb_layout.specs.claim.Events as input
use Rattle.tb_machine.specs.claim.AnswerAt.{answer_at}
use Rattle.tb_work.specs.declared.item.Item.TheVariants as item
use Rattle.tb_work.specs.declared.outcome.Outcome.TheVariants.{Committed}

-- what stands behind a list's first part
at_end : {X : Type 0} (before : List X) (x : X) (others : List X) → slice_get (before ++ x ∷ others) (length before) ≡ Some x
at_end [] x others = refl
at_end (b ∷ before) x others = at_end before x others

-- what holds of each element holds of the one at an index
of_each : {X : Type 0} (P : X → Type 0) (xs : List X) (index : ℕ) (x : X) → AllByRecursion P xs → slice_get xs index ≡ Some x → P x
of_each P [] index x all got = cc
of_each P (first ∷ xs) zero x all got = let same : first ≡ x = cc in subst P same all.0
of_each P (first ∷ xs) (suc index) x all got = of_each P xs index x all.1 got

-- a packet's reply tells the packet's own place
own_place : (place : ℕ) (found : Option Answer) (told : ℕ) (answer : Answer) → outcome_with place found ≡ Committed told answer
    → told ≡ place
own_place place (Some other) told answer is = cc
own_place place None told answer is = cc

-- The replies that are due by this journal. In `all` is what was committed before, and then what is ahead of the Close.
module _ (clock : ℕ) (journal all : List Input) where
  -- the place that a reply tells is one of the journal's, and its packet is there
  abbrev IsTrueReply : ReplyValue → Type 0
  IsTrueReply reply =
      (place : ℕ) (answer : Answer) → reply.outcome ≡ Committed place answer
      → (place < length journal) × (slice_get all place ≡ Some (input_of reply.packet))

  -- a packet has no answer past the journal's end
  within : (place told : ℕ) (answer : Answer) → outcome_at clock journal (Ahead place) ≡ Committed told answer
      → place < length journal
  within place told answer is = grind (arith, outcome_past clock place journal, is)

  own : (place : ℕ) (job : Numbered) → slice_get all place ≡ Some (input_of job)
      → IsTrueReply (reply_with (outcome_at clock journal (Ahead place)) job)
  own place job stands told answer is =
      let same = own_place place (answer_at clock journal place) told answer is in
      rw same (within place told answer is, stands)

  true_behind : (items : List Item) → AllByRecursion IsTrueReply (all_due_from clock journal Behind items)
  true_behind [] = tt
  true_behind (item.Packet job ∷ items) = (λ place answer is. cc, true_behind items)
  true_behind (item.Pulse moment ∷ items) = true_behind items
  true_behind (item.End ∷ items) = true_behind items
  true_behind (item.Close ∷ items) = true_behind items

  true_ahead : (place : ℕ) (before : List Input) (items : List Item) → place ≡ length before → before ++ ahead items ≡ all
      → AllByRecursion IsTrueReply (all_due_from clock journal (Ahead place) items)
  true_ahead place before [] at is = tt
  true_ahead place before (item.Packet job ∷ items) at is =
      let one = input_of job ∷ [] in (
        own place job (ap (slice_get all) at ∙ (ap (λ ws. slice_get ws (length before)) (sym is)
            ∙ at_end before (input_of job) (ahead items))),
        true_ahead (place + 1) (before ++ one) items (omega (arith, at, length-append before one))
            (append_assoc before one (ahead items) ∙ is),
      )
  true_ahead place before (item.Pulse moment ∷ items) at is =
      let one = input.Pulse moment ∷ [] in
      true_ahead (place + 1) (before ++ one) items (omega (arith, at, length-append before one))
      (append_assoc before one (ahead items) ∙ is)
  true_ahead place before (item.End ∷ items) at is = true_ahead place before items at is
  true_ahead place before (item.Close ∷ items) at is = true_behind items

module _ (lawful : ServingIsLawful) (start : LedgerState) (queue : List Ticket) (read : List ReplyValue) (engine : EngineState)
    (index : ℕ) (reply : ReplyValue) (place : ℕ) (answer : Answer) where
  place_is_true : Serves start queue read engine → slice_get (read ++ engine.unread) index ≡ Some reply
      → reply.outcome ≡ Committed place answer → (place < engine.ledger.places)
      × (slice_get (inputs start ++ ahead (items_in queue)) place ≡ Some (input_of reply.packet))
  place_is_true serves got is =
      let served = lawful start queue read engine serves in
      let journal = inputs served.ledger in
      let all = inputs start ++ ahead (items_in queue) in
      let due = all_due start.opening (length (inputs start)) (items_in queue) journal in
      let one_due : slice_get due index ≡ Some reply =
      subst (λ replies. slice_get replies index ≡ Some reply) served.due.1
      (slice_get-append (read ++ engine.unread) served.due.0 index reply got) in
      let true_due = true_ahead start.opening journal all (length (inputs start)) (inputs start) (items_in queue) refl refl in
      let told = of_each (IsTrueReply start.opening journal all) due index reply true_due one_due place answer is in
      (subst (λ n. place < n) (sym served.counted) told.0, told.1)

pub places_are_true : ServingIsLawful → PlacesAreTrue
places_are_true = place_is_true
