-- One step of the batcher.
use Rattle.std.proofs.Common.{refl, sym, ap, subst, ◌∙◌, arith, ◌≡◌, ◌<◌, ⊎_elim, ℕ, Bool, false, true≢false, List, [], ◌∷◌, ◌++◌, length, map, append-nil}
use Rattle.tb_pipe.proofs.Words.{◌||◌, map-append, flat_map-append, Numbered, items_in, Item, Ticket, is_taken, IsGroup, Parcel, FrontState, Taken, with_group, group_as_batch, with_end, all_ended, take_step, all_decisions_in, decisions_in, KnowsEnds, HaveAllEnded, AreJoinedParcels, IsJoinedParcel, Admitted, AreDecisions, IntakeState, with_empty, with_taken, is_last, has_last, WasEmptyAfter, AreSealedLate, MaySeal, IsBatched, AllBatched}
use Rattle.tb_work.specs.declared.item.Item.TheVariants as item
use Rattle.tb_core.specs.declared.parcel.Parcel.TheVariants as parcel
use Rattle.tb_core.specs.clauses.Taking.{HasTakenOne}
use Rattle.tb_pipe.proofs.Late.{StaysLate, step_late, empty_later, empty_again, empty_now, late_with}
use Rattle.tb_pipe.proofs.Lists.{either_same, none_more, all_more}

-- ---- a front hands no last parcel out

none_sealed : (held : List Numbered) → has_last (group_as_batch held) ≡ false
none_sealed [] = refl
none_sealed (job ∷ jobs) = refl

no_last : (refused : Bool) (front : FrontState) (sender : ℕ) (x : Item)
    → has_last (take_step refused front sender x).parcels ≡ false
no_last refused front sender (item.Packet job) =
    let view : Taken → Bool = λ taken. has_last taken.parcels in
    either_same view front.closed _ _ false refl
    (either_same view front.stopped _ _ false refl
    (either_same view refused _ _ false (none_more is_last (group_as_batch front.held) _
    (none_sealed front.held) refl) (either_same view (is_taken front.limit front.held job) _ _ false refl
    (none_sealed front.held))))
no_last refused front sender (item.Pulse moment) =
    either_same (λ (taken : Taken). has_last taken.parcels) (front.closed || front.stopped) _ _ false refl
    (none_more is_last (group_as_batch front.held) _ (none_sealed front.held) refl)
no_last refused front sender item.End =
    either_same (λ (taken : Taken). has_last taken.parcels) (all_ended (with_end front sender)) _ _ false
    (none_sealed front.held) refl
no_last refused front sender item.Close = none_sealed front.held

-- ---- one step

knows_held : (queue : List Ticket) (front : FrontState) → KnowsEnds queue front → KnowsEnds queue (with_group front [])
knows_held queue front knows = knows

as_batch : (held : List Numbered) → 0 < length held → group_as_batch held ≡ parcel.Batch held ∷ []
as_batch [] some = absurd (omega (arith, some))
as_batch (job ∷ jobs) some = refl

module _ {intake : IntakeState} {front : FrontState} {given : List Parcel} (is : IsBatched intake front given) where
  pub ticket_more : (ticket : Ticket) (taken : Taken) → (refused : Bool) × HasTakenOne refused front ticket taken
      → all_ended front ≡ false → IsBatched (with_taken intake ticket) taken.front (given ++ taken.parcels)
  ticket_more ticket taken step unended = record {
    under = took.same.0 ∙ is.under;
    among = took.same.1 ∙ is.among;
    passes = rw (
      map-append (λ (ticket : Ticket). ticket.item) intake.taken (ticket ∷ []),
      flat_map-append decisions_in given taken.parcels,
    ) (took.passes (items_in intake.taken) (all_decisions_in given) is.passes);
    joined = all_more (IsJoinedParcel intake.limit) given taken.parcels is.joined
        (subst (λ limit. AreJoinedParcels limit taken.parcels) is.under took.lawful);
    late = stays.0;
    empty = stays.1;
    unended = none_more is_last given taken.parcels is.unended
        (ap (λ (taken : Taken). has_last taken.parcels) took.took ∙ no_last step.0 front ticket.sender ticket.item);
    knows = took.ends intake.taken is.knows;
  }
    where
      took : HasTakenOne step.0 front ticket taken
      took = step.1

      Empty : List Parcel → Type 0
      Empty = WasEmptyAfter (with_taken intake ticket)

      stays : StaysLate intake.limit Empty given taken
      stays = subst (StaysLate intake.limit Empty given) (sym took.took)
          (step_late intake.limit Empty given step.0 front ticket.sender ticket.item is.under unended
          (late_with intake.limit (WasEmptyAfter intake) Empty given front (empty_later intake ticket) (is.late, is.empty)))

  -- the queue was seen empty again
  pub empty_more : IsBatched (with_empty intake) front given
  empty_more =
      let late = late_with intake.limit (WasEmptyAfter intake) (WasEmptyAfter (with_empty intake)) given front
      (empty_again intake) (is.late, is.empty) in
      record {
        under = is.under;
        among = is.among;
        passes = is.passes;
        joined = is.joined;
        late = late.0;
        empty = late.1;
        unended = is.unended;
        knows = is.knows;
      }

  pub group_more : 0 < length front.held → IsGroup front.limit front.held → MaySeal intake front
      → IsBatched intake (with_group front []) (given ++ parcel.Batch front.held ∷ [])
  group_more some lawful may = record {
    under = is.under;
    among = is.among;
    passes = passes;
    joined = all_more (IsJoinedParcel intake.limit) given (parcel.Batch front.held ∷ []) is.joined
        (subst (λ limit. IsGroup limit front.held) is.under lawful, tt);
    late = rw (append-nil all, ← as_batch front.held some) is.late;
    empty = λ begins before group parts. ⊎_elim
        (λ seen. empty_now intake front.closed front.stopped all seen
        (subst (AreDecisions (items_in intake.taken) front.closed front.stopped) (append-nil (all_decisions_in all)) passes)
        begins.2) (λ ended. absurd (true≢false (sym ended ∙ begins.3))) may;
    unended = none_more is_last given (parcel.Batch front.held ∷ []) is.unended refl;
    knows = knows_held intake.taken front is.knows;
  }
    where
      all : List Parcel
      all = given ++ parcel.Batch front.held ∷ []

      passes : AreDecisions (items_in intake.taken) front.closed front.stopped (all_decisions_in all ++ [])
      passes = rw (
        append-nil (all_decisions_in all),
        flat_map-append decisions_in given (parcel.Batch front.held ∷ []),
        append-nil (map Admitted front.held),
      ) is.passes

  pub all_batched : {all : List Parcel} → front.held ≡ [] → HaveAllEnded intake.submitters intake.taken
      → all ≡ given ++ parcel.Last ∷ [] → AllBatched intake all
  all_batched none ended parts = record {
    closed = front.closed;
    stopped = front.stopped;
    before = given;
    parts = parts;
    passes = subst (AreDecisions (items_in intake.taken) front.closed front.stopped)
        (ap (λ jobs. all_decisions_in given ++ map Admitted jobs) none ∙ append-nil (all_decisions_in given)) is.passes;
    joined = is.joined;
    late = subst (AreSealedLate intake) (ap (λ jobs. given ++ group_as_batch jobs) none ∙ append-nil given) is.late;
    unended = is.unended;
    ended = ended;
  }

-- ---- the intake, but for what it took and where it saw its queue empty

abbrev pub IsSameIntake : IntakeState → IntakeState → Type 0
IsSameIntake first now = now ≡ record first { taken = now.taken; seen_empty = now.seen_empty }

pub intake_more : (first now next : IntakeState) (ticket : Ticket) → IsSameIntake first now
    → next ≡ with_taken now ticket → IsSameIntake first next
intake_more first now next ticket same took =
    took ∙ ap (λ (i : IntakeState). record i { taken = now.taken ++ ticket ∷ [] }) same
    ∙ ap (λ (i : IntakeState). record first { taken = i.taken; seen_empty = i.seen_empty }) (sym took)

pub intake_empty : (first now next : IntakeState) → IsSameIntake first now → next ≡ with_empty now
    → IsSameIntake first next
intake_empty first now next same none =
    none ∙ ap (λ (i : IntakeState). record i { seen_empty = now.seen_empty ++ length now.taken ∷ [] }) same
    ∙ ap (λ (i : IntakeState). record first { taken = i.taken; seen_empty = i.seen_empty }) (sym none)
