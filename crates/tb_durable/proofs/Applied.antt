-- What was committed of a parcel.
use Rattle.std.proofs.Common.{◌≡◌, ◌+◌, Bool, true, false, List, [], ◌∷◌, ◌++◌, refl, ap, sym, subst, ◌∙◌, append-nil, length, map}
use Rattle.tb_durable.proofs.Words.{if◌then◌else◌, ◌||◌, nat_lt, Input, Pulse, places_max, input_of, Outcomes, LedgerState, inputs, Applied, apply_result, apply_step, must_stop, step_of_batch, with_entry, with_stop, BareLedgerState, HasCommitted, Applies, with_journal, groups_in, AddsGroup, groups_of_parcel}
use Rattle.tb_core.specs.claim.BareLedger.{refusal_of}
use Rattle.tb_work.specs.claim.Answer.{reply_with}
use Rattle.tb_work.specs.declared.outcome.Outcome.TheVariants as outcome
use Rattle.tb_core.specs.declared.parcel.Parcel.{Parcel}
use Rattle.tb_core.specs.declared.parcel.Parcel.TheVariants as parcel
use Rattle.tb_core.specs.declared.outcomes.Outcomes.TheVariants.{Cut, Nothing}

module _ (before after : LedgerState) (group : List Input) (outcomes refusal answers : Outcomes) where
  -- a ledger that didn't stop has the group
  goes_on : (stop : Bool) → apply_result after outcomes
      ≡ (if stop then apply_result (with_stop before) refusal else apply_result (with_entry before group) answers)
      → after.stopped ≡ false → after ≡ with_entry before group
  goes_on true is on = absurd (let stop = ap (λ (a : Applied). a.ledger.stopped) is in cc)
  goes_on false is on = ap (λ (a : Applied). a.ledger) is

  -- one that stopped gave the refusal
  stops : (was rest : Bool) → before.stopped ≡ was → apply_result after outcomes
      ≡ (if was || rest then apply_result (with_stop before) refusal else apply_result (with_entry before group) answers)
      → after.stopped ≡ true → outcomes ≡ refusal
  stops true rest e is stop = ap (λ (a : Applied). a.outcomes) is
  stops false true e is stop = ap (λ (a : Applied). a.outcomes) is
  stops false false e is stop = absurd (let same = ap (λ (a : Applied). a.ledger.stopped) is in cc)

  -- and has the groups that it had
  stands : (was rest : Bool) → before.stopped ≡ was → apply_result after outcomes
      ≡ (if was || rest then apply_result (with_stop before) refusal else apply_result (with_entry before group) answers)
      → after.stopped ≡ true → (after.groups ≡ before.groups) × (after.opening ≡ before.opening)
  stands true rest e is stop = (ap (λ (a : Applied). a.ledger.groups) is, ap (λ (a : Applied). a.ledger.opening) is)
  stands false true e is stop = (ap (λ (a : Applied). a.ledger.groups) is, ap (λ (a : Applied). a.ledger.opening) is)
  stands false false e is stop = absurd (let same = ap (λ (a : Applied). a.ledger.stopped) is in cc)

-- a ledger that applied a parcel and didn't stop has its groups
pub grew : (handed : Parcel) (old new : LedgerState) (outcomes : Outcomes) (refused : Bool)
    → apply_result new outcomes ≡ apply_step refused old handed → new.stopped ≡ false
    → (new.groups ≡ old.groups ++ groups_of_parcel handed) × (new.opening ≡ old.opening)
grew (parcel.Batch jobs) old new outcomes refused is on =
    let same = goes_on old new (map input_of jobs) outcomes (Cut (map (reply_with outcome.Stopped) jobs))
    (step_of_batch old jobs).outcomes (must_stop refused old (length jobs)) is on in
    (ap (λ (l : LedgerState). l.groups) same, ap (λ (l : LedgerState). l.opening) same)
grew (parcel.Pulse moment) old new outcomes refused is on =
    let same = goes_on old new (Pulse moment ∷ []) outcomes Nothing Nothing (must_stop refused old 1) is on in
    (ap (λ (l : LedgerState). l.groups) same, ap (λ (l : LedgerState). l.opening) same)
grew (parcel.Return job cause) old new outcomes refused is on = (
  ap (λ (a : Applied). a.ledger.groups) is ∙ sym (append-nil old.groups),
  ap (λ (a : Applied). a.ledger.opening) is,
)
grew parcel.Last old new outcomes refused is on = (
  ap (λ (a : Applied). a.ledger.groups) is ∙ sym (append-nil old.groups),
  ap (λ (a : Applied). a.ledger.opening) is,
)

-- one that stopped gave the refusal
pub refuses : (handed : Parcel) (old new : LedgerState) (outcomes : Outcomes) (refused : Bool)
    → apply_result new outcomes ≡ apply_step refused old handed → new.stopped ≡ true → outcomes ≡ refusal_of handed
refuses (parcel.Batch jobs) old new outcomes refused is stop =
    stops old new (map input_of jobs) outcomes (Cut (map (reply_with outcome.Stopped) jobs)) (step_of_batch old jobs).outcomes
    old.stopped (refused || nat_lt places_max (length (inputs old) + length jobs)) refl is stop
refuses (parcel.Pulse moment) old new outcomes refused is stop =
    stops old new (Pulse moment ∷ []) outcomes Nothing Nothing
    old.stopped (refused || nat_lt places_max (length (inputs old) + 1)) refl is stop
refuses (parcel.Return job cause) old new outcomes refused is stop = ap (λ (a : Applied). a.outcomes) is
refuses parcel.Last old new outcomes refused is stop = ap (λ (a : Applied). a.outcomes) is

-- and has the groups that it had
pub stood : (handed : Parcel) (old new : LedgerState) (outcomes : Outcomes) (refused : Bool)
    → apply_result new outcomes ≡ apply_step refused old handed → new.stopped ≡ true
    → (new.groups ≡ old.groups) × (new.opening ≡ old.opening)
stood (parcel.Batch jobs) old new outcomes refused is stop =
    stands old new (map input_of jobs) outcomes (Cut (map (reply_with outcome.Stopped) jobs)) (step_of_batch old jobs).outcomes
    old.stopped (refused || nat_lt places_max (length (inputs old) + length jobs)) refl is stop
stood (parcel.Pulse moment) old new outcomes refused is stop =
    stands old new (Pulse moment ∷ []) outcomes Nothing Nothing
    old.stopped (refused || nat_lt places_max (length (inputs old) + 1)) refl is stop
stood (parcel.Return job cause) old new outcomes refused is stop = (
  ap (λ (a : Applied). a.ledger.groups) is,
  ap (λ (a : Applied). a.ledger.opening) is,
)
stood parcel.Last old new outcomes refused is stop = (
  ap (λ (a : Applied). a.ledger.groups) is,
  ap (λ (a : Applied). a.ledger.opening) is,
)

-- the same of a bare ledger, whatever was committed before
module _ {old new : BareLedgerState} {outcomes : Outcomes} (handed : Parcel) (applied : Applies handed old outcomes new) where
  pub adds_group : {group : List Input} → groups_of_parcel handed ≡ group ∷ [] → new.stopped ≡ false → AddsGroup old new group
  adds_group is on groups has =
      let done = applied.3 groups has in
      let more = grew handed (with_journal old groups) (with_journal new (groups ++ groups_in applied.1)) outcomes applied.0 done.1 on in
      (subst (HasCommitted new) (more.0 ∙ ap (λ one. groups ++ one) is) done.0, more.1)

  pub gives_refusal : (groups : List (List Input)) → HasCommitted old groups → new.stopped ≡ true → outcomes ≡ refusal_of handed
  gives_refusal groups has stop =
      refuses handed (with_journal old groups) (with_journal new (groups ++ groups_in applied.1)) outcomes applied.0
      (applied.3 groups has).1 stop
