-- The undo list: what can be undone stays so.
use Rattle.std.proofs.Common.{sym, ap, subst, refl, arith, ◌∙◌, ◌≡◌, ℕ, ◌≤◌, ◌-◌, ◌||◌, not, Bool, true, List, [], ◌∷◌, ◌++◌, length, is_some, nat_eq}
use Rattle.tb_tables.proofs.Words.{length-take, lookup, Account as AccountRecord, Transfer as TransferRecord, Facts, account_with, add_account, add_failed, add_transfer, with_change, HasNoBalances, without_last, before, oldest, history_of, Contents, facts_of, Contain, KeepsPairs, IsSound, WasMade, IsUndoable, AreUndoable, AreKept, IsAfter, its_pair, Indices, Row, Change, Failed}
use Rattle.tb_tables.specs.declared.change.Change.TheVariants.{Account, Transfer}
use Rattle.tb_tables.proofs.AddedAccounts.{held-failed, kept-account, kept-unaccount, stamped-new}
use Rattle.tb_tables.proofs.Histories.{oldest-push, history_of-push, without_last-push}
use Rattle.tb_tables.proofs.LookUps.{none-there, new-account-by-id}
use Rattle.tb_tables.proofs.SeenFacts.{AreSeenAs, sound-indexed}
use Rattle.tb_tables.proofs.StoredTransfers.{IsPushed, CanPop, can-pop, back}

-- ---- one change more, or one taken back, in the list of those that can be undone

module _ (indexed : ℕ → ℕ → Bool) where
  undoable-push : (changes : List Change) (change : Change) {old : Facts} (new : Facts) → before change new ≡ old
      → IsSound indexed old → WasMade change old new → AreUndoable indexed changes old
      → AreUndoable indexed (changes ++ change ∷ []) new
  undoable-push [] change new is sound made all =
      (subst (λ facts. IsSound indexed facts × WasMade change facts new) (sym is) (sound, made), tt)
  undoable-push (first ∷ changes) change new is sound made all =
      let same = oldest-push changes change new ∙ ap (oldest changes) is in
      (subst (IsUndoable indexed first) (sym same) all.0, undoable-push changes change new is sound made all.1)

  undoable-pop : (changes : List Change) (change : Change) (facts : Facts)
      → AreUndoable indexed (changes ++ change ∷ []) facts
      → AreUndoable indexed changes (before change facts) × IsUndoable indexed change facts
  undoable-pop [] change facts all = (tt, all.0)
  undoable-pop (first ∷ changes) change facts all =
      let rest = undoable-pop changes change facts all.1 in
      ((subst (IsUndoable indexed first) (oldest-push changes change facts) all.0, rest.0), rest.1)

-- ---- the same with another set, which has the same pairs of the indices that there are

module _ (indexed other : ℕ → ℕ → Bool) (count : ℕ) (same : KeepsPairs count indexed other) where
  no-longer : (change : Change) (facts : Facts) → length (before change facts).transfers ≤ length facts.transfers
  no-longer Account facts = omega arith
  no-longer (Transfer indices) facts = omega (arith, length-take (length facts.transfers - 1) facts.transfers)
  no-longer Failed facts = omega arith

  oldest-short : (changes : List Change) (facts : Facts) → length facts.transfers ≤ count
      → length (oldest changes facts).transfers ≤ count
  oldest-short [] facts short = short
  oldest-short (change ∷ changes) facts short =
      omega (arith, no-longer change (oldest changes facts), oldest-short changes facts short)

  undoable-indexed : (changes : List Change) (facts : Facts) → length facts.transfers ≤ count
      → AreUndoable indexed changes facts → AreUndoable other changes facts
  undoable-indexed [] facts short all = tt
  undoable-indexed (change ∷ changes) facts short all =
      let sound = sound-indexed indexed other count same (oldest (change ∷ changes) facts)
      (oldest-short (change ∷ changes) facts short) all.0.0 in
      ((sound, all.0.1), undoable-indexed changes facts short all.1)

-- ---- the tables with one change more

module _ (changes : List Change) (old : Contents) (kept : AreKept changes old) where
  -- what is kept, and the history, after a change to these facts
  abbrev TakesChange : Change → Contents → Facts → Type 0
  TakesChange change new facts =
      AreKept (changes ++ change ∷ []) new
      × (history_of (changes ++ change ∷ []) (facts_of new) ≡ with_change (history_of changes (facts_of old)) facts)

  takes-change : (change : Change) {new : Contents} {facts : Facts} → AreSeenAs facts new
      → before change facts ≡ facts_of old → WasMade change (facts_of old) facts
      → KeepsPairs (length (facts_of old).transfers) old.is_in_expiries new.is_in_expiries
      → TakesChange change new facts
  takes-change change {new} {facts} is undone made keeps =
      let count = length (facts_of old).transfers in
      let sound = sound-indexed old.is_in_expiries new.is_in_expiries count keeps (facts_of old) (omega arith)
      kept.consistent.sound in
      let all = undoable-indexed old.is_in_expiries new.is_in_expiries count keeps changes (facts_of old)
      (omega arith) kept.undoable in (
        record {
          consistent = is.consistent;
          undoable = subst (AreUndoable new.is_in_expiries (changes ++ change ∷ [])) (sym is.seen)
              (undoable-push new.is_in_expiries changes change facts undone sound made all);
        },
        ap (history_of (changes ++ change ∷ [])) is.seen ∙ history_of-push changes change undone,
      )

  -- if it is new, as the map tells it
  pub account-made : (event : AccountRecord) (timestamp : ℕ) → HasNoBalances event
      → true ≡ not (is_some (lookup (nat_eq event.id) old.accounts)) →
      let account : AccountRecord = record event { timestamp = timestamp } in
      TakesChange Account (record old { accounts = old.accounts ++ (event.id, account) ∷ [] })
      (add_account (facts_of old) account)
  account-made event timestamp none added =
      let account : AccountRecord = record event { timestamp = timestamp } in
      let fresh = none-there (account_with (facts_of old) event.id)
      (sym (added ∙ new-account-by-id kept.consistent.hold event.id)) in
      takes-change Account (kept-account old kept.consistent account fresh (stamped-new timestamp none))
      (ap (λ accounts. record (facts_of old) { accounts = accounts })
      (without_last-push (facts_of old).accounts account)) tt (λ m p within has. has)

  pub failed-made : (id : ℕ) → TakesChange Failed (record old { failed = old.failed ++ id ∷ [] })
      (add_failed (facts_of old) id)
  failed-made id =
      takes-change Failed (held-failed old (old.failed ++ id ∷ []) kept.consistent)
      (ap (λ failed. record (facts_of old) { failed = failed }) (without_last-push old.failed id)) tt
      (λ m p within has. has)

  pub transfer-made : {t : TransferRecord} {indices : Indices} {entries : List (ℕ × Row)}
      (pushed : IsPushed old t indices entries) {accounts : List (ℕ × AccountRecord)} {transfers : List (ℕ × Row)}
      {next : ℕ → ℕ → Bool} → IsAfter pushed.step accounts transfers
      → ((m p : ℕ) → next m p ≡ (its_pair (facts_of old) t m p || old.is_in_expiries m p))
      → TakesChange (Transfer indices)
      (record old { accounts = accounts; transfers = transfers; is_in_expiries = next }) (add_transfer (facts_of old) t)
  transfer-made {t} {indices} pushed after put =
      takes-change (Transfer indices) (pushed.stored after put) (back (facts_of old) t indices)
      (record { transfer = t; stored = refl; allow = pushed.allow }) (λ m p within has. grind (arith, put m p, has))

-- ---- and with the last one taken back

module _ (changes : List Change) (old : Contents) where
  -- what is kept, and the history, before a change
  abbrev GivesBack : Change → Contents → Type 0
  GivesBack change new =
      AreKept changes new × (with_change (history_of changes (facts_of new)) (facts_of old)
      ≡ history_of (changes ++ change ∷ []) (facts_of old))

  undoable-last : (change : Change) → AreKept (changes ++ change ∷ []) old
      → IsUndoable old.is_in_expiries change (facts_of old)
  undoable-last change kept = (undoable-pop old.is_in_expiries changes change (facts_of old) kept.undoable).1

  gives-back : (change : Change) {new : Contents} → AreKept (changes ++ change ∷ []) old
      → AreSeenAs (before change (facts_of old)) new
      → KeepsPairs (length (before change (facts_of old)).transfers) old.is_in_expiries new.is_in_expiries
      → GivesBack change new
  gives-back change {new} kept is keeps =
      let facts = before change (facts_of old) in (
        record {
          consistent = is.consistent;
          undoable = subst (AreUndoable new.is_in_expiries changes) (sym is.seen)
              (undoable-indexed old.is_in_expiries new.is_in_expiries (length facts.transfers) keeps changes facts
              (omega arith) (undoable-pop old.is_in_expiries changes change (facts_of old) kept.undoable).0);
        },
        ap (λ facts. with_change (history_of changes facts) (facts_of old)) is.seen
            ∙ sym (history_of-push changes change refl),
      )

  pub account-back : AreKept (changes ++ Account ∷ []) old
      → GivesBack Account (record old { accounts = without_last old.accounts })
  account-back kept =
      gives-back Account kept (kept-unaccount old kept.consistent (undoable-last Account kept)) (λ m p within has. has)

  pub failed-back : AreKept (changes ++ Failed ∷ []) old
      → GivesBack Failed (record old { failed = without_last old.failed })
  failed-back kept =
      gives-back Failed kept (held-failed old (without_last old.failed) kept.consistent) (λ m p within has. has)

  module _ (indices : Indices) (kept : AreKept (changes ++ Transfer indices ∷ []) old) where
    pub can-give : CanPop old indices (before (Transfer indices) (facts_of old))
    can-give = can-pop old kept.consistent indices (undoable-last (Transfer indices) kept)

    pub transfer-back : {accounts : List (ℕ × AccountRecord)} {transfers : List (ℕ × Row)} {next : ℕ → ℕ → Bool}
        → Contain (before (Transfer indices) (facts_of old)) accounts transfers
        → KeepsPairs (length (before (Transfer indices) (facts_of old)).transfers) old.is_in_expiries next
        → GivesBack (Transfer indices) (record old { accounts = accounts; transfers = transfers; is_in_expiries = next })
    transfer-back hold others = gives-back (Transfer indices) kept (can-give.popped hold others) others
