-- What the rows of a store say of a ledger.
use Rattle.std.proofs.Common.{◌≡◌, ◌∙◌, arith, refl, ap, subst, sym, ℕ, zero, suc, List, [], ◌∷◌, false}
use Rattle.tb_durable.proofs.Words.{flat_map, Row, View, IsClean, doubt, BareLedgerState, with_journal, HasCommitted, LedgerState, inputs, clock_in, HasJournal, IsKept, IsStored, groups_of}
use Rattle.tb_core.specs.claim.EndedRun.{Run}
use Rattle.tb_core.specs.claim.TwoRuns.{FollowsOn}
use Rattle.tb_durable.specs.clauses.Runs.{RunsFollow, ShowsJournal}

abbrev pub opening_of : List Row → ℕ
opening_of [] = 0
opening_of (first ∷ entries) = clock_in first

pub shown_opening : {view : View} {bare : BareLedgerState} {ledger : LedgerState} → ShowsJournal view bare ledger
    → ledger.opening ≡ opening_of (view.committed 0)
shown_opening shows =
    let journal = (shows.kept.stored shows.clean shows.goes_on).1 in
    ap (λ (l : LedgerState). l.opening) shows.kept.journal.same ∙ journal.opened ∙ sym (ap opening_of journal.is)

module _ (first second : Run) (old new : View) (before after : BareLedgerState) (start : LedgerState) where
  follows : ShowsJournal old before first.ledger → ShowsJournal new after start → new.committed 0 ≡ old.committed 0
      → second.before ≡ inputs start → second.ledger.opening ≡ start.opening → FollowsOn first second
  follows ended began same from opens = record {
    opening = opens ∙ shown_opening began ∙ ap opening_of same ∙ sym (shown_opening ended);
    before = from ∙ ap (flat_map (λ group. group)) (sym (began.kept.rows began.clean began.goes_on) ∙ ap groups_of same
        ∙ ended.kept.rows ended.clean ended.goes_on);
  }

pub runs_follow : RunsFollow
runs_follow = follows

-- a stored ledger is the one with the journal that its rows have
pub shows_rows : (view : View) (bare : BareLedgerState) → IsStored view bare → IsClean view → bare.stopped ≡ false
    → ShowsJournal view bare (with_journal bare (groups_of (view.committed 0)))
shows_rows view bare stored clean goes_on =
    let journal = (stored clean goes_on).1 in
    record {
      kept = record {
        journal = record { same = refl; committed = subst (HasCommitted bare) (sym (ap groups_of journal.is)) journal.committed };
        stored = stored;
        rows = λ any goes. refl;
      };
      clean = clean;
      goes_on = goes_on;
    }

-- some ledger is the one that a stored one is, also if the disk hasn't returned what was written
pub some_kept : (view : View) (bare : BareLedgerState) → IsStored view bare → HasJournal bare → bare.stopped ≡ false
    → (ledger : LedgerState) × IsKept view bare ledger
some_kept view bare stored has goes_on = by (doubt view.is_clean) refl
  where
    by : (doubts : ℕ) → doubt view.is_clean ≡ doubts → (ledger : LedgerState) × IsKept view bare ledger
    by zero clean = (with_journal bare (groups_of (view.committed 0)), (shows_rows view bare stored clean goes_on).kept)
    by (suc doubts) unclean = (
      with_journal bare has.0,
      record {
        journal = record { same = refl; committed = has.1 };
        stored = stored;
        rows = λ clean goes. absurd (omega (arith, clean, unclean));
      },
    )
