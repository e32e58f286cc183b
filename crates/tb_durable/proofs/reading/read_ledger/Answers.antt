use Rattle.std.proofs.Common.{◌≡◌, arith, refl, rules, subst, sym, [], ◌∷◌}
use Rattle.tb_durable.proofs.Words.{IsClean, Trees, HasJournal, opened_rows, IsCause, HasReadFile, IsFailure, IsHalfway, IsLedgerFile}
use Rattle.tb_durable.proofs.FileLemmas.{begins_halfway, first_file, opened_file, settings_open}
use Rattle.tb_durable.proofs.Journals.{new_journal}
use Rattle.tb_durable.proofs.reading.read_ledger.Goals as goal

pub returns-clause-stored : goal.returns-clause-stored
returns-clause-stored g c = λ clean is.
    let was : IsClean (g.S.Store.view c.read_settings.new.table.store) = omega (arith, c.replay_rows.ensures.clean) in
    let row = c.read_settings.new.table.row in
    c.in_ok-replay_rows.ensures.journal clean (
      row ∷ [],
      c.in_ok-settings.ensures.row was,
      new_journal row c.in_ok-settings.settings.clock c.with_seed.result c.in_ok-settings.ensures.first c.with_seed.ensures.new,
    )

pub returns-in_err-replay_rows-clause-fault : goal.returns-in_err-replay_rows-clause-fault
returns-in_err-replay_rows-clause-fault g c =
    let cause : IsClean (g.S.Store.view c.replay_rows.new.table.store)
    → IsCause (opened_rows c.args.settings ((g.S.Store.view c.args.table.now.store).committed 0)) c.in_err-replay_rows.field-0.0
    = λ clean.
    let was : IsClean (g.S.Store.view c.read_settings.new.table.store) = omega (arith, c.replay_rows.ensures.clean) in
    let row = c.read_settings.new.table.row in
    subst (λ rows. IsCause rows c.in_err-replay_rows.field-0.0) (c.in_ok-settings.ensures.rows was)
    (c.in_err-replay_rows.ensures.fault clean (
      row ∷ [],
      c.in_ok-settings.ensures.row was,
      new_journal row c.in_ok-settings.settings.clock c.with_seed.result c.in_ok-settings.ensures.first c.with_seed.ensures.new,
    )) in
    search rules

pub returns-clause-committed : goal.returns-clause-committed
returns-clause-committed g c =
    c.in_ok-replay_rows.ensures.committed (subst HasJournal (sym c.with_seed.ensures.new)
    ([], record { machine = refl; counted = refl }))

pub returns-in_err-replay_rows-clause-opens : goal.returns-in_err-replay_rows-clause-opens
returns-in_err-replay_rows-clause-opens g c = λ counts file clean.
    let was : IsClean (g.S.Store.view c.read_settings.new.table.store) = omega (arith, c.replay_rows.ensures.clean) in
    let view = g.S.Store.view c.read_settings.new.table.store in
    let all : IsLedgerFile (view.committed 0) counts = subst (λ rows. IsLedgerFile rows counts) (sym (c.in_ok-settings.ensures.rows was))
    (opened_file c.args.settings ((g.S.Store.view c.args.table.now.store).committed 0) counts c.requires file) in
    let halfway : IsHalfway view c.with_seed.result c.new.result counts = subst (λ before. IsHalfway view c.with_seed.result before counts)
    (sym c.new.ensures) (begins_halfway view c.read_settings.new.table.row counts (c.in_ok-settings.ensures.row was) all
    c.in_ok-settings.settings.clock c.with_seed.result c.in_ok-settings.ensures.first c.with_seed.ensures.new) in
    let failure : IsFailure c.in_err-replay_rows.field-0.0 = (c.in_err-replay_rows.ensures.opens counts clean halfway).0 in
    (search rules, search rules)

pub returns-clause-opens : goal.returns-clause-opens
returns-clause-opens g c = λ counts file clean.
    let was : IsClean (g.S.Store.view c.read_settings.new.table.store) = omega (arith, c.replay_rows.ensures.clean) in
    let view = g.S.Store.view c.read_settings.new.table.store in
    let all : IsLedgerFile (view.committed 0) counts = subst (λ rows. IsLedgerFile rows counts) (sym (c.in_ok-settings.ensures.rows was))
    (opened_file c.args.settings ((g.S.Store.view c.args.table.now.store).committed 0) counts c.requires file) in
    let halfway : IsHalfway view c.with_seed.result c.new.result counts = subst (λ before. IsHalfway view c.with_seed.result before counts)
    (sym c.new.ensures) (begins_halfway view c.read_settings.new.table.row counts (c.in_ok-settings.ensures.row was) all
    c.in_ok-settings.settings.clock c.with_seed.result c.in_ok-settings.ensures.first c.with_seed.ensures.new) in
    (tt, (c.in_ok-replay_rows.ensures.opens counts clean halfway).1)

pub returns-clause-file : goal.returns-clause-file
returns-clause-file g c = λ clean.
    let was : IsClean (g.S.Store.view c.read_settings.new.table.store) = omega (arith, c.replay_rows.ensures.clean) in
    let view = g.S.Store.view c.read_settings.new.table.store in
    c.in_ok-replay_rows.ensures.file clean
    (subst (HasReadFile view c.with_seed.result) (sym c.new.ensures) (first_file view c.read_settings.new.table.row
    c.in_ok-settings.settings.clock c.with_seed.result (c.in_ok-settings.ensures.row was) c.in_ok-settings.ensures.first
    c.in_ok-settings.ensures.settings c.with_seed.ensures.new))

pub returns-in_err-settings-clause-openable : goal.returns-in_err-settings-clause-openable
returns-in_err-settings-clause-openable g c = settings_open c.args.settings c.requires c.read_settings.ensures.crash

pub returns-in_err-replay_rows-clause-openable : goal.returns-in_err-replay_rows-clause-openable
returns-in_err-replay_rows-clause-openable g c =
    settings_open c.args.settings c.requires (λ db left. c.read_settings.ensures.crash db (c.replay_rows.ensures.crash db left))

pub returns-clause-openable : goal.returns-clause-openable
returns-clause-openable g c =
    settings_open c.args.settings c.requires (λ db left. c.read_settings.ensures.crash db (c.replay_rows.ensures.crash db left))

pub returns-clause-settings : goal.returns-clause-settings
returns-clause-settings g c = λ clean.
    let was : IsClean (g.S.Store.view c.read_settings.new.table.store) = omega (arith, c.replay_rows.ensures.clean) in
    let reading = c.in_ok-settings.ensures.row was in
    let row = c.read_settings.new.table.row in (
      row,
      reading.left,
      subst (λ (trees : Trees). trees 0 ≡ row ∷ reading.left) (sym (c.in_ok-replay_rows.ensures.same clean)) reading.all,
      c.in_ok-settings.ensures.has,
    )
