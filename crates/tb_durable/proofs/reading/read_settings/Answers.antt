use Rattle.std.proofs.Common.{◌≡◌, ap, arith, rules, false, Ok}
use Rattle.tb_durable.proofs.Words.{IsClean, opened_rows}
use Rattle.tb_durable.proofs.FileLemmas.{written_first}
use Rattle.tb_durable.proofs.reading.read_settings.Goals as goal

pub returns-in_err-read_first-clause-fault : goal.returns-in_err-read_first-clause-fault
returns-in_err-read_first-clause-fault g c =
    let cause = c.in_err-read_first.ensures.fault
    (opened_rows c.args.settings ((g.S.Store.view c.args.table.now.store).committed 0)) in
    search rules

pub returns-in_err-write_settings-clause-fault : goal.returns-in_err-write_settings-clause-fault
returns-in_err-write_settings-clause-fault g c =
    let cause = c.in_err-write_settings.ensures.fault
    (opened_rows c.args.settings ((g.S.Store.view c.args.table.now.store).committed 0)) in
    search rules

pub returns-in_err-stored-2-clause-opens : goal.returns-in_err-stored-2-clause-opens
returns-in_err-stored-2-clause-opens g c = λ counts file clean.
    let was : IsClean (g.S.Store.view c.read_first.new.table.store) = omega (arith, c.write_settings.ensures.clean) in
    let found : c.in_ok-read_first.field-0 ≡ false = search rules in
    let none = c.in_ok-read_first.ensures.none (ap Ok found) was in
    let first = written_first (g.S.Store.view c.write_settings.new.table.store) c.write_settings.new.table.row c.args.settings
    c.requires (c.in_ok-write_settings.ensures.row clean) (c.in_ok-write_settings.ensures.rows clean none.0 none.1) in
    let ok = c.in_err-stored-2.ensures.opens first in absurd cc
