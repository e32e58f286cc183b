use Rattle.std.proofs.Common.{◌≡◌, ◌∙◌, None, Some, sym, rules, nat_eq}
use Rattle.tb_tables.proofs.Words.{get, insert_entry-new}
use Rattle.tb_tables.proofs.MapRows.{kept-entry}
use Rattle.tb_tables.proofs.entries.push_account.Goals as goal

pub returns-in-Occupied-clause-same : goal.returns-in-Occupied-clause-same
returns-in-Occupied-clause-same c = λ _.
    let a = record c.args.event.now { timestamp = c.args.timestamp } in
    let old = c.args.accounts.now in
    let found : get nat_eq old a.id ≡ Some c.into_mut.result.now = sym
    (rw c.in-Occupied.is at c.in_ok-entry.ensures.value) ∙ c.into_mut.ensures.value in
    (search rules) ∙ (rw c.in-Occupied.is at c.in_ok-entry.ensures.update).1 c.into_mut.result.now
    ∙ kept-entry old.entries a.id c.into_mut.result.now found

pub returns-in-Vacant-clause-added : goal.returns-in-Vacant-clause-added
returns-in-Vacant-clause-added c = λ _.
    let a = record c.args.event.now { timestamp = c.args.timestamp } in
    let old = c.args.accounts.now in
    let none : get nat_eq old a.id ≡ None = rw c.in-Vacant.is at c.in_ok-entry.ensures.found in
    (search rules) ∙ (rw c.in-Vacant.is at c.in_ok-entry.ensures.update).1 a ∙ insert_entry-new nat_eq old a.id a none
