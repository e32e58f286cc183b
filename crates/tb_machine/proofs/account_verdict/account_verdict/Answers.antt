use Rattle.std.proofs.Common.{◌≡◌, ◌∙◌, refl, sym, ap, Option, Some, None}
use Rattle.tb_machine.proofs.Words.{option_map, Account, Facts, account_with, with_balances}
use Rattle.tb_machine.specs.claim.AccountVerdict.{against_id}
use Rattle.tb_machine.proofs.account_verdict.account_verdict.Goals as goal

-- the balances of the account with its id don't matter
without_balances : (facts : Facts) (found : Option Account) (event : Account)
    → against_id (option_map (with_balances facts) found) event ≡ against_id found event
without_balances facts None event = refl
without_balances facts (Some stored) event = refl

pub returns-in-Some-account-clause-first : goal.returns-in-Some-account-clause-first
returns-in-Some-account-clause-first c =
    let facts = c.args.tables.now.now in
    let event = c.args.event.now in
    let found = account_with facts event.id in
    c.compare_with_stored.ensures.first
    ∙ ap (λ stored. against_id stored event) (sym c.in-Some-account.is ∙ c.account.ensures)
    ∙ without_balances facts found event ∙ sym (c.in_default.ensures.rest (against_id found event))
