use Rattle.std.proofs.Common.{sym, ap, ◌∙◌}
use Rattle.tb_machine.proofs.Words.{Exists, transfer_with, first_row, against_id, stored_checks}
use Rattle.tb_machine.proofs.StoredEvents.{resolves_nothing}
use Rattle.tb_machine.proofs.transfer_verdict.compare_with_stored_at.Goals as goal

pub returns-clause-code : goal.returns-clause-code
returns-clause-code c = λ timestamp.
    let facts = c.args.tables.now.now in
    let event = c.args.event.now in
    let stored = c.in-Some.stored in
    let there = c.requires.2 ∙ sym c.requires.1 ∙ sym c.transfer_at.ensures ∙ c.in-Some.is in
    let plain = sym c.is_resolving.ensures ∙ c.if-is_resolving.false in
    c.compare_with_stored.ensures.first
    ∙ ap (λ e. first_row (stored_checks stored e) Exists)
    (sym (resolves_nothing (transfer_with facts stored.pending_id) event plain))
    ∙ ap (λ found. against_id facts timestamp found event) (sym there)
