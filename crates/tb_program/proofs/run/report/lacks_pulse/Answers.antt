use Rattle.std.proofs.Common.{rules, ◌≡◌, ◌∙◌, length, ap}
use Rattle.tb_program.proofs.Lacking.{as_many_pulses}
use Rattle.tb_program.proofs.Pulses.{of_entries}
use Rattle.tb_program.proofs.Words.{inputs, moments_in}
use Rattle.tb_program.proofs.run.report.lacks_pulse.Goals as goal

pub returns : goal.returns
returns c =
    let pulses : c.pulses_in.result ≡ length (moments_in (inputs c.args.ledger.now)) =
    c.pulses_in.ensures ∙ as_many_pulses c.journal.result.now
    ∙ ap (λ committed. length (moments_in committed)) (of_entries c.journal.result.now c.args.ledger.now c.journal.ensures.groups) in
    rw (← pulses) (search rules)
