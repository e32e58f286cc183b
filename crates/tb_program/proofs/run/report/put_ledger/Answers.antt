use Rattle.std.proofs.Common.{◌<◌, ◌∙◌, ◌^◌, ◌++◌, append_assoc, length, ap, subst, string_bytes, sym}
use Rattle.tb_program.proofs.Words.{inputs, State, state_text, pulses_text, refused_pulses_text}
use Rattle.tb_program.proofs.Pulses.{of_entries}
use Rattle.tb_program.proofs.run.report.put_ledger.Goals as goal

pub put_pulses-requires : goal.put_pulses-requires
put_pulses-requires c =
    subst (λ ws. length ws < 2 ^ 64) (sym (of_entries c.journal.result.now c.args.ledger.now c.journal.ensures.groups))
    c.requires

pub returns : goal.returns
returns c =
    let out = string_bytes c.args.out.now in
    let pulses = pulses_text 0 (inputs c.args.ledger.now) in
    let refused = refused_pulses_text c.args.refused_pulses in
    let state = state_text c.machine.result.now in
    c.in_ok-put_state.ensures ∙ ap (λ t. t ++ state)
    (c.in_ok-put_refused_pulses.ensures ∙ ap (λ t. t ++ refused)
    (c.in_ok-put_pulses.ensures ∙ ap (λ ws. out ++ pulses_text 0 ws)
    (of_entries c.journal.result.now c.args.ledger.now c.journal.ensures.groups)))
    ∙ ap (λ t. t ++ state) (append_assoc out pulses refused) ∙ append_assoc out (pulses ++ refused) state
    ∙ ap (λ (s : State). out ++ (pulses ++ refused ++ state_text s)) c.machine.ensures.own
