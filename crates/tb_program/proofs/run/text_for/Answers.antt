use Rattle.std.proofs.Common.{◌∙◌, Vec, length, ap, sym, arith}
use Rattle.tb_program.proofs.Words.{length-map, Global, LedgerState, new_ledger, Packet, share_of}
use Rattle.tb_program.proofs.run.text_for.Goals as goal

pub run_opened-requires-clause-number : goal.run_opened-requires-clause-number
run_opened-requires-clause-number g c κs within =
    sym (length-map c.in_ok-drivers.drivers.items share_of) ∙ ap length c.in_ok-drivers.ensures.shares
    ∙ length-map c.args.shares.packets.items (λ (share : Vec Packet Global). share.items)
    ∙ c.requires.number ∙ sym c.in-Ok.ensures.number

pub run_opened-requires-clause-first : goal.run_opened-requires-clause-first
run_opened-requires-clause-first g c κs within =
    let start = c.in-Ok.ensures.start in
    start ∙ ap new_ledger (sym (ap (λ (start : LedgerState). start.opening) start))

pub run_opened-requires-clause-few : goal.run_opened-requires-clause-few
run_opened-requires-clause-few g c κs within =
    omega (
      arith,
      run_opened-requires-clause-number g c κs within,
      c.in-Ok.ensures.number,
      c.requires.bounds.submitters_high,
    )

pub returns-in-Ok : goal.returns-in-Ok
returns-in-Ok g c =
    let clock = ap (λ (start : LedgerState). start.opening) c.in-Ok.ensures.start in
    let limit = c.in-Ok.ensures.limit in
    let shares = c.in_ok-drivers.ensures.shares in
    rw (clock, limit, shares) at c.run_opened.ensures
