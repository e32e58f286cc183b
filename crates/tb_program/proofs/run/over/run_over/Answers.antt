use Rattle.std.proofs.Common.{◌≡◌, ◌∙◌, Vec, length, ap, sym, arith, subst}
use Rattle.tb_program.proofs.Words.{length-map, flat_map, Global, Packet, limit_of, submitters_of, lists_of, share_of, AreFresh, operations_of, moments_asked, shares_of, shuts_in}
use Rattle.tb_program.proofs.Sharing.{dealt_lists}
use Rattle.tb_program.proofs.run.over.run_over.Goals as goal

pub run_opened_over-requires-clause-number : goal.run_opened_over-requires-clause-number
run_opened_over-requires-clause-number g c κs within =
    sym (length-map c.in_ok-drivers.drivers.items share_of) ∙ ap length c.in_ok-drivers.ensures.shares
    ∙ length-map c.in_ok-shares.shares.packets.items (λ (share : Vec Packet Global). share.items)
    ∙ c.in_ok-shares.ensures.number ∙ c.submitters.ensures ∙ sym c.in_ok-opened.ensures.number
    ∙ ap (λ pipeline. length pipeline.submitters) (sym c.in-Ok.ensures.pipeline)

pub run_opened_over-requires-clause-few : goal.run_opened_over-requires-clause-few
run_opened_over-requires-clause-few g c κs within =
    omega (
      arith,
      run_opened_over-requires-clause-number g c κs within,
      ap (λ pipeline. length pipeline.submitters) c.in-Ok.ensures.pipeline,
      c.in_ok-opened.ensures.number,
      c.requires.bounds.submitters_high,
    )

pub run_opened_over-requires-clause-fresh : goal.run_opened_over-requires-clause-fresh
run_opened_over-requires-clause-fresh g c κs within =
    subst AreFresh (ap (λ vec. vec.items) (sym c.in-Ok.ensures.ends.0)) c.in_ok-opened.ensures.fresh

pub returns-clause-memory : goal.returns-clause-memory
returns-clause-memory g c =
    let script = c.args.script in
    let packets = c.in_ok-shares.shares.packets.items in
    let lines = c.in_ok-shares.shares.lines in
    let start : c.in-Ok.opened.pipeline.start ≡ c.args.ledger = ap (λ pipeline. pipeline.start) c.in-Ok.ensures.pipeline in
    let limit : c.in-Ok.opened.pipeline.intake.limit ≡ limit_of script.settings =
    ap (λ pipeline. pipeline.intake.limit) c.in-Ok.ensures.pipeline ∙ c.in_ok-opened.ensures.limit in
    let number : length packets ≡ submitters_of script.settings = c.in_ok-shares.ensures.number ∙ c.submitters.ensures in
    let shares = c.in_ok-drivers.ensures.shares ∙ dealt_lists 0 packets script.items.items c.in_ok-shares.ensures.packets
    ∙ ap (λ n. shares_of 0 n script.items.items) number in
    let moments : lines.moments.items ≡ moments_asked script.items.items = c.in_ok-shares.ensures.moments in
    let shuts : lines.shuts ≡ shuts_in script.items.items = c.in_ok-shares.ensures.shuts in
    rw (start, limit, shares, moments, shuts) at c.in_ok-ran.ensures.memory

pub returns-clause-ran : goal.returns-clause-ran
returns-clause-ran g c = λ start is.
    let went = returns-clause-memory g c start is in
    (went.0, went.1, went.2.ran)

pub returns-clause-operations : goal.returns-clause-operations
returns-clause-operations g c =
    let script = c.args.script in
    let packets = c.in_ok-shares.shares.packets.items in
    let number : length packets ≡ submitters_of script.settings = c.in_ok-shares.ensures.number ∙ c.submitters.ensures in
    let shares : lists_of packets ≡ shares_of 0 (submitters_of script.settings) script.items.items =
    dealt_lists 0 packets script.items.items c.in_ok-shares.ensures.packets ∙ ap (λ n. shares_of 0 n script.items.items) number in
    c.in_ok-operations.ensures ∙ ap (λ dealt. flat_map operations_of (lists_of dealt)) c.deref.ensures.value
    ∙ ap (flat_map operations_of) shares
