use Rattle.std.proofs.Common.{◌≡◌, rules, sym, ap, subst, ◌∙◌}
use Rattle.tb_durable.proofs.Words.{batch_row, group_in, stubs_bytes, stubs_in}
use Rattle.tb_durable.proofs.Cutting.{group_of_jobs, row_of_parts}
use Rattle.tb_durable.proofs.rows.fill_batch.Goals as goal

pub returns-clause-row : goal.returns-clause-row
returns-clause-row c =
    let parts = c.args.parts.now in
    let filled : c.fill.new.row
    ≡ batch_row c.args.place parts.operation parts.stubs.items parts.body.items = search rules in
    filled ∙ row_of_parts c.args.place parts c.requires.parts

pub returns-clause-read_back : goal.returns-clause-read_back
returns-clause-read_back c =
    let parts = c.args.parts.now in
    let whole = c.requires.parts in
    let filled : c.fill.new.row
    ≡ batch_row c.args.place parts.operation parts.stubs.items parts.body.items = search rules in
    let laid = c.in_ok-stubs.ensures in
    let same : c.as_slice.result.now ≡ parts.stubs.items = search rules in
    ap group_in (filled ∙ row_of_parts c.args.place parts whole)
    ∙ group_of_jobs c.args.place parts.operation parts.jobs.items whole.lawful
    (subst (λ stubs. stubs_in (stubs_bytes stubs) ≡ stubs) (same ∙ whole.stubs) (ap stubs_in (sym laid.bytes) ∙ laid.read_back))
