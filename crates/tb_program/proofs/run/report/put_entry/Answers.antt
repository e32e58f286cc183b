use Rattle.std.proofs.Common.{rules, ◌≡◌, ◌∙◌, ◌+◌, ◌++◌, length, ap, sym, string_bytes, arith}
use Rattle.tb_program.proofs.Words.{append-nil, group_of, Entry, pulses_text}
use Rattle.tb_program.proofs.Pulses.{as_many_packets, none_in_batch}
use Rattle.tb_program.proofs.run.report.put_entry.Goals as goal

as_many : (c : goal.After-len) → length (group_of c.args.entry.now) ≡ c.len.result
as_many c =
    let stubs : length c.in-Batch.stubs.items ≡ c.len.result = search rules in
    ap (λ (e : Entry). length (group_of e)) c.in-Batch.is
    ∙ as_many_packets c.in-Batch.operation c.in-Batch.body.items c.in-Batch.stubs.items ∙ stubs

pub overflow_add-result : goal.overflow_add-result
overflow_add-result c = omega (arith, c.requires, as_many c)

pub returns-in-Batch-clause-next_place : goal.returns-in-Batch-clause-next_place
returns-in-Batch-clause-next_place c = ap (λ n. c.args.place + n) (sym (as_many c))

pub returns-in-Batch-clause-text : goal.returns-in-Batch-clause-text
returns-in-Batch-clause-text c =
    let out = string_bytes c.args.out.now in
    let place = c.args.place in
    sym (ap (λ text. out ++ text) (ap (λ (e : Entry). pulses_text place (group_of e)) c.in-Batch.is
    ∙ none_in_batch place c.in-Batch.operation c.in-Batch.body.items c.in-Batch.stubs.items) ∙ append-nil out)
