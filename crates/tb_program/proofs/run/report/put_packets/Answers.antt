use Rattle.std.proofs.Common.{rules, ◌≡◌, ◌∙◌, ◌++◌, length, refl, ap, sym}
use Rattle.tb_program.proofs.Words.{queued_among}
use Rattle.tb_program.specs.declared.run.notes.Notes.{Notes}
use Rattle.tb_program.proofs.HandedPackets.{as_many_queued}
use Rattle.tb_program.proofs.run.report.put_packets.Goals as goal

pub put_results-put-requires : goal.put_results-put-requires
put_results-put-requires c =
    let is = c.in-Some.ensures.notes in
    let seen = c.requires.seen (c.in-Some.ensures.done refl).0 in
    let replies : c.into_iter.result.rest.items ≡ c.in-Some.field-0.replies.items = search rules in
    ap queued_among c.deref.ensures.value ∙ ap (λ (notes : Notes). queued_among notes.results.items) is
    ∙ as_many_queued seen.0 ∙ c.requires.number
    ∙ ap (λ read. length (read ++ c.args.ended.lying))
    (sym (replies ∙ ap (λ (notes : Notes). notes.replies.items) is ∙ seen.1))
