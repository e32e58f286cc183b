use Rattle.std.proofs.Common.{rules, ◌≡◌, ◌<◌, ◌∙◌, ◌+◌, ◌∷◌, List, drop, length, get_or, ap, arith}
use Rattle.tb_program.proofs.Words.{flat_map, drop_more, length-append, group_of, Entry}
use Rattle.tb_program.proofs.Pulses.{first_pulses}
use Rattle.tb_program.proofs.run.report.put_pulses.Goals as goal

pub loop-entry-preserved : goal.loop-entry-preserved
loop-entry-preserved c =
    let rest = drop (c.loop-entry.entry-index + 1) c.args.journal.now in
    let within : c.loop-entry.entry-index < length c.args.journal.now = search rules in
    let is : get_or c.args.journal.now c.loop-entry.entry-index c.entry-item.result
    ≡ c.entry-item.result = search rules in
    let first = drop_more c.args.journal.now c.loop-entry.entry-index c.entry-item.result within
    ∙ ap (λ entry. entry ∷ rest) is in
    let before = c.loop-entry.invariant in
    let next_place = c.in_ok-place.ensures.next_place in
    record {
      place = omega (
        arith,
        before.place,
        next_place,
        ap
            (λ (es : List Entry). length (flat_map group_of es)) first,
        length-append (group_of c.entry-item.result)
            (flat_map group_of rest),
      );
      text = first_pulses _ c.loop-entry.place c.entry-item.result first next_place
          c.in_ok-place.ensures.text ∙ before.text;
    }
