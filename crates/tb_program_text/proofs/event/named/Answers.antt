use Rattle.std.proofs.Common.{sym, ap, subst, map, All, ◌∙◌, ◌∷◌, [], append_assoc, refl, rules}
use Rattle.tb_program_text.proofs.Words.{◌==◌, All-head, All-tail, IsBare, named, first_line, first_word}
use Rattle.tb_program_text.proofs.FirstLines.{begins_signed, not_signed}
use Rattle.tb_program_text.proofs.Named.{first_of, found_here, found_later, row_of}
use Rattle.tb_program_text.proofs.event.named.Goals as goal

pub returns-in-Some : goal.returns-in-Some
returns-in-Some c =
    let line = first_line c.args.text.now in
    let others = first_line c.in-Some.from_number.now in
    let first = first_of c.loop-rows.rows.now _ c.in-len1-up.len_at_least in
    let bare = All-head (λ row. IsBare row.0.now) _ _ (subst (All (λ row. IsBare row.0.now)) first c.loop-rows.invariant.bare) in
    let at = begins_signed (λ byte. byte == 10) c.args.text.now _ 61 _ bare.2 refl c.in-Some.ensures in
    let begun = begins_signed (λ byte. byte == 32) line _ 61 others bare.1 refl (at.before ∙ append_assoc _ (61 ∷ []) others) in
    record {
      both = sym c.loop-rows.invariant.same ∙ ap (λ rows. named (first_word line) (map row_of rows)) first
          ∙ found_here (first_word line) _ (first_word others) _ _ bare (begun.before ∙ append_assoc _ (61 ∷ []) (first_word others));
      rest = sym begun.rest;
      lines = sym at.rest;
      rows_after = search rules;
    }

pub loop-rows-preserved : goal.loop-rows-preserved
loop-rows-preserved c =
    let line = first_line c.args.text.now in
    let first = first_of c.loop-rows.rows.now _ c.in-len1-up.len_at_least in
    record {
      same = sym (found_later (first_word line) _ _ _ (not_signed (λ byte. byte == 32) line _ 61
          (not_signed (λ byte. byte == 10) c.args.text.now _ 61 c.in_default-strip_word.ensures)))
          ∙ sym (ap (λ rows. named (first_word line) (map row_of rows)) first) ∙ c.loop-rows.invariant.same;
      bare = All-tail (λ row. IsBare row.0.now) _ _ (subst (All (λ row. IsBare row.0.now)) first c.loop-rows.invariant.bare);
      fewer = search rules;
    }
