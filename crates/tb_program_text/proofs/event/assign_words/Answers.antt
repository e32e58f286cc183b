use Rattle.std.proofs.Common.{◌≡◌, ◌<◌, ◌∙◌, length, sym, ap, arith, rules}
use Rattle.tb_program_text.proofs.Words.{common_steps, length-drop, first_line, word_end}
use Rattle.tb_program_text.specs.clauses.Event.{after_words}
use Rattle.tb_program_text.specs.clauses.Text.{words_of}
use Rattle.tb_program_text.proofs.FirstLines.{ends_at_once, trimmed_text}
use Rattle.tb_program_text.proofs.Named.{after_first, after_none, rows_from}
use Rattle.tb_program_text.proofs.Texts.{some_word}
use Rattle.tb_program_text.proofs.event.assign_words.Goals as goal

pub loop-layout-init : goal.loop-layout-init
loop-layout-init c =
    let trimmed = trimmed_text c.args.text.now _ c.trim_spaces-rest.ensures.rest in
    record {
      index = omega arith;
      begins = trimmed.begins;
      draft = ap (after_words c.args.layout c.args.draft.now) trimmed.words;
      others = trimmed.others;
    }

pub assign-requires : goal.assign-requires
assign-requires c = record {
  rows = rows_from c.args.layout c.args.table.now c.loop-layout.index 13 (omega arith) c.requires;
  few = grind (arith, common_steps);
}

pub returns-in_err-next : goal.returns-in_err-next
returns-in_err-next c =
    let line = first_line c.loop-layout.rest.now in
    let some : 0 < word_end line = some_word line c.loop-layout.invariant.begins (search rules) in
    let faulty = sym c.loop-layout.invariant.draft ∙ after_first c.args.layout c.loop-layout.draft line
    _ some c.in_err-next.ensures.draft in
    search (rules, faulty)

pub loop-layout-preserved : goal.loop-layout-preserved
loop-layout-preserved c =
    let line = first_line c.loop-layout.rest.now in
    let some : 0 < word_end line = some_word line c.loop-layout.invariant.begins (search rules) in
    let next = after_first c.args.layout c.loop-layout.draft line _ some c.in_ok-next.ensures.draft in
    let trimmed = trimmed_text c.in_ok-next.next.rest.now _ c.trim_spaces-rest-in-loop-layout.ensures.rest in
    record {
      index = omega arith;
      begins = trimmed.begins;
      draft = ap (after_words c.args.layout c.assign.new.draft) trimmed.words
          ∙ ap (λ rest. after_words c.args.layout c.assign.new.draft (words_of rest)) c.in_ok-next.ensures.rest.rest
          ∙ sym next ∙ c.loop-layout.invariant.draft;
      others = trimmed.others ∙ c.in_ok-next.ensures.rest.others ∙ c.loop-layout.invariant.others;
    }

pub loop-layout-smaller : goal.loop-layout-smaller
loop-layout-smaller c =
    let line = first_line c.loop-layout.rest.now in
    let long : 0 < length line = search rules in
    let some : 0 < word_end line = some_word line c.loop-layout.invariant.begins long in
    let trimmed = trimmed_text c.in_ok-next.next.rest.now _ c.trim_spaces-rest-in-loop-layout.ensures.rest in
    omega (arith, trimmed.within, ap length c.in_ok-next.ensures.rest.rest, length-drop (word_end line) line)

pub returns : goal.returns
returns c =
    let line = first_line c.loop-layout.rest.now in
    let none : length line ≡ 0 = search rules in
    record {
      draft = sym c.loop-layout.invariant.draft ∙ after_none c.args.layout c.loop-layout.draft line none;
      rest = ends_at_once c.loop-layout.rest.now none ∙ c.loop-layout.invariant.others;
    }
