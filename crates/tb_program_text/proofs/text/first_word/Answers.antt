use Rattle.std.proofs.Common.{◌∙◌, ◌<◌, rules, sym}
use Rattle.tb_program_text.proofs.Words.{spaces, word_end}
use Rattle.tb_program_text.proofs.Texts.{empty_words, some_word, words_first}
use Rattle.tb_program_text.proofs.UsualLines.{all_dropped}
use Rattle.tb_program_text.proofs.text.first_word.Goals as goal

pub returns-then-is_empty : goal.returns-then-is_empty
returns-then-is_empty c = record {
  words = sym c.trim_spaces-trimmed.ensures.same ∙ empty_words c.trim_spaces-trimmed.result.now (search rules);
  bytes = tt;
}

pub returns : goal.returns
returns c =
    let trimmed = c.trim_spaces-trimmed.result.now in
    let some : 0 < word_end trimmed = some_word trimmed c.trim_spaces-trimmed.ensures.begins (search rules) in
    record {
      words = rw (c.split_word.ensures.word, c.split_word.ensures.rest)
          (sym c.trim_spaces-trimmed.ensures.same ∙ words_first trimmed some);
      bytes = λ passes all. rw c.split_word.ensures.rest (all_dropped passes trimmed (word_end trimmed)
          (rw c.trim_spaces-trimmed.ensures.rest (all_dropped passes c.args.line.now (spaces c.args.line.now) all)));
    }
