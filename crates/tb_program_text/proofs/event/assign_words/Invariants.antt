use Rattle.std.proofs.Common.{◌≡◌, ◌≤◌, ◌<◌, ◌⊎◌, length}
use Rattle.tb_program_text.proofs.Words.{after_first_line, first_line, word_end}
use Rattle.tb_program_text.specs.clauses.Text.{words_of}
use Rattle.tb_program_text.specs.clauses.Event.{after_words}
use Rattle.tb_program_text.proofs.event.assign_words.Given as goal

abbrev pub invariant-loop-layout : goal.invariant-loop-layout
invariant-loop-layout l = record {
  index : l.index ≤ 13;
  begins : (length (first_line l.rest) ≡ 0) ⊎ (0 < word_end (first_line l.rest));
  draft : after_words l.layout l.draft (words_of (first_line l.rest))
      ≡ after_words l.layout l.fn.draft (words_of (first_line l.text));
  others : after_first_line l.rest ≡ after_first_line l.text;
}

abbrev pub decreases-loop-layout : goal.decreases-loop-layout
decreases-loop-layout l = length (first_line l.rest)
