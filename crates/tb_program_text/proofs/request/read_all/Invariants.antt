use Rattle.std.proofs.Common.{◌≡◌, map, string_bytes}
use Rattle.std.specs.Vec.Iter.{into_iter_items}
use Rattle.tb_program_text.specs.clauses.Request.{after_words, nothing_read}
use Rattle.tb_program_text.proofs.request.read_all.Given as goal

abbrev pub invariant-loop-word : goal.invariant-loop-word
invariant-loop-word l = record {
  can : (goal.iterator-loop-word).can_next l.word-iterator;
  finite : (goal.iterator-loop-word).is_finite l.word-iterator;
  same : after_words l.reading (map string_bytes (into_iter_items l.word-iterator))
      ≡ after_words nothing_read (map string_bytes (into_iter_items l.fn.words));
}
