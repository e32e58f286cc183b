use Rattle.std.proofs.Common.{rules, tests, ◌∙◌, ℕ, List}
use Rattle.tb_program_text.proofs.Words.{◌==◌, ◌||◌, codes, bytes_eq, YieldsList-at, YieldsList-from_filter, count_from_yields_List, YieldsList-from_slice_split, length-filter, all_words}
use Rattle.tb_program_text.proofs.naming.uncommitted_in.Goals as goal

pub returns : goal.returns
returns c =
    let is_of = λ (word : List ℕ). bytes_eq word (codes "shutdown") || bytes_eq word (codes "stopped") in
    count_from_yields_List c.filter.result _ c.count.ensures.ran
    (YieldsList-from_filter _ is_of
    (YieldsList-at c.filter.ensures.source (YieldsList-from_slice_split _ (λ byte. (byte == 32) || (byte == 10)) c.args.text.now
    c.split.ensures.rest c.split.ensures.done c.split.ensures.closure (λ x r q k. search (rules, tests))))
    c.filter.ensures.closure (λ x r q k. search (rules, tests)))
    ∙ length-filter is_of (all_words c.args.text.now)
