use Rattle.std.proofs.Common.{◌≡◌, ◌∙◌, ◌*◌, ◌++◌, sym, ap, subst, length, take, drop}
use Rattle.tb_durable.proofs.Words.{is_some, take-append-drop, BeginsWith}
use Rattle.tb_durable.proofs.BatchLemmas.{cut_off, first_read, known_size, rest_bytes, sized}
use Rattle.tb_durable.proofs.replaying.Replaying.first_job.Goals as goal

pub returns-in_default-clause-begins : goal.returns-in_default-clause-begins
returns-in_default-clause-begins c = λ job more begins.
    let known = known_size job more c.args.operation c.args.stub c.args.body.now begins in
    let none = sym known ∙ ap is_some (sym c.event_size.ensures ∙ c.in_default.is) in absurd cc

pub returns-clause-begins : goal.returns-clause-begins
returns-clause-begins c = λ job more begins.
    let stub = c.args.stub in
    let body = c.args.body.now in
    let cut = c.in-Some-split_at_checked.ensures.cases in
    let size = (sized c.args.operation c.in-Some.size c.in-Some.ensures).own in
    let bytes = c.from_vec.ensures ∙ c.in-Ok.ensures.items ∙ cut.1 ∙ ap (λ s. take (stub.count * s) body) size in (
      tt,
      (
        c.in_ok-job.ensures.job ∙ first_read job more c.args.operation stub body begins c.from_vec.result bytes,
        cut.2 ∙ ap (λ s. drop (stub.count * s) body) size ∙ rest_bytes job more c.args.operation stub body begins,
      ),
    )

pub returns-clause-cut : goal.returns-clause-cut
returns-clause-cut c =
    let stub = c.args.stub in
    let body = c.args.body.now in
    let cut = c.in-Some-split_at_checked.ensures.cases in
    let size = c.in-Some.size in
    let bytes = c.from_vec.result in
    let same : bytes ≡ c.in-Some-split_at_checked.events.now = c.from_vec.ensures ∙ c.in-Ok.ensures.items in
    let whole : body ≡ bytes ++ c.in-Some-split_at_checked.rest.now = sym (take-append-drop (stub.count * size) body)
    ∙ ap (λ front. front ++ drop (stub.count * size) body) (sym (same ∙ cut.1))
    ∙ ap (λ rest. bytes ++ rest) (sym cut.2) in
    subst (λ job. BeginsWith job c.in-Some-split_at_checked.rest.now c.args.operation stub body) (sym c.in_ok-job.ensures.job)
    (cut_off c.in-Some.ensures (sized c.args.operation c.in-Some.size c.in-Some.ensures).some c.in_ok-job.ensures.whole (ap length same ∙ cut.3) whole)
