use Rattle.std.proofs.Common.{rules, refl, subst, ◌∙◌, ◌≡◌}
use Rattle.std.proofs.Math.Seq.{map-set_same}
use Rattle.tb_pipe.proofs.Words.{get_or_from_slice_get, SubmitterState, origin_of}
use Rattle.tb_pipe.specs.clauses.QueuedAhead.{HasSubmitted}
use Rattle.tb_pipe.proofs.driving.submit_ahead.Goals as goal

pub returns-clause-submitted : goal.returns-clause-submitted
returns-clause-submitted g c = λ before at.
    let items = c.args.opened.now.submitters.items in
    let now = c.index_mut.result.now in
    let said = c.submit_once.ensures in
    let is : now ≡ before =
    c.index_mut.ensures.value ∙ get_or_from_slice_get items c.args.submitter before now at in (
      c.submit_once.new.submitter,
      subst (λ (one : SubmitterState). HasSubmitted one c.args.packet c.submit_once.result c.submit_once.new.submitter) is
          record {
            ok = said.ok;
            admitted = said.admitted;
            back = said.back;
            refusal = said.refusal;
            full = said.full;
          },
      refl,
    )

pub returns-clause-own : goal.returns-clause-own
returns-clause-own g c =
    map-set_same origin_of c.args.opened.now.submitters.items c.args.submitter c.submit_once.new.submitter
    c.index_mut.result.now (search rules)

pub returns-clause-together : goal.returns-clause-together
returns-clause-together g c = λ together. (returns-clause-own g c ∙ together.0, together.1, together.2)
