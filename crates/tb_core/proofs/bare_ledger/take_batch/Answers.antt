use Rattle.std.proofs.Common.{◌∙◌, ap, arith, rules, length, ◌%◌, ◌/◌}
use Rattle.tb_core.proofs.Words.{eq-eqb}
use Rattle.tb_machine.proofs.Faults.{eqb-false}
use Rattle.tb_core.proofs.Batches.{may_commit, may_look_up}
use Rattle.tb_core.proofs.bare_ledger.take_batch.Goals as goal

pub lookup-requires : goal.lookup-requires
lookup-requires c =
    let parts = c.args.parts.now in
    let are = c.requires.parts in
    let lookup = eq-eqb parts.operation 131 c.if-parts.true in
    let may = may_look_up parts.operation parts.jobs.items are.lawful lookup in
    let body = c.deref.ensures.value ∙ are.body in
    let count = ap (λ body. length body / 16) body ∙ may.count in
    record {
      whole = ap (λ body. length body % 16) body
          ∙ may.whole;
      limit = omega (arith, count, are.lawful.few);
      empty = search rules;
      room =
          omega (arith, count, are.room.for_accounts lookup);
    }

pub commit-requires : goal.commit-requires
commit-requires c =
    let parts = c.args.parts.now in
    let are = c.requires.parts in
    let other = eqb-false parts.operation 131 c.if-parts.false in
    let may = may_commit parts.operation parts.jobs.items are.lawful other in
    let body = c.deref-else-parts.ensures.value ∙ are.body in
    let count = ap (λ body. length body / 128) body ∙ may.count in
    record {
      operation = may.kind;
      whole = ap (λ body. length body % 128) body
          ∙ may.whole;
      limit = omega (arith, count, are.lawful.few);
      empty = search rules;
      room =
          omega (arith, count, are.room.for_failures other);
    }

pub returns-then-parts-clause-state : goal.returns-then-parts-clause-state
returns-then-parts-clause-state c = search rules

pub returns-then-parts-clause-answered : goal.returns-then-parts-clause-answered
returns-then-parts-clause-answered c = search rules
