use Rattle.std.proofs.Common.{ap, refl, sym, ◌∙◌}
use Rattle.tb_tables.proofs.Words.{ExpiriesState, is_in_expiries}
use Rattle.tb_tables.proofs.SeenFacts.{held-by}
use Rattle.tb_tables.proofs.Due.{all-due, can-expire, due-there, expiries-fit, open-there, passed-over, still-due}
use Rattle.tb_tables.proofs.timeouts.expire_all.Goals as goal

pub loop-index-init : goal.loop-index-init
loop-index-init c = record {
  kept = c.keep.ensures.kept;
  due = λ facts held. record {
    now = facts;
    held = held-by held (λ m p open_one. c.keep.ensures.stay m p (open-there held m p open_one));
    same = refl;
  };
}

pub is_due_at-requires : goal.is_due_at-requires
is_due_at-requires c = expiries-fit (c.loop-index.invariant.due c.requires.0 c.requires.1).held

pub expire-requires : goal.expire-requires
expire-requires c =
    let due = c.loop-index.invariant.due c.requires.0 c.requires.1 in
    let clock = c.args.clock in
    let index = c.in-Some.index in (
      due.now,
      can-expire due.held clock index
          (due-there due.held clock index (sym c.is_due_at.ensures ∙ c.if-is_due_at.true)),
    )

pub loop-index-preserved-then-is_due_at : goal.loop-index-preserved-then-is_due_at
loop-index-preserved-then-is_due_at c = record {
  kept = c.in-Some.ensures.kept;
  due = λ facts held.
      let due = c.loop-index.invariant.due facts held in
      let clock = c.args.clock in
      let index = c.in-Some.index in
      let took = c.in-Some.ensures.due in
      let there = due-there due.held clock index (sym c.is_due_at.ensures ∙ c.if-is_due_at.true) in
      let can = can-expire due.held clock index there in
      still-due due.held clock index took.1 took.2 can there due.same (c.expire.ensures due.now can);
}

pub loop-index-preserved : goal.loop-index-preserved
loop-index-preserved c = record {
  kept = c.in-Some.ensures.kept;
  due = λ facts held.
      let due = c.loop-index.invariant.due facts held in
      let took = c.in-Some.ensures.due in
      passed-over due.held c.args.clock c.in-Some.index took.1 took.2 (sym c.is_due_at.ensures ∙ c.if-is_due_at.false)
      due.same;
}

pub returns : goal.returns
returns c = λ facts held.
    held-by (all-due (c.loop-index.invariant.due facts held) c.in_default.ensures.later)
    (λ m p open_one was. ap (λ (expiries : ExpiriesState). is_in_expiries expiries m p) c.in_default.ensures.none ∙ was)
