use Rattle.std.proofs.Common.{sym, ap, ◌∙◌, rules, map}
use Rattle.std.proofs.Math.Seq.{drop-cons}
use Rattle.std.proofs.lemmas.List.{drop_all}
use Rattle.tb_layout.specs.clauses.Codes.{first_with, read_row}
use Rattle.tb_layout.proofs.Codes.{passed_over}
use Rattle.tb_layout.proofs.code.row_with.Goals as goal

pub returns-then-number : goal.returns-then-number
returns-then-number g c =
    rw (
      c.loop-row.invariant,
      drop-cons c.args.rows.now c.loop-row.row-index c.row-item.result c.loop-row-test.true,
      ← c.row-item.is,
    ) (search rules)

pub loop-row-preserved : goal.loop-row-preserved
loop-row-preserved g c =
    c.loop-row.invariant
    ∙ passed_over g.C.Code.number_of c.args.number c.args.rows.now c.loop-row.row-index c.row-item.result
    c.loop-row-test.true c.row-item.is (λ same. c.if-number.false (c.number.ensures ∙ same))

pub returns : goal.returns
returns g c =
    sym (c.loop-row.invariant ∙ ap (λ rows. first_with g.C.Code.number_of c.args.number (map read_row rows))
    (drop_all c.loop-row.row-index c.args.rows.now c.loop-row-test.false))
