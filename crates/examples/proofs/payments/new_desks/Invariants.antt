use Rattle.std.proofs.Common.{◌≡◌, All, length}
use Rattle.examples.specs.clauses.Desk.{IsNew}
use Rattle.examples.specs.inside.Ready.{IsReady}
use Rattle.examples.proofs.payments.new_desks.Given as goal

abbrev pub invariant-loop-desk : goal.invariant-loop-desk
invariant-loop-desk g l = record {
  ready : IsReady l.opened;
  number : length l.desks.items ≡ l.desk;
  new : All IsNew l.desks.items;
}
