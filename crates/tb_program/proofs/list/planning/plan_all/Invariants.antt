use Rattle.std.proofs.Common.{◌≡◌}
use Rattle.std.specs.List.{fold}
use Rattle.tb_program.proofs.Words.{drain_items, plan_of, with_item}
use Rattle.tb_program.proofs.list.planning.plan_all.Given as goal

abbrev pub invariant-loop-item : goal.invariant-loop-item
invariant-loop-item l =
    fold (with_item l.limit) l.plan (drain_items l.item-iterator) ≡ plan_of l.limit l.fn.items.items
