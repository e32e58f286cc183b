use Rattle.std.proofs.Common.{◌∙◌, ap, sym, append-nil, true, List, map}
use Rattle.tb_core.proofs.Words.{Input, with_journal, LedgerState, apply_result, apply_step, group_of}
use Rattle.tb_core.proofs.JournalGroups.{is_applied}
use Rattle.tb_core.proofs.ledger.Ledger.apply_as_refused.Goals as goal

pub returns-clause-is_applied : goal.returns-clause-is_applied
returns-clause-is_applied c =
    let groups = map group_of c.self.inside.entries.items in
    let applied = ap (λ (groups : List (List Input)). apply_result (with_journal c.refuse.new.self groups) c.refuse.result)
    (sym (append-nil groups)) ∙ (c.refuse.ensures.applied groups c.self.invariant.committed).1
    ∙ ap (λ (ledger : LedgerState). apply_step true ledger c.args.parcel) c.self.view_is in
    is_applied true c.args.self.now _ c.args.parcel c.refuse.result c.refuse.ensures.some applied
