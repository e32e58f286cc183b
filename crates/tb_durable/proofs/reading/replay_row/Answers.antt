use Rattle.std.proofs.Common.{◌≡◌, rules, subst, ◌++◌, true, false, [], ◌∷◌}
use Rattle.tb_durable.specs.clauses.Faults.{TellsStore}
use Rattle.tb_durable.proofs.Words.{Advances, group_in, IsCause, IsFailure, NoMemory}
use Rattle.tb_durable.proofs.FaultLemmas.{row_fault, row_tells}
use Rattle.tb_durable.proofs.FileLemmas.{halfway_on, next_entry, no_memory_fails, read_file_on, whole_file}
use Rattle.tb_durable.proofs.Journals.{one_more}
use Rattle.tb_durable.proofs.StoreLemmas.{reads_one}
use Rattle.tb_durable.proofs.reading.replay_row.Goals as goal

pub returns-clause-more : goal.returns-clause-more
returns-clause-more g c = λ is clean replaying.
    let found : c.in_ok-next.field-0 ≡ true = search rules in
    let row = c.next.new.self.row in
    let next = subst (Advances (g.S.Store.view c.args.table.now.store) (g.S.Store.view c.next.new.self.store) 0 row) found
    (c.in_ok-next.ensures.ok clean) in (
      replaying.0 ++ row ∷ [],
      reads_one _ _ replaying.0 replaying.1 row next,
      one_more replaying.0 row c.args.replaying.now.ledger c.row.new.self.ledger replaying.2 c.in_ok-row.ensures.group
          c.in_ok-row.ensures.some c.in_ok-row.ensures.place,
    )

pub returns-in_err-row-clause-fault : goal.returns-in_err-row-clause-fault
returns-in_err-row-clause-fault g c = λ clean replaying.
    let found : c.in_ok-next.field-0 ≡ true = search rules in
    let row = c.next.new.self.row in
    let cause : IsCause ((g.S.Store.view c.args.table.now.store).committed 0) c.in_err-row.field-0.0
    = row_fault replaying.1
    (subst (Advances (g.S.Store.view c.args.table.now.store) (g.S.Store.view c.next.new.self.store) 0 row) found
    (c.in_ok-next.ensures.ok clean)) replaying.2 c.in_err-row.field-0.0 c.in_err-row.ensures.fault in
    search rules

pub returns-in_err-row-clause-told : goal.returns-in_err-row-clause-told
returns-in_err-row-clause-told g c =
    let tells : TellsStore (g.S.Store.blamed c.next.new.self.store) c.in_err-row.field-0.0
    = row_tells c.args.replaying.now.ledger.places c.next.new.self.row _ c.in_err-row.field-0.0 c.in_err-row.ensures.fault in
    search rules

pub returns-clause-committed : goal.returns-clause-committed
returns-clause-committed g c = λ has. (
  has.0 ++ group_in c.next.new.self.row ∷ [],
  (c.in_ok-row.ensures.group has.0 has.1).0,
)

pub returns-in_err-row-clause-opens : goal.returns-in_err-row-clause-opens
returns-in_err-row-clause-opens g c = λ counts clean halfway.
    let found : c.in_ok-next.field-0 ≡ true = search rules in
    let row = c.next.new.self.row in
    let entry = next_entry (g.S.Store.view c.args.table.now.store) (g.S.Store.view c.next.new.self.store)
    c.args.replaying.now.ledger c.args.replaying.now.counts counts halfway row
    (subst (Advances (g.S.Store.view c.args.table.now.store) (g.S.Store.view c.next.new.self.store) 0 row) found
    (c.in_ok-next.ensures.ok clean)) in
    let none : c.in_err-row.field-0.0 ≡ NoMemory = (c.in_err-row.ensures.opens entry.0 entry.1).0 in
    let failure : IsFailure c.in_err-row.field-0.0 = no_memory_fails c.in_err-row.field-0.0 none in
    search rules

pub returns-clause-onward : goal.returns-clause-onward
returns-clause-onward g c = λ counts is clean halfway.
    let found : c.in_ok-next.field-0 ≡ true = search rules in
    let row = c.next.new.self.row in
    let old = g.S.Store.view c.args.table.now.store in
    let new = g.S.Store.view c.next.new.self.store in
    let before = c.args.replaying.now in
    let next = subst (Advances old new 0 row) found (c.in_ok-next.ensures.ok clean) in
    let entry = next_entry old new before.ledger before.counts counts halfway row next in
    halfway_on old new before.ledger before.counts counts halfway row next c.row.new.self.ledger c.row.new.self.counts
    (c.in_ok-row.ensures.opens entry.0 entry.1).1 c.in_ok-row.ensures.group c.in_ok-row.ensures.some c.in_ok-row.ensures.place

pub returns-clause-entry : goal.returns-clause-entry
returns-clause-entry g c = λ is clean has.
    let found : c.in_ok-next.field-0 ≡ true = search rules in
    let row = c.next.new.self.row in
    let old = g.S.Store.view c.args.table.now.store in
    let new = g.S.Store.view c.next.new.self.store in
    read_file_on has (subst (Advances old new 0 row) found (c.in_ok-next.ensures.ok clean)) c.in_ok-row.ensures.entry
    c.in_ok-row.ensures.group c.in_ok-row.ensures.some

pub returns-then-not-branch-clause-file : goal.returns-then-not-branch-clause-file
returns-then-not-branch-clause-file g c = λ is clean has.
    let found : c.in_ok-next.field-0 ≡ false = search rules in
    let row = c.next.new.self.row in
    let old = g.S.Store.view c.args.table.now.store in
    let new = g.S.Store.view c.next.new.self.store in
    whole_file old new c.args.replaying.now.ledger c.args.replaying.now.counts row has
    (subst (Advances old new 0 row) found (c.in_ok-next.ensures.ok clean))
