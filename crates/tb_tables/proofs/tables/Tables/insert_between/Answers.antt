use Rattle.tb_tables.proofs.Words.{Account}
use Rattle.tb_tables.proofs.FoundById.{found-id}
use Rattle.tb_tables.proofs.tables.Tables.insert_between.Goals as goal

pub store-requires-clause-at : goal.store-requires-clause-at
store-requires-clause-at c =
    let accounts = c.args.self.now.now.accounts in
    let debit = c.requires.debit in
    let credit = c.requires.credit in
    record {
      debit_account = debit.0;
      credit_account = credit.0;
      debit_at = debit.1;
      credit_at = credit.1;
      debit_is = found-id (λ (a : Account). a.id) c.args.event.now.debit_account_id accounts debit.0 debit.2;
      credit_is = found-id (λ (a : Account). a.id) c.args.event.now.credit_account_id accounts credit.0 credit.2;
    }
