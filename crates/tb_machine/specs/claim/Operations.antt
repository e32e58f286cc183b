-- The operations that change the facts.
use Rattle.std.specs.Prelude.{ℕ, ◌==◌, Bool, [], ◌∷◌, if◌then◌else◌}
use Rattle.std.specs.List.{list_any}
use Rattle.tb_layout.specs.declared.account.Account.{Account}
use Rattle.tb_layout.specs.declared.transfer.Transfer.{Transfer}
use Rattle.tb_layout.specs.declared.transfer_code.TransferCode.TheVariants.{DebitAccountNotFound, CreditAccountNotFound, PendingTransferNotFound, ExceedsCredits, ExceedsDebits}
use Rattle.tb_layout.specs.claim.AccountCode.{number_of as account_number}
use Rattle.tb_layout.specs.claim.TransferCode.{number_of as transfer_number}
use Rattle.tb_layout.specs.claim.Account.{is_linked as is_linked_account}
use Rattle.tb_layout.specs.claim.Transfer.{is_linked as is_linked_transfer}
use Rattle.tb_tables.specs.claim.Facts.{Facts, is_failed, add_account, add_transfer, add_failed}
use Rattle.tb_machine.specs.claim.AccountVerdict.{account_verdict}
use Rattle.tb_machine.specs.claim.TransferVerdict.{transfer_verdict, stored_transfer}
use Rattle.tb_machine.specs.claim.Chain.{Operation}

abbrev pub accounts_operation : Operation Account
accounts_operation = record {
  is_linked = is_linked_account;
  verdict = λ facts timestamp event. account_number (account_verdict facts event);
  stored = λ facts timestamp event. add_account facts (record event { timestamp = timestamp });
  after_failure = λ facts code event. facts;
}

-- after such a failure code 68 refuses the id
abbrev pub is_transient : ℕ → Bool
is_transient code =
    list_any (λ transient. code == transfer_number transient)
    (DebitAccountNotFound ∷ CreditAccountNotFound ∷ PendingTransferNotFound ∷ ExceedsCredits ∷ ExceedsDebits ∷ [])

abbrev pub with_failed : Facts → ℕ → Facts
with_failed facts id = if is_failed facts id then facts else add_failed facts id

abbrev pub transfers_operation : Operation Transfer
transfers_operation = record {
  is_linked = is_linked_transfer;
  verdict = λ facts timestamp event. transfer_number (transfer_verdict facts timestamp event);
  stored = λ facts timestamp event. add_transfer facts (stored_transfer facts timestamp event);
  after_failure = λ facts code event. if is_transient code then with_failed facts event.id else facts;
}
