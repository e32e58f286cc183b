-- Worked examples, computed from the definitions. Each account has ledger and code 1 and nothing else, and each plain
-- or pending transfer too, unless said.
use Rattle.std.proofs.Common.{refl, ◌≡◌, ℕ, List, [], ◌∷◌, map}
use Rattle.tb_machine.proofs.Words.{Some, None, Account, Transfer, Failure, Events, Accounts, Transfers, Ids, Input, Packet, Pulse, no_facts, debits_pending, debits_posted, credits_pending, credits_posted, Pending, Voided, Expired, replay, failures_of}
use Rattle.tb_tables.specs.clauses.Status.{status_with}
use Rattle.tb_layout.specs.declared.answer.Answer.TheVariants as answer
use Rattle.tb_machine.specs.claim.AnswerAt.{answer_at}

abbrev most : ℕ
most = 340282366920938463463374607431768211455

abbrev account : ℕ → Account
account id = record {
  id = id;
  debits_pending = 0;
  debits_posted = 0;
  credits_pending = 0;
  credits_posted = 0;
  user_data_128 = 0;
  user_data_64 = 0;
  user_data_32 = 0;
  reserved = 0;
  ledger = 1;
  code = 1;
  flags = 0;
  timestamp = 0;
}

abbrev linked : ℕ → Account
linked id = record (account id) { flags = 1 }

abbrev transfer : ℕ → ℕ → ℕ → ℕ → Transfer
transfer id debit credit amount = record {
  id = id;
  debit_account_id = debit;
  credit_account_id = credit;
  amount = amount;
  pending_id = 0;
  user_data_128 = 0;
  user_data_64 = 0;
  user_data_32 = 0;
  timeout = 0;
  ledger = 1;
  code = 1;
  flags = 0;
  timestamp = 0;
}

abbrev pending : ℕ → ℕ → ℕ → Transfer
pending id amount timeout = record (transfer id 1 2 amount) { flags = 2; timeout = timeout }

-- what they leave out is the pending transfer's
abbrev post : ℕ → ℕ → ℕ → Transfer
post id pending_id amount = record (transfer id 0 0 amount) { pending_id = pending_id; ledger = 0; code = 0; flags = 4 }

abbrev void : ℕ → ℕ → ℕ → Transfer
void id pending_id amount = record (post id pending_id amount) { flags = 8 }

abbrev failure : ℕ → ℕ → Failure
failure index code = record { index = index; code = code }

-- ---- accounts

two_submitters_joined : failures_of (replay 0 (Packet 0 0 (Accounts (account 1 ∷ account 2 ∷ [])) ∷ []))
    (Accounts (account 1 ∷ record (account 3) { ledger = 0 } ∷ [])) ≡ failure 0 21 ∷ failure 1 13 ∷ []
two_submitters_joined = refl

abbrev broken : Events
broken = Accounts (linked 1 ∷ linked 0 ∷ account 2 ∷ account 3 ∷ [])

broken_chain : failures_of (replay 0 []) broken ≡ failure 0 1 ∷ failure 1 6 ∷ failure 2 1 ∷ []
broken_chain = refl

broken_chain-timestamps : map (λ (made : Account). made.timestamp)
    (replay 0 (Packet 0 0 broken ∷ [])).facts.accounts ≡ 4 ∷ []
broken_chain-timestamps = refl

abbrev broken_and_open : Events
broken_and_open = Accounts (linked 1 ∷ linked 0 ∷ linked 2 ∷ [])

broken_and_open_chain : failures_of (replay 0 []) broken_and_open ≡ failure 0 1 ∷ failure 1 6 ∷ failure 2 2 ∷ []
broken_and_open_chain = refl

broken_and_open_chain-state : replay 0 (Packet 0 0 broken_and_open ∷ []) ≡ record { clock = 3; facts = no_facts }
broken_and_open_chain-state = refl

clock_exhausted : failures_of (replay 9223372036854775806 (Packet 0 0 (Accounts (account 1 ∷ [])) ∷ []))
    (Accounts (account 2 ∷ [])) ≡ failure 0 201 ∷ []
clock_exhausted = refl

bad_account_fields : failures_of (replay 0 [])
    (Accounts (record (account 1) { timestamp = 5 } ∷ record (account 2) { flags = 6 }
    ∷ record (account 3) { flags = 16 } ∷ [])) ≡ failure 0 3 ∷ failure 1 8 ∷ failure 2 5 ∷ []
bad_account_fields = refl

-- ---- transfers, after accounts 1 and 2

abbrev two_accounts : Input
two_accounts = Packet 0 0 (Accounts (account 1 ∷ account 2 ∷ []))

abbrev limited_accounts : Input
limited_accounts = Packet 0 0 (Accounts (account 1 ∷ record (account 2) { flags = 2 } ∷ account 3 ∷ []))

abbrev chain : Events
chain =
    Transfers (record (transfer 1 1 2 10) { flags = 1 } ∷ record (transfer 2 2 3 10) { flags = 1 }
    ∷ record (transfer 3 1 3 10) { ledger = 0 } ∷ [])

chains_of_transfers_joined : failures_of (replay 0 (limited_accounts ∷ [])) chain
    ≡ failure 0 1 ∷ failure 1 1 ∷ failure 2 19 ∷ []
chains_of_transfers_joined = refl

chains_of_transfers_joined-second : failures_of (replay 0 (limited_accounts ∷ Packet 0 0 chain ∷ []))
    (Transfers (transfer 2 2 3 10 ∷ [])) ≡ failure 0 54 ∷ []
chains_of_transfers_joined-second = refl

chains_of_transfers_joined-clock : (replay 0 (limited_accounts ∷ Packet 0 0 chain
    ∷ Packet 0 0 (Transfers (transfer 2 2 3 10 ∷ [])) ∷ [])).clock ≡ 7
chains_of_transfers_joined-clock = refl

abbrev posted : List Input
posted = two_accounts ∷ Packet 0 0 (Transfers (pending 1 100 0 ∷ [])) ∷ Packet 0 0 (Transfers (post 2 1 most ∷ [])) ∷ []

post_then_void : failures_of (replay 0 posted) (Transfers (void 3 1 0 ∷ [])) ≡ failure 0 33 ∷ []
post_then_void = refl

post_then_void-balance : debits_posted (replay 0 posted).facts 1 ≡ 100
post_then_void-balance = refl

abbrev late : List Input
late =
    two_accounts ∷ Packet 0 0 (Transfers (pending 1 100 1 ∷ [])) ∷ Pulse 1000000002
    ∷ Packet 0 0 (Transfers (post 2 1 most ∷ [])) ∷ Pulse 0 ∷ []

late_post_then_pulse : answer_at 0 late 3 ≡ Some (answer.Failures (failure 0 35 ∷ []))
late_post_then_pulse = refl

late_post_then_pulse-check_accounts : debits_pending
    (replay 0 (two_accounts ∷ Packet 0 0 (Transfers (pending 1 100 1 ∷ [])) ∷ Pulse 1000000002
    ∷ Packet 0 0 (Transfers (post 2 1 most ∷ [])) ∷ [])).facts 1 ≡ 100
late_post_then_pulse-check_accounts = refl

late_post_then_pulse-behind : debits_pending (replay 0 late).facts 1 ≡ 0
late_post_then_pulse-behind = refl

late_post_then_pulse-clock : (replay 0 late).clock ≡ 1000000003
late_post_then_pulse-clock = refl

overflowing_pending_sums : failures_of (replay 0 (two_accounts ∷ []))
    (Transfers (pending 1 most 0 ∷ pending 2 1 0 ∷ transfer 3 1 2 1 ∷ [])) ≡ failure 1 47 ∷ failure 2 51 ∷ []
overflowing_pending_sums = refl

abbrev repeated : Events
repeated = Transfers (pending 1 100 0 ∷ post 2 1 40 ∷ post 2 1 40 ∷ post 2 1 most ∷ [])

repeated_post : failures_of (replay 0 (two_accounts ∷ [])) repeated ≡ failure 2 46 ∷ failure 3 39 ∷ []
repeated_post = refl

repeated_post-pending : debits_pending (replay 0 (two_accounts ∷ Packet 0 0 repeated ∷ [])).facts 1 ≡ 0
repeated_post-pending = refl

repeated_post-posted : debits_posted (replay 0 (two_accounts ∷ Packet 0 0 repeated ∷ [])).facts 1 ≡ 40
repeated_post-posted = refl

repeated_post-clock : (replay 0 (two_accounts ∷ Packet 0 0 repeated ∷ [])).clock ≡ 6
repeated_post-clock = refl

timeout_overflows : failures_of (replay 9223372036854775000 (two_accounts ∷ []))
    (Transfers (pending 1 1 1 ∷ [])) ≡ failure 0 53 ∷ []
timeout_overflows = refl

abbrev refused : Events
refused =
    Transfers (transfer 1 1 2 30 ∷ transfer 1 1 2 30 ∷ transfer 2 1 1 1 ∷ transfer 3 1 9 1 ∷ transfer 0 1 2 1 ∷ [])

transfer_refusals : failures_of (replay 0 (two_accounts ∷ [])) refused
    ≡ failure 1 46 ∷ failure 2 12 ∷ failure 3 22 ∷ failure 4 5 ∷ []
transfer_refusals = refl

transfer_refusals-debits : debits_posted (replay 0 (two_accounts ∷ Packet 0 0 refused ∷ [])).facts 1 ≡ 30
transfer_refusals-debits = refl

transfer_refusals-credits : credits_posted (replay 0 (two_accounts ∷ Packet 0 0 refused ∷ [])).facts 2 ≡ 30
transfer_refusals-credits = refl

abbrev three : List Input
three =
    two_accounts ∷ Packet 0 0 (Transfers (pending 1 100 1 ∷ pending 2 50 1 ∷ pending 3 7 0 ∷ []))
    ∷ Packet 0 0 (Transfers (void 4 2 0 ∷ [])) ∷
    Pulse 2000000000 ∷ []

expiry_void_and_untimed : credits_pending (replay 0 three).facts 2 ≡ 7
expiry_void_and_untimed = refl

expiry_void_and_untimed-statuses : map (status_with (replay 0 three).facts) (1 ∷ 2 ∷ 3 ∷ 4 ∷ [])
    ≡ Some Expired ∷ Some Voided ∷ Some Pending ∷ None ∷ []
expiry_void_and_untimed-statuses = refl

expiry_void_and_untimed-clock : (replay 0 three).clock ≡ 2000000000
expiry_void_and_untimed-clock = refl

abbrev ordered : List Input
ordered =
    two_accounts ∷ Packet 0 0 (Transfers (pending 1 10 2 ∷ pending 2 20 1 ∷ pending 3 30 1 ∷ [])) ∷
    Packet 0 0 (Transfers (record (post 4 2 most) { flags = 5 } ∷ transfer 0 1 2 0 ∷ []))
    ∷ Pulse 1000000004 ∷ Pulse 1000000005 ∷ []

expiry_order : answer_at 0 ordered 2 ≡ Some (answer.Failures (failure 0 1 ∷ failure 1 5 ∷ []))
expiry_order = refl

expiry_order-statuses : map (status_with (replay 0 ordered).facts) (1 ∷ 2 ∷ 3 ∷ [])
    ≡ Some Pending ∷ Some Expired ∷ Some Expired ∷ []
expiry_order-statuses = refl

expiry_order-balance : debits_pending (replay 0 ordered).facts 1 ≡ 10
expiry_order-balance = refl

abbrev failed : List Input
failed =
    two_accounts ∷ Packet 0 0 (Transfers (record (transfer 1 1 2 5) { flags = 1 } ∷ transfer 2 1 9 5 ∷ [])) ∷
    Packet 0 0 (Transfers (transfer 1 1 2 5 ∷ transfer 2 1 2 5 ∷ [])) ∷ Packet 0 0 (Transfers (post 3 8 most ∷ [])) ∷
    Packet 0 0 (Transfers (transfer 3 1 2 1 ∷ record (transfer 2 1 2 1) { flags = 6 } ∷ [])) ∷ []

id_already_failed : map (answer_at 0 failed) (1 ∷ 2 ∷ 3 ∷ 4 ∷ [])
    ≡ Some (answer.Failures (failure 0 1 ∷ failure 1 22 ∷ [])) ∷ Some (answer.Failures (failure 1 68 ∷ []))
    ∷ Some (answer.Failures (failure 0 25 ∷ [])) ∷ Some
    (answer.Failures (failure 0 68 ∷ failure 1 68 ∷ [])) ∷ []
id_already_failed = refl

id_already_failed-clock : (replay 0 failed).clock ≡ 9
id_already_failed-clock = refl

-- ---- a lookup of accounts 2, 9 and 1

lookup : answer_at 0 (two_accounts ∷ Packet 0 0 (Transfers (transfer 1 1 2 30 ∷ []))
    ∷ Packet 0 0 (Ids (2 ∷ 9 ∷ 1 ∷ [])) ∷ []) 2
    ≡ Some (answer.Accounts (record (account 2) { credits_posted = 30; timestamp = 2 }
    ∷ record (account 1) { debits_posted = 30; timestamp = 1 } ∷ []))
lookup = refl

lookup-clock : (replay 0 (two_accounts ∷ Packet 0 0 (Ids (2 ∷ [])) ∷ [])).clock ≡ 2
lookup-clock = refl
