-- The words that these proofs speak in.
pub use Rattle.std.proofs.lemmas.Bool.{eqb-true}
pub use Rattle.std.proofs.lemmas.Bool.Decides.{eqb_tells, nat_tests}
pub use Rattle.std.proofs.lemmas.Grind.{common_steps}
pub use Rattle.std.proofs.lemmas.List.{length-replicate, replicate_more, length-map, take-map, take_rest, drop-map, drop-drop}
pub use Rattle.std.specs.declared.alloc.Global.{Global}
pub use Rattle.std.specs.List.{list_all, AllByRecursion}
pub use Rattle.std.specs.Option.{option_map}
pub use Rattle.std.specs.Prelude.{Some, None, ◌&&◌, if◌then◌else◌, ◌==◌, is_some, nat_le, nat_lt, fold, ◌||◌, IsSome, vec_capacity, MatchOption}
pub use Rattle.tb_layout.specs.claim.Events.{Events, Accounts, Transfers, Ids, Input, Packet, Pulse, is_last_linked, chunks}
pub use Rattle.tb_layout.specs.claim.Limits.{clock_max, nanoseconds_per_second}
pub use Rattle.tb_layout.specs.claim.Transfer.{is_resolving, is_pending, is_post, is_void}
pub use Rattle.tb_layout.specs.claim.TransferCode.{number_of}
pub use Rattle.tb_layout.specs.declared.account.Account.{Account}
pub use Rattle.tb_layout.specs.declared.failure.Failure.{Failure}
pub use Rattle.tb_layout.specs.declared.transfer.Transfer.{Transfer}
pub use Rattle.tb_layout.specs.declared.transfer_code.TransferCode.{TransferCode}
pub use Rattle.tb_layout.specs.declared.transfer_code.TransferCode.TheVariants.{Exists, Ok}
pub use Rattle.tb_machine.specs.claim.Chain.{Operation, failures_from, clock_after, Results, Attempt, Stored, Failed, verdict_after, try_events, closed_chain, open_chain, chain_results, before_chains, chains_of, chains_results, events_results}
pub use Rattle.tb_machine.specs.claim.Checks.{first_row, u128_max}
pub use Rattle.tb_machine.specs.claim.Operations.{transfers_operation, accounts_operation}
pub use Rattle.tb_machine.specs.claim.Replay.{replay, failures_of, State, results_of, after_packet, accounts_found}
pub use Rattle.tb_machine.specs.claim.TransferVerdict.{stored_checks, against_id, new_id_verdict, resolving_verdict, creating_verdict, resolved_transfer_of, has_exclusive_flags, new_id_checks, resolving_checks, against_named, pending_checks, status_checks, creating_checks, against_accounts, balance_checks, resolved_transfer, stored_transfer}
pub use Rattle.tb_machine.specs.declared.fault.ChainFault.{ChainFault}
pub use Rattle.tb_machine.specs.inside.Examining.{LiesBelow, fault_as, first_chain_length, then_results, after_results}
pub use Rattle.tb_machine.specs.inside.Committing.{Continues, HasCommitted}
pub use Rattle.tb_machine.specs.inside.Faults.{results_of_failed, facts_after_failure, attempt_of, closed_chain_results, open_chain_results}
pub use Rattle.tb_tables.specs.claim.Balances.{balanced_account, with_balances}
pub use Rattle.tb_tables.specs.claim.Facts.{no_facts, Facts, transfer_with, account_with, is_expired}
pub use Rattle.tb_tables.specs.clauses.Balances.{debits_pending, debits_posted, credits_pending, credits_posted, debits, credits}
pub use Rattle.tb_tables.specs.clauses.Conditions.{MayAdd, MayResolve}
pub use Rattle.tb_tables.specs.clauses.History.{History, Extends}
pub use Rattle.tb_tables.specs.declared.status.Status.TheVariants.{Pending, Voided, Expired, Posted}
