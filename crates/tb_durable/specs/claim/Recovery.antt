-- What opening finds after a crash.
use Rattle.std.specs.Prelude.{◌≡◌, ◌⊎◌, ℕ, List, ◌++◌, map}
use Rattle.std.specs.List.{flat_map}
use Rattle.tb_layout.specs.claim.Events.{Input}
use Rattle.tb_core.specs.claim.BareLedger.{BareLedgerState, HasCommitted}
use Rattle.tb_core.specs.claim.EachSubmitter.{packets_of}
use Rattle.tb_core.specs.claim.EndedRun.{IsPrefix}
use Rattle.sqlite_value.specs.Order.{Row}
use Rattle.sqlite_trees.specs.Tree.{Trees}
use Rattle.tb_durable.specs.claim.Rows.{group_in}
use Rattle.tb_durable.specs.claim.Durable.{IsJournal, groups_of}

-- A crash leaves these rows, or these and after them what was being stored, a row or none. Between two calls of `apply` the
-- clause `rows` of `is_on_disk` says so, and of what a call leaves, also one that fails, its field `crash`.
abbrev pub LeavesOneOf : (Trees → Type 0) → List Row → List Row → Type 0
LeavesOneOf recovers rows last = (db : Trees) → recovers db → (db 0 ≡ rows) ⊎ (db 0 ≡ rows ++ last)

abbrev pub inputs_of : List (List Input) → List Input
inputs_of groups = flat_map (λ group. group) groups

-- each submitter's packets in these groups are a prefix of those that it queued
abbrev pub AreOfQueued : (ℕ → List Input) → List (List Input) → Type 0
AreOfQueued queued groups =
    (submitter : ℕ) → IsPrefix (packets_of submitter (inputs_of groups)) (queued submitter)

-- A ledger had committed the released groups, and a last one, or none, was being stored. The ledger found has committed the
-- released groups in order, and after them nothing or the last one. Its state is their replay, from the same opening
-- clock. If all of it was a prefix of what came to the ledger, or each submitter's packets were a prefix of what it queued,
-- they still are: none is lost, doubled or overtaken.
pub record IsRecovered (released last : List (List Input)) (old found : BareLedgerState) : Type 0 where
  pub groups : List (List Input)
  pub kept : IsPrefix released groups
  pub one_of : (groups ≡ released) ⊎ (groups ≡ released ++ last)
  pub committed : HasCommitted found groups
  pub opened : found.opening ≡ old.opening
  pub whole : (came : List Input) → IsPrefix (inputs_of (released ++ last)) came → IsPrefix (inputs_of groups) came
  pub each : (queued : ℕ → List Input) → AreOfQueued queued (released ++ last) → AreOfQueued queued groups

-- A crash of a store leaves a journal's rows, or these and what was being stored. Then the ledger that is opened on what it
-- leaves is recovered.
abbrev pub RecoversFromCrashes : (Trees → Type 0) → Type 0
RecoversFromCrashes recovers =
    (rows last : List Row) (old found : BareLedgerState) (db : Trees) → IsJournal rows old
    → LeavesOneOf recovers rows last → recovers db → IsJournal (db 0) found
    → IsRecovered (groups_of rows) (map group_in last) old found
