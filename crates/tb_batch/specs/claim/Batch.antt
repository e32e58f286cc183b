-- A batch.
use Rattle.std.specs.Prelude.{◌≡◌, ◌<◌, ◌≤◌, ◌==◌, ℕ, Bool, true, false, List, [], ◌∷◌, length, map, IsOk, Vec, vec_capacity}
use Rattle.std.specs.List.{flat_map, list_all, AllByRecursion}
use Rattle.std.specs.declared.alloc.Global.{Global}
use Rattle.tb_layout.specs.claim.Bounds.{batch_max}
use Rattle.tb_layout.specs.declared.account.Account.{Account}
use Rattle.tb_layout.specs.declared.failure.Failure.{Failure}
use Rattle.tb_work.specs.claim.Admission.{admission_of, looks_up}
use Rattle.tb_work.specs.claim.Packet.{Numbered, events_in}
use Rattle.tb_work.specs.claim.Job.{count_of_all, stub_of}
use Rattle.tb_batch.specs.declared.parts.Parts.{Parts}
use Rattle.tb_batch.specs.claim.Grouping.{can_share}

-- the packets' data, one after the other
abbrev pub body_of : List Numbered → List ℕ
body_of jobs = flat_map (λ job. job.packet.bytes) jobs

-- each packet was admitted
abbrev pub AreAdmitted : List Numbered → Type 0
AreAdmitted jobs = AllByRecursion (λ job. IsOk (admission_of batch_max job.packet)) jobs

abbrev pub are_of : ℕ → List Numbered → Bool
are_of operation jobs = list_all (λ job. job.packet.operation == operation) jobs

abbrev pub all_share : List Numbered → Bool
all_share jobs = list_all (λ job. can_share (events_in job.packet)) jobs

-- some admitted packets of one operation, of at most 8190 events together; a packet that can't share its batch has one
-- for itself
pub record IsLawful (operation : ℕ) (jobs : List Numbered) : Type 0 where
  pub some : 0 < length jobs
  pub all_admitted : AreAdmitted jobs
  pub one_operation : are_of operation jobs ≡ true
  pub few : count_of_all jobs ≤ batch_max
  pub alone : 1 < length jobs → all_share jobs ≡ true

-- an empty answer has room for all failures, or for all accounts of a lookup
pub record HasRoom (operation count : ℕ) (failures : Vec Failure Global) (accounts : Vec Account Global) : Type 0 where
  pub no_failures : failures.items ≡ []
  pub no_accounts : accounts.items ≡ []
  pub for_failures : looks_up operation ≡ false → count ≤ vec_capacity failures
  pub for_accounts : looks_up operation ≡ true → count ≤ vec_capacity accounts

-- the parts of one batch: the stubs and the body are those of its jobs
pub record AreParts (parts : Parts) : Type 0 where
  pub lawful : IsLawful parts.operation parts.jobs.items
  pub stubs : parts.stubs.items ≡ map stub_of parts.jobs.items
  pub body : parts.body.items ≡ body_of parts.jobs.items
  pub room : HasRoom parts.operation (count_of_all parts.jobs.items) parts.failures parts.accounts

-- what a group that is held knows of its parts
pub record IsGroupOf (parts : Parts) (shares : Bool) (events : ℕ) : Type 0 where
  pub whole : AreParts parts
  pub sharing : shares ≡ all_share parts.jobs.items
  pub counted : events ≡ count_of_all parts.jobs.items

-- the operation of its packets
abbrev pub operation_of : List Numbered → ℕ
operation_of [] = 0
operation_of (job ∷ jobs) = job.packet.operation
