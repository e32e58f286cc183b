-- A batch's row stands for its packets.
use Rattle.std.proofs.Common.{refl, sym, ap, ◌∙◌, arith, ◌≡◌, ℕ, List, [], ◌∷◌, map}
use Rattle.tb_durable.proofs.Words.{◌==◌, if◌then◌else◌, Input, Pulse, Numbered, input_of, stub_of, Stub, body_of, operation_of, IsLawful, AreParts, Parts, Kind, OfAccounts, OfTransfers, OfIds, first_is, kind_of_batch, batch_packets, batch_row, jobs_row, group_in, stubs_in, stubs_bytes}
use Rattle.tb_core.proofs.Bodies.{entry_has}

-- its operation, as a batch's caller sees it
pub operation_is : (operation : ℕ) (jobs : List Numbered) → IsLawful operation jobs → operation_of jobs ≡ operation
operation_is operation [] lawful = absurd (omega (arith, lawful.some))
operation_is operation (job ∷ jobs) lawful = (first_is operation job jobs lawful.one_operation).0

-- no batch's row says that it is a pulse
pub not_zero : (operation : ℕ) → Kind operation → operation ≡ 0 → ⊥
not_zero operation OfAccounts e = omega arith
not_zero operation OfTransfers e = omega arith
not_zero operation OfIds e = omega arith

-- ---- the row of a batch

pub row_of_parts : (place : ℕ) (parts : Parts) → AreParts parts
    → batch_row place parts.operation parts.stubs.items parts.body.items ≡ jobs_row place parts.jobs.items
row_of_parts place parts whole =
    let jobs = parts.jobs.items in
    ap (λ o. batch_row place o parts.stubs.items parts.body.items) (sym (operation_is parts.operation jobs whole.lawful))
    ∙ ap (λ s. batch_row place (operation_of jobs) s parts.body.items) whole.stubs
    ∙ ap (batch_row place (operation_of jobs) (map stub_of jobs)) whole.body

pub group_of_jobs : (place operation : ℕ) (jobs : List Numbered) → IsLawful operation jobs
    → stubs_in (stubs_bytes (map stub_of jobs)) ≡ map stub_of jobs → group_in (jobs_row place jobs) ≡ map input_of jobs
group_of_jobs place operation jobs lawful back =
    ap says (operation_is operation jobs lawful) ∙ by operation (kind_of_batch operation jobs lawful)
    ∙ ap (batch_packets operation (body_of jobs)) back ∙ entry_has operation jobs lawful
  where
    stubs : List Stub
    stubs = stubs_in (stubs_bytes (map stub_of jobs))

    says : ℕ → List Input
    says op = if op == 0 then Pulse 0 ∷ [] else batch_packets op (body_of jobs) stubs

    by : (op : ℕ) → Kind op → says op ≡ batch_packets op (body_of jobs) stubs
    by op OfAccounts = refl
    by op OfTransfers = refl
    by op OfIds = refl
