-- A ledger's file with a pulse and a batch, and its counts.
use Rattle.std.proofs.Common.{◌≡◌, [], ◌∷◌, refl, arith, inl, inr, Some}
use Rattle.tb_durable.proofs.Words.{Numbered, numbered_packet, stub_of, IsLawful, Settings, counted, no_packets, IsLedgerFile, jobs_row, pulse_row, settings_row}
use Rattle.tb_durable.specs.clauses.Counts.{counted_all}
use Rattle.tb_durable.proofs.EntryLemmas.{batch_row_is, pulse_row_is}
use Rattle.tb_durable.proofs.FileLemmas.{is_first_row}

abbrev settings : Settings
settings = record { clock = 0; limit = 8190; submitters = 2 }

-- a lookup of the id 7
abbrev job : Numbered
job = numbered_packet 1 0 (record { operation = 131; bytes = 7 ∷ 0 ∷ 0 ∷ 0 ∷ 0 ∷ 0 ∷ 0 ∷ 0 ∷ 0 ∷ 0 ∷ 0 ∷ 0 ∷ 0 ∷ 0 ∷ 0 ∷ 0 ∷ []; user = 0 })

lawful : IsLawful 131 (job ∷ [])
lawful = record {
  some = omega arith;
  all_admitted = (refl, tt);
  one_operation = refl;
  few = omega arith;
  alone = λ more. absurd (omega (arith, more));
}

follows_on : counted_all no_packets (stub_of job ∷ []) ≡ Some (counted no_packets (stub_of job))
unfolding counted_all
follows_on = refl

file : IsLedgerFile (settings_row settings ∷ pulse_row 0 5 ∷ jobs_row 1 (job ∷ []) ∷ []) (counted no_packets (stub_of job))
file = (
  is_first_row settings (omega arith),
  (
    no_packets,
    inr (pulse_row_is 0 5 (omega arith), refl),
    (counted no_packets (stub_of job), inl (batch_row_is 1 no_packets (counted no_packets (stub_of job)) (job ∷ []) lawful follows_on), refl),
  ),
)
