-- How much is stored.
use Rattle.std.specs.Prelude.{length}
use Rattle.tb_tables.specs.declared.counts.Counts.{Counts}
use Rattle.tb_tables.specs.claim.Facts.{Facts}

abbrev pub counts_of : Facts → Counts
counts_of facts =
    record { accounts = length facts.accounts; transfers = length facts.transfers; failed_ids = length facts.failed }
