-- The facts before each of some changes, as far as what each added gives them.
use Rattle.std.specs.Prelude.{◌-◌, List, [], ◌∷◌, length, take}
use Rattle.tb_tables.specs.claim.Facts.{Facts}
use Rattle.tb_tables.specs.clauses.History.{History}
use Rattle.tb_tables.specs.declared.change.Change.{Change}
use Rattle.tb_tables.specs.declared.change.Change.TheVariants.{Account, Transfer, Failed}

abbrev pub without_last : {X : Type 0} → List X → List X
without_last xs = take (length xs - 1) xs

-- the facts before a change
abbrev pub before : Change → Facts → Facts
before Account facts = record facts { accounts = without_last facts.accounts }
before (Transfer indices) facts = record facts { transfers = without_last facts.transfers }
before Failed facts = record facts { failed = without_last facts.failed }

-- what there was before all of the changes; the newest change is at the end
abbrev pub oldest : List Change → Facts → Facts
oldest [] now = now
oldest (change ∷ changes) now = before change (oldest changes now)

-- the facts before each
abbrev pub past_of : List Change → Facts → List Facts
past_of [] now = []
past_of (change ∷ changes) now = oldest (change ∷ changes) now ∷ past_of changes now

abbrev pub history_of : List Change → Facts → History
history_of changes now = record { now = now; past = past_of changes now }
