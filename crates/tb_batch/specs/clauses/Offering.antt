-- What an offer does.
use Rattle.std.specs.Prelude.{◌≡◌, true, false, List, [], ◌∷◌, ◌++◌}
use Rattle.tb_work.specs.claim.Packet.{Numbered}
use Rattle.tb_batch.specs.declared.offered.Offered.{Offered}
use Rattle.tb_batch.specs.declared.offered.Offered.TheVariants.{Joined, Sealed, Refused}
use Rattle.tb_batch.specs.clauses.BatcherState.{BatcherState}
use Rattle.tb_batch.specs.claim.Grouping.{is_taken}

abbrev pub with_group : BatcherState → List Numbered → BatcherState
with_group held jobs = record { limit = held.limit; jobs = jobs }

-- If nothing is held, a packet begins the group. Otherwise it joins the group, or the group is sealed and the packet
-- begins the next one. A refused packet is returned, and nothing changed.
abbrev pub Offers : BatcherState → Numbered → Offered → BatcherState → Type 0
Offers old job Joined new = (new ≡ with_group old (old.jobs ++ job ∷ [])) × (is_taken old.limit old.jobs job ≡ true)
Offers old job (Sealed batch) new =
    (batch ≡ old.jobs) × (new ≡ with_group old (job ∷ [])) × (is_taken old.limit old.jobs job ≡ false)
Offers old job (Refused back refused) new = (back ≡ job) × (new ≡ old)
