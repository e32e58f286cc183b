-- What opening finds after a crash.
use Rattle.std.proofs.Common.{◌≡◌, inl, inr, ℕ, List, [], ◌∷◌, ◌++◌, sym, ap, subst, ◌∙◌, append-nil, append_assoc, map}
use Rattle.tb_durable.proofs.Words.{flat_map-append, map-append, Row, Trees, Input, BareLedgerState, HasCommitted, group_in, clock_in, IsJournal, groups_of}
use Rattle.std.proofs.lemmas.List.Elements.{filter-append}
use Rattle.tb_core.specs.claim.EachSubmitter.{is_packet_of, packets_of}
use Rattle.tb_core.specs.claim.EndedRun.{IsPrefix}
use Rattle.tb_durable.specs.claim.Recovery.{LeavesOneOf, AreOfQueued, IsRecovered, RecoversFromCrashes, inputs_of}

packets-append : (submitter : ℕ) (groups more : List (List Input))
    → packets_of submitter (inputs_of (groups ++ more)) ≡ packets_of submitter (inputs_of groups) ++ packets_of submitter (inputs_of more)
packets-append submitter groups more =
    ap (packets_of submitter) (flat_map-append (λ (group : List Input). group) groups more)
    ∙ filter-append (is_packet_of submitter) (inputs_of groups) (inputs_of more)

-- a part of a prefix is a prefix
shorter : (front others came : List Input) → IsPrefix (front ++ others) came → IsPrefix front came
shorter front others came whole = (others ++ whole.0, sym (append_assoc front others whole.0) ∙ whole.1)

-- fewer groups are of what came, and of what was queued, too
fewer_came : (came : List Input) (groups more : List (List Input)) → IsPrefix (inputs_of (groups ++ more)) came
    → IsPrefix (inputs_of groups) came
fewer_came came groups more whole =
    shorter (inputs_of groups) (inputs_of more) came
    (subst (λ front. IsPrefix front came) (flat_map-append (λ (group : List Input). group) groups more) whole)

fewer : (queued : ℕ → List Input) (groups more : List (List Input)) → AreOfQueued queued (groups ++ more) → AreOfQueued queued groups
fewer queued groups more are submitter =
    shorter (packets_of submitter (inputs_of groups)) (packets_of submitter (inputs_of more)) (queued submitter)
    (subst (λ front. IsPrefix front (queued submitter)) (packets-append submitter groups more) (are submitter))

abbrev clock_of : List Row → ℕ
clock_of [] = 0
clock_of (first ∷ entries) = clock_in first

-- the rows found are a journal's, and others after them
module _ (rest : List Row) {rows found_rows : List Row} {old found : BareLedgerState} (journal : IsJournal rows old)
    (found_journal : IsJournal found_rows found) (is : found_rows ≡ rows ++ rest) where
  same_first : found_rows ≡ journal.first ∷ (journal.entries ++ rest)
  same_first = is ∙ ap (λ all. all ++ rest) journal.is

  found_groups : groups_of found_rows ≡ groups_of rows ++ map group_in rest
  found_groups =
      ap groups_of same_first ∙ map-append group_in journal.entries rest
      ∙ ap (λ groups. groups ++ map group_in rest) (sym (ap groups_of journal.is))

  found_committed : HasCommitted found (groups_of found_rows)
  found_committed = subst (HasCommitted found) (sym (ap groups_of found_journal.is)) found_journal.committed

  found_opened : found.opening ≡ old.opening
  found_opened = found_journal.opened ∙ ap clock_of (sym found_journal.is ∙ same_first) ∙ sym journal.opened

module _ (recovers : Trees → Type 0) (rows last : List Row) (old found : BareLedgerState) (db : Trees) where
  is_recovered : IsJournal rows old → LeavesOneOf recovers rows last → recovers db → IsJournal (db 0) found
      → IsRecovered (groups_of rows) (map group_in last) old found
  is_recovered journal leaves left found_journal =
      elim (leaves db left) [
        | inl same ↦
            let is : db 0 ≡ rows ++ [] = same ∙ sym (append-nil rows) in
            let all : groups_of (db 0) ≡ groups_of rows = ap groups_of same in
            record {
              groups = groups_of (db 0);
              kept = ([], append-nil (groups_of rows) ∙ sym all);
              one_of = inl all;
              committed = found_committed [] journal found_journal is;
              opened = found_opened [] journal found_journal is;
              whole = λ came is_prefix. subst (λ all. IsPrefix (inputs_of all) came) (sym all)
                  (fewer_came came (groups_of rows) (map group_in last) is_prefix);
              each = λ queued are. subst (AreOfQueued queued) (sym all) (fewer queued (groups_of rows) (map group_in last) are);
            }
        | inr more ↦
            let all = found_groups last journal found_journal more in
            record {
              groups = groups_of (db 0);
              kept = (map group_in last, sym all);
              one_of = inr all;
              committed = found_committed last journal found_journal more;
              opened = found_opened last journal found_journal more;
              whole = λ came is_prefix. subst (λ all. IsPrefix (inputs_of all) came) (sym all) is_prefix;
              each = λ queued are. subst (AreOfQueued queued) (sym all) are;
            }
      ]

pub recovered : (recovers : Trees → Type 0) → RecoversFromCrashes recovers
recovered = is_recovered
