-- Rows of entries, and their columns.
use Rattle.std.proofs.Common.{◌≡◌, ◌+◌, ◌<◌, ◌≤◌, ◌%◌, ℕ, pos, List, [], ◌∷◌, ◌++◌, refl, sym, ap, subst, ◌∙◌, arith, length, length-append, map, inl, inr, Some}
use Rattle.tb_durable.proofs.Words.{IsSome, OnOk, Result, Ok, Err, is_some, flat_map, Int, Row, bytes, rowid, moment_max, Numbered, stub_of, IsLawful, body_of, operation_of, PacketCounts, AreColumnsOf, AreEntryRows, IsBatchRow, IsEntryRow, IsPulseRow, HasColumns, group_in, jobs_row, pulse_row, stubs_bytes, stubs_in, whole_number, Kind, OfAccounts, OfIds, OfTransfers, kind_of_batch}
use Rattle.tb_durable.specs.clauses.Counts.{counted_all}
use Rattle.tb_durable.proofs.Cutting.{not_zero}
use Rattle.tb_durable.proofs.StubLemmas.{counted_in_range, stubs_read, stubs_whole}

-- ---- one row

below_256 : (operation : ℕ) → Kind operation → operation < 256
below_256 operation OfAccounts = omega arith
below_256 operation OfTransfers = omega arith
below_256 operation OfIds = omega arith

pub entry_place : (place : ℕ) (before after : PacketCounts) (row : Row) → IsEntryRow place before row after → rowid row ≡ Int (pos place)
entry_place place before after row (inl batch) = batch.at
entry_place place before after row (inr pulse) = pulse.0.at

module _ (place : ℕ) (before after : PacketCounts) (row : Row) (operation moment : ℕ) (stubs body : List ℕ)
    (has : HasColumns row operation moment stubs body) where
  module _ (batch : IsBatchRow place before row after) where
    same_stubs : stubs ≡ batch.stubs
    same_stubs = sym (ap bytes has.has_stubs) ∙ ap bytes batch.has.has_stubs

    -- the columns of a batch's row are those of its packets
    pub batch_columns : AreColumnsOf batch.jobs operation stubs body
    batch_columns =
        let same : operation ≡ batch.operation = sym (ap whole_number has.has_operation) ∙ ap whole_number batch.has.has_operation in
        record {
          lawful = subst (λ o. IsLawful o batch.jobs) (sym same) batch.are.lawful;
          whole = ap (λ all. length all % 16) same_stubs ∙ batch.are.whole;
          own_stubs = ap stubs_in same_stubs ∙ batch.are.own_stubs;
          own_body = sym (ap bytes has.has_body) ∙ ap bytes batch.has.has_body ∙ batch.are.own_body;
        }

    pub is_no_pulse : operation ≡ 0 → ⊥
    is_no_pulse zero = not_zero operation (kind_of_batch operation batch.jobs batch_columns.lawful) zero

    pub small_operation : operation < 256
    small_operation = below_256 operation (kind_of_batch operation batch.jobs batch_columns.lawful)

    -- its packets are counted
    pub follows_on : IsSome (counted_all before (map stub_of batch.jobs))
    follows_on = ap is_some batch.follow

    pub counts_are : (now : PacketCounts) → counted_all before (stubs_in stubs) ≡ Some now → now ≡ after
    counts_are now is =
        let same : Some now ≡ Some after = sym is ∙ ap (counted_all before) batch_columns.own_stubs ∙ batch.follow in cc

  module _ (pulse : IsPulseRow place row) where
    pub is_no_batch : operation ≡ 0
    is_no_batch = sym (ap whole_number has.has_operation) ∙ ap whole_number pulse.has.has_operation

    pub low_moment : moment ≤ moment_max
    low_moment =
        subst (λ m. m ≤ moment_max) (sym (sym (ap whole_number has.has_moment) ∙ ap whole_number pulse.has.has_moment)) pulse.low

-- the row that is written of a batch
pub batch_row_is : (place : ℕ) (before after : PacketCounts) (jobs : List Numbered) → IsLawful (operation_of jobs) jobs
    → counted_all before (map stub_of jobs) ≡ Some after → IsBatchRow place before (jobs_row place jobs) after
batch_row_is place before after jobs lawful follow = record {
  operation = operation_of jobs;
  moment = 0;
  stubs = stubs_bytes (map stub_of jobs);
  body = body_of jobs;
  jobs = jobs;
  at = refl;
  has = record { has_operation = refl; has_moment = refl; has_stubs = refl; has_body = refl };
  are = record {
    lawful = lawful;
    whole = stubs_whole (map stub_of jobs);
    own_stubs = stubs_read (map stub_of jobs) (counted_in_range before after jobs lawful.all_admitted follow);
    own_body = refl;
  };
  follow = follow;
}

-- and that of a pulse
pub pulse_row_is : (place moment : ℕ) → moment ≤ moment_max → IsPulseRow place (pulse_row place moment)
pulse_row_is place moment low = record {
  moment = moment;
  stubs = [];
  body = [];
  at = refl;
  has = record { has_operation = refl; has_moment = refl; has_stubs = refl; has_body = refl };
  low = low;
}

-- ---- a row that was accepted

pub both_ok : {T E P Q R : Type 0} (r : Result T E) → (P → Q → R) → OnOk r P → OnOk r Q → OnOk r R
both_ok (Ok x) f p q = f p q
both_ok (Err e) f p q = tt

module _ (place : ℕ) (row : Row) (operation moment : ℕ) (stubs body : List ℕ) (has : HasColumns row operation moment stubs body)
    (at : rowid row ≡ Int (pos place)) where
  pub batch_accepted : (before after : PacketCounts) → (jobs : List Numbered) × AreColumnsOf jobs operation stubs body
      → counted_all before (stubs_in stubs) ≡ Some after → IsEntryRow place before row after
  batch_accepted before after are follow = inl (record {
    operation = operation;
    moment = moment;
    stubs = stubs;
    body = body;
    jobs = are.0;
    at = at;
    has = has;
    are = are.1;
    follow = ap (counted_all before) (sym are.1.own_stubs) ∙ follow;
  })

  pub pulse_accepted : (before after : PacketCounts) → operation ≡ 0 → moment ≤ moment_max → after ≡ before
      → IsEntryRow place before row after
  pulse_accepted before after zero low same = inr (
    record {
      moment = moment;
      stubs = stubs;
      body = body;
      at = at;
      has = subst (λ o. HasColumns row o moment stubs body) zero has;
      low = low;
    },
    same,
  )

-- ---- rows in order

-- the group of an entry after those of others
pub rows_push : (place : ℕ) (before middle after : PacketCounts) (rows : List Row) (row : Row)
    → AreEntryRows place before rows middle
    → IsEntryRow (place + length (flat_map group_in rows)) middle row after → AreEntryRows place before (rows ++ row ∷ []) after
rows_push place before middle after [] row all last =
    let at : place + 0 ≡ place = omega arith in
    (after, rw (at, all) at last, refl)
rows_push place before middle after (first ∷ rows) row all last =
    let next : place + length (flat_map group_in (first ∷ rows)) ≡ place + length (group_in first) + length (flat_map group_in rows)
    = omega (arith, length-append (group_in first) (flat_map group_in rows)) in (
      all.0,
      all.1,
      rows_push (place + length (group_in first)) all.0 middle after rows row all.2
          (subst (λ p. IsEntryRow p middle row after) next last),
    )
