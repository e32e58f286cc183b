-- The lines of pulses, entry by entry.
use Rattle.std.proofs.Common.{◌≡◌, ◌∙◌, ◌+◌, ◌*◌, ℕ, suc, List, [], ◌∷◌, ◌++◌, append_assoc, length, map, drop, refl, ap, sym, arith}
use Rattle.tb_program.proofs.Words.{Input, Pulse, flat_map, LedgerState, inputs, group_of, batch_packets, size_of, Entry, pulse_line, pulses_text}
use Rattle.tb_layout.specs.claim.Events.{Packet}
use Rattle.std.proofs.lemmas.List.Folds.{flat_map-map}
use Rattle.tb_work.specs.declared.stub.Stub.{Stub}

-- those of some packets and pulses, and of others after them
pub pulses_after : (place : ℕ) (inputs others : List Input)
    → pulses_text place (inputs ++ others) ≡ pulses_text place inputs ++ pulses_text (place + length inputs) others
pulses_after place [] others = ap (λ p. pulses_text p others) (omega arith)
pulses_after place (Packet submitter number events ∷ inputs) others =
    pulses_after (suc place) inputs others ∙ ap (λ p.
    pulses_text (suc place) inputs ++ pulses_text p others) (omega arith)
pulses_after place (Pulse moment ∷ inputs) others =
    ap (λ text. pulse_line place ++ text) (pulses_after (suc place) inputs others
    ∙ ap (λ p. pulses_text (suc place) inputs ++ pulses_text p others) (omega arith))
    ∙ sym (append_assoc (pulse_line place) (pulses_text (suc place) inputs)
    (pulses_text (place + suc (length inputs)) others))

-- those of an entry, and of the others after it
pub first_pulses : (before : List ℕ) {after : List ℕ} (place : ℕ) {next_place : ℕ} (entry : Entry)
    {others all : List Entry} → all ≡ entry ∷ others → next_place ≡ place + length (group_of entry)
    → after ≡ before ++ pulses_text place (group_of entry)
    → after ++ pulses_text next_place (flat_map group_of others)
    ≡ before ++ pulses_text place (flat_map group_of all)
first_pulses before place {next_place} entry {others} all_is next_is text =
    ap (λ t. t ++ pulses_text next_place (flat_map group_of others)) text ∙ append_assoc before _ _
    ∙ ap (λ p. before ++ (pulses_text place (group_of entry) ++ pulses_text p (flat_map group_of others))) next_is
    ∙ ap (λ t. before ++ t) (sym (pulses_after place (group_of entry) (flat_map group_of others)))
    ∙ ap (λ es. before ++ pulses_text place (flat_map group_of es)) (sym all_is)

-- the packets and pulses of a ledger's entries
pub of_entries : (journal : List Entry) (ledger : LedgerState) → map group_of journal ≡ ledger.groups
    → flat_map group_of journal ≡ inputs ledger
of_entries journal ledger is = sym (flat_map-map (λ group. group) group_of journal) ∙ ap (flat_map (λ group. group)) is

-- a batch has no pulse
pub none_in_batch : (place operation : ℕ) (body : List ℕ) (stubs : List Stub)
    → pulses_text place (batch_packets operation body stubs) ≡ []
none_in_batch place operation body [] = refl
none_in_batch place operation body (stub ∷ stubs) =
    none_in_batch (suc place) operation (drop (stub.count * size_of operation) body) stubs

-- and a packet for each stub
pub as_many_packets : (operation : ℕ) (body : List ℕ) (stubs : List Stub)
    → length (batch_packets operation body stubs) ≡ length stubs
as_many_packets operation body [] = refl
as_many_packets operation body (stub ∷ stubs) =
    ap suc (as_many_packets operation (drop (stub.count * size_of operation) body) stubs)
