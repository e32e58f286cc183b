-- Whether memory ran out, submitter by submitter and entry by entry.
use Rattle.std.proofs.Common.{cond, ◌≡◌, ◌∙◌, ◌+◌, ◌*◌, ℕ, Bool, true, false, ◌||◌, List, [], ◌∷◌, ◌++◌, length, map, drop, refl, ap, sym, arith}
use Rattle.std.proofs.Math.Bool.{or_assoc}
use Rattle.std.proofs.lemmas.List.Sums.{sum_by-cons}
use Rattle.std.specs.List.{count_by}
use Rattle.tb_program.proofs.Words.{flat_map, EndedState, Entry, Input, group_of, batch_packets, size_of, moments_in, moments_queued, planned_items, refused_of, replies_of, results_of, ScriptDriver}
use Rattle.tb_core.specs.declared.journal.Entry.TheVariants.{Batch, Pulse}
use Rattle.tb_drive.specs.clauses.Plan.{is_refused}
use Rattle.tb_work.specs.declared.stub.Stub.{Stub}
use Rattle.tb_program.specs.clauses.RunText.{lacks_packet, lacks_packets}
use Rattle.tb_program.specs.inside.Lacking.{is_pulse}

-- the packets of a submitter, and those of the others
pub first_lacks : (before : Bool) {after : Bool} {driver : ScriptDriver} {others all : List ScriptDriver}
    {ended : EndedState} {rest ends : List EndedState} → all ≡ driver ∷ others → ends ≡ ended ∷ rest
    → after ≡ (before || lacks_packet (results_of driver) (ended.read ++ ended.lying))
    → (after || lacks_packets (map results_of others) (replies_of rest))
    ≡ (before || lacks_packets (map results_of all) (replies_of ends))
first_lacks before {others = others} {rest = rest} all_is ends_is lacks =
    ap (λ b. b || lacks_packets (map results_of others) (replies_of rest)) lacks ∙ or_assoc before _ _
    ∙ (λ i. before || lacks_packets (map results_of (sym all_is i)) (replies_of (sym ends_is i)))

counted : {X : Type 0} (p : X → Bool) (x : X) (xs : List X) → count_by p (x ∷ xs) ≡ cond (p x) 1 0 + count_by p xs
counted p x xs = sum_by-cons (λ x. cond (p x) 1 0) x xs

-- a batch has no pulse
none_in_batch : (operation : ℕ) (body : List ℕ) (stubs : List Stub) (others : List Input)
    → moments_in (batch_packets operation body stubs ++ others) ≡ moments_in others
none_in_batch operation body [] others = refl
none_in_batch operation body (stub ∷ stubs) others =
    none_in_batch operation (drop (stub.count * size_of operation) body) stubs others

-- the entries that are pulses
pub as_many_pulses : (journal : List Entry) → count_by is_pulse journal ≡ length (moments_in (flat_map group_of journal))
as_many_pulses [] = refl
as_many_pulses (Batch operation body stubs ∷ journal) =
    let none = none_in_batch operation body.items stubs.items (flat_map group_of journal) in
    omega (arith, counted is_pulse (Batch operation body stubs) journal, as_many_pulses journal, ap length none)
as_many_pulses (Pulse moment ∷ journal) =
    omega (arith, counted is_pulse (Pulse moment) journal, as_many_pulses journal)

-- of the pulses asked for, those that aren't refused are queued
pub pulses_queued : (moments : List ℕ) (shuts : Bool)
    → length (moments_queued (planned_items moments shuts)) + refused_of moments ≡ length moments
pulses_queued [] true = refl
pulses_queued [] false = refl
pulses_queued (moment ∷ moments) shuts = one (is_refused moment) refl (pulses_queued moments shuts)
  where
    one : (refused : Bool) → is_refused moment ≡ refused
        → length (moments_queued (planned_items moments shuts)) + refused_of moments ≡ length moments
        → length (moments_queued (planned_items (moment ∷ moments) shuts)) + refused_of (moment ∷ moments)
        ≡ length (moment ∷ moments)
    one true is others = rw is (omega (arith, rw is at (counted is_refused moment moments), others))
    one false is others = rw is (omega (arith, rw is at (counted is_refused moment moments), others))
