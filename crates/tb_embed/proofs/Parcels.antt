-- What a front passes on of a ticket, or of what it holds.
use Rattle.std.proofs.Common.{◌≡◌, ◌≤◌, ◌+◌, ◌||◌, refl, sym, ap, ◌∙◌, subst, arith, ℕ, Bool, true, false, if◌then◌else◌, List, [], ◌∷◌, ◌++◌, length, map, append-nil}
use Rattle.tb_embed.proofs.Words.{◌==◌, not, nat_tests, places_max, Numbered, Item, Ticket, Parcel, Pulse, FrontState, IsFront, all_decisions_in, group_as_batch, take_result, take_step, with_group, has_taken, AreJoinedParcels, Decision, Admitted, AreDecisions, BareLedgerState, halts, places_with, HasPassed, IsControl, places_in, places_of, ticket_of}
use Rattle.tb_work.specs.declared.item.Item.TheVariants as item
use Rattle.tb_batch.specs.claim.Grouping.{IsGroup}

-- ---- the group held

held_joined : (limit : ℕ) (held : List Numbered) → IsGroup limit held → AreJoinedParcels limit (group_as_batch held)
held_joined limit [] group = tt
held_joined limit (job ∷ jobs) group = (group, tt)

held_decisions : (held : List Numbered) → all_decisions_in (group_as_batch held) ≡ map Admitted held
held_decisions [] = refl
held_decisions (job ∷ jobs) = append-nil (map Admitted (job ∷ jobs))

-- whatever was passed on before, these parcels are too, in groups lawful under a limit
abbrev pub Sends : (was is : ℕ → List Decision → Type 0) → ℕ → List Parcel → Type 0
Sends was is limit parcels =
    (sent : List Decision) → AreJoinedParcels limit parcels → was limit sent → is limit (sent ++ all_decisions_in parcels)

pub held_taken : {items : List Item} {front : FrontState} {parcels : List Parcel} (was is : ℕ → List Decision → Type 0)
    → parcels ≡ group_as_batch front.held → IsGroup front.limit front.held → Sends was is front.limit parcels
    → HasPassed (was front.limit) items front → HasPassed (is front.limit) items (with_group front [])
held_taken {items} {front} {parcels} was is sealed group sends has = record {
  sent = has.sent ++ all_decisions_in parcels;
  passed = subst (AreDecisions items front.closed front.stopped)
      (sym (append-nil (has.sent ++ all_decisions_in parcels) ∙ ap (λ ds. has.sent ++ ds) (ap all_decisions_in sealed
      ∙ held_decisions front.held))) has.passed;
  has_sent = sends has.sent (subst (AreJoinedParcels front.limit) (sym sealed) (held_joined front.limit front.held group))
      has.has_sent;
}

-- the same of the packets in what was held
pub jobs_taken : {items : List Item} {front : FrontState} {jobs : List Numbered} (was is : ℕ → List Decision → Type 0)
    → jobs ≡ front.held → ((sent : List Decision) → was front.limit sent → is front.limit (sent ++ map Admitted jobs))
    → HasPassed (was front.limit) items front → HasPassed (is front.limit) items (with_group front [])
jobs_taken {items} {front} {jobs} was is same sends has = record {
  sent = has.sent ++ map Admitted jobs;
  passed = subst (AreDecisions items front.closed front.stopped)
      (sym (append-nil (has.sent ++ map Admitted jobs) ∙ ap (λ js. has.sent ++ map Admitted js) same)) has.passed;
  has_sent = sends has.sent has.has_sent;
}

-- ---- a ticket

pub ticket_taken : {items : List Item} {front next : FrontState} {parcels : List Parcel}
    (was is : ℕ → List Decision → Type 0) (ticket : Ticket) → IsFront front → ticket.sender ≤ front.submitters
    → take_result next parcels ≡ take_step false front ticket.sender ticket.item → Sends was is front.limit parcels
    → HasPassed (was front.limit) items front → HasPassed (is next.limit) (items ++ ticket.item ∷ []) next
ticket_taken {items} {front} {next} {parcels} was is ticket sound among step sends has =
    let taken = has_taken false front ticket (take_result next parcels) sound among step in
    let sent = has.sent ++ all_decisions_in parcels in
    record {
      sent = sent;
      passed = taken.passes items has.sent has.passed;
      has_sent = subst (λ limit. is limit sent) (sym taken.same.0) (sends has.sent taken.lawful has.has_sent);
    }

-- ---- a pulse or the Close

pub nothing_held : (front : FrontState) → front.held ≡ [] → with_group front [] ≡ front
nothing_held front none = ap (with_group front) (sym none)

-- the front after it, if the group held was sealed before
pub steps_after : (front : FrontState) (sender : ℕ) (x : Item) → IsFront front → IsControl x →
    (take_step false (with_group front []) sender x).front ≡ (take_step false front sender x).front
steps_after front sender (item.Packet job) is control = absurd control
steps_after front sender (item.Pulse moment) is control = by (front.closed || front.stopped) refl
  where
    by : (clear : Bool) → (front.closed || front.stopped) ≡ clear →
        (if clear then take_result (with_group front []) [] else take_result (with_group front []) (Pulse moment ∷ [])).front
        ≡ (if clear then take_result front []
        else take_result (with_group front []) (group_as_batch front.held ++ Pulse moment ∷ [])).front
    by true clear = nothing_held front (is.clear clear)
    by false clear = refl
steps_after front sender item.End is control = absurd control
steps_after front sender item.Close is control = refl

places_of_group : (held : List Numbered) (parcels : List Parcel)
    → places_in (group_as_batch held ++ parcels) ≡ length held + places_in parcels
places_of_group [] parcels = omega arith
places_of_group (job ∷ jobs) parcels = refl

-- and what the front passes on
pub places_after_group : (front : FrontState) (sender : ℕ) (x : Item) → IsFront front → IsControl x →
    length front.held + places_of (with_group front []) (ticket_of sender x) ≡ places_of front (ticket_of sender x)
places_after_group front sender (item.Packet job) is control = absurd control
places_after_group front sender (item.Pulse moment) is control = by (front.closed || front.stopped) refl
  where
    by : (clear : Bool) → (front.closed || front.stopped) ≡ clear → length front.held
        + places_in (if clear then take_result (with_group front []) []
        else take_result (with_group front []) (Pulse moment ∷ [])).parcels
        ≡ places_in (if clear then take_result front []
        else take_result (with_group front []) (group_as_batch front.held ++ Pulse moment ∷ [])).parcels
    by true clear = omega (arith, ap length (is.clear clear))
    by false clear = sym (places_of_group front.held (Pulse moment ∷ []))
places_after_group front sender item.End is control = absurd control
places_after_group front sender item.Close is control = sym (sym (ap places_in (append-nil (group_as_batch front.held)))
    ∙ places_of_group front.held [])

-- whether a ledger halts after some packets and pulses and then others
pub halts_after : (old middle : BareLedgerState) (first second : ℕ) → middle.stopped ≡ halts old first
    → middle.places ≡ places_with old first → halts middle second ≡ halts old (first + second)
halts_after old middle first second stopped places =
    by (halts old first) refl
  where
    by : (halted : Bool) → halts old first ≡ halted → halts middle second ≡ halts old (first + second)
    by true is = grind (arith, nat_tests, stopped, places, is)
    by false is = grind (arith, nat_tests, stopped, places, is)

-- ---- nothing held

-- a ledger that commits nothing halts exactly if it has stopped
pub halts_at_none : (ledger : BareLedgerState) → ledger.places ≤ places_max → ledger.stopped ≡ halts ledger 0
halts_at_none ledger few = grind (arith, nat_tests, few)

pub none_of : (held : List Numbered) → not (length held == 0) ≡ false → held ≡ []
none_of [] is = refl
none_of (job ∷ jobs) is = grind (arith, nat_tests, is)
