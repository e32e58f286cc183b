-- The packets of one submitter in a queue, and what they are numbered.
use Rattle.std.proofs.Common.{refl, ap, subst, ◌∙◌, arith, ◌≡◌, ◌<◌, ◌≤◌, ℕ, zero, suc, ◌+◌, Bool, true, false, List, [], ◌∷◌, ◌++◌, map, length, Some, None}
use Rattle.tb_core.proofs.Words.{◌==◌, ◌≢◌, filter, slice_get, if◌then◌else◌, AllByRecursion, Events, Input, Packet, Pulse, Numbered, items_in, items_from, AreSubmitted, IsSubmitted, AreNumbered, Item, Ticket, packets_queued}
use Rattle.tb_work.specs.declared.item.Item.TheVariants as item

-- ---- one sender's part of a queue

-- what a ticket adds to the part of a sender
abbrev pub part_with : Bool → Item → List Item → List Item
part_with own x items = if own then x ∷ items else items

pub part-cons : (sender : ℕ) (ticket : Ticket) (queue : List Ticket) →
    items_from sender (ticket ∷ queue) ≡ part_with (ticket.sender == sender) ticket.item (items_from sender queue)
part-cons sender ticket queue = by (ticket.sender == sender) (filter (λ (t : Ticket). t.sender == sender) queue)
  where
    by : (own : Bool) (tickets : List Ticket) → map (λ (t : Ticket). t.item) (if own then ticket ∷ tickets else tickets)
        ≡ part_with own ticket.item (map (λ (t : Ticket). t.item) tickets)
    by true tickets = refl
    by false tickets = refl

-- ---- its packets, by the submitter that each names

abbrev pub jobs_with : Bool → Numbered → List Numbered → List Numbered
jobs_with own job jobs = if own then job ∷ jobs else jobs

abbrev pub jobs_of : ℕ → List Item → List Numbered
jobs_of submitter [] = []
jobs_of submitter (item.Packet job ∷ items) = jobs_with (job.submitter == submitter) job (jobs_of submitter items)
jobs_of submitter (other ∷ items) = jobs_of submitter items

-- packets are their senders' own
pub jobs-part : (submitters submitter : ℕ) (queue : List Ticket) → AreSubmitted submitters queue
    → packets_queued (items_from submitter queue) ≡ jobs_of submitter (items_in queue)
jobs-part submitters submitter [] all = refl
jobs-part submitters submitter (ticket ∷ queue) all =
    ap packets_queued (part-cons submitter ticket queue)
    ∙ one (ticket.sender == submitter) ticket.item refl all.0 (jobs-part submitters submitter queue all.1)
  where
    one : (own : Bool) (x : Item) → (ticket.sender == submitter) ≡ own → IsSubmitted submitters ticket.sender x →
        packets_queued (items_from submitter queue) ≡ jobs_of submitter (items_in queue) →
        packets_queued (part_with own x (items_from submitter queue)) ≡ jobs_of submitter (x ∷ items_in queue)
    one true (item.Packet job) is own others =
        rw (ap (λ n. n == submitter) own.0 ∙ is) (ap (λ jobs. job ∷ jobs) others)
    one false (item.Packet job) is own others = rw (ap (λ n. n == submitter) own.0 ∙ is) others
    one true (item.Pulse moment) is own others = others
    one false (item.Pulse moment) is own others = others
    one true item.End is own others = others
    one false item.End is own others = others
    one true item.Close is own others = others
    one false item.Close is own others = others

-- ---- numbers

-- packets of one submitter, numbered from `number` on
abbrev pub AreFrom : ℕ → ℕ → List Numbered → Type 0
AreFrom submitter number [] = Unit {0}
AreFrom submitter number (job ∷ jobs) =
    (job.submitter ≡ submitter) × (job.number ≡ number) × AreFrom submitter (number + 1) jobs

pub from-numbered : (submitter number : ℕ) (items : List Item) → AreNumbered submitter number items
    → AreFrom submitter number (packets_queued items)
from-numbered submitter number [] all = tt
from-numbered submitter number (item.Packet job ∷ items) all =
    (all.0, all.1, from-numbered submitter (number + 1) items all.2)
from-numbered submitter number (item.Pulse moment ∷ items) all = from-numbered submitter number items all
from-numbered submitter number (item.End ∷ items) all = from-numbered submitter number items all
from-numbered submitter number (item.Close ∷ items) all = from-numbered submitter number items all

-- no packet of a submitter among these has this number or a higher one
abbrev pub IsBelow : ℕ → ℕ → Input → Type 0
IsBelow submitter bound (Packet its number events) = its ≡ submitter → number < bound
IsBelow submitter bound (Pulse moment) = Unit {0}

abbrev pub AreBelow : ℕ → ℕ → List Input → Type 0
AreBelow submitter bound inputs = AllByRecursion (IsBelow submitter bound) inputs

pub nowhere-below : (submitter bound : ℕ) (inputs : List Input) (place number : ℕ) (events : Events)
    → AreBelow submitter bound inputs → bound ≤ number
    → slice_get inputs place ≢ Some (Packet submitter number events)
nowhere-below submitter bound [] place number events all far = λ found. cc
nowhere-below submitter bound (Packet its own those ∷ inputs) zero number events all far = λ found.
    let same : its ≡ submitter = cc in
    let number_is : own ≡ number = cc in
    absurd (omega (arith, all.0 same, number_is, far))
nowhere-below submitter bound (Pulse moment ∷ inputs) zero number events all far = λ found. cc
nowhere-below submitter bound (input ∷ inputs) (suc place) number events all far =
    nowhere-below submitter bound inputs place number events all.1 far

pub below-longer : (submitter bound more : ℕ) (inputs : List Input) → bound ≤ more → AreBelow submitter bound inputs
    → AreBelow submitter more inputs
below-longer submitter bound more [] far all = tt
below-longer submitter bound more (Packet its own events ∷ inputs) far all =
    (λ same. omega (arith, all.0 same, far), below-longer submitter bound more inputs far all.1)
below-longer submitter bound more (Pulse moment ∷ inputs) far all = (tt, below-longer submitter bound more inputs far all.1)

pub below-append : (submitter bound : ℕ) (inputs : List Input) (last : Input) → AreBelow submitter bound inputs
    → IsBelow submitter bound last → AreBelow submitter bound (inputs ++ last ∷ [])
below-append submitter bound [] last all is = (is, tt)
below-append submitter bound (input ∷ inputs) last all is = (all.0, below-append submitter bound inputs last all.1 is)

-- of two first parts of a list what is so of each element of the longer one is so of those of the shorter one
pub all-shorter : {X : Type 0} (P : X → Type 0) (short rest long others : List X) → short ++ rest ≡ long ++ others
    → slice_get short (length long) ≡ None → AllByRecursion P long → AllByRecursion P short
all-shorter P [] rest long others is none all = tt
all-shorter P (x ∷ short) rest [] others is none all = cc
all-shorter P (x ∷ short) rest (y ∷ long) others is none all =
    let same : y ≡ x = cc in (subst P same all.0, all-shorter P short rest long others (cc) none all.1)
