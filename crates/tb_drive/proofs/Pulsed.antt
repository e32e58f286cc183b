-- The pulses of a plan's driver, one after another.
use Rattle.std.proofs.Common.{◌≡◌, ◌∙◌, ◌<◌, ◌≤◌, ◌+◌, ℕ, Bool, true, false, List, [], ◌∷◌, ◌++◌, Some, get_or, length, slice_get, ap, refl, sym, subst, arith, append_assoc, append-nil}
use Rattle.tb_drive.proofs.Words.{if◌then◌else◌, min, take, flat_map-append, length-take, take_all, slice_get_within, get_or_from_slice_get, SenderState, Item, is_refused, last_item, pulse_of, pulses_of, refused_of, with_items, HasAskedOf, HasEndedOf, HasQueued, HasQueuedOf}
use Rattle.std.proofs.Math.Numerals.{add-one}
use Rattle.std.proofs.Math.Seq.{take-suc}
use Rattle.std.proofs.lemmas.List.Sums.{count_by-le-length, count_by_more_no, count_by_more_yes}
use Rattle.tb_drive.specs.declared.plan.PlanDriver.{PlanDriver}
use Rattle.tb_work.specs.declared.item.Item.TheVariants as item

one_more : (moments : List ℕ) (asked moment : ℕ) → slice_get moments asked ≡ Some moment
    → take (asked + 1) moments ≡ take asked moments ++ moment ∷ []
one_more moments asked moment is =
    ap (λ n. take n moments) (add-one asked)
    ∙ take-suc moments asked moment (slice_get_within moments asked moment is)
    ∙ ap (λ m. take asked moments ++ m ∷ []) (get_or_from_slice_get moments asked moment moment is)

pub pulses_more : (moments : List ℕ) (asked moment : ℕ) → slice_get moments asked ≡ Some moment
    → pulses_of (take (asked + 1) moments) ≡ pulses_of (take asked moments) ++ pulse_of moment
pulses_more moments asked moment is =
    ap pulses_of (one_more moments asked moment is)
    ∙ flat_map-append pulse_of (take asked moments) (moment ∷ [])
    ∙ ap (λ rest. pulses_of (take asked moments) ++ rest) (append-nil (pulse_of moment))

pulse_in_range : (moment : ℕ) → is_refused moment ≡ false → pulse_of moment ≡ item.Pulse moment ∷ []
pulse_in_range moment in_range = ap (λ refused. if refused then [] else item.Pulse moment ∷ []) in_range

pulse_out_of_range : (moment : ℕ) → is_refused moment ≡ true → pulse_of moment ≡ []
pulse_out_of_range moment out = ap (λ refused. if refused then [] else item.Pulse moment ∷ []) out

-- what holds of the items queued after the result of a pulse, in both cases
pub queued_pulse : (has : List Item → Type 0) (items : List Item) (moment : ℕ) → is_refused moment ≡ false
    → has (items ++ item.Pulse moment ∷ []) → has (items ++ pulse_of moment)
queued_pulse has items moment in_range response =
    subst (λ last. has (items ++ last)) (sym (pulse_in_range moment in_range)) response

pub refused_pulse : (has : List Item → Type 0) (items : List Item) (moment : ℕ) → is_refused moment ≡ true → has items
    → has (items ++ pulse_of moment)
refused_pulse has items moment out response =
    subst (λ last. has (items ++ last)) (sym (pulse_out_of_range moment out)) (subst has (sym (append-nil items)) response)

-- ---- what a plan's driver has asked for

few_refused : (moments : List ℕ) (asked : ℕ) → refused_of (take asked moments) ≤ asked
few_refused moments asked =
    omega (arith, count_by-le-length is_refused (take asked moments), length-take asked moments)

module _ (first driver : PlanDriver) (moment : ℕ) (items : List Item) (asked : HasAskedOf first driver moment items) where
  abbrev moments : List ℕ
  moments = first.moments.items

  within : asked.0 < length moments
  within = slice_get_within moments asked.0 moment asked.3

  tested : (b : Bool) → is_refused moment ≡ b → is_refused (get_or moments asked.0 moment) ≡ b
  tested b is = ap is_refused (get_or_from_slice_get moments asked.0 moment moment asked.3) ∙ is

  pub queued_next : is_refused moment ≡ false → HasQueuedOf first driver (items ++ item.Pulse moment ∷ [])
  queued_next in_range = (
    asked.4.0,
    asked.4.1,
    rw (asked.1, pulses_more moments asked.0 moment asked.3, pulse_in_range moment in_range)
        (ap (λ all. all ++ item.Pulse moment ∷ []) asked.4.2),
    rw asked.1 (asked.4.3 ∙ sym (count_by_more_no is_refused moments asked.0 moment within (tested false in_range))),
  )

  pub refused_next : (refused : ℕ) → refused ≡ min (driver.refused + 1) 18446744073709551615 → is_refused moment ≡ true
      → HasQueuedOf first (record driver { refused = refused }) items
  refused_next refused counted out = (
    asked.4.0,
    asked.4.1,
    rw (asked.1, pulses_more moments asked.0 moment asked.3, pulse_out_of_range moment out, append-nil) asked.4.2,
    rw asked.1 (omega (
      arith,
      few_refused moments asked.0,
      count_by_more_yes is_refused moments asked.0 moment within (tested true out),
    )),
  )

-- all that was asked for is queued or counted, and nothing is left to ask for
pub all_queued : (first driver : PlanDriver) (items : List Item) {last : Item} → HasQueuedOf first driver items
    → length driver.moments.items ≤ driver.next → last_item driver.shuts ≡ last
    → HasEndedOf first driver (items ++ last ∷ [])
all_queued first driver items queued past last_is =
    let all : take driver.next first.moments.items ≡ first.moments.items =
    take_all driver.next first.moments.items (rw (← queued.0) past) in (
      rw (queued.2, all, ← last_is, queued.1) refl,
      queued.3 ∙ ap refused_of all,
    )

-- ---- what the control queues, one item after another

pub with_more : (before : SenderState) (items more : List Item)
    → with_items (with_items before items) more ≡ with_items before (items ++ more)
with_more before items more =
    ap (λ queued. record before { queued = queued }) (append_assoc before.queued items more)

pub nothing_queued : (control : SenderState) → control ≡ with_items control []
nothing_queued control = ap (λ queued. record control { queued = queued }) (sym (append-nil control.queued))

pub none_queued : (control now : SenderState) (moment : ℕ) → is_refused moment ≡ true → now ≡ control
    → now ≡ with_items control (pulse_of moment)
none_queued control now moment out same =
    same ∙ nothing_queued control ∙ ap (λ items. with_items control items) (sym (pulse_out_of_range moment out))

-- what was queued in two turns, if the second changes what is known
pub has_queued_more : {now next : SenderState} {had have : List Item → Type 0} (before : SenderState) (more : List Item)
    → HasQueued before now had → next ≡ with_items now more
    → ((items : List Item) → had items → have (items ++ more)) → HasQueued before next have
has_queued_more before more queued next_is step = (
  queued.0 ++ more,
  next_is ∙ ap (λ (sender : SenderState). with_items sender more) queued.1 ∙ with_more before queued.0 more,
  step queued.0 queued.2,
)
