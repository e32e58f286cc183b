-- What a sender queues, one item after the other.
use Rattle.std.proofs.Common.{◌≡◌, ◌<◌, ℕ, ◌+◌, true, List, [], ◌∷◌, ◌++◌, length, refl, arith}
use Rattle.tb_submit.proofs.Words.{IsOk, AllByRecursion, admission_of, Numbered, is_end, IsUnended, IsSubmitted, AreNumbered, Item, Packet, Pulse, End, Close, IsWithin, ArePackets, ArePulses, IsCompleteQueue}

-- a complete queue's parts, of items with a last one and with packets numbered from a number on
abbrev AreComplete : ℕ → ℕ → ℕ → ℕ → List Item → Item → Type 0
AreComplete limit submitters sender number items last =
    IsUnended items × AllByRecursion (IsSubmitted submitters sender) (items ++ last ∷ [])
    × AllByRecursion (IsWithin limit) (items ++ last ∷ []) × AreNumbered sender number (items ++ last ∷ [])

filed : (limit submitters sender : ℕ) (items : List Item) (last : Item) → is_end last ≡ true
    → AreComplete limit submitters sender 0 items last → IsCompleteQueue limit submitters sender (items ++ last ∷ [])
filed limit submitters sender items last ends all = record {
  submitted = all.1;
  within = all.2;
  numbered = all.3;
  ended = record { body = items; last = last; parts = refl; unended = all.0; ends = ends };
}

-- ---- packets

module _ (limit sender : ℕ) where
  pub packets_more : (number : ℕ) (items : List Item) (job : Numbered) → ArePackets limit sender number items →
      job.submitter ≡ sender → job.number ≡ number + length items → IsOk (admission_of limit job.packet)
      → ArePackets limit sender number (items ++ Packet job ∷ [])
  packets_more number [] job all own is within = (own, omega (arith, is), within, tt)
  packets_more number (Packet first ∷ items) job all own is within =
      (all.0, all.1, all.2, packets_more (number + 1) items job all.3 own (omega (arith, is)) within)
  packets_more number (Pulse moment ∷ items) job all own is within = absurd all
  packets_more number (End ∷ items) job all own is within = absurd all
  packets_more number (Close ∷ items) job all own is within = absurd all

  packets_complete : (submitters number : ℕ) (items : List Item) → sender < submitters
      → ArePackets limit sender number items → AreComplete limit submitters sender number items End
  packets_complete submitters number [] among all = (refl, (tt, tt), (tt, tt), tt)
  packets_complete submitters number (Packet job ∷ items) among all =
      let rest = packets_complete submitters (number + 1) items among all.3 in
      (rest.0, ((all.0, among), rest.1), (all.2, rest.2), (all.0, all.1, rest.3))
  packets_complete submitters number (Pulse moment ∷ items) among all = absurd all
  packets_complete submitters number (End ∷ items) among all = absurd all
  packets_complete submitters number (Close ∷ items) among all = absurd all

  -- a submitter's packets with its End
  pub packets_filed : (submitters : ℕ) (items : List Item) → sender < submitters → ArePackets limit sender 0 items
      → IsCompleteQueue limit submitters sender (items ++ End ∷ [])
  packets_filed submitters items among all =
      filed limit submitters sender items End refl (packets_complete submitters 0 items among all)

-- ---- pulses

pub pulses_more : (items : List Item) (moment : ℕ) → ArePulses items → ArePulses (items ++ Pulse moment ∷ [])
pulses_more [] moment all = tt
pulses_more (Packet job ∷ items) moment all = absurd all
pulses_more (Pulse first ∷ items) moment all = pulses_more items moment all
pulses_more (End ∷ items) moment all = absurd all
pulses_more (Close ∷ items) moment all = absurd all

pub pulses_unended : (items : List Item) → ArePulses items → IsUnended items
pulses_unended [] all = refl
pulses_unended (Packet job ∷ items) all = absurd all
pulses_unended (Pulse moment ∷ items) all = pulses_unended items all
pulses_unended (End ∷ items) all = absurd all
pulses_unended (Close ∷ items) all = absurd all

-- the control's pulses with its last item
module _ (limit submitters sender : ℕ) (control : sender ≡ submitters) where
  pulses_complete : (items : List Item) (last : Item) → AreComplete limit submitters sender 0 [] last → ArePulses items
      → AreComplete limit submitters sender 0 items last
  pulses_complete [] last end all = end
  pulses_complete (Packet job ∷ items) last end all = absurd all
  pulses_complete (Pulse moment ∷ items) last end all =
      let rest = pulses_complete items last end all in (rest.0, (control, rest.1), (tt, rest.2), rest.3)
  pulses_complete (End ∷ items) last end all = absurd all
  pulses_complete (Close ∷ items) last end all = absurd all

  pub pulses_filed : (items : List Item) (last : Item) → is_end last ≡ true → ArePulses items
      → IsCompleteQueue limit submitters sender (items ++ last ∷ [])
  pulses_filed items (Packet job) ends all = cc
  pulses_filed items (Pulse moment) ends all = cc
  pulses_filed items End ends all =
      filed limit submitters sender items End ends (pulses_complete items End (refl, (tt, tt), (tt, tt), tt) all)
  pulses_filed items Close ends all =
      filed limit submitters sender items Close ends (pulses_complete items Close (refl, (control, tt), (tt, tt), tt) all)
