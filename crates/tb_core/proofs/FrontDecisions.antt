-- What a front made of a queue, and of one item more.
use Rattle.std.proofs.Common.{refl, sym, ap, subst, ◌∙◌, arith, ◌≡◌, ◌<◌, ◌≤◌, ℕ, zero, suc, ◌+◌, Bool, true, false, List, [], ◌∷◌, ◌++◌, length, Option, Some, None, append_assoc, append-nil}
use Rattle.tb_core.proofs.Words.{is_some, IfSome, slice_get, le-leb, lt-leb, Input, Numbered, input_of, ahead, Item, Decision, Admitted, Pulsed, Returned, decisions_of_item, is_behind, place_after, decisions_at, decisions_from, decisions_of, IsPacket, AreDecisions, Place, Ahead, Behind, next_place}
use Rattle.tb_layout.specs.claim.Events as input
use Rattle.tb_work.specs.declared.item.Item.TheVariants as item
use Rattle.tb_core.specs.declared.parcel.Cause.TheVariants.{Shutdown}

-- ---- one item more, at the place after the others

decisions_from-push : (stop : Option ℕ) (place : Place) (items : List Item) (x : Item)
    → decisions_from stop place (items ++ x ∷ []) ≡ decisions_from stop place items
    ++ decisions_at stop (place_after place items) x
decisions_from-push stop place [] x = append-nil (decisions_at stop place x)
decisions_from-push stop place (first ∷ items) x =
    rw (decisions_from-push stop (next_place place first) items x)
    (sym (append_assoc (decisions_at stop place first) _ _))

place_after-push : (place : Place) (items : List Item) (x : Item)
    → place_after place (items ++ x ∷ []) ≡ next_place (place_after place items) x
place_after-push place [] x = refl
place_after-push place (first ∷ items) x = place_after-push (next_place place first) items x

-- whether a Close was taken, after an item
abbrev pub closed_after : Bool → Item → Bool
closed_after closed item.Close = true
closed_after closed x = closed

is_behind-next : (place : Place) (x : Item) → is_behind (next_place place x) ≡ closed_after (is_behind place) x
is_behind-next (Ahead k) item.Close = refl
is_behind-next (Ahead k) x = refl
is_behind-next Behind item.Close = refl
is_behind-next Behind x = refl

stays_behind : (items : List Item) → place_after Behind items ≡ Behind
stays_behind [] = refl
stays_behind (first ∷ items) = stays_behind items

-- ---- ahead of the Close

-- a place that isn't behind the Close has as many in front of it as are ahead, and an item that comes there is ahead
abbrev IsOpen : ℕ → List Item → Item → Type 0
IsOpen k items x =
    (place_after (Ahead k) items ≡ Ahead (k + length (ahead items)))
    × (ahead (items ++ x ∷ []) ≡ ahead items ++ ahead (x ∷ []))

open_at : (k : ℕ) (items : List Item) (x : Item) → is_behind (place_after (Ahead k) items) ≡ false → IsOpen k items x
open_at k [] x h = (ap Ahead (omega arith), refl)
open_at k (item.Packet job ∷ items) x h = let more =
    open_at (k + 1) items x h in (more.0 ∙ ap Ahead (omega arith), ap (λ ws. input_of job ∷ ws) more.1)
open_at k (item.Pulse moment ∷ items) x h = let more =
    open_at (k + 1) items x h in (more.0 ∙ ap Ahead (omega arith), ap (λ ws. input.Pulse moment ∷ ws) more.1)
open_at k (item.End ∷ items) x h = open_at k items x h
open_at k (item.Close ∷ items) x h = let e = sym (ap is_behind (stays_behind items)) ∙ h in cc

packet_within : (inputs : List Input) (k : ℕ) → IsPacket (slice_get inputs k) → k < length inputs
packet_within [] k h = absurd h
packet_within (first ∷ inputs) zero h = omega arith
packet_within (first ∷ inputs) (suc k) h = omega (arith, packet_within inputs k h)

-- what is ahead stays so, whatever comes after it
pub ahead-first : (items others : List Item) → (rest : List Input) × (ahead items ++ rest ≡ ahead (items ++ others))
ahead-first [] others = (ahead others, refl)
ahead-first (item.Packet job ∷ items) others = let more =
    ahead-first items others in (more.0, ap (λ ws. input_of job ∷ ws) more.1)
ahead-first (item.Pulse moment ∷ items) others = let more =
    ahead-first items others in (more.0, ap (λ ws. input.Pulse moment ∷ ws) more.1)
ahead-first (item.End ∷ items) others = ahead-first items others
ahead-first (item.Close ∷ items) others = ([], refl)

packet_stays : (inputs others : List Input) (k : ℕ) → IsPacket (slice_get inputs k)
    → IsPacket (slice_get (inputs ++ others) k)
packet_stays [] others k h = absurd h
packet_stays (first ∷ inputs) others zero h = h
packet_stays (first ∷ inputs) others (suc k) h = packet_stays inputs others k h

-- one that comes now is the last
packet_last : (inputs : List Input) (job : Numbered) → IsPacket (slice_get (inputs ++ input_of job ∷ []) (length inputs))
packet_last [] job = tt
packet_last (first ∷ inputs) job = packet_last inputs job

-- ---- a stop after all items doesn't show

decisions_from-after_close : (stop other : Option ℕ) (items : List Item)
    → decisions_from stop Behind items ≡ decisions_from other Behind items
decisions_from-after_close stop other [] = refl
decisions_from-after_close stop other (item.Packet job ∷ items) =
    ap (λ decisions. Returned job Shutdown ∷ decisions) (decisions_from-after_close stop other items)
decisions_from-after_close stop other (x ∷ items) = decisions_from-after_close stop other items

pub never_stops : (k through : ℕ) (items : List Item) → k + length (ahead items) ≤ through
    → decisions_from None (Ahead k) items ≡ decisions_from (Some through) (Ahead k) items
never_stops k through [] h = refl
never_stops k through (item.Packet job ∷ items) h =
    rw (lt-leb through k (omega (arith, h))) (ap (λ decisions. Admitted job ∷ decisions)
    (never_stops (k + 1) through items (omega (arith, h))))
never_stops k through (item.Pulse moment ∷ items) h =
    rw (lt-leb through k (omega (arith, h))) (ap (λ decisions. Pulsed moment ∷ decisions)
    (never_stops (k + 1) through items (omega (arith, h))))
never_stops k through (item.End ∷ items) h = never_stops k through items h
never_stops k through (item.Close ∷ items) h = decisions_from-after_close None (Some through) items

-- ---- one item more

-- whether it stopped, after an item: as before, or it stops now, at a packet ahead of the Close whose allocation fails
pub data Goes (refused closed stopped : Bool) (x : Item) (next : Bool) : Type 0 where
  Stays : next ≡ stopped → Goes refused closed stopped x next
  Stops : refused ≡ true → closed ≡ false → stopped ≡ false → next ≡ true → (job : Numbered) → x ≡ item.Packet job
      → Goes refused closed stopped x next

module _ (refused : Bool) (items : List Item) (closed stopped : Bool) (decisions : List Decision)
    (passes : AreDecisions items closed stopped decisions) (x : Item) (shut next : Bool) (now : List Decision)
    (shut_is : shut ≡ closed_after closed x)
    (now_is : now ≡ decisions ++ decisions_of_item closed next x) where
  abbrev place : Place
  place = place_after (Ahead 0) items

  -- with the decision on the item at its place
  passed : (stop : Option ℕ) → decisions ≡ decisions_of stop items
      → decisions_of_item closed next x ≡ decisions_at stop place x → next ≡ is_some stop
      → IfSome stop (λ k. IsPacket (slice_get (ahead (items ++ x ∷ [])) k)) → AreDecisions (items ++ x ∷ []) shut next now
  passed stop all here stops at_packet = record {
    stop = stop;
    all = now_is ∙ ap (λ ps. ps ++ decisions_of_item closed next x) all
        ∙ ap (λ ps. decisions_of stop items ++ ps) here ∙ sym (decisions_from-push stop (Ahead 0) items x);
    shut = shut_is ∙ ap (λ b. closed_after b x) passes.shut ∙ sym (is_behind-next place x)
        ∙ ap is_behind (sym (place_after-push (Ahead 0) items x));
    stops = stops;
    at_packet = at_packet;
  }

  shown : (stop : Option ℕ) (at : Place) → at ≡ place → IfSome stop (λ k. IsPacket (slice_get (ahead items) k))
      → decisions_of_item (is_behind at) (is_some stop) x ≡ decisions_at stop at x
  shown stop Behind is at_packet = refl
  shown None (Ahead k) is at_packet = refl
  shown (Some through) (Ahead k) is at_packet =
      let spot : place ≡ Ahead (0 + length (ahead items)) = (open_at 0 items x (ap is_behind (sym is))).0 in
      let here : k ≡ 0 + length (ahead items) = cc in
      ap (λ b. decisions_of_item false b x) (sym (le-leb through k
      (omega (arith, here, packet_within (ahead items) through at_packet))))

  pub passes_more : Goes refused closed stopped x next → AreDecisions (items ++ x ∷ []) shut next now
  passes_more (Stays same) =
      passed passes.stop passes.all (ap (λ b. decisions_of_item b next x) passes.shut
      ∙ ap (λ b. decisions_of_item (is_behind place) b x) (same ∙ passes.stops)
      ∙ shown passes.stop place refl passes.at_packet) (same ∙ passes.stops)
      (more passes.stop passes.at_packet)
    where
      more : (stop : Option ℕ) → IfSome stop (λ k. IsPacket (slice_get (ahead items) k))
          → IfSome stop (λ k. IsPacket (slice_get (ahead (items ++ x ∷ [])) k))
      more None h = tt
      more (Some k) h = let first =
          ahead-first items (x ∷ []) in subst (λ ws. IsPacket (slice_get ws k)) first.1
          (packet_stays (ahead items) first.0 k h)
  passes_more (Stops is ahead_is going stops job packet) = by passes.stop passes.all (sym going ∙ passes.stops)
    where
      k : ℕ
      k = length (ahead items)

      spot : IsOpen 0 items x
      spot = open_at 0 items x (sym passes.shut ∙ ahead_is)

      by : (stop : Option ℕ) → decisions ≡ decisions_of stop items → false ≡ is_some stop
          → AreDecisions (items ++ x ∷ []) shut next now
      by None all is =
          passed (Some k) (all ∙ never_stops 0 k items (omega arith))
          (ap (λ b. decisions_of_item b next x) ahead_is
          ∙ ap (λ b. decisions_of_item false b x) (stops ∙ sym (le-leb k (0 + k) (omega arith)))
          ∙ ap (λ at. decisions_at (Some k) at x) (sym spot.0)) stops
          (subst (λ ws. IsPacket (slice_get ws k)) (sym (spot.1 ∙ ap (λ y. ahead items ++ ahead (y ∷ [])) packet))
          (packet_last (ahead items) job))
      by (Some through) all is = cc
