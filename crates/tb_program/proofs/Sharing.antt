-- Items of a script dealt out, one at a time.
use Rattle.std.proofs.Common.{◌≡◌, ◌∙◌, ◌+◌, ◌<◌, ◌≤◌, ℕ, zero, suc, List, [], ◌∷◌, ◌++◌, Vec, length, get_or, set, refl, ap, sym, arith}
use Rattle.tb_program.proofs.Words.{Global, flat_map-append, append-nil, lists_of, AreDealt, packet_by, packets_by, shares_of}
use Rattle.std.proofs.lemmas.Bool.{eq-eqb, ne_eqb}
use Rattle.tb_work.specs.declared.packet.Packet as packets
use Rattle.tb_program_text.specs.declared.item.ScriptItem.{ScriptItem}
use Rattle.tb_program_text.specs.declared.item.ScriptItem.TheVariants.{Packet}

one_more : (submitter : ℕ) (items : List ScriptItem) (item : ScriptItem)
    → packets_by submitter (items ++ item ∷ []) ≡ packets_by submitter items ++ packet_by submitter item
one_more submitter items item =
    flat_map-append (packet_by submitter) items (item ∷ [])
    ∙ ap (λ last. packets_by submitter items ++ last) (append-nil (packet_by submitter item))

pub not_its : (submitter owner : ℕ) (packet : packets.Packet) → (owner ≡ submitter → ⊥)
    → packet_by submitter (Packet owner packet) ≡ []
not_its submitter owner packet other = rw (ne_eqb owner submitter other) refl

-- an item that is no packet of these submitters changes nothing
pub dealt_past : (submitter : ℕ) (shares : List (Vec packets.Packet Global)) (items : List ScriptItem) (item : ScriptItem)
    → ((other : ℕ) → submitter ≤ other → other < submitter + length shares → packet_by other item ≡ [])
    → AreDealt submitter shares items → AreDealt submitter shares (items ++ item ∷ [])
dealt_past submitter [] items item none dealt = dealt
dealt_past submitter (own ∷ shares) items item none dealt = (
  dealt.0 ∙ sym (one_more submitter items item ∙ ap (λ last. packets_by submitter items ++ last)
      (none submitter (omega arith) (omega arith)) ∙ append-nil (packets_by submitter items)),
  dealt_past (suc submitter) shares items item (λ other least most.
      none other (omega (arith, least)) (omega (arith, most))) dealt.1,
)

-- a packet goes to its submitter
module _ (items : List ScriptItem) (owner : ℕ) (packet : packets.Packet) (share : Vec packets.Packet Global) where
  pub dealt_to : (submitter k : ℕ) (shares : List (Vec packets.Packet Global)) → owner ≡ submitter + k → k < length shares
      → share.items ≡ (get_or shares k share).items ++ packet ∷ [] → AreDealt submitter shares items
      → AreDealt submitter (set shares k share) (items ++ Packet owner packet ∷ [])
  dealt_to submitter k [] its within is dealt = absurd (omega (arith, within))
  dealt_to submitter zero (own ∷ shares) its within is dealt =
      let same : owner ≡ submitter = omega (arith, its) in
      let last : packet_by submitter (Packet owner packet) ≡ packet ∷ [] = rw (eq-eqb owner submitter same) refl in (
        is ∙ ap (λ before. before ++ packet ∷ []) dealt.0
            ∙ sym (one_more submitter items (Packet owner packet) ∙ ap (λ end. packets_by submitter items ++ end) last),
        dealt_past (suc submitter) shares items (Packet owner packet)
            (λ other least most. not_its other owner packet (λ e. omega (arith, e, same, least))) dealt.1,
      )
  dealt_to submitter (suc k) (own ∷ shares) its within is dealt = (
    dealt.0 ∙ sym (one_more submitter items (Packet owner packet)
        ∙ ap (λ last. packets_by submitter items ++ last) (not_its submitter owner packet (λ e. omega (arith, e, its)))
        ∙ append-nil (packets_by submitter items)),
    dealt_to (suc submitter) k shares (omega (arith, its)) (omega (arith, within)) is dealt.1,
  )

-- what is dealt are the submitters' shares
pub dealt_lists : (submitter : ℕ) (shares : List (Vec packets.Packet Global)) (items : List ScriptItem)
    → AreDealt submitter shares items → lists_of shares ≡ shares_of submitter (length shares) items
dealt_lists submitter [] items dealt = refl
dealt_lists submitter (own ∷ shares) items dealt =
    ap (λ first. first ∷ lists_of shares) dealt.0
    ∙ ap (λ others. packets_by submitter items ∷ others) (dealt_lists (suc submitter) shares items dealt.1)

-- one submitter more, for whom there is nothing yet
pub one_more_submitter : (submitter : ℕ) (shares : List (Vec packets.Packet Global))
    (share : Vec packets.Packet Global) → share.items ≡ [] → AreDealt submitter shares []
    → AreDealt submitter (shares ++ share ∷ []) []
one_more_submitter submitter [] share none dealt = (none, dealt)
one_more_submitter submitter (own ∷ shares) share none dealt =
    (dealt.0, one_more_submitter (suc submitter) shares share none dealt.1)
