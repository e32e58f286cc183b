use Rattle.std.proofs.Common.{◌≡◌, ◌∙◌, arith, refl, sym, List, [], ◌∷◌, ◌++◌, append-nil, false, Option, Some, None, option_to_list}
use Rattle.std.specs.Option.{is_some}
use Rattle.std.specs.List.{flat_map}
use Rattle.tb_core.specs.claim.Run.{replies_in}
use Rattle.tb_embed.specs.inside.Unread.{replies_of}
use Rattle.tb_embed.proofs.Words.{ReplyValue}
use Rattle.tb_embed.proofs.unread.Unread.push.Goals as goal

none_of : {X : Type 0} (found : Option X) → is_some found ≡ false → found ≡ None
none_of None is = refl
none_of (Some x) is = grind (arith, is)

parts_nil : (front back : List ReplyValue) → front ++ back ≡ [] → (front ≡ []) × (back ≡ [])
parts_nil [] back none = (refl, none)
parts_nil (reply ∷ front) back none = grind (arith, none)

-- nothing was unread, and these replies begin
begun : (cutter rest first next : List ReplyValue) {replies : List ReplyValue} → cutter ++ rest ≡ [] → replies ≡ first ++ next
    → first ++ (next ++ rest) ≡ replies
begun cutter rest first next none begins = rw ((parts_nil cutter rest none).1, append-nil next) (sym begins)

pub begin-next-requires : goal.begin-next-requires
begin-next-requires c = (parts_nil _ _ (c.self.invariant (none_of c.self.inside.next c.if-is_none.ensures))).0

pub invariant_of-self : goal.invariant_of-self
invariant_of-self c is =
    let rest : flat_map replies_in c.self.inside.outcomes.items ≡ [] =
    (parts_nil (replies_of c.self.inside.cutter) (flat_map replies_in c.self.inside.outcomes.items)
    (c.self.invariant (none_of c.self.inside.next c.if-is_none.ensures))).1 in
    let ended : replies_of c.begin-next.new.cutter ≡ [] = grind (arith, sym c.replace.ensures.after ∙ is, c.begin-next.ensures.none) in
    rw (ended, rest) refl

pub returns-then-is_none-clause-replies : goal.returns-then-is_none-clause-replies
returns-then-is_none-clause-replies c =
    let next = none_of c.self.inside.next c.if-is_none.ensures in
    let none = c.self.invariant next in
    rw (← c.self.view_is, next, none, c.replace.ensures.after) (begun (replies_of c.self.inside.cutter)
    (flat_map replies_in c.self.inside.outcomes.items) (option_to_list c.begin-next.result)
    (replies_of c.begin-next.new.cutter) none c.begin-next.ensures.replies)
