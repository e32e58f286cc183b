-- What replies tell, one after the other.
use Rattle.std.proofs.Common.{◌≡◌, List, [], ◌∷◌, ◌++◌, sym, refl, ap, ◌∙◌, Some, None, Option}
use Rattle.tb_submit.proofs.Words.{ReplyValue, Refusal, or_else, refusal_of, first_refusal_in}

none_else : (first : Option Refusal) → or_else first None ≡ first
none_else None = refl
none_else (Some refusal) = refl

else_else : (a b c : Option Refusal) → or_else (or_else a b) c ≡ or_else a (or_else b c)
else_else None b c = refl
else_else (Some refusal) b c = refl

pub first_refusal_more : (replies : List ReplyValue) (reply : ReplyValue)
    → first_refusal_in (replies ++ reply ∷ []) ≡ or_else (first_refusal_in replies) (refusal_of reply.outcome)
first_refusal_more [] reply = none_else (refusal_of reply.outcome)
first_refusal_more (first ∷ replies) reply =
    ap (or_else (refusal_of first.outcome)) (first_refusal_more replies reply)
    ∙ sym (else_else (refusal_of first.outcome) (first_refusal_in replies) (refusal_of reply.outcome))
