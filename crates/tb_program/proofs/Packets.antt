-- The lines of packets, submitter by submitter.
use Rattle.std.proofs.Common.{◌≡◌, ◌∙◌, ◌+◌, ℕ, zero, suc, List, ◌∷◌, ◌++◌, append_assoc, map, ap, sym, subst}
use Rattle.tb_program.proofs.Words.{EndedState, replies_of, AreAllDone, IsDone, results_of, lines_of_packets, ScriptDriver}
use Rattle.tb_program.specs.clauses.RunText.{packets_text}

pub first_done : (driver : ScriptDriver) (others : List ScriptDriver) → IsDone driver → AreAllDone others
    → AreAllDone (driver ∷ others)
first_done driver others done all zero d is = let same : driver ≡ d = cc in subst IsDone same done
first_done driver others done all (suc k) d is = all k d is

-- a text, the first submitter's lines, and those of the others
pub first_text : (before : List ℕ) {after : List ℕ} (submitter : ℕ) {driver : ScriptDriver}
    {others all : List ScriptDriver} {ended : EndedState} {rest ends : List EndedState}
    → all ≡ driver ∷ others → ends ≡ ended ∷ rest
    → after ≡ before ++ lines_of_packets submitter (results_of driver) (ended.read ++ ended.lying)
    → after ++ packets_text (submitter + 1) (map results_of others) (replies_of rest)
    ≡ before ++ packets_text submitter (map results_of all) (replies_of ends)
unfolding packets_text
first_text before submitter {others = others} {rest = rest} all_is ends_is text =
    ap (λ t. t ++ packets_text (submitter + 1) (map results_of others) (replies_of rest)) text ∙ append_assoc before _ _
    ∙ (λ i. before ++ packets_text submitter (map results_of (sym all_is i)) (replies_of (sym ends_is i)))
